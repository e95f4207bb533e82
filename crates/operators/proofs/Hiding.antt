-- Encapsulations, call by call. Assumes nothing.
use Rattle.std.proofs.Common.{◌≡◌, ℕ, [], Ok, sym, ap, ◌∙◌}
use Rattle.parts.specs.Courses.{Course, behind, after, after_answer, run_on}
use Rattle.parts.specs.Operators.{under}
use Rattle.parts.specs.Trees.{encapsulation, part, answer_of, next_of, course_of, chosen, chosen_of}
use Rattle.parts.specs.Searching.{opened}
use Rattle.parts.specs.Running.{run_after}
use Rattle.operators.specs.Joined.{held, encapsulation_course}

-- an accepted input leads the inside on under the only consistent setting
pub encapsulation_step : (g place : ℕ) (c f d h : Course ℕ) (x o u : ℕ) → Ok o ≡ encapsulation_course g place (c, f) [] x → u ≡ under g x (chosen g (λ s. c [] (under g x s))) → d ≡ after c u → h ≡ f → encapsulation_course g place (d, h) ≡ after (encapsulation_course g place (c, f)) x
encapsulation_step g place c f d h x o u a e l k =
    let op = opened g (λ s. c [] (under g x s)) place o (sym a) in
    let chose : chosen g (λ s. c [] (under g x s)) ≡ op.setting = ap chosen_of op.found in
    let gives : c [] u ≡ Ok op.inner = ap (c []) (e ∙ ap (under g x) chose) ∙ op.gives in
    let goes : after c u ≡ behind c u = ap (λ r. after_answer r c u) gives in
    (λ i. encapsulation_course g place ((l ∙ goes ∙ ap (behind c) e) i, k i))
    ∙ ap (λ r. course_of held (run_on (answer_of held) (next_of held) r (encapsulation g place (part (c, f))) x)) a
    ∙ sym (run_after (answer_of held) (next_of held) (encapsulation g place (part (c, f))) x)
