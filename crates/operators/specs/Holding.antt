-- What operators hold: its courses, and that the operators keep the laws of parts. Assumes nothing.
use Rattle.std.specs.Prelude.{◌≡◌, ℕ, List, [], ◌∷◌, Ok, Err, refl}
use Rattle.std.proofs.Common.{sym, ap, subst, ◌∙◌}
use Rattle.signals.specs.Sets.{has}
use Rattle.parts.specs.Lists.{Each}
use Rattle.parts.specs.Courses.{Answer, Course, behind, Lawful, run_on, run_of}
use Rattle.parts.specs.Operators.{Move, under}
use Rattle.parts.specs.Plans.{Plan, StagedPlan, told_stage, worked, begin, begin_staged, plan_course, plan_moves}
use Rattle.parts.specs.Trees.{Composition, StagedComposition, Reacting, parallel, encapsulation, inhibition, refinement, moved, part, staged, outputs, answer_of, move_of, next_of, went_of, course_of, moves_of}
use Rattle.parts.specs.Stages.{outputs_of}
use Rattle.parts.specs.Running.{run_lawful}
use Rattle.parts.proofs.Staging.{outputs_lawful}
use Rattle.parts.specs.Agreement.{Agree, Steady, parallel_agree, inhibition_agree, encapsulation_agree, refinement_agree}
use Rattle.parts.specs.Working.{worked_steady, restart_begin, stage_begin}
use Rattle.operators.specs.Joined.{Held, HeldStaged, held, parallel_course, encapsulation_course, inhibition_course, refinement_moves, refinement_course}

pub held_steady : Steady held
held_steady = record {
  over_twice = λ p. refl;
  over_next = λ p x. refl;
  back_twice = λ p. refl;
  back_went = λ p x. refl;
  leads = λ p x v e. ap (λ a. told_stage a p.2) e;
}

-- ---- a course over what is held is lawful, whatever that is
pub both_lawful : (t u : Composition Held HeldStaged) → Lawful (course_of held t) × Lawful (course_of held u)
both_lawful t u = (run_lawful (answer_of held) (next_of held) t, run_lawful (answer_of held) (next_of held) u)

pub both_orderly : (t u : StagedComposition Held HeldStaged) → Lawful (moves_of held t) × Lawful (moves_of held u)
both_orderly t u = (run_lawful (move_of held) (went_of held) t, run_lawful (move_of held) (went_of held) u)

pub both_outputs_lawful : (t u : StagedComposition Held HeldStaged) → Lawful (outputs_of (moves_of held t)) × Lawful (outputs_of (moves_of held u))
both_outputs_lawful t u = (outputs_lawful (moves_of held t) (both_orderly t u).0, outputs_lawful (moves_of held u) (both_orderly t u).1)

-- ---- a part that is held has its own course
lawful_behind : {A : Type 0} (c : Course A) (y : ℕ) → Lawful c → Lawful (behind c y)
lawful_behind c y l xs x f e ys z = l (y ∷ xs) x f e ys z

held_step : {S A : Type 0} (c : Course A) (answer : S → ℕ → Answer A) (next : S → ℕ → S) (s : S) (y : ℕ) (ys : List ℕ) (x : ℕ) (a : Answer A) → Lawful c → c [] y ≡ a → run_of answer next (next s y) ys x ≡ c (y ∷ ys) x → run_of answer next s ys x ≡ c ys x → run_of answer next (run_on answer next a s y) ys x ≡ c (y ∷ ys) x
held_step c answer next s y ys x (Ok o) l e taken left = taken
held_step c answer next s y ys x (Err f) l e taken left = left ∙ sym (l [] y f e ys x)

pub held_part : (c f : Course ℕ) → Lawful c → (xs : List ℕ) (x : ℕ) → course_of held (part (c, f)) xs x ≡ c xs x
held_part c f l [] x = refl
held_part c f l (y ∷ ys) x = held_step c (answer_of held) (next_of held) (part (c, f)) y ys x (c [] y) l refl (held_part (behind c y) f (lawful_behind c y l) ys x) (held_part c f l ys x)

pub held_staged : (c f : Course Move) (k : ℕ) → Lawful c → (xs : List ℕ) (x : ℕ) → moves_of held (staged (c, f, k)) xs x ≡ c xs x
held_staged c f k l [] x = refl
held_staged c f k l (y ∷ ys) x = held_step c (move_of held) (went_of held) (staged (c, f, k)) y ys x (c [] y) l refl (held_staged (behind c y) f (told_stage (c [] y) k) (lawful_behind c y l) ys x) (held_staged c f k l ys x)

-- ---- the same inputs on both sides: equal courses
each_itself : (xs : List ℕ) → Each ◌≡◌ xs xs
each_itself [] = tt
each_itself (x ∷ xs) = (refl, each_itself xs)

same_lists : (xs ys : List ℕ) → Each ◌≡◌ xs ys → xs ≡ ys
same_lists [] [] h = refl
same_lists [] (y ∷ ys) h = absurd h
same_lists (x ∷ xs) [] h = absurd h
same_lists (x ∷ xs) (y ∷ ys) h = λ i. h.0 i ∷ same_lists xs ys h.1 i

equal_from : {A : Type 0} (c d : Course A) → Agree ◌≡◌ c d → c ≡ d
equal_from c d a = λ i xs x. a xs xs x x (each_itself xs) refl i

-- what is held has the course that its plan works out to
part_works : (c f : Course ℕ) (p : Plan) → Lawful c → c ≡ plan_course p → Agree ◌≡◌ (course_of held (part (c, f))) (course_of worked (begin p))
part_works c f p l e xs ys x y h q = held_part c f l xs x ∙ (λ i. e i (same_lists xs ys h i) (q i))

staged_works : (m f : Course Move) (p : StagedPlan) → Lawful m → m ≡ plan_moves p → Agree ◌≡◌ (moves_of held (staged (m, f, 0))) (moves_of worked (begin_staged p))
staged_works m f p l e xs ys x y h q = held_staged m f 0 l xs x ∙ (λ i. e i (same_lists xs ys h i) (q i))

-- ---- the plan of each operator
pub parallel_planned : (c d : Course ℕ) (p q : Plan) → Lawful c → Lawful d → c ≡ plan_course p → d ≡ plan_course q → parallel_course (c, c) (d, d) ≡ plan_course (parallel p q)
parallel_planned c d p q l k e f = equal_from _ _ (parallel_agree held held_steady worked worked_steady ◌≡◌ ◌≡◌ ◌≡◌ (λ x y h. h) (λ x y h. h) (part (c, c)) (part (d, d)) (begin p) (begin q) (part_works c c p l e) (part_works d d q k f))

pub encapsulation_planned : (g place : ℕ) (c : Course ℕ) (p : Plan) → Lawful c → c ≡ plan_course p → encapsulation_course g place (c, c) ≡ plan_course (encapsulation g place p)
encapsulation_planned g place c p l e = equal_from _ _ (encapsulation_agree held held_steady worked worked_steady ◌≡◌ ◌≡◌ g place (λ x y s h q. ap (λ n. under g n s) q) (part (c, c)) (begin p) (part_works c c p l e))

pub inhibition_planned : (w : ℕ) (c : Course ℕ) (p : Plan) → Lawful c → c ≡ plan_course p → inhibition_course w (c, c) ≡ plan_course (inhibition w p)
inhibition_planned w c p l e = equal_from _ _ (inhibition_agree held held_steady worked worked_steady ◌≡◌ ◌≡◌ w (λ x y h. h) (λ x y h. ap (λ n. has n w) h) (part (c, c)) (begin p) (part_works c c p l e))

pub refinement_planned : (k : ℕ) (m : Course Move) (c : Course ℕ) (n : StagedPlan) (p : Plan) → Lawful m → Lawful c → m ≡ plan_moves n → c ≡ plan_course p → refinement_moves k (m, m, 0) (c, c) ≡ plan_moves (refinement k n p)
refinement_planned k m c n p l h e f =
    let inner = part_works c c p h f in
    equal_from _ _ (refinement_agree held held_steady worked worked_steady ◌≡◌ ◌≡◌ ◌≡◌ k (λ x y q. q) (λ x y q. q) (staged (m, m, 0)) (begin_staged n) (part (c, c)) (begin p) (staged_works m m n l e) (sym (stage_begin n)) inner (subst (λ t. Agree ◌≡◌ (course_of held (part (c, c))) (course_of worked t)) (sym (restart_begin p)) inner))

-- the course of a refinement is the outputs of its moves
outputs_step : {L M : Type 0} (R : Reacting L M) (m : StagedComposition L M) (y : ℕ) (a : Answer Move) → move_of R m y ≡ a → run_on (answer_of R) (next_of R) (outputs a) (moved m) y ≡ moved (run_on (move_of R) (went_of R) a m y)
outputs_step R m y (Ok v) e = refl
outputs_step R m y (Err f) e = refl

moved_outputs : {L M : Type 0} (R : Reacting L M) (m : StagedComposition L M) (xs : List ℕ) (x : ℕ) → course_of R (moved m) xs x ≡ outputs_of (moves_of R m) xs x
moved_outputs R m [] x = refl
moved_outputs R m (y ∷ ys) x = ap (λ t. course_of R t ys x) (outputs_step R m y (move_of R m y) refl) ∙ moved_outputs R (run_on (move_of R) (went_of R) (move_of R m y) m y) ys x

pub refinement_course_planned : (k : ℕ) (m : Course Move) (c : Course ℕ) (n : StagedPlan) (p : Plan) → Lawful m → Lawful c → m ≡ plan_moves n → c ≡ plan_course p → refinement_course k (m, m, 0) (c, c) ≡ plan_course (moved (refinement k n p))
refinement_course_planned k m c n p l h e f = ap outputs_of (refinement_planned k m c n p l h e f) ∙ (λ i xs x. sym (moved_outputs worked (begin_staged (refinement k n p)) xs x) i)
