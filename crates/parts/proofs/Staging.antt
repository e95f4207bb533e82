-- The courses of moves: their outputs, and where the stage stays. Assumes nothing.
use Rattle.std.proofs.Common.{◌≡◌, ℕ, false, List, [], ◌∷◌, ◌++◌, Ok, Err, sym, refl, ap, ◌∙◌}
use Rattle.parts.specs.declared.fault.Fault.{Fault}
use Rattle.parts.specs.Courses.{Answer, Course, behind, Lawful, Unread, run_on, run_of}
use Rattle.parts.specs.Operators.{Move, fired}
use Rattle.parts.specs.Trees.{outputs}
use Rattle.parts.specs.Plans.{told_stage, stage_after}
use Rattle.parts.specs.Stages.{outputs_of, Stays}

-- ---- outputs
outputs_err : (a : Answer Move) (f : Fault) → outputs a ≡ Err f → a ≡ Err f
outputs_err (Ok m) f e = cc
outputs_err (Err g) f e = cc

pub outputs_lawful : (c : Course Move) → Lawful c → Lawful (outputs_of c)
outputs_lawful c l xs x f e ys y = ap outputs (l xs x f (outputs_err (c xs x) f e) ys y)

pub outputs_unread : (r : ℕ) (c : Course Move) → Unread r c → Unread r (outputs_of c)
outputs_unread r c u xs ys x y h e = ap outputs (u xs ys x y h e)

-- ---- the stage told behind an input
stage_behind : (c : Course Move) (y : ℕ) (before xs : List ℕ) (k : ℕ) → stage_after c (y ∷ before) xs k ≡ stage_after (behind c y) before xs k
stage_behind c y before [] k = refl
stage_behind c y before (x ∷ xs) k = stage_behind c y (before ++ x ∷ []) xs (told_stage (c (y ∷ before) x) k)

-- Of anything with a state that has a stage, while something holds of it: an accepted move tells the stage it leads to, and where no written rule fires that is the one it was in.
module _ {S : Type 0} (move : S → ℕ → Answer Move) (went : S → ℕ → S) (stage : S → ℕ) (Holds : S → Type 0) (kept : (s : S) → Holds s → (x : ℕ) (m : Move) → move s x ≡ Ok m → Holds (went s x)) (leads : (s : S) → Holds s → (x : ℕ) (m : Move) → move s x ≡ Ok m → stage (went s x) ≡ m.1) (rests : (s : S) → Holds s → (x : ℕ) (m : Move) → move s x ≡ Ok m → fired m ≡ false → m.1 ≡ stage s) where
  holds_on : (s : S) → Holds s → (y : ℕ) (a : Answer Move) → move s y ≡ a → Holds (run_on move went a s y)
  holds_on s h y (Ok m) e = kept s h y m e
  holds_on s h y (Err f) e = h

  stage_on : (s : S) → Holds s → (y : ℕ) (a : Answer Move) → move s y ≡ a → stage (run_on move went a s y) ≡ told_stage a (stage s)
  stage_on s h y (Ok m) e = leads s h y m e
  stage_on s h y (Err f) e = refl

  pub run_stays : (s : S) → Holds s → Stays (stage s) (run_of move went s)
  run_stays s h [] x m e f = rests s h x m e f
  run_stays s h (y ∷ ys) x m e f =
      let t = run_on move went (move s y) s y in
      run_stays t (holds_on s h y (move s y) refl) ys x m e f
      ∙ ap (stage_after (run_of move went t) [] ys) (stage_on s h y (move s y) refl)
      ∙ sym (stage_behind (run_of move went s) y [] ys (told_stage (move s y) (stage s)))

-- behind an accepted move it stays as well
pub stays_behind : (k : ℕ) (c : Course Move) (x : ℕ) (v : Move) → c [] x ≡ Ok v → Stays k c → Stays v.1 (behind c x)
stays_behind k c x v e s ys y m h f =
    s (x ∷ ys) y m h f
    ∙ stage_behind c x [] ys (told_stage (c [] x) k)
    ∙ ap (λ a. stage_after (behind c x) [] ys (told_stage a k)) e
