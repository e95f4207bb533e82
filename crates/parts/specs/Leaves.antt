-- Parts that are no composition: their plan is their fresh course. Assumes nothing.
use Rattle.std.specs.Prelude.{◌≡◌, ℕ, List, [], ◌∷◌, ◌++◌, Ok, Err, refl}
use Rattle.std.proofs.Common.{sym, ap, ◌∙◌, append_assoc, append-nil}
use Rattle.parts.specs.Courses.{Answer, Course, Lawful, run_on, run_of}
use Rattle.parts.specs.Trees.{part, staged, answer_of, move_of, next_of, went_of}
use Rattle.parts.specs.Operators.{Move}
use Rattle.parts.specs.Plans.{worked, plan_course, plan_moves}
use Rattle.parts.specs.Calls.{Reached}
use Rattle.parts.specs.Calling.{reached_fresh}

-- What answers as a lawful course does behind the inputs that it took, and takes the accepted ones, has that course.
module _ {A S : Type 0} (c : Course A) (lawful : Lawful c) (answer : S → ℕ → Answer A) (next : S → ℕ → S) (at : List ℕ → S) (answers : (l : List ℕ) (x : ℕ) → answer (at l) x ≡ c l x) (takes : (l : List ℕ) (x : ℕ) → next (at l) x ≡ at (l ++ x ∷ [])) where
  taken_step : (before : List ℕ) (y : ℕ) (ys : List ℕ) (x : ℕ) (a : Answer A) → c before y ≡ a → run_of answer next (at (before ++ y ∷ [])) ys x ≡ c ((before ++ y ∷ []) ++ ys) x → run_of answer next (at before) ys x ≡ c (before ++ ys) x → run_of answer next (run_on answer next a (at before) y) ys x ≡ c (before ++ y ∷ ys) x
  taken_step before y ys x (Ok o) e taken left = ap (λ s. run_of answer next s ys x) (takes before y) ∙ taken ∙ ap (λ l. c l x) (append_assoc before (y ∷ []) ys)
  taken_step before y ys x (Err f) e taken left = left ∙ sym (lawful before y f e ys x)

  taken_course : (before xs : List ℕ) (x : ℕ) → run_of answer next (at before) xs x ≡ c (before ++ xs) x
  taken_course before [] x = answers before x ∙ ap (λ l. c l x) (sym (append-nil before))
  taken_course before (y ∷ ys) x =
      ap (λ a. run_of answer next (run_on answer next a (at before) y) ys x) (answers before y)
      ∙ taken_step before y ys x (c before y) refl (taken_course (before ++ y ∷ []) ys x) (taken_course before ys x)

-- a plan of one part works out to its course, and one of a staged part to its moves
pub part_planned : (c : Course ℕ) → Lawful c → plan_course (part c) ≡ c
part_planned c lawful = λ i xs x. taken_course c lawful (answer_of worked) (next_of worked) (λ l. part (c, l)) (λ _ _. refl) (λ _ _. refl) [] xs x i

pub staged_planned : (c : Course Move) → Lawful c → plan_moves (staged c) ≡ c
staged_planned c lawful = λ i xs x. taken_course c lawful (move_of worked) (went_of worked) (λ l. staged (c, l)) (λ _ _. refl) (λ _ _. refl) [] xs x i

-- a part that is no composition, with its fresh course, is where no calls lead
pub part_begins : (c : Course ℕ) → Lawful c → Reached (part c) c []
part_begins c lawful = reached_fresh (part c) c (sym (part_planned c lawful))
