-- The courses of things with a state. Assumes nothing.
use Rattle.std.specs.Prelude.{◌≡◌, ℕ, List, [], ◌∷◌, Ok, Err, refl}
use Rattle.std.proofs.Common.{ap}
use Rattle.parts.specs.Courses.{Answer, after_answer, after, Lawful, run_on, run_of}
use Rattle.parts.specs.declared.fault.Fault.{Fault}

module _ {S A : Type 0} (answer : S → ℕ → Answer A) (next : S → ℕ → S) where
  -- behind an accepted input it goes on from the next state, behind a refused one from the same
  pub run_ok : (s : S) (x : ℕ) (a : A) → answer s x ≡ Ok a → (ys : List ℕ) (y : ℕ) → run_of answer next s (x ∷ ys) y ≡ run_of answer next (next s x) ys y
  run_ok s x a e ys y = ap (λ r. run_of answer next (run_on answer next r s x) ys y) e

  pub run_err : (s : S) (x : ℕ) (f : Fault) → answer s x ≡ Err f → (ys : List ℕ) (y : ℕ) → run_of answer next s (x ∷ ys) y ≡ run_of answer next s ys y
  run_err s x f e ys y = ap (λ r. run_of answer next (run_on answer next r s x) ys y) e

  -- inputs after a refused one are answered as if it had not been put
  pub run_lawful : (s : S) → Lawful (run_of answer next s)
  run_lawful s [] x f e ys y = run_err s x f e ys y
  run_lawful s (z ∷ xs) x f e ys y = run_lawful (run_on answer next (answer s z) s z) xs x f e ys y

  -- the course after a step is the course of the state after it
  pub run_after : (s : S) (x : ℕ) → after (run_of answer next s) x ≡ run_of answer next (run_on answer next (answer s x) s x)
  run_after s x = go (answer s x) refl
    where
      go : (a : Answer A) → answer s x ≡ a → after_answer a (run_of answer next s) x ≡ run_of answer next (run_on answer next a s x)
      go (Ok a) e = λ i ys y. run_ok s x a e ys y i
      go (Err f) e = refl
