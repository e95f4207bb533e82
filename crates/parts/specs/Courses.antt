-- Courses: what a part answers to every list of inputs. Assumes nothing: these are definitions.
-- An input and an output are sets of wires, by their numbers. An answer is an output or a fault.
use Rattle.std.specs.Prelude.{◌≡◌, ℕ, ◌^◌, ◌<◌, true, List, [], ◌∷◌, ◌++◌, Ok, Err, Result}
use Rattle.std.specs.List.{AllByRecursion, AllZip}
use Rattle.parts.specs.declared.fault.Fault.{Fault}
use Rattle.signals.specs.declared.wire_set.WireSet.{WireSet}
use Rattle.signals.specs.Sets.{intersection, subset}

-- an answer: a result, or a fault
abbrev pub Answer : Type 0 → Type 0
Answer A = Result A Fault

-- For the inputs before, oldest first, and one more, the answer to that one when they are stepped in turn.
abbrev pub Course : Type 0 → Type 0
Course A = List ℕ → ℕ → Answer A

-- the course behind an input
abbrev pub behind : {A : Type 0} → Course A → ℕ → Course A
behind c x ys y = c (x ∷ ys) y

-- the course after a step: behind the input if it was accepted, else the same
abbrev pub after_answer : {A : Type 0} → Answer A → Course A → ℕ → Course A
after_answer (Ok a) c x = behind c x
after_answer (Err f) c x = c

abbrev pub after : {A : Type 0} → Course A → ℕ → Course A
after c x = after_answer (c [] x) c x

-- inputs after a refused one are answered as if that one had not been put
abbrev pub Lawful : {A : Type 0} → Course A → Type 0
Lawful c = (xs : List ℕ) (x : ℕ) (f : Fault) → c xs x ≡ Err f → (ys : List ℕ) (y : ℕ) → c (xs ++ x ∷ ys) y ≡ c (xs ++ ys) y

-- The course of anything with a state: how it answers, and its next state behind an accepted input.
abbrev pub run_on : {S A : Type 0} → (S → ℕ → Answer A) → (S → ℕ → S) → Answer A → S → ℕ → S
run_on answer next (Ok a) s x = next s x
run_on answer next (Err f) s x = s

abbrev pub run_of : {S A : Type 0} → (S → ℕ → Answer A) → (S → ℕ → S) → S → Course A
run_of answer next s [] x = answer s x
run_of answer next s (y ∷ ys) x = run_of answer next (run_on answer next (answer s y) s y) ys x

-- a set of wires
abbrev pub Set : ℕ → Type 0
Set x = x < 2 ^ 64

-- courses that agree on all lists of sets of wires
abbrev pub Same : {A : Type 0} → Course A → Course A → Type 0
Same c d = (xs : List ℕ) (x : ℕ) → AllByRecursion Set xs → Set x → c xs x ≡ d xs x

-- inputs that have the same wires of the set
abbrev pub AlikeIn : ℕ → ℕ → ℕ → Type 0
AlikeIn r x y = intersection x r ≡ intersection y r

-- wires outside the set alter no answer, at any place of the list
abbrev pub SameRead : ℕ → List ℕ → List ℕ → Type 0
SameRead r = AllZip (AlikeIn r)

abbrev pub Unread : {A : Type 0} → ℕ → Course A → Type 0
Unread r c = (xs ys : List ℕ) (x y : ℕ) → SameRead r xs ys → intersection x r ≡ intersection y r → c xs x ≡ c ys y

-- no wire outside the set is emitted
abbrev pub Named : ℕ → Course ℕ → Type 0
Named e c = (xs : List ℕ) (x o : ℕ) → c xs x ≡ Ok o → subset o e ≡ true

-- the answer that a call tells
abbrev pub told : Result WireSet Fault → Answer ℕ
told (Ok set) = Ok set.bits
told (Err fault) = Err fault
