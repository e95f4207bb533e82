-- The laws of counters. Assumes nothing.
use Rattle.std.specs.Prelude.{◌≡◌, ℕ, ◌+◌, ◌%◌, ◌^◌, ◌<◌, Bool, true, false, cond, ◌&&◌, List, [], ◌∷◌, length, Ok, ◌==◌, refl}
use Rattle.std.proofs.Common.{sym, ap, subst, ◌∙◌, arith, pow_pos}
use Rattle.std.proofs.Math.Nat.{div_self, mod_self, add-mod_left}
use Rattle.std.proofs.lemmas.List.Sums.{sum_by-cons}
use Rattle.std.specs.Int.Bits.{and_self}
use Rattle.std.proofs.lemmas.Bool.Decides.{nat_tests}
use Rattle.signals.specs.Sets.{has, intersection, subset}
use Rattle.signals.proofs.Wires.{same_at, intersection_wires}
use Rattle.parts.specs.Courses.{Answer, Lawful, Unread, Named}
use Rattle.parts.specs.Running.{run_lawful}
use Rattle.parts.specs.Searching.{ok_same}
use Rattle.parts.specs.Counters.{Counting, counter_answer, counter_next, counter_course, ticks_with, Counts}

-- ---- a counter has a state
pub counter_lawful : (k : Counting) (t : ℕ) → Lawful (counter_course k t)
counter_lawful k = run_lawful (counter_answer k) (counter_next k)

-- ---- wires that are not read
has_itself : (w : ℕ) → has (2 ^ w) w ≡ true
has_itself w = rw (div_self (pow_pos w))

and_true : (b : Bool) → (b && true) ≡ b
and_true true = refl
and_true false = refl

has_alone : (w x : ℕ) → has (intersection x (2 ^ w)) w ≡ has x w
has_alone w x = intersection_wires x (2 ^ w) w ∙ ap (λ b. has x w && b) (has_itself w) ∙ and_true (has x w)

same_has : (w x y : ℕ) → intersection x (2 ^ w) ≡ intersection y (2 ^ w) → has x w ≡ has y w
same_has w x y e = same_at (2 ^ w) x y e w (has_itself w)

module _ (k : Counting) where
  pub counter_unread : (t : ℕ) → Unread (2 ^ k.input) (counter_course k t)
  counter_unread t [] [] x y r e = ap (λ b. Ok (cond (b && t + 1 == k.number) (2 ^ k.output) 0)) (same_has k.input x y e)
  counter_unread t [] (v ∷ vs) x y r e = absurd r
  counter_unread t (u ∷ us) [] x y r e = absurd r
  counter_unread t (u ∷ us) (v ∷ vs) x y r e =
      ap (λ b. counter_course k (cond b (cond (t + 1 == k.number) 0 (t + 1)) t) us x) (same_has k.input u v r.0)
      ∙ counter_unread (counter_next k t v) us vs x y r.1 e

-- ---- no other wire is emitted
alone_or_none : (w : ℕ) (b : Bool) → subset (cond b (2 ^ w) 0) (2 ^ w) ≡ true
alone_or_none w b = grind (arith, nat_tests, and_self (2 ^ w))

module _ (k : Counting) where
  pub counter_named : (t : ℕ) → Named (2 ^ k.output) (counter_course k t)
  counter_named t [] x o e = subst (λ v. subset v (2 ^ k.output) ≡ true) (ok_same _ _ _ refl e) (alone_or_none k.output (has x k.input && t + 1 == k.number))
  counter_named t (y ∷ ys) x o e = counter_named (counter_next k t y) ys x o e

-- ---- n divides the number of ticks
emits_same : (t n : ℕ) → t < n → (t + 1 == n) ≡ ((t + 1) % n == 0)
emits_same t n h = grind (arith, nat_tests, mod_self n)

module _ (k : Counting) where
  abbrev emitted : ℕ → ℕ → Answer ℕ
  emitted x m = Ok (cond (has x k.input && m % k.number == 0) (2 ^ k.output) 0)

  -- one more tick, with the wire or without it
  tally_goes : (t : ℕ) → t < k.number → (x c : ℕ) (b d : Bool) → (t + 1 == k.number) ≡ d → emitted x (cond b (cond d 0 (t + 1)) t + c + 1) ≡ emitted x (t + cond b (1 + c) c + 1)
  tally_goes t h x c b d e = grind (arith, nat_tests, add-mod_left k.number (c + 1))

  tally_below : (t : ℕ) → t < k.number → (b d : Bool) → (t + 1 == k.number) ≡ d → cond b (cond d 0 (t + 1)) t < k.number
  tally_below t h b d e = grind (arith, nat_tests)

  counted : (b : Bool) (c : ℕ) → cond b (1 + c) c ≡ cond b 1 0 + c
  counted true c = refl
  counted false c = omega arith

  more_ticks : (b : Bool) (y : ℕ) (ys : List ℕ) → length (cond b (y ∷ ys) ys) ≡ cond b (1 + length ys) (length ys)
  more_ticks true y ys = omega arith
  more_ticks false y ys = refl

  counts_from : (t : ℕ) → t < k.number → (xs : List ℕ) (x : ℕ) → counter_course k t xs x ≡ emitted x (t + ticks_with k.input xs + 1)
  counts_from t h [] x = ap (λ b. Ok (cond (has x k.input && b) (2 ^ k.output) 0)) (emits_same t k.number h) ∙ ap (emitted x) (omega arith)
  counts_from t h (y ∷ ys) x =
      counts_from (counter_next k t y) (tally_below t h (has y k.input) (t + 1 == k.number) refl) ys x
      ∙ tally_goes t h x (ticks_with k.input ys) (has y k.input) (t + 1 == k.number) refl
      ∙ ap (λ m. emitted x (t + m + 1)) (counted (has y k.input) (ticks_with k.input ys) ∙ sym (sum_by-cons (λ u. cond (has u k.input) 1 0) y ys))

  pub counter_counts : 0 < k.number → Counts k (counter_course k 0)
  counter_counts h xs x = counts_from 0 h xs x ∙ ap (emitted x) (omega arith)
