-- The sets of wires, wire by wire. Assumes nothing.
use Rattle.std.proofs.Common.{◌≡◌, ℕ, zero, suc, ◌+◌, ◌-◌, ◌*◌, ◌/◌, ◌%◌, ◌^◌, ◌<◌, ◌≤◌, Bool, true, false, not, ◌&&◌, ◌||◌, eqb, sym, refl, ap, ◌∙◌, pow-suc, div-one, one-add, arith, pow_pos, pow_mono}
use native.Mathlib.Nat.{div_self, div-eq_of_lt}
use lib.Bits.{bit_and, bit_or, and_step, or_step, and_shr, or_shr, and_le_l}
use Rattle.std.proofs.lemmas.Nat.{shr-shr}
use Rattle.std.proofs.lemmas.Bool.{eqb-true, eq-eqb, true≢false}
use Rattle.std.proofs.lemmas.Bool.Decides.{nat_tests}
use Rattle.signals.specs.Sets.{has, union, intersection, difference, subset, disjoint, UnionWires, IntersectionWires, DifferenceWires, SubsetWires, DisjointWires}

-- ---- one wire is one bit
abbrev bit : ℕ → Bool
bit n = eqb (n % 2) 1

bit_of_or : (a b : ℕ) → bit (bit_or a b) ≡ (bit a || bit b)
bit_of_or a b = let s = or_step a b in grind (arith, nat_tests)

bit_of_and : (a b : ℕ) → bit (bit_and a b) ≡ (bit a && bit b)
bit_of_and a b = let s = and_step a b in grind (arith, nat_tests)

pub union_wires : (a b : ℕ) → UnionWires a b (union a b)
union_wires a b w = ap bit (or_shr a b w) ∙ bit_of_or (a / 2 ^ w) (b / 2 ^ w)

pub intersection_wires : (a b : ℕ) → IntersectionWires a b (intersection a b)
intersection_wires a b w = ap bit (and_shr a b w) ∙ bit_of_and (a / 2 ^ w) (b / 2 ^ w)

-- ---- the lowest wire, and the others one lower
has_zero : (a : ℕ) → has a 0 ≡ bit a
has_zero a = ap bit (div-one a)

has_suc : (a w : ℕ) → has a (suc w) ≡ has (a / 2) w
has_suc a w = ap bit (ap (λ k. a / 2 ^ k) (sym (one-add w)) ∙ sym (shr-shr a 1 w))

minus_half : (a b : ℕ) → difference a b / 2 ≡ difference (a / 2) (b / 2)
minus_half a b = omega (arith, and_step a b, and_le_l (a / 2) (b / 2))

minus_bit : (a b : ℕ) → bit (difference a b) ≡ (bit a && not (bit b))
minus_bit a b = let s = and_step a b in let l = and_le_l (a / 2) (b / 2) in grind (arith, nat_tests)

pub difference_wires : (a b : ℕ) → DifferenceWires a b (difference a b)
difference_wires a b zero = has_zero (difference a b) ∙ minus_bit a b ∙ sym (λ i. has_zero a i && not (has_zero b i))
difference_wires a b (suc w) = has_suc (difference a b) w ∙ ap (λ n. has n w) (minus_half a b) ∙ difference_wires (a / 2) (b / 2) w ∙ sym (λ i. has_suc a w i && not (has_suc b w i))

-- `a & !b` at k bits
pub and_not : (k a b : ℕ) → a < 2 ^ k → b < 2 ^ k → bit_and a (2 ^ k - 1 - b) ≡ difference a b
and_not zero a b p q = omega (arith, and_le_l a (2 ^ 0 - 1 - b), and_le_l a b)
and_not (suc k) a b p q =
    let e : 2 ^ suc k ≡ 2 ^ k * 2 = pow-suc 2 k in
    let p' : a / 2 < 2 ^ k = omega arith in
    let q' : b / 2 < 2 ^ k = omega arith in
    let n : ℕ = 2 ^ suc k - 1 - b in
    let half : n / 2 ≡ 2 ^ k - 1 - b / 2 = omega arith in
    let low : n % 2 ≡ 1 - b % 2 = omega arith in
    let step = and_step a n in
    let same = and_step a b in
    let le = and_le_l (a / 2) (b / 2) in
    let rest : bit_and (a / 2) (n / 2) ≡ difference (a / 2) (b / 2) = ap (bit_and (a / 2)) half ∙ and_not k (a / 2) (b / 2) p' q' in
    omega arith

-- ---- sets with the same wires
halves : (k a : ℕ) → a < 2 ^ suc k → a / 2 < 2 ^ k
halves k a p = omega (arith, pow-suc 2 k)

same_below : (k a b : ℕ) → a < 2 ^ k → b < 2 ^ k → ((w : ℕ) → has a w ≡ has b w) → a ≡ b
same_below zero a b p q h = omega arith
same_below (suc k) a b p q h =
    let low : bit a ≡ bit b = sym (has_zero a) ∙ h 0 ∙ has_zero b in
    let high : a / 2 ≡ b / 2 = same_below k (a / 2) (b / 2) (halves k a p) (halves k b q) (λ w. sym (has_suc a w) ∙ h (suc w) ∙ has_suc b w) in
    grind (arith, nat_tests)

below_pow : (n : ℕ) → n < 2 ^ n
below_pow zero = omega arith
below_pow (suc n) = omega (arith, pow-suc 2 n, below_pow n, pow_pos n)

pub same_wires : (a b : ℕ) → ((w : ℕ) → has a w ≡ has b w) → a ≡ b
same_wires a b =
    let l : 2 ^ a ≤ 2 ^ (a + b) = pow_mono (omega arith) in
    let r : 2 ^ b ≤ 2 ^ (a + b) = pow_mono (omega arith) in
    same_below (a + b) a b (omega (arith, below_pow a)) (omega (arith, below_pow b))

-- sets that share the same wires with a third have the same ones of its wires
and_true : (b : Bool) → (b && true) ≡ b
and_true true = refl
and_true false = refl

alone : (z s w : ℕ) → has s w ≡ true → has (intersection z s) w ≡ has z w
alone z s w h = intersection_wires z s w ∙ ap (λ b. has z w && b) h ∙ and_true (has z w)

pub same_at : (s x y : ℕ) → intersection x s ≡ intersection y s → (w : ℕ) → has s w ≡ true → has x w ≡ has y w
same_at s x y e w h = sym (alone x s w h) ∙ ap (λ z. has z w) e ∙ alone y s w h

-- ---- unions
or_assoc : (x y z : Bool) → (x || y) || z ≡ x || (y || z)
or_assoc true y z = refl
or_assoc false y z = refl

pub union_assoc : (a b c : ℕ) → union (union a b) c ≡ union a (union b c)
union_assoc a b c = same_wires _ _ (λ w.
    union_wires (union a b) c w
    ∙ ap (λ t. t || has c w) (union_wires a b w)
    ∙ or_assoc (has a w) (has b w) (has c w)
    ∙ sym (union_wires a (union b c) w ∙ ap (λ t. has a w || t) (union_wires b c w)))

-- ---- subsets
within_and : (x y : Bool) → (x && y) ≡ x → x ≡ true → y ≡ true
within_and true y e p = e
within_and false y e p = absurd (true≢false (sym p))

and_within : (x y : Bool) → (x ≡ true → y ≡ true) → (x && y) ≡ x
and_within true y h = h refl
and_within false y h = refl

pub subset_wires : (a b : ℕ) → SubsetWires a b (subset a b)
subset_wires a b = (
  λ e w. within_and (has a w) (has b w) (sym (intersection_wires a b w) ∙ ap (λ n. has n w) (eqb-true (bit_and a b) a e)),
  λ h. eq-eqb (bit_and a b) a (same_wires (bit_and a b) a (λ w. intersection_wires a b w ∙ and_within (has a w) (has b w) (h w))),
)

-- no set of k wires has a wire from k on
pub none_above : (k a w : ℕ) → a < 2 ^ k → k ≤ w → has a w ≡ false
none_above k a w p q = let m : 2 ^ k ≤ 2 ^ w = pow_mono q in let l : a < 2 ^ w = omega arith in ap bit (div-eq_of_lt l)

-- ---- sets that share no wire
apart_and : (x y : Bool) → (x && y) ≡ false → x ≡ true → y ≡ false
apart_and true y e p = e
apart_and false y e p = absurd (true≢false (sym p))

and_apart : (x y : Bool) → (x ≡ true → y ≡ false) → (x && y) ≡ false
and_apart true y h = h refl
and_apart false y h = refl

pub none_empty : (w : ℕ) → has 0 w ≡ false
none_empty w = none_above 0 0 w (omega arith) (omega arith)

pub disjoint_wires : (a b : ℕ) → DisjointWires a b (disjoint a b)
disjoint_wires a b = (
  λ e w. apart_and (has a w) (has b w) (sym (intersection_wires a b w) ∙ ap (λ n. has n w) (eqb-true (bit_and a b) 0 e) ∙ none_empty w),
  λ h. eq-eqb (bit_and a b) 0 (same_wires (bit_and a b) 0 (λ w. intersection_wires a b w ∙ and_apart (has a w) (has b w) (h w) ∙ sym (none_empty w))),
)

-- ---- one wire alone
pub has_itself : (w : ℕ) → has (2 ^ w) w ≡ true
has_itself w = ap (λ d. eqb (d % 2) 1) (div_self (pow_pos w))
