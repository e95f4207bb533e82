-- Sets of wires. A set is a number below 2 ^ 64, in which wire w weighs 2 ^ w.
-- `bit_or` is the union of two sets and `bit_and` is what they share. Assumes nothing: these are definitions.
use Rattle.std.specs.Prelude.{◌≡◌, ℕ, ◌-◌, ◌/◌, ◌%◌, ◌^◌, Bool, true, false, not, ◌&&◌, ◌||◌, ◌==◌, bit_and, bit_or}

-- wire w is in the set
abbrev pub has : ℕ → ℕ → Bool
has set w = (set / 2 ^ w % 2) == 1

abbrev pub union : ℕ → ℕ → ℕ
union = bit_or

abbrev pub intersection : ℕ → ℕ → ℕ
intersection = bit_and

-- the wires of the first set that the second has not
abbrev pub difference : ℕ → ℕ → ℕ
difference a b = a - bit_and a b

-- each wire of the first set is in the second
abbrev pub subset : ℕ → ℕ → Bool
subset a b = bit_and a b == a

-- the two sets share no wire
abbrev pub disjoint : ℕ → ℕ → Bool
disjoint a b = bit_and a b == 0

-- What the five words mean, wire by wire.
abbrev pub Within : ℕ → ℕ → Type 0
Within a b = (w : ℕ) → has a w ≡ true → has b w ≡ true

abbrev pub UnionWires : ℕ → ℕ → ℕ → Type 0
UnionWires a b r = (w : ℕ) → has r w ≡ (has a w || has b w)

abbrev pub IntersectionWires : ℕ → ℕ → ℕ → Type 0
IntersectionWires a b r = (w : ℕ) → has r w ≡ (has a w && has b w)

abbrev pub DifferenceWires : ℕ → ℕ → ℕ → Type 0
DifferenceWires a b r = (w : ℕ) → has r w ≡ (has a w && not (has b w))

abbrev pub SubsetWires : ℕ → ℕ → Bool → Type 0
SubsetWires a b r = (r ≡ true → (w : ℕ) → has a w ≡ true → has b w ≡ true) × (((w : ℕ) → has a w ≡ true → has b w ≡ true) → r ≡ true)

abbrev pub DisjointWires : ℕ → ℕ → Bool → Type 0
DisjointWires a b r = (r ≡ true → (w : ℕ) → has a w ≡ true → has b w ≡ false) × (((w : ℕ) → has a w ≡ true → has b w ≡ false) → r ≡ true)
