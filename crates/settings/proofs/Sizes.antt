-- How many wires a set has, and how many settings. Assumes nothing.
use Rattle.std.proofs.Common.{◌≡◌, ℕ, zero, suc, ◌+◌, ◌-◌, ◌*◌, ◌/◌, ◌%◌, ◌^◌, ◌<◌, ◌≤◌, min, Bool, cond, eqb, List, [], ◌∷◌, ◌++◌, Err, length, take, filter, sym, refl, ap, subst, le_trans, le_of_eq, pow_mono, ◌∙◌, ⊎_elim, append-nil, length-take, add-mul, pow-suc, zero-add, zero-mul, mul-one, div-one, arith}
use lib.Bits.{bit_and, and_step, and_le_l, and_le_r}
use lib.Count.{ones, ones_step}
use Rattle.std.specs.List.{range_with_len, count_by}
use Rattle.std.proofs.lemmas.List.Sums.{length-filter, sum_by-cons}
use Rattle.std.proofs.lemmas.Nat.{shr-shr}
use Rattle.std.proofs.lemmas.List.Elements.{filter-append}
use Rattle.std.proofs.lemmas.Bool.{cond-true, cond-false, eq-eqb, ne_eqb, cases_lt, cases_eq}
use Rattle.std.proofs.lemmas.Bool.Decides.{nat_tests}
use Rattle.signals.specs.Sets.{subset, has}
use Rattle.parts.specs.Courses.{Answer}
use Rattle.parts.specs.Operators.{settings, only}
use Rattle.settings.specs.Tried.{size}
use Rattle.settings.proofs.Stepping.{counting_add, none_kept}

-- ---- the wires of a set, and the ones of its number
has_suc : (a w : ℕ) → has a (w + 1) ≡ has (a / 2) w
has_suc a w = ap (λ n. eqb (n % 2) 1) (ap (λ k. a / 2 ^ k) (omega arith) ∙ sym (shr-shr a 1 w))

-- one number more, which counts where the test holds of it
count_cons : (test : ℕ → Bool) (x : ℕ) (xs : List ℕ) → count_by test (x ∷ xs) ≡ cond (test x) 1 0 + count_by test xs
count_cons test = sum_by-cons (λ y. cond (test y) 1 0)

one_lower : (a b n : ℕ) → count_by (λ w. has a w) (range_with_len (b + 1) n) ≡ count_by (λ w. has (a / 2) w) (range_with_len b n)
one_lower a b zero = refl
one_lower a b (suc n) =
    count_cons (λ w. has a w) (b + 1) (range_with_len (b + 1 + 1) n)
    ∙ (λ i. cond (has_suc a b i) 1 0 + one_lower a (b + 1) n i)
    ∙ sym (count_cons (λ w. has (a / 2) w) b (range_with_len (b + 1) n))

lowest : (a : ℕ) → cond (has a 0) 1 0 ≡ a % 2
lowest a = ap (λ n. cond (eqb (n % 2) 1) 1 0) (div-one a) ∙ grind (arith, nat_tests)

no_ones : ones 0 ≡ 0
unfolding ones
no_ones = refl

pub ones_wires : (k a : ℕ) → a < 2 ^ k → count_by (λ w. has a w) (range_with_len 0 k) ≡ ones a
ones_wires zero a b = let none : a ≡ 0 = omega arith in sym (ap ones none ∙ no_ones)
ones_wires (suc k) a b =
    count_cons (λ w. has a w) 0 (range_with_len 1 k)
    ∙ (λ i. lowest a i + (one_lower a 0 k ∙ ones_wires k (a / 2) (omega (arith, pow-suc 2 k))) i)
    ∙ sym (ones_step a)

pub size_ones : (a : ℕ) → a < 2 ^ 64 → size a ≡ ones a
unfolding size
size_ones a b = length-filter (λ w. has a w) (range_with_len 0 64) ∙ ones_wires 64 a b

-- ---- the settings, by halves
abbrev one : ℕ → ℕ → ℕ
one h s = cond (subset s h) 1 0

one_is : (h s : ℕ) → bit_and s h ≡ s → one h s ≡ 1
one_is h s e = cond-true (subset s h) 1 0 (eq-eqb (bit_and s h) s e)

one_not : (h s : ℕ) → (bit_and s h ≡ s → ⊥) → one h s ≡ 0
one_not h s e = cond-false (subset s h) 1 0 (ne_eqb (bit_and s h) s e)

shifted : (x a h : ℕ) → x / 2 ≡ a → bit_and x h ≡ bit_and a (h / 2) * 2 + min (x % 2) (h % 2)
shifted x a h e = and_step x h ∙ ap (λ n. bit_and n (h / 2) * 2 + min (x % 2) (h % 2)) e

-- a pair of numbers that differ in the lowest wire alone
pair : (h a : ℕ) → one h (a * 2) + one h (a * 2 + 1) ≡ one (h / 2) a * (1 + h % 2)
pair h a =
    let even = shifted (a * 2) a h (omega arith) in
    let odd = shifted (a * 2 + 1) a h (omega arith) in
    ⊎_elim
    (λ e.
    let in-half = one_is (h / 2) a e in
    let in-even = one_is h (a * 2) (omega arith) in
    ap (λ n. n + one h (a * 2 + 1)) in-even
    ∙ ⊎_elim
    (λ z. let r : h % 2 ≡ 0 = omega arith in ap (λ n. 1 + n) (one_not h (a * 2 + 1) (λ q. omega arith)) ∙ ap (λ n. 1 * (1 + n)) (sym r))
    (λ z. let r : h % 2 ≡ 1 = omega arith in ap (λ n. 1 + n) (one_is h (a * 2 + 1) (omega arith)) ∙ ap (λ n. 1 * (1 + n)) (sym r))
    (cases_lt (h % 2) 1)
    ∙ ap (λ n. n * (1 + h % 2)) (sym in-half))
    (λ ne.
    let le = and_le_l a (h / 2) in
    omega (arith, one_not h (a * 2) (λ q. ne (omega arith)), one_not h (a * 2 + 1) (λ q. ne (omega arith)), zero-mul (1 + h % 2))
    ∙ ap (λ n. n * (1 + h % 2)) (sym (one_not (h / 2) a ne)))
    (cases_eq (bit_and a (h / 2)) a)

doubled : (h a n : ℕ) → count_by (λ s. subset s h) (range_with_len (a * 2) (n * 2)) ≡ count_by (λ s. subset s (h / 2)) (range_with_len a n) * (1 + h % 2)
doubled h a zero = sym (zero-mul (1 + h % 2))
doubled h a (suc n) =
    let two-more : suc n * 2 ≡ suc (suc (n * 2)) = omega arith in
    let on : a * 2 + 1 + 1 ≡ (a + 1) * 2 = omega arith in
    let more : ℕ = count_by (λ s. subset s (h / 2)) (range_with_len (a + 1) n) in
    let regroup : one h (a * 2) + (one h (a * 2 + 1) + more * (1 + h % 2)) ≡ (one (h / 2) a + more) * (1 + h % 2) = omega (arith, pair h a, add-mul (one (h / 2) a) more (1 + h % 2)) in
    ap (λ m. count_by (λ s. subset s h) (range_with_len (a * 2) m)) two-more
    ∙ count_cons (λ s. subset s h) (a * 2) (range_with_len (a * 2 + 1) (suc (n * 2)))
    ∙ ap (λ m. one h (a * 2) + m) (count_cons (λ s. subset s h) (a * 2 + 1) (range_with_len (a * 2 + 1 + 1) (n * 2)))
    ∙ ap (λ b. one h (a * 2) + (one h (a * 2 + 1) + count_by (λ s. subset s h) (range_with_len b (n * 2)))) on
    ∙ ap (λ m. one h (a * 2) + (one h (a * 2 + 1) + m)) (doubled h (a + 1) n)
    ∙ regroup
    ∙ ap (λ m. m * (1 + h % 2)) (sym (count_cons (λ s. subset s (h / 2)) a (range_with_len (a + 1) n)))

doubling : (x r : ℕ) → r < 2 → 2 ^ x * (1 + r) ≡ 2 ^ (r + x)
doubling x r l = ⊎_elim
    (λ z. let e : r ≡ 0 = omega arith in ap (λ n. 2 ^ x * (1 + n)) e ∙ mul-one (2 ^ x) ∙ ap (λ n. 2 ^ n) (omega arith))
    (λ z. let e : r ≡ 1 = omega arith in ap (λ n. 2 ^ x * (1 + n)) e ∙ sym (pow-suc 2 x) ∙ ap (λ n. 2 ^ n) (omega arith))
    (cases_lt r 1)

pub subsets : (k h : ℕ) → h < 2 ^ k → count_by (λ s. subset s h) (range_with_len 0 (2 ^ k)) ≡ 2 ^ ones h
subsets zero h b = let none : h ≡ 0 = omega arith in sym (ap (λ n. 2 ^ n) (ap ones none ∙ no_ones))
subsets (suc k) h b =
    ap (λ m. count_by (λ s. subset s h) (range_with_len 0 m)) (pow-suc 2 k)
    ∙ doubled h 0 (2 ^ k)
    ∙ ap (λ m. m * (1 + h % 2)) (subsets k (h / 2) (omega (arith, pow-suc 2 k)))
    ∙ doubling (ones (h / 2)) (h % 2) (omega arith)
    ∙ ap (λ m. 2 ^ m) (sym (ones_step h))

-- no setting is above the hidden wires
pub settings_ones : (k h : ℕ) → h < 2 ^ k → length (settings h) ≡ 2 ^ ones h
settings_ones k h b =
    let m : ℕ = 2 ^ k - suc h in
    let test : ℕ → Bool = λ s. subset s h in
    let split : 2 ^ k ≡ suc h + m = omega arith in
    let above : filter test (range_with_len (suc h) m) ≡ [] = none_kept test (suc h) m (λ t l u. ne_eqb (bit_and t h) t (λ e. omega (arith, and_le_r t h))) in
    let all : filter test (range_with_len 0 (2 ^ k)) ≡ settings h =
    ap (λ n. filter test (range_with_len 0 n)) split
    ∙ ap (filter test) (counting_add 0 (suc h) m)
    ∙ filter-append test (range_with_len 0 (suc h)) (range_with_len (0 + suc h) m)
    ∙ ap (λ a. settings h ++ filter test (range_with_len a m)) (zero-add (suc h))
    ∙ ap (λ xs. settings h ++ xs) above
    ∙ append-nil (settings h) in
    sym (ap length all) ∙ length-filter test (range_with_len 0 (2 ^ k)) ∙ subsets k h b

-- hidden wires have at most 2 ^ 12 settings
pub settings_few : (h : ℕ) → h < 2 ^ 64 → size h ≤ 12 → length (settings h) ≤ 4096
settings_few h b few =
    let small : ones h ≤ 12 = subst (λ n. n ≤ 12) (size_ones h b) few in
    let power : 2 ^ ones h ≤ 2 ^ 12 = pow_mono small in
    le_trans (le_of_eq (settings_ones 64 h b)) power

-- of several that were found, the number
pub several_is : (h place count : ℕ) (ps : List (ℕ × ℕ)) → 2 ≤ length ps → count ≡ min (length ps) 65535 → length ps ≤ 4096 → ◌≡◌ {A = Answer ℕ} (Err (record { cause = 42; place = place; count = count })) (only h place ps)
several_is h place count [] two e l = absurd (omega arith)
several_is h place count (p ∷ []) two e l = absurd (omega arith)
several_is h place count (p ∷ q ∷ ps) two e l =
    let same : count ≡ length (p ∷ q ∷ ps) = omega arith in
    ap (λ n. Err (record { cause = 42; place = place; count = n })) same

-- and up to the most that a count tells
pub most_is : (h place count most : ℕ) (ps : List (ℕ × ℕ)) → 2 ≤ most → 2 ≤ length ps → count ≡ min (length ps) most → ◌≡◌ {A = Answer ℕ} (Err (record { cause = 42; place = place; count = count })) (only h place (take most ps))
most_is h place count zero ps m two e = absurd (omega arith)
most_is h place count (suc zero) ps m two e = absurd (omega arith)
most_is h place count (suc (suc most)) [] m two e = absurd (omega arith)
most_is h place count (suc (suc most)) (p ∷ []) m two e = absurd (omega arith)
most_is h place count (suc (suc most)) (p ∷ q ∷ ps) m two e =
    let same : count ≡ length (take (suc (suc most)) (p ∷ q ∷ ps)) = omega (arith, length-take (suc (suc most)) (p ∷ q ∷ ps)) in
    ap (λ n. Err (record { cause = 42; place = place; count = n })) same
