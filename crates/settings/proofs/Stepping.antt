-- The next setting: the least larger subset of the hidden wires. Assumes nothing.
use Rattle.std.proofs.Common.{◌≡◌, ℕ, zero, suc, ◌+◌, ◌-◌, ◌*◌, ◌/◌, ◌%◌, ◌^◌, ◌<◌, ◌≤◌, Bool, true, false, not, [], ◌∷◌, ◌++◌, filter, sym, refl, ap, ◌∙◌, subst, ⊎_elim, add-zero, mod-eq_of_lt, suc-add, pow-suc, zero-add, arith}
use lib.Bits.{bit_and, and_step, and_le_l, and_le_r, and_comm, and_self}
use Rattle.std.specs.List.{range_with_len}
use Rattle.std.proofs.lemmas.List.Elements.{filter-append}
use Rattle.std.proofs.lemmas.Bool.{cond-true, cond-false, eqb-true, eq-eqb, ne_eqb, cases_lt, cases_eq, and_parts}
use Rattle.signals.specs.Sets.{subset, difference, has}
use Rattle.signals.proofs.Wires.{and_not, subset_wires, intersection_wires, difference_wires}
use Rattle.settings.specs.Tried.{untried}

-- ---- the step at k wires, with s below h
abbrev pub next_of : ℕ → ℕ → ℕ → ℕ
next_of k h s = bit_and (2 ^ k + s - h) h

-- a subset, its lowest wire and the others
halves : (s h : ℕ) → bit_and s h ≡ s → (bit_and (s / 2) (h / 2) ≡ s / 2) × (s % 2 ≤ h % 2)
halves s h e = (omega (arith, and_step s h, and_le_l (s / 2) (h / 2)), omega (arith, and_step s h, and_le_l (s / 2) (h / 2)))

-- what a set has beside another is within it
rest_within : (h s : ℕ) → bit_and (difference h s) h ≡ difference h s
rest_within h s =
    eqb-true _ _ ((subset_wires (difference h s) h).1 (λ w e. (and_parts (has h w) (not (has s w)) (sym (difference_wires h s w) ∙ e)).0))

-- out of h, what is not in h - s is s
all_but : (k h s : ℕ) → h < 2 ^ k → bit_and s h ≡ s → bit_and (2 ^ k - 1 - (h - s)) h ≡ s
all_but k h s b e =
    let le : s ≤ h = omega (arith, and_le_r s h) in
    let is : difference h s ≡ h - s = ap (λ n. h - n) (and_comm h s ∙ e) in
    let rest : bit_and h (h - s) ≡ h - s = and_comm h (h - s) ∙ subst (λ d. bit_and d h ≡ d) is (rest_within h s) in
    let gone : difference h (h - s) ≡ s = ap (λ n. h - n) rest ∙ omega arith in
    and_comm (2 ^ k - 1 - (h - s)) h ∙ and_not k h (h - s) b (omega arith) ∙ gone

-- n is the least subset of h above s
pub record Least (h s n : ℕ) : Type 0 where
  pub above : s < n
  pub least : (t : ℕ) → bit_and t h ≡ t → s < t → n ≤ t

pub next_least : (k h s : ℕ) → h < 2 ^ k → bit_and s h ≡ s → s < h → Least h s (next_of k h s)
next_least zero h s b e l = absurd (omega arith)
next_least (suc k) h s b e l =
    let p : 2 ^ suc k ≡ 2 ^ k * 2 = pow-suc 2 k in
    let b' : h / 2 < 2 ^ k = omega arith in
    let lower = halves s h e in
    let m : ℕ = 2 ^ suc k + s - h in
    ⊎_elim
    -- the lowest wire is hidden and not in s: it comes in, and the others stay
    (λ o.
    let le : s / 2 ≤ h / 2 = omega arith in
    let sl : s % 2 ≡ 0 = omega arith in
    let half : m / 2 ≡ 2 ^ k - 1 - (h / 2 - s / 2) = omega arith in
    let low : m % 2 ≡ 1 = omega arith in
    let others : bit_and (m / 2) (h / 2) ≡ s / 2 = ap (λ n. bit_and n (h / 2)) half ∙ all_but k (h / 2) (s / 2) b' lower.0 in
    let is : bit_and m h ≡ s + 1 = omega (arith, and_step m h) in
    record { above = omega arith; least = λ t _ lt. omega arith })
    -- else the lowest wire is out, and the step is among the others
    (λ o.
    let same : s % 2 ≡ h % 2 = omega (arith, lower.1) in
    let less : s / 2 < h / 2 = omega arith in
    let half : m / 2 ≡ 2 ^ k + s / 2 - h / 2 = omega arith in
    let low : m % 2 ≡ 0 = omega arith in
    let rest = next_least k (h / 2) (s / 2) b' lower.0 less in
    let n : ℕ = next_of k (h / 2) (s / 2) in
    let others : bit_and (m / 2) (h / 2) ≡ n = ap (λ x. bit_and x (h / 2)) half in
    let is : bit_and m h ≡ n * 2 = omega (arith, and_step m h) in
    record {
      above = omega (arith, rest.above);
      least = λ t te lt.
          let tl = halves t h te in
          let more : s / 2 < t / 2 = omega (arith, tl.1) in
          omega (arith, rest.least (t / 2) tl.0 more);
    })
    (cases_lt (s % 2) (h % 2))

-- the next setting is one
pub next_within : (k h s : ℕ) → bit_and (next_of k h s) h ≡ next_of k h s
next_within k h s =
    let m = 2 ^ k + s - h in
    eqb-true _ _ ((subset_wires (bit_and m h) h).1 (λ w e. (and_parts (has m w) (has h w) (sym (intersection_wires m h w) ∙ e)).1))

-- ---- what is left to try
pub counting_add : (a n m : ℕ) → range_with_len a (n + m) ≡ range_with_len a n ++ range_with_len (a + n) m
counting_add a zero m = ap (range_with_len a) (zero-add m) ∙ ap (λ b. range_with_len b m) (sym (add-zero a))
counting_add a (suc n) m =
    ap (range_with_len a) (suc-add n m)
    ∙ ap (λ xs. a ∷ xs) (counting_add (a + 1) n m ∙ ap (λ b. range_with_len (a + 1) n ++ range_with_len b m) (omega arith))

pub none_kept : (test : ℕ → Bool) (a n : ℕ) → ((t : ℕ) → a ≤ t → t < a + n → test t ≡ false) → filter test (range_with_len a n) ≡ []
none_kept test a zero h = refl
none_kept test a (suc n) h =
    cond-false (test a) _ _ (h a (omega arith) (omega arith)) ∙ none_kept test (a + 1) n (λ t l u. h t (omega arith) (omega arith))

-- with s within h and no setting between s and n: s is left, and those from n on
one_less : (h s n : ℕ) → s < n → n ≤ h → bit_and s h ≡ s → ((t : ℕ) → s < t → t < n → bit_and t h ≡ t → ⊥) → untried h s ≡ s ∷ untried h n
one_less h s n l u e gap =
    let test : ℕ → Bool = λ t. subset t h in
    let j : ℕ = n - (s + 1) in
    let m : ℕ = suc h - n in
    let split : suc h - s ≡ suc (j + m) = omega arith in
    let none : filter test (range_with_len (s + 1) j) ≡ [] = none_kept test (s + 1) j (λ t a b. ne_eqb (bit_and t h) t (gap t (omega arith) (omega arith))) in
    let at : s + 1 + j ≡ n = omega arith in
    ap (λ x. filter test (range_with_len s x)) split
    ∙ cond-true (test s) _ _ (eq-eqb (bit_and s h) s e)
    ∙ ap (λ xs. s ∷ xs)
    (ap (filter test) (counting_add (s + 1) j m)
    ∙ filter-append test (range_with_len (s + 1) j) (range_with_len (s + 1 + j) m)
    ∙ ap (λ xs. xs ++ filter test (range_with_len (s + 1 + j) m)) none
    ∙ ap (λ b. filter test (range_with_len b m)) at)

-- the last setting is that of all hidden wires
pub untried_last : (h s : ℕ) → s ≡ h → untried h s ≡ s ∷ []
untried_last h s e =
    let one : suc h - s ≡ 1 = omega arith in
    ap (λ x. filter (λ t. subset t h) (range_with_len s x)) one
    ∙ cond-true (subset s h) _ _ (eq-eqb (bit_and s h) s (ap (bit_and s) (sym e) ∙ and_self s))

-- ---- the step as it wraps
pub record Stepped (h s n : ℕ) : Type 0 where
  pub within : subset n h ≡ true
  pub above : s < n
  pub rest : untried h s ≡ s ∷ untried h n

pub stepped : (k h s : ℕ) → h < 2 ^ k → subset s h ≡ true → (s ≡ h → ⊥) → Stepped h s (bit_and ((s + (2 ^ k - h)) % 2 ^ k) h)
stepped k h s b w d =
    let e : bit_and s h ≡ s = eqb-true (bit_and s h) s w in
    let le = and_le_r s h in
    let l : s < h = ⊎_elim (λ q. absurd (d q)) (λ q. omega arith) (cases_eq s h) in
    let small : s + (2 ^ k - h) < 2 ^ k = omega arith in
    let same : s + (2 ^ k - h) ≡ 2 ^ k + s - h = omega arith in
    let is : (s + (2 ^ k - h)) % 2 ^ k ≡ 2 ^ k + s - h = mod-eq_of_lt small ∙ same in
    let n = next_least k h s b e l in
    subst (λ m. Stepped h s (bit_and m h)) (sym is)
    (record {
      within = eq-eqb _ _ (next_within k h s);
      above = n.above;
      rest = one_less h s (next_of k h s) n.above (and_le_r (2 ^ k + s - h) h) e (λ t a u v. omega (arith, n.least t v a));
    })
