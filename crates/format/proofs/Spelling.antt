-- A name and the field that holds it. Assumes nothing.
use Rattle.std.proofs.Common.{◌≡◌, ℕ, zero, suc, ◌+◌, ◌-◌, ◌≤◌, Bool, true, false, cond, Some, None, ◌&&◌, eqb, ltb, List, [], ◌∷◌, ◌++◌, length, take, drop, replicate, sym, refl, ap, ◌∙◌, arith}
use Rattle.std.proofs.Math.Seq.{drop-append_seam}
use Rattle.std.specs.List.{list_all, position, position_or_len}
use Rattle.std.specs.Option.{unwrap_or}
use Rattle.std.proofs.lemmas.List.Sums.{prefix_len-le-length}
use Rattle.std.proofs.lemmas.List.Recursion.{is_position_or_len}
use Rattle.std.proofs.lemmas.Bool.{and_parts, and_from, cond-true, cond-false, eqb-true, le-leb, cond_both, true≢false}
use Rattle.std.proofs.lemmas.List.{length-append, length-replicate, take_at, take_rest}
use Rattle.std.proofs.lemmas.Bool.Decides.{nat_tests}
use Rattle.format.specs.Names.{capital, name_byte, spelled, well_formed, field, before_zero, holds_name}

abbrev pub is_zero : ℕ → Bool
is_zero b = eqb b 0

-- no byte of a name is zero
capital_some : (b : ℕ) → capital b ≡ true → is_zero b ≡ false
capital_some b h = grind (arith, nat_tests)

name_byte_some : (b : ℕ) → name_byte b ≡ true → is_zero b ≡ false
name_byte_some b h = grind (arith, nat_tests)

zeroes : (k : ℕ) → list_all is_zero (replicate k 0) ≡ true
zeroes zero = refl
zeroes (suc k) = zeroes k

before_zeroes : (k : ℕ) → before_zero (replicate k 0) ≡ []
before_zeroes zero = refl
before_zeroes (suc k) = refl

before_fill : (name : List ℕ) (k : ℕ) → list_all name_byte name ≡ true → before_zero (name ++ replicate k 0) ≡ name
before_fill [] k h = before_zeroes k
before_fill (b ∷ bs) k h =
    let p = and_parts (name_byte b) (list_all name_byte bs) h in
    cond-false (is_zero b) _ _ (name_byte_some b p.0) ∙ ap (λ t. b ∷ t) (before_fill bs k p.1)

-- the field of a name gives that name back
pub before_field : (width : ℕ) (name : List ℕ) → spelled name ≡ true → before_zero (field width name) ≡ name
before_field width [] h = absurd (true≢false (sym h))
before_field width (b ∷ bs) h =
    let p = and_parts (capital b) (list_all name_byte bs) h in
    cond-false (is_zero b) _ _ (capital_some b p.0) ∙ ap (λ t. b ∷ t) (before_fill bs _ p.1)

pub field_holds : (width : ℕ) (name : List ℕ) → spelled name ≡ true → holds_name (field width name) ≡ true
field_holds width name h =
    let e = before_field width name h in
    and_from _ _ (ap spelled e ∙ h)
    (ap (λ t. list_all is_zero (drop (length t) (field width name))) e ∙ ap (list_all is_zero) (drop-append_seam name _) ∙ zeroes (width - length name))

pub field_length : (width : ℕ) (name : List ℕ) → length name ≤ width → length (field width name) ≡ width
field_length width name h = omega (arith, length-append name (replicate (width - length name) 0), length-replicate {A = ℕ} (width - length name) 0)

-- a field that holds a name is the field of that name
all_zero : (bs : List ℕ) → list_all is_zero bs ≡ true → bs ≡ replicate (length bs) 0
all_zero [] h = refl
all_zero (b ∷ bs) h =
    let p = and_parts (is_zero b) (list_all is_zero bs) h in
    λ i. eqb-true b 0 p.0 i ∷ all_zero bs p.1 i

split : (bs : List ℕ) → before_zero bs ++ drop (length (before_zero bs)) bs ≡ bs
split [] = refl
split (b ∷ bs) = cond_both (is_zero b) [] (b ∷ before_zero bs) (λ t. t ++ drop (length t) (b ∷ bs) ≡ b ∷ bs) (λ _. refl) (λ _. ap (λ t. b ∷ t) (split bs))

pub held_field : (bs : List ℕ) → holds_name bs ≡ true → field (length bs) (before_zero bs) ≡ bs
held_field bs h =
    let rest = drop (length (before_zero bs)) bs in
    let z = all_zero rest (and_parts (spelled (before_zero bs)) _ h).1 in
    let long = ap length (split bs) in
    let n : length rest ≡ length bs - length (before_zero bs) = omega (arith, length-append (before_zero bs) rest) in
    ap (λ k. before_zero bs ++ replicate k 0) (sym n) ∙ ap (λ t. before_zero bs ++ t) (sym z) ∙ split bs

pub held_well_formed : (bs : List ℕ) → holds_name bs ≡ true → well_formed (length bs) (before_zero bs) ≡ true
held_well_formed bs h =
    and_from _ _ (and_parts (spelled (before_zero bs)) _ h).0
    (le-leb _ _ (omega (arith, ap length (split bs), length-append (before_zero bs) (drop (length (before_zero bs)) bs))))

-- ---- the first zero byte ends the name
before_zero-length : (bs : List ℕ) → length (before_zero bs) ≡ position_or_len is_zero bs
before_zero-length = is_position_or_len (λ bs. length (before_zero bs)) is_zero refl (λ b bs. cond_both (is_zero b) [] (b ∷ before_zero bs) (λ t. length t ≡ cond (is_zero b) 0 (1 + length (before_zero bs))) (λ h. sym (cond-true _ _ _ h)) (λ h. grind (arith, cond-false)))

-- the place of the first zero byte, or the length where there is none
pub unwrap_or-position : (bs : List ℕ) → unwrap_or (position is_zero bs) (length bs) ≡ length (before_zero bs)
unwrap_or-position bs =
    let n = position_or_len is_zero bs in
    let long = before_zero-length bs in
    cond_both (ltb n (length bs)) (Some n) None (λ o. unwrap_or o (length bs) ≡ length (before_zero bs)) (λ _. sym long) (λ h. grind (arith, prefix_len-le-length, nat_tests))

-- ---- a name in its field
module _ (field : List ℕ) (n : ℕ) (is : n ≡ length (before_zero field)) where
  pub name_read_is : take n field ≡ before_zero field
  name_read_is = ap (λ k. take k field) is ∙ ap (take (length (before_zero field))) (sym (split field)) ∙ take_at (before_zero field) _ _ refl

  fill_is : take (length field - n) (drop n field) ≡ drop (length (before_zero field)) field
  fill_is = take_rest field n ∙ ap (λ k. drop k field) is

  pub holds_is : holds_name field ≡ (spelled (take n field) && list_all is_zero (take (length field - n) (drop n field)))
  holds_is = sym (λ i. spelled (name_read_is i) && list_all is_zero (fill_is i))
