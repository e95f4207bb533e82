-- Eight bytes and the number that they write. Assumes nothing.
use Rattle.std.proofs.Common.{◌≡◌, ℕ, zero, suc, ◌+◌, ◌*◌, ◌/◌, ◌%◌, ◌^◌, ◌<◌, List, [], ◌∷◌, length, get_or, drop, sym, ap, ◌∙◌, subst, arith, lit<}
use Rattle.std.specs.List.{AllByRecursion}
use Rattle.std.proofs.ByRecursion.{All-get_or}
use Rattle.std.proofs.lemmas.List.{drop_more, drop_all}
use Rattle.signals.specs.Bytes.{number, eight}

pub number_eight : (n : ℕ) → n < 2 ^ 64 → number (eight n) ≡ n
number_eight n h = omega arith

-- the n elements from place i on, written out
abbrev pub from_place : ℕ → ℕ → List ℕ → List ℕ
from_place i zero bs = []
from_place i (suc n) bs = get_or bs i 0 ∷ from_place (i + 1) n bs

pub written_out : (i n : ℕ) (bs : List ℕ) → length bs ≡ i + n → drop i bs ≡ from_place i n bs
written_out i zero bs l = drop_all i bs (omega arith)
written_out i (suc n) bs l = drop_more bs i 0 (omega arith) ∙ ap (λ t. get_or bs i 0 ∷ t) (written_out (i + 1) n bs (omega arith))

pub number_of_eight : (bs : List ℕ) → length bs ≡ 8 → get_or bs 0 0 * 72057594037927936 + get_or bs 1 0 * 281474976710656 + get_or bs 2 0 * 1099511627776 + get_or bs 3 0 * 4294967296 + get_or bs 4 0 * 16777216 + get_or bs 5 0 * 65536 + get_or bs 6 0 * 256 + get_or bs 7 0 ≡ number bs
number_of_eight bs l =
    let sum : number (from_place 0 8 bs) ≡ get_or bs 0 0 * 72057594037927936 + get_or bs 1 0 * 281474976710656 + get_or bs 2 0 * 1099511627776 + get_or bs 3 0 * 4294967296 + get_or bs 4 0 * 16777216 + get_or bs 5 0 * 65536 + get_or bs 6 0 * 256 + get_or bs 7 0 = omega arith in
    sym sum ∙ ap number (sym (written_out 0 8 bs l))

-- eight bytes are the bytes of their number
each_byte : (a b c d e f g h : ℕ) → a < 256 → b < 256 → c < 256 → d < 256 → e < 256 → f < 256 → g < 256 → h < 256 → eight (number (a ∷ b ∷ c ∷ d ∷ e ∷ f ∷ g ∷ h ∷ [])) ≡ a ∷ b ∷ c ∷ d ∷ e ∷ f ∷ g ∷ h ∷ []
each_byte a b c d e f g h pa pb pc pd pe pf pg ph =
    let n : ℕ = number (a ∷ b ∷ c ∷ d ∷ e ∷ f ∷ g ∷ h ∷ []) in
    let ea : n / 72057594037927936 % 256 ≡ a = omega arith in
    let eb : n / 281474976710656 % 256 ≡ b = omega arith in
    let ec : n / 1099511627776 % 256 ≡ c = omega arith in
    let ed : n / 4294967296 % 256 ≡ d = omega arith in
    let ee : n / 16777216 % 256 ≡ e = omega arith in
    let ef : n / 65536 % 256 ≡ f = omega arith in
    let eg : n / 256 % 256 ≡ g = omega arith in
    let eh : n % 256 ≡ h = omega arith in
    λ i. ea i ∷ eb i ∷ ec i ∷ ed i ∷ ee i ∷ ef i ∷ eg i ∷ eh i ∷ []

pub eight_number : (bs : List ℕ) → length bs ≡ 8 → AllByRecursion (λ b. b < 256) bs → eight (number bs) ≡ bs
eight_number bs l s =
    let small : (i : ℕ) → i < 8 → get_or bs i 0 < 256 = λ i h. All-get_or (λ b. b < 256) bs i 0 (omega arith) s in
    let same = written_out 0 8 bs l in
    ap (λ t. eight (number t)) same
    ∙ each_byte _ _ _ _ _ _ _ _ (small 0 (lit< tt)) (small 1 (lit< tt)) (small 2 (lit< tt)) (small 3 (lit< tt)) (small 4 (lit< tt)) (small 5 (lit< tt)) (small 6 (lit< tt)) (small 7 (lit< tt))
    ∙ sym same

eight_below : (a b c d e f g h : ℕ) → a < 256 → b < 256 → c < 256 → d < 256 → e < 256 → f < 256 → g < 256 → h < 256 → number (a ∷ b ∷ c ∷ d ∷ e ∷ f ∷ g ∷ h ∷ []) < 2 ^ 64
eight_below a b c d e f g h pa pb pc pd pe pf pg ph = omega arith

-- eight bytes write a number below 2 ^ 64
pub number_below : (bs : List ℕ) → length bs ≡ 8 → AllByRecursion (λ b. b < 256) bs → number bs < 2 ^ 64
number_below bs l s =
    let small : (i : ℕ) → i < 8 → get_or bs i 0 < 256 = λ i h. All-get_or (λ b. b < 256) bs i 0 (omega arith) s in
    subst (λ t. number t < 2 ^ 64) (sym (written_out 0 8 bs l))
    (eight_below _ _ _ _ _ _ _ _ (small 0 (lit< tt)) (small 1 (lit< tt)) (small 2 (lit< tt)) (small 3 (lit< tt)) (small 4 (lit< tt)) (small 5 (lit< tt)) (small 6 (lit< tt)) (small 7 (lit< tt)))
