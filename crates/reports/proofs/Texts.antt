-- The lines of a wire list, one line more, and names as text. Assumes nothing.
use Rattle.std.proofs.Common.{◌≡◌, ℕ, ◌+◌, ◌<◌, true, List, [], ◌∷◌, ◌++◌, map, length, get_or, take, is_ok, Ok, Err, IsUtf8, Result, sym, refl, ap, ◌∙◌, append_assoc, append-nil, arith, Bor, MatchResult}
use Rattle.std.specs.List.{AllByRecursion, list_all}
use Rattle.std.proofs.ByRecursion.{IsAscii-from_all}
use Rattle.std.proofs.lemmas.Str.{IsUtf8-from_ascii}
use Rattle.std.proofs.lemmas.List.{take_more, map-append, length-map, length-take-le}
use Rattle.std.proofs.lemmas.Bool.{and_parts}
use Rattle.std.proofs.lemmas.Bool.Decides.{nat_tests}
use Rattle.format.specs.Names.{capital, name_byte, spelled}
use Rattle.reports.specs.Lines.{wire_line_text, wire_lines}
use Rattle.reports.specs.Names.{shown}

-- ---- a name is text
capital_ascii : (b : ℕ) → capital b ≡ true → b < 128
capital_ascii b h = grind (arith, nat_tests)

byte_ascii : (b : ℕ) → name_byte b ≡ true → b < 128
byte_ascii b h = grind (arith, nat_tests)

bytes_ascii : (bs : List ℕ) → list_all name_byte bs ≡ true → AllByRecursion (λ b. b < 128) bs
bytes_ascii [] h = tt
bytes_ascii (b ∷ bs) h = let p = and_parts (name_byte b) _ h in (byte_ascii b p.0, bytes_ascii bs p.1)

name_ascii : (name : List ℕ) → spelled name ≡ true → AllByRecursion (λ b. b < 128) name
name_ascii [] h = tt
name_ascii (b ∷ bs) h = let p = and_parts (capital b) _ h in (capital_ascii b p.0, bytes_ascii bs p.1)

pub name_text : (name : List ℕ) → spelled name ≡ true → IsUtf8 name
name_text name h = IsUtf8-from_ascii name (IsAscii-from_all name (name_ascii name h))

pub ok_from : {A E : Type 0} (U : Type 0) (P : A → Type 0) (V : E → Type 0) (r : Result A E) → U → MatchResult r P (λ e. (U → ⊥) × V e) → is_ok r ≡ true
ok_from U P V (Ok x) u h = refl
ok_from U P V (Err e) u h = absurd (h.0 u)

-- ---- one line more
lines_more : (wire : ℕ) (names : List (List ℕ)) (name : List ℕ) → wire_lines wire (names ++ name ∷ []) ≡ wire_lines wire names ++ wire_line_text (wire + length names) name
lines_more wire [] name = append-nil (wire_line_text wire name) ∙ ap (λ n. wire_line_text n name) (let e : wire ≡ wire + 0 = omega arith in e)
lines_more wire (n ∷ names) name =
    let e : wire + 1 + length names ≡ wire + length (n ∷ names) = omega arith in
    ap (λ t. wire_line_text wire n ++ t) (lines_more (wire + 1) names name ∙ ap (λ k. wire_lines (wire + 1) names ++ wire_line_text k name) e)
    ∙ sym (append_assoc (wire_line_text wire n) (wire_lines (wire + 1) names) _)

pub line_more : (names : List (Bor (List ℕ))) (i : ℕ) (d : Bor (List ℕ)) → i < length names → wire_lines 0 (map shown (take (i + 1) names)) ≡ wire_lines 0 (map shown (take i names)) ++ wire_line_text i (shown (get_or names i d))
line_more names i d l =
    let long : 0 + length (map shown (take i names)) ≡ i = omega (arith, length-map (take i names) shown, length-take-le i names (omega arith)) in
    ap (λ t. wire_lines 0 (map shown t)) (take_more names i d l)
    ∙ ap (wire_lines 0) (map-append shown (take i names) (get_or names i d ∷ []))
    ∙ lines_more 0 (map shown (take i names)) (shown (get_or names i d))
    ∙ ap (λ k. wire_lines 0 (map shown (take i names)) ++ wire_line_text k (shown (get_or names i d))) long
