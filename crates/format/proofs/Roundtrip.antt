-- One command: reading what was encoded, and encoding what was read. Assumes nothing.
use Rattle.std.proofs.Common.{◌≡◌, ℕ, suc, ◌+◌, ◌^◌, ◌<◌, ◌≤◌, Bool, true, false, cond, eqb, leb, List, [], ◌∷◌, ◌++◌, length, get_or, take, drop, Some, None, Option, sym, refl, ap, ◌∙◌, subst, append_assoc, arith}
use Rattle.std.proofs.lemmas.Bool.{and_parts, cond-true, eqb-true, le-leb, leb-true, cond_both, true≢false}
use Rattle.std.proofs.ByRecursion.{All-get_or, All-take, All-drop}
use Rattle.std.proofs.lemmas.List.{length-append, length-take-le, length-drop, take_at, drop_more, take-append-drop, drop-drop}
use Rattle.signals.specs.Bytes.{eight}
use Rattle.signals.proofs.Numbers.{number_eight, eight_number, number_below}
use Rattle.format.specs.Names.{well_formed, spelled, field, before_zero, holds_name}
use Rattle.format.specs.Commands.{Form, Word, wire, machine, rule, par, hide, unless, refine, end, opcode, byte, size, opcode_of, if_had, operands, encode, Fitting, Proper}
use Rattle.format.specs.Reading.{Read, got, refused, set_at, operands_read, command_read, first_read, is_end}
use Rattle.format.specs.Recipes.{Bytes}
use Rattle.format.specs.declared.command.Opcode.{Opcode}
use Rattle.format.specs.declared.command.Opcode.TheVariants.{Wire, Machine, Rule, Par, Hide, Unless, Refine, End}
use Rattle.format.proofs.Spelling.{before_field, field_holds, field_length, held_field, held_well_formed}

-- ---- sizes
-- the operands have the size that their kind states
pub operands_length : (form : Form) (w : Word) → Fitting form w → length (operands form w) ≡ size form (opcode w)
operands_length form (wire name) h = field_length form.width name (leb-true _ _ (and_parts (spelled name) _ h).1)
operands_length form (machine n) h = refl
operands_length form (rule f t p a e) h = refl
operands_length form par h = refl
operands_length form (hide g) h = refl
operands_length form (unless w) h = refl
operands_length form (refine k) h = refl
operands_length form end h = refl

pub byte_opcode : (k : Opcode) → opcode_of (byte k) ≡ Some k
byte_opcode Wire = refl
byte_opcode Machine = refl
byte_opcode Rule = refl
byte_opcode Par = refl
byte_opcode Hide = refl
byte_opcode Unless = refl
byte_opcode Refine = refl
byte_opcode End = refl

-- ---- reading what was encoded
abbrev Alone : Word → List ℕ → Type 0
Alone w rest = is_end w ≡ true → rest ≡ []

operands_back : (form : Form) (w : Word) (rest : List ℕ) → Fitting form w → Alone w rest → operands_read form (opcode w) (operands form w ++ rest) ≡ got w (suc (size form (opcode w)))
operands_back form (wire name) rest h alone =
    let s = and_parts (spelled name) _ h in
    let e = take_at (field form.width name) rest form.width (operands_length form (wire name) h) in
    cond-true _ _ _ (ap holds_name e ∙ field_holds form.width name s.0)
    ∙ ap (λ t. got (wire (before_zero t)) (suc form.width)) e
    ∙ ap (λ t. got (wire t) (suc form.width)) (before_field form.width name s.0)
operands_back form (machine n) rest h alone = refl
operands_back form (rule f t p a e) rest h alone =
    λ i. got (rule f t (number_eight p h.2 i) (number_eight a h.3 i) (number_eight e h.4 i)) 27
operands_back form par rest h alone = refl
operands_back form (hide g) rest h alone = λ i. got (hide (number_eight g h i)) 9
operands_back form (unless w) rest h alone = refl
operands_back form (refine k) rest h alone = refl
operands_back form end rest h alone = cond-true _ _ _ (ap (λ t. eqb (length t) 0) (alone refl))

pub first_encoded : (form : Form) (w : Word) (rest : List ℕ) → Proper form w → Alone w rest → first_read form (encode form w ++ rest) ≡ got w (length (encode form w))
first_encoded form w rest h alone =
    let k = opcode w in
    let l = operands_length form w h.1 in
    let bs = operands form w ++ rest in
    let enough : size form k ≤ length bs = omega (arith, length-append (operands form w) rest) in
    ap (λ o. command_read form (if_had form o) bs) (byte_opcode k)
    ∙ ap (λ o. command_read form o bs) (cond-true (form.has k) (Some k) None h.0)
    ∙ cond-true _ _ _ (le-leb _ _ enough)
    ∙ operands_back form w rest h.1 alone
    ∙ ap (λ n. got w (suc n)) (sym l)

-- ---- encoding what was read
-- a byte that begins a command is that command's byte
abbrev Known : ℕ → Option Opcode → Type 0
Known b None = Unit {0}
Known b (Some k) = b ≡ byte k

known : (b : ℕ) → Known b (opcode_of b)
known b =
    let at : (k : Opcode) (rest : Option Opcode) → Known b rest → Known b (cond (eqb b (byte k)) (Some k) rest) = λ k rest h. cond_both (eqb b (byte k)) (Some k) rest (Known b) (eqb-true b (byte k)) (λ _. h) in
    at Wire _ (at Machine _ (at Rule _ (at Par _ (at Hide _ (at Unless _ (at Refine _ (at End _ tt)))))))

-- what a command that was read has to do with the bytes
pub record Taken (form : Form) (bs : List ℕ) (w : Word) (n : ℕ) : Type 0 where
  pub proper : Proper form w
  pub same : encode form w ++ drop n bs ≡ bs
  pub long : n ≡ length (encode form w)
  pub alone : Alone w (drop n bs)

abbrev pub Sound : Form → List ℕ → Read → Type 0
Sound form bs (got w n) = Taken form bs w n
Sound form bs (refused r) = Unit {0}

set_back : (i : ℕ) (bs : List ℕ) → Bytes bs → i + 8 ≤ length bs → (set_at i bs < 2 ^ 64) × (eight (set_at i bs) ≡ take 8 (drop i bs))
set_back i bs s l =
    let part = take 8 (drop i bs) in
    let long : length part ≡ 8 = length-take-le 8 (drop i bs) (omega (arith, length-drop i bs)) in
    let small = All-take (λ b. b < 256) 8 (drop i bs) (All-drop (λ b. b < 256) i bs s) in
    (number_below part long small, eight_number part long small)

first_operand : (bs : List ℕ) → 1 ≤ length bs → get_or bs 0 0 ∷ drop 1 bs ≡ bs
first_operand bs h = sym (drop_more bs 0 0 h)

piece : (i : ℕ) (bs : List ℕ) → take 8 (drop i bs) ++ drop (i + 8) bs ≡ drop i bs
piece i bs = ap (λ t. take 8 (drop i bs) ++ t) (sym (drop-drop 8 i bs)) ∙ take-append-drop 8 (drop i bs)

regroup : (a b c d : List ℕ) → (a ++ (b ++ c)) ++ d ≡ a ++ (b ++ (c ++ d))
regroup a b c d = simp append_assoc

operands_sound : (form : Form) (k : Opcode) (bs : List ℕ) → Bytes bs → size form k ≤ length bs → form.has k ≡ true → Sound form (byte k ∷ bs) (operands_read form k bs)
operands_sound form Wire bs s l has =
    let name = take form.width bs in
    let long : length name ≡ form.width = length-take-le form.width bs l in
    cond_both (holds_name name) _ _ (Sound form (1 ∷ bs))
    (λ h.
    let e : field form.width (before_zero name) ≡ name = ap (λ n. field n (before_zero name)) (sym long) ∙ held_field name h in
    record {
      proper = (has, ap (λ n. well_formed n (before_zero name)) (sym long) ∙ held_well_formed name h);
      same = ap (λ t. 1 ∷ (t ++ drop form.width bs)) e ∙ ap (λ t. 1 ∷ t) (take-append-drop form.width bs);
      long = ap suc (sym long ∙ ap length (sym e));
      alone = λ q. absurd (true≢false (sym q));
    })
    (λ _. tt)
operands_sound form Machine bs s l has = record { proper = (has, All-get_or (λ b. b < 256) bs 0 0 l s); same = ap (λ t. 2 ∷ t) (first_operand bs l); long = refl; alone = λ e. absurd (true≢false (sym e)) }
operands_sound form Rule bs s l has =
    let p = set_back 2 bs s (omega arith) in
    let a = set_back 10 bs s (omega arith) in
    let e = set_back 18 bs s (omega arith) in
    let sets : (eight (set_at 2 bs) ++ (eight (set_at 10 bs) ++ eight (set_at 18 bs))) ++ drop 26 bs ≡ drop 2 bs =
    (λ i. (p.1 i ++ (a.1 i ++ e.1 i)) ++ drop 26 bs)
    ∙ regroup (take 8 (drop 2 bs)) (take 8 (drop 10 bs)) (take 8 (drop 18 bs)) (drop 26 bs)
    ∙ ap (λ t. take 8 (drop 2 bs) ++ (take 8 (drop 10 bs) ++ t)) (piece 18 bs)
    ∙ ap (λ t. take 8 (drop 2 bs) ++ t) (piece 10 bs)
    ∙ piece 2 bs in
    record {
      proper = (has, (All-get_or (λ b. b < 256) bs 0 0 (omega arith) s, All-get_or (λ b. b < 256) bs 1 0 (omega arith) s, p.0, a.0, e.0));
      same = ap (λ t. 3 ∷ get_or bs 0 0 ∷ get_or bs 1 0 ∷ t) sets ∙ ap (λ t. 3 ∷ get_or bs 0 0 ∷ t) (sym (drop_more bs 1 0 (omega arith))) ∙ ap (λ t. 3 ∷ t) (first_operand bs (omega arith));
      long = refl;
      alone = λ q. absurd (true≢false (sym q));
    }
operands_sound form Par bs s l has = record { proper = (has, tt); same = refl; long = refl; alone = λ e. absurd (true≢false (sym e)) }
operands_sound form Hide bs s l has =
    let p = set_back 0 bs s l in
    record { proper = (has, p.0); same = ap (λ t. 5 ∷ (t ++ drop 8 bs)) p.1 ∙ ap (λ t. 5 ∷ t) (take-append-drop 8 bs); long = refl; alone = λ e. absurd (true≢false (sym e)) }
operands_sound form Unless bs s l has = record { proper = (has, All-get_or (λ b. b < 256) bs 0 0 l s); same = ap (λ t. 6 ∷ t) (first_operand bs l); long = refl; alone = λ e. absurd (true≢false (sym e)) }
operands_sound form Refine bs s l has = record { proper = (has, All-get_or (λ b. b < 256) bs 0 0 l s); same = ap (λ t. 7 ∷ t) (first_operand bs l); long = refl; alone = λ e. absurd (true≢false (sym e)) }
operands_sound form End [] s l has = record { proper = (has, tt); same = refl; long = refl; alone = λ _. refl }
operands_sound form End (b ∷ bs) s l has = cond_both (eqb (suc (length bs)) 0) _ _ (Sound form (8 ∷ b ∷ bs)) (λ e. absurd (omega (arith, eqb-true (suc (length bs)) 0 e))) (λ _. tt)

command_sound : (form : Form) (b : ℕ) (o : Option Opcode) (bs : List ℕ) → Known b o → Bytes bs → Sound form (b ∷ bs) (command_read form (if_had form o) bs)
command_sound form b None bs h s = tt
command_sound form b (Some k) bs h s =
    let at : (has : Bool) → form.has k ≡ has → Sound form (b ∷ bs) (command_read form (cond has (Some k) None) bs) =
    elim [
      | true ↦ λ e. cond_both (leb (size form k) (length bs)) _ _ (Sound form (b ∷ bs)) (λ l. subst (λ x. Sound form (x ∷ bs) (operands_read form k bs)) (sym h) (operands_sound form k bs s (leb-true _ _ l) e)) (λ _. tt)
      | false ↦ λ _. tt
    ] in
    at (form.has k) refl

pub first_sound : (form : Form) (bs : List ℕ) → Bytes bs → Sound form bs (first_read form bs)
first_sound form [] s = tt
first_sound form (b ∷ bs) s = command_sound form b (opcode_of b) bs (known b) s.1
