-- Whole recipes: what reading to the end comes to. Assumes nothing.
use Rattle.std.proofs.Common.{◌≡◌, ℕ, zero, suc, ◌+◌, ◌-◌, ◌<◌, ◌≤◌, Bool, true, false, cond, eqb, leb, List, [], ◌∷◌, ◌++◌, length, take, drop, Some, None, Option, sym, refl, ap, ◌∙◌, subst, append_assoc, append-nil, sub-one, arith}
use Rattle.std.specs.List.{AllByRecursion}
use Rattle.std.proofs.lemmas.Bool.{cond-true, cond-false, le-leb, leb-true, cond_both, true≢false}
use Rattle.std.proofs.Math.Seq.{take-append-add}
use Rattle.std.proofs.ByRecursion.{All-drop}
use Rattle.std.proofs.lemmas.List.{flat_map_more, length-append, length-take-le, length-drop, take_at, drop_at}
use Rattle.format.specs.Names.{before_zero, holds_name}
use Rattle.format.specs.Commands.{Form, Word, end, opcode, size, command_of, encode, encode_all, extent, Proper}
use Rattle.format.specs.Reading.{Read, got, refused, operands_read, command_read, first_read, is_end, before, Reading, read_from, read_all}
use Rattle.format.specs.Recipes.{Bytes, NotEnd, Stopped, Ended, named, named_operands, settled, Whole, followed}
use Rattle.format.specs.declared.command.Opcode.{Opcode}
use Rattle.format.specs.declared.command.Opcode.TheVariants.{Wire, Machine, Rule, Par, Hide, Unless, Refine, End}
use Rattle.format.specs.declared.refusal.Refusal.{Refusal}
use Rattle.format.specs.declared.refusal.Refusal.TheVariants.{EndOfBytes, UnknownCommand, MissingOperands, MalformedName, MisplacedRule, BytesAfterEnd, TooLong, NoSpace, OutOfMemory}
use Rattle.format.proofs.Roundtrip.{Taken, Sound, first_encoded, first_sound}

-- ---- one command on
-- reading on from a place is reading what is left from there
pub read_skip : (form : Form) (k : ℕ) (bs : List ℕ) → read_from form k bs ≡ read_all form (drop k bs)
read_skip form zero bs = refl
read_skip form (suc k) [] = refl
read_skip form (suc k) (b ∷ bs) = read_skip form k bs

some_used : (form : Form) (w : Word) (n : ℕ) (bs : List ℕ) → Taken form bs w n → 0 < n
some_used form w n bs h = omega (arith, h.long)

-- reading is reading the first command, and then behind it
pub read_step : (form : Form) (bs : List ℕ) (w : Word) (n : ℕ) → first_read form bs ≡ got w n → 0 < n → read_all form bs ≡ before w (read_all form (drop n bs))
read_step form [] w n e h = absurd (cc)
read_step form (b ∷ bs) w zero e h = absurd (omega arith)
read_step form (b ∷ bs) w (suc n) e h =
    ap (λ (r : Read). elim r [ got w n ↦ before w (read_from form (n - 1) bs) | refused r ↦ record { words = []; ending = Some r } ]) e
    ∙ ap (λ k. before w (read_from form k bs)) (sub-one (suc n))
    ∙ ap (before w) (read_skip form n bs)

pub read_refused : (form : Form) (bs : List ℕ) (r : Refusal) → first_read form bs ≡ refused r → read_all form bs ≡ record { words = []; ending = Some r }
read_refused form [] r e = let same : EndOfBytes ≡ r = cc in ap (λ x. record { words = []; ending = Some x }) same
read_refused form (b ∷ bs) r e = ap (λ (r : Read). elim r [ got w n ↦ before w (read_from form (n - 1) bs) | refused r ↦ record { words = []; ending = Some r } ]) e

-- ---- commands that are written are read back
pub end_only : (w : Word) → is_end w ≡ true → w ≡ end
end_only (Word.wire name) e = absurd (true≢false (sym e))
end_only (Word.machine n) e = absurd (true≢false (sym e))
end_only (Word.rule f t p a m) e = absurd (true≢false (sym e))
end_only Word.par e = absurd (true≢false (sym e))
end_only (Word.hide g) e = absurd (true≢false (sym e))
end_only (Word.unless w) e = absurd (true≢false (sym e))
end_only (Word.refine k) e = absurd (true≢false (sym e))
end_only Word.end e = refl

before_more : (w : Word) (r : Reading) → NotEnd w → before w r ≡ followed (w ∷ []) r
before_more w r h = cond-false (is_end w) _ _ h

-- a read that found no byte
abbrev at_end : Read → Bool
at_end (got w n) = false
at_end (refused EndOfBytes) = true
at_end (refused UnknownCommand) = false
at_end (refused MissingOperands) = false
at_end (refused MalformedName) = false
at_end (refused MisplacedRule) = false
at_end (refused BytesAfterEnd) = false
at_end (refused TooLong) = false
at_end (refused NoSpace) = false
at_end (refused OutOfMemory) = false

module _ (form : Form) where
  read_encoded : (w : Word) (t : List ℕ) → Proper form w → NotEnd w → read_all form (encode form w ++ t) ≡ followed (w ∷ []) (read_all form t)
  read_encoded w t p h =
      read_step form (encode form w ++ t) w (length (encode form w)) (first_encoded form w t p (λ e. absurd (true≢false (sym e ∙ h)))) (omega arith)
      ∙ ap (λ x. before w (read_all form x)) (drop_at (encode form w) t (length (encode form w)) refl)
      ∙ before_more w (read_all form t) h

  pub read_among : (ws : List Word) (t : List ℕ) → AllByRecursion (Proper form) ws → AllByRecursion NotEnd ws → read_all form (encode_all form ws ++ t) ≡ followed ws (read_all form t)
  read_among [] t p h = refl
  read_among (w ∷ ws) t p h =
      ap (read_all form) (append_assoc (encode form w) (encode_all form ws) t)
      ∙ read_encoded w (encode_all form ws ++ t) p.0 h.0
      ∙ ap (followed (w ∷ [])) (read_among ws t p.1 h.1)

  encode_more : (ws : List Word) (w : Word) → encode_all form (ws ++ w ∷ []) ≡ encode_all form ws ++ encode form w
  encode_more ws w = sym (flat_map_more (encode form) [] ws w)

  pub read_whole : (ws : List Word) → AllByRecursion (Proper form) ws → AllByRecursion NotEnd ws → form.has (opcode end) ≡ true → read_all form (encode_all form (ws ++ end ∷ [])) ≡ record { words = ws ++ end ∷ []; ending = None }
  read_whole ws p h has =
      let last : read_all form (encode form end) ≡ record { words = end ∷ []; ending = None } = read_step form (encode form end) end 1 (first_encoded form end [] (has, tt) (λ _. refl)) (omega arith) in
      ap (read_all form) (encode_more ws end) ∙ read_among ws (encode form end) p h ∙ ap (followed ws) last

  -- ---- what reading to the end comes to
  grown : (bs : List ℕ) (w : Word) (n : ℕ) → Taken form bs w n → NotEnd w → (ws : List Word) (e : Option Refusal) → Ended form (drop n bs) ws e → Ended form bs (w ∷ ws) e
  grown bs w n h not ws None d = record {
    whole = ap (λ t. encode form w ++ t) d.whole ∙ h.same;
    front = w ∷ d.front;
    last = ap (λ t. w ∷ t) d.last;
    once = (not, d.once);
    proper = (h.proper, d.proper);
  }
  grown bs w n h not ws (Some r) d = record {
    behind = d.behind;
    split = append_assoc (encode form w) (encode_all form ws) d.behind ∙ ap (λ t. encode form w ++ t) d.split ∙ h.same;
    asked = d.asked;
    none = (not, d.none);
    proper = (h.proper, d.proper);
  }

  abbrev Ends : List ℕ → Reading → Type 0
  Ends bs r = Ended form bs r.words r.ending

  finished : (bs : List ℕ) (w : Word) (n : ℕ) → Taken form bs w n → is_end w ≡ true → Ends bs (record { words = w ∷ []; ending = None })
  finished bs w n h e = record {
    whole = ap (λ t. encode form w ++ t) (sym (h.alone e)) ∙ h.same;
    front = [];
    last = ap (λ x. x ∷ []) (end_only w e);
    once = tt;
    proper = (h.proper, tt);
  }

  ended_first : (bs : List ℕ) → ((k : ℕ) → 0 < k → Ends (drop k bs) (read_all form (drop k bs))) → (r : Read) → first_read form bs ≡ r → Sound form bs r → Ends bs (read_all form bs)
  ended_first bs more (refused r) e h = subst (Ends bs) (sym (read_refused form bs r e)) (record { behind = bs; split = refl; asked = e; none = tt; proper = tt })
  ended_first bs more (got w n) e h =
      let some = some_used form w n bs h in
      subst (Ends bs) (sym (read_step form bs w n e some))
      (cond_both (is_end w) _ _ (Ends bs) (finished bs w n h) (λ not. grown bs w n h not _ _ (more n some)))

  ended_by : (n : ℕ) (bs : List ℕ) → length bs ≤ n → Bytes bs → Ends bs (read_all form bs)
  ended_by n [] l s = record { behind = []; split = refl; asked = refl; none = tt; proper = tt }
  ended_by zero (b ∷ bs) l s = absurd (omega arith)
  ended_by (suc n) (b ∷ bs) l s =
      let more : (k : ℕ) → 0 < k → Ends (drop k (b ∷ bs)) (read_all form (drop k (b ∷ bs))) =
      λ k h. ended_by n (drop k (b ∷ bs)) (omega (arith, length-drop k (b ∷ bs))) (All-drop (λ x. x < 256) k (b ∷ bs) s) in
      ended_first (b ∷ bs) more (first_read form (b ∷ bs)) refl (first_sound form (b ∷ bs) s)

  pub ended : (bs : List ℕ) → Bytes bs → Ends bs (read_all form bs)
  ended bs s = ended_by (length bs) bs (omega arith) s

  -- ---- no settled refusal hangs on what stands behind it
  unsettled : (r e : Refusal) → refused r ≡ refused e → settled r ≡ false → settled e ≡ true → ⊥
  unsettled r e q f s = let same : r ≡ e = cc in true≢false (sym s ∙ ap settled (sym same) ∙ f)

  got_not : (w : Word) (n : ℕ) (e : Refusal) → got w n ≡ refused e → ⊥
  got_not w n e q = cc

  operands_some : (k : Opcode) (bs : List ℕ) → at_end (operands_read form k bs) ≡ false
  operands_some Wire bs = cond_both (holds_name (take form.width bs)) _ _ (λ x. at_end x ≡ false) (λ _. refl) (λ _. refl)
  operands_some Machine bs = refl
  operands_some Rule bs = refl
  operands_some Par bs = refl
  operands_some Hide bs = refl
  operands_some Unless bs = refl
  operands_some Refine bs = refl
  operands_some End bs = cond_both (eqb (length bs) 0) _ _ (λ x. at_end x ≡ false) (λ _. refl) (λ _. refl)

  command_some : (o : Option Opcode) (bs : List ℕ) → at_end (command_read form o bs) ≡ false
  command_some None bs = refl
  command_some (Some k) bs = cond_both (leb (size form k) (length bs)) _ _ (λ x. at_end x ≡ false) (λ _. operands_some k bs) (λ _. refl)

  no_byte : (bs : List ℕ) → first_read form bs ≡ refused EndOfBytes → bs ≡ []
  no_byte [] q = refl
  no_byte (b ∷ bs) q = absurd (true≢false (sym (ap at_end q) ∙ command_some (command_of form b) bs))

  operands_blind : (k : Opcode) (bs t : List ℕ) (e : Refusal) → size form k ≤ length bs → settled e ≡ true → operands_read form k bs ≡ refused e → operands_read form k (take (size form k) bs ++ t) ≡ refused e
  operands_blind Wire bs t e l s q =
      let same : take form.width (take form.width bs ++ t) ≡ take form.width bs = take_at (take form.width bs) t form.width (length-take-le form.width bs l) in
      ap (λ x. cond (holds_name x) (got (Word.wire (before_zero x)) (suc form.width)) (refused MalformedName)) same ∙ q
  operands_blind Machine bs t e l s q = absurd (got_not _ _ e q)
  operands_blind Rule bs t e l s q = absurd (got_not _ _ e q)
  operands_blind Par bs t e l s q = absurd (got_not _ _ e q)
  operands_blind Hide bs t e l s q = absurd (got_not _ _ e q)
  operands_blind Unless bs t e l s q = absurd (got_not _ _ e q)
  operands_blind Refine bs t e l s q = absurd (got_not _ _ e q)
  operands_blind End bs t e l s q =
      absurd (cond_both (eqb (length bs) 0) _ _ (λ x. x ≡ refused e → ⊥) (λ _. got_not _ _ e) (λ _ p. unsettled BytesAfterEnd e p refl s) q)

  command_blind : (o : Option Opcode) (bs t : List ℕ) (e : Refusal) → settled e ≡ true → command_read form o bs ≡ refused e → command_read form o (take (named_operands form o) bs ++ t) ≡ refused e
  command_blind None bs t e s q = q
  command_blind (Some k) bs t e s q =
      cond_both (leb (size form k) (length bs)) (operands_read form k bs) (refused MissingOperands) (λ x. x ≡ refused e → command_read form (Some k) (take (size form k) bs ++ t) ≡ refused e)
      (λ l p.
      let enough = leb-true _ _ l in
      let long = length-append (take (size form k) bs) t in
      let whole = length-take-le (size form k) bs enough in
      let still : size form k ≤ length (take (size form k) bs ++ t) = omega arith in
      cond-true _ _ _ (le-leb _ _ still) ∙ operands_blind k bs t e enough s p)
      (λ _ p. absurd (unsettled MissingOperands e p refl s))
      q

  first_blind : (bs t : List ℕ) (e : Refusal) → settled e ≡ true → first_read form bs ≡ refused e → first_read form (take (named form bs) bs ++ t) ≡ refused e
  first_blind [] t e s q = absurd (unsettled EndOfBytes e q refl s)
  first_blind (b ∷ bs) t e s q = command_blind (command_of form b) bs t e s q

  stopped_blind : (bs : List ℕ) (ws : List Word) (e : Refusal) → Stopped form bs ws e → settled e ≡ true → (t : List ℕ) → let p = extent form ws in read_all form (take (p + named form (drop p bs)) bs ++ t) ≡ record { words = ws; ending = Some e }
  stopped_blind bs ws e h s t =
      let p = extent form ws in
      let at : drop p bs ≡ h.behind = ap (drop p) (sym h.split) ∙ drop_at (encode_all form ws) h.behind p refl in
      let n = named form h.behind in
      let cut : take (p + named form (drop p bs)) bs ≡ encode_all form ws ++ take n h.behind =
      ap (λ x. take (p + named form x) bs) at ∙ ap (take (p + n)) (sym h.split) ∙ take-append-add (encode_all form ws) h.behind n in
      let rest = take n h.behind ++ t in
      ap (λ x. read_all form (x ++ t)) cut
      ∙ ap (read_all form) (append_assoc (encode_all form ws) (take n h.behind) t)
      ∙ read_among ws rest h.proper h.none
      ∙ ap (followed ws) (read_refused form rest e (first_blind h.behind t e s h.asked))
      ∙ ap (λ u. record { words = u; ending = Some e }) (append-nil ws)

  blind_at : (bs : List ℕ) (r : Reading) → Ends bs r → (e : Refusal) → r.ending ≡ Some e → settled e ≡ true → (t : List ℕ) → let p = extent form r.words in read_all form (take (p + named form (drop p bs)) bs ++ t) ≡ r
  blind_at bs r d e q s t =
      stopped_blind bs r.words e (subst (Ended form bs r.words) q d) s t ∙ ap (λ x. record { words = r.words; ending = x }) (sym q)

  -- ---- only where no byte is left is that the refusal
  short_at : (bs : List ℕ) (r : Reading) → Ends bs r → r.ending ≡ Some EndOfBytes → extent form r.words ≡ length bs
  short_at bs r d q =
      let h = subst (Ended form bs r.words) q d in
      let none = no_byte h.behind h.asked in
      ap length (sym (append-nil (encode_all form r.words)) ∙ ap (λ t. encode_all form r.words ++ t) (sym none) ∙ h.split)

  before_at : (bs : List ℕ) (r : Reading) → Ends bs r → (e : Refusal) → r.ending ≡ Some e → (t : List ℕ) → read_all form (take (extent form r.words) bs ++ t) ≡ followed r.words (read_all form t)
  before_at bs r d e q t =
      let h = subst (Ended form bs r.words) q d in
      let front = encode_all form r.words in
      ap (λ x. read_all form (take (length front) x ++ t)) (sym h.split)
      ∙ ap (λ x. read_all form (x ++ t)) (take_at front h.behind (length front) refl)
      ∙ read_among r.words t h.proper h.none

  pub whole : (bs : List ℕ) → Bytes bs → Whole form bs (read_all form bs)
  whole bs s =
      let r = read_all form bs in
      let d = ended bs s in
      record {
        ended = d;
        complete = λ has ws p h e. ap (read_all form) e ∙ read_whole ws p h has;
        short = short_at bs r d;
        before = before_at bs r d;
        blind = blind_at bs r d;
      }
