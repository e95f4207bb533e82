-- Writing what is read: the output so far is the recipe so far. Assumes nothing.
use Rattle.std.proofs.Common.{◌≡◌, ℕ, ◌+◌, ◌≤◌, Bool, true, false, List, ◌++◌, length, take, drop, Some, None, Ok, sym, ap, ◌∙◌, subst, ⊎_elim, append_assoc, arith}
use Rattle.std.proofs.Math.Seq.{take-add}
use Rattle.std.proofs.lemmas.List.{drop-drop, length-append, length-drop, length-take-le, take_all, take_at, drop_at}
use Rattle.std.proofs.lemmas.Bool.{cond-true, cond-false, cases_Bool, le-leb}
use Rattle.format.specs.Commands.{Word, end, encode, today}
use Rattle.writing.specs.Pens.{with_state, pen_answer, pen_output}
use Rattle.format.specs.Reading.{is_end}
use Rattle.writing.specs.Rewriting.{opens, misplaced, refusal_of}
use Rattle.writing.specs.Writing.{placed, fits, well_named, write_answer, written}
use Rattle.format.specs.declared.refusal.RecipeError.{RecipeError}
use Rattle.format.proofs.Variants.{same_ok}
use Rattle.format.proofs.Roundtrip.{Taken}
use Rattle.format.proofs.Readings.{end_only}
use Rattle.writing.proofs.Outputs.{fitting_named}
use Rattle.writing.proofs.Checking.{Clear, Took, clear_taken, clear_within, clear_misplaced, clear_more}

-- the recipe is not refused and has room in the output, which at the loop's start is `out`, and now `after`: its front is the recipe's front
pub record Copied (bs out rest : List ℕ) (position : ℕ) (pen : ℕ) (within : Bool) (after : List ℕ) : Type 0 where
  pub none : refusal_of bs ≡ None
  pub room : length bs ≤ length out
  pub clear : Clear bs rest position within
  pub at : pen ≡ position
  pub rest_is : rest ≡ drop position bs
  pub within_bs : position ≤ length bs
  pub after_is : after ≡ take position bs ++ drop position out

some_none : (e : RecipeError) → Some e ≡ None → ⊥
some_none e q = cc

-- a piece of the recipe put behind its front
placed_front : (bs out piece : List ℕ) (m n : ℕ) → m + n ≤ length bs → length piece ≡ n → piece ≡ take n (drop m bs) → placed m piece (take m bs ++ drop m out) ≡ take (m + n) bs ++ drop (m + n) out
placed_front bs out piece m n le long is =
    let front = take m bs in
    let fl : length front ≡ m = let l : m ≤ length bs = omega arith in length-take-le m bs l in
    let past : drop (m + length piece) (front ++ drop m out) ≡ drop (m + n) out =
    ap (λ k. drop (m + k) (front ++ drop m out)) long ∙ sym (drop-drop n m (front ++ drop m out)) ∙ ap (drop n) (drop_at front (drop m out) m fl) ∙ drop-drop n m out in
    (λ i. take_at front (drop m out) m fl i ++ (is i ++ past i))
    ∙ sym (append_assoc front (take n (drop m bs)) (drop (m + n) out))
    ∙ ap (λ t. t ++ drop (m + n) out) (sym (take-add m n bs))

module _ {bs out rest : List ℕ} {position pen : ℕ} {within : Bool} {after : List ℕ} (h : Copied bs out rest position pen within after) {w : Word} {rest' : List ℕ} {position' : ℕ} (t : Took rest position w rest' position') where
  known : Taken today rest w t.size
  known = clear_taken h.clear t

  pub in_place : misplaced within w ≡ false
  in_place = ⊎_elim
      (λ stray. absurd (some_none _ (sym (clear_misplaced h.clear t stray) ∙ h.none)))
      (λ placed_is. placed_is)
      (cases_Bool (misplaced within w))

  within_rest : t.size ≤ length rest
  within_rest = clear_within h.clear t

  pub room_here : position + t.size ≤ length bs
  room_here = omega (arith, within_rest, ap length h.rest_is, length-drop position bs, h.within_bs)

  piece : encode today w ≡ take t.size (drop position bs)
  piece =
      sym (take_at (encode today w) (drop t.size rest) t.size (sym known.long)) ∙ ap (take t.size) (known.same ∙ h.rest_is)

  after_long : length after ≡ length out
  after_long =
      let front = length-take-le position bs h.within_bs in
      omega (arith, ap length h.after_is, length-append (take position bs) (drop position out), length-drop position out, h.within_bs)

  named : well_named w ≡ true
  named = fitting_named w known.proper.1

  fit : fits pen (encode today w) after ≡ true
  fit = le-leb _ _ (omega (arith, after_long, h.room, room_here, known.long, h.at))

  -- the write is accepted, and the output's front has grown by the command
  pub answer_is : write_answer w pen after ≡ Ok position'
  answer_is =
      let e : pen + length (encode today w) ≡ position' = omega (arith, known.long, h.at, t.at) in
      cond-true (well_named w) _ _ named ∙ cond-true (fits pen (encode today w) after) _ _ fit ∙ ap Ok e

  pub output_is : written w pen after ≡ take position' bs ++ drop position' out
  output_is =
      cond-true (well_named w) _ _ named ∙ cond-true (fits pen (encode today w) after) _ _ fit
      ∙ (λ i. placed (h.at i) (encode today w) (h.after_is i))
      ∙ placed_front bs out (encode today w) position t.size room_here (sym known.long) piece
      ∙ ap (λ k. take k bs ++ drop k out) (sym t.at)

  pub pen_accepts : pen_answer within w pen after ≡ Ok (position', opens w)
  pen_accepts = cond-false (misplaced within w) _ _ in_place ∙ ap (with_state (opens w)) answer_is

  pub copied_more : (pen' : ℕ × Bool) (after' : List ℕ) → is_end w ≡ false → Ok pen' ≡ pen_answer within w pen after → after' ≡ pen_output within w pen after → Copied bs out rest' position' pen'.0 pen'.1 after'
  copied_more pen' after' e p o =
      let same = same_ok (pen_answer within w pen after) pen' (position', opens w) (sym p) pen_accepts in
      record {
        none = h.none;
        room = h.room;
        clear = subst (Clear bs rest' position') (ap (λ x. x.1) (sym same)) (clear_more h.clear t in_place e);
        at = ap (λ x. x.0) same;
        rest_is = t.behind ∙ ap (drop t.size) h.rest_is ∙ drop-drop t.size position bs ∙ ap (λ k. drop k bs) (sym t.at);
        within_bs = omega (arith, room_here, t.at);
        after_is = o ∙ cond-false (misplaced within w) _ _ in_place ∙ output_is;
      }

  module _ (last : is_end w ≡ true) where
    whole : position' ≡ length bs
    whole = omega (arith, t.at, ap length (known.alone last), length-drop t.size rest, ap length h.rest_is, length-drop position bs, h.within_bs, within_rest)

    is_end_word : w ≡ end
    is_end_word = end_only w last

    pub end_answer : write_answer end pen after ≡ Ok (length bs)
    end_answer = ap (λ x. write_answer x pen after) (sym is_end_word) ∙ answer_is ∙ ap Ok whole

    pub end_output : written end pen after ≡ bs ++ drop (length bs) out
    end_output =
        ap (λ x. written x pen after) (sym is_end_word) ∙ output_is ∙ ap (λ k. take k bs ++ drop k out) whole
        ∙ ap (λ t. t ++ drop (length bs) out) (take_all (length bs) bs (omega arith))
