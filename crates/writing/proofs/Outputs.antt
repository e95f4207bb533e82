-- Commands put into an output. Assumes nothing.
use Rattle.std.proofs.Common.{◌≡◌, ℕ, ◌+◌, ◌≤◌, true, List, [], ◌∷◌, ◌++◌, length, take, drop, IfOk, Ok, Err, Result, sym, refl, ap, ◌∙◌, append_assoc, append-nil, arith}
use Rattle.std.proofs.ByRecursion.{All-push}
use Rattle.std.proofs.lemmas.List.{flat_map_more, length-append, length-take-le, take_at, drop_at}
use Rattle.std.proofs.lemmas.Bool.{cond_both, cond-true, leb-true, true≢false}
use Rattle.format.specs.Commands.{Word, wire, machine, rule, par, hide, unless, refine, end, opcode, byte, operands, encode, encode_all, Fitting, Proper, today}
use Rattle.format.specs.Reading.{got, first_read, read_all}
use Rattle.format.specs.Recipes.{NotEnd}
use Rattle.writing.specs.Writing.{placed, fits, put_answer, put_output, well_named, write_answer, written, Wrote, EndedWith}
use Rattle.writing.specs.Writers.{answered, Writes}
use Rattle.format.specs.declared.refusal.Refusal.TheVariants.{NoSpace}
use Rattle.writing.specs.declared.writer.Unwritten.{Unwritten}
use Rattle.format.proofs.Roundtrip.{first_encoded}
use Rattle.format.proofs.Readings.{read_whole}

pub fitting_named : (w : Word) → Fitting today w → well_named w ≡ true
fitting_named (wire name) h = h
fitting_named (machine n) h = refl
fitting_named (rule f t p a e) h = refl
fitting_named par h = refl
fitting_named (hide g) h = refl
fitting_named (unless w) h = refl
fitting_named (refine k) h = refl
fitting_named end h = refl

-- ---- what was written
take_placed : (at : ℕ) (bytes out : List ℕ) → at ≤ length out → take (at + length bytes) (placed at bytes out) ≡ take at out ++ bytes
take_placed at bytes out le =
    let front = take at out in
    let long : length (front ++ bytes) ≡ at + length bytes = length-append front bytes ∙ ap (λ n. n + length bytes) (length-take-le at out le) in
    ap (take (at + length bytes)) (sym (append_assoc front bytes (drop (at + length bytes) out))) ∙ take_at (front ++ bytes) (drop (at + length bytes) out) (at + length bytes) long

-- a command that was put: there was space, and the answer is the place behind it
pub record Put (w : Word) (at : ℕ) (before : List ℕ) (end-at : ℕ) (after : List ℕ) : Type 0 where
  pub room : at + length (encode today w) ≤ length before
  pub behind : end-at ≡ at + length (encode today w)
  pub output : after ≡ placed at (encode today w) before

pub put : (w : Word) (at : ℕ) (before : List ℕ) (end-at : ℕ) (after : List ℕ) → Ok end-at ≡ answered at (put_answer at (encode today w) before) → after ≡ put_output at (encode today w) before → Put w at before end-at after
put w at before end-at after e o =
    let bytes = encode today w in
    cond_both (fits at bytes before) (Ok (at + length bytes)) (Err NoSpace) (λ x. Ok end-at ≡ answered at x → Put w at before end-at after)
    (λ f q. let same : end-at ≡ at + length bytes = cc in record { room = leb-true _ _ f; behind = same; output = o ∙ cond-true (fits at bytes before) _ _ f })
    (λ _ q. cc)
    e

module _ (w : Word) (at : ℕ) (before : List ℕ) (end-at : ℕ) (after : List ℕ) (h : Put w at before end-at after) (fit : Fitting today w) where
  cut : take end-at after ≡ take at before ++ encode today w
  cut = (λ i. take (h.behind i) (h.output i)) ∙ take_placed at (encode today w) before (omega (arith, h.room))

  behind_it : List ℕ
  behind_it = drop (at + length (encode today w)) before

  stands : drop at after ≡ encode today w ++ behind_it
  unfolding behind_it
  stands =
      let within : at ≤ length before = omega (arith, h.room) in
      ap (drop at) h.output ∙ drop_at (take at before) (encode today w ++ behind_it) at (length-take-le at before within)

  encodings : (ws : List Word) → encode_all today ws ≡ take at before → encode_all today (ws ++ w ∷ []) ≡ take end-at after
  encodings ws e = sym (flat_map_more (encode today) [] ws w) ∙ ap (λ t. t ++ encode today w) e ∙ sym cut

  -- it is read back, whatever stands behind it
  pub wrote : NotEnd w → Wrote w at before end-at after
  wrote other = record {
    back = ap (first_read today) stands ∙ first_encoded today w behind_it (refl, fit) (λ e. absurd (true≢false (sym e ∙ other)));
    adds = λ ws k. record {
      whole = encodings ws k.whole;
      proper = All-push (Proper today) ws w k.proper (refl, fit);
      none = All-push NotEnd ws w k.none other;
    };
  }

  -- and any command where the recipe ends behind it
  pub back_last : first_read today (drop at (take end-at after)) ≡ got w (length (encode today w))
  back_last =
      let within : at ≤ length before = omega (arith, h.room) in
      let here : drop at (take end-at after) ≡ encode today w = ap (drop at) cut ∙ drop_at (take at before) (encode today w) at (length-take-le at before within) in
      ap (first_read today) (here ∙ sym (append-nil (encode today w))) ∙ first_encoded today w [] (refl, fit) (λ _. refl)

-- END, from what its writer answered
pub ended : (at : ℕ) (before : List ℕ) (end-at : ℕ) (after : List ℕ) → Ok end-at ≡ answered at (write_answer end at before) → after ≡ written end at before → EndedWith at before end-at after
ended at before end-at after e o =
    let h = put end at before end-at after e o in
    record {
      back = back_last end at before end-at after h tt;
      whole = λ ws k. ap (read_all today) (sym (encodings end at before end-at after h tt ws k.whole)) ∙ read_whole today ws k.proper k.none refl;
    }

-- any other command, from what putting it answered
pub writes : (w : Word) (at : ℕ) (bytes : List ℕ) (r : Result ℕ (Unwritten ℕ)) (before after : List ℕ) → r ≡ answered at (put_answer at (byte (opcode w) ∷ bytes) before) → after ≡ put_output at (byte (opcode w) ∷ bytes) before → bytes ≡ operands today w → Fitting today w → NotEnd w → Writes w at before r after
writes w at bytes r before after value output is fit not =
    let named = fitting_named w fit in
    let v = value ∙ ap (λ b. answered at (put_answer at (byte (opcode w) ∷ b) before)) is in
    let o = output ∙ ap (λ b. put_output at (byte (opcode w) ∷ b) before) is in
    let law : (a : Result ℕ (Unwritten ℕ)) → a ≡ answered at (put_answer at (encode today w) before) → IfOk a (λ n. Wrote w at before n after) = elim [
      | Ok n ↦ λ e. wrote w at before n after (put w at before n after e o) fit not
      | Err x ↦ λ _. tt
    ] in
    record {
      value = v ∙ ap (answered at) (sym (cond-true (well_named w) _ _ named));
      output = o ∙ sym (cond-true (well_named w) _ _ named);
      law = law r v;
    }
