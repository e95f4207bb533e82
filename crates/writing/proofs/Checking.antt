-- The first refusal of a recipe that is to be rewritten, found command by command. Assumes nothing.
use Rattle.std.proofs.Common.{◌≡◌, ℕ, ◌+◌, ◌<◌, ◌≤◌, Bool, true, false, List, length, drop, Some, None, Ok, Err, Option, sym, ap, ◌∙◌, subst, arith}
use Rattle.std.proofs.ByRecursion.{All-drop}
use Rattle.std.proofs.lemmas.List.{length-append, length-drop}
use Rattle.std.proofs.lemmas.Bool.{cond-true, cond-false, cond_both}
use Rattle.format.specs.Commands.{Word, encode, today}
use Rattle.format.specs.Reading.{got, first_read, is_end, before, Reading, read_all}
use Rattle.format.specs.Recipes.{Bytes}
use Rattle.format.specs.Values.{answer, taken}
use Rattle.writing.specs.Rewriting.{opens, misplaced, first_refusal, refusal_of}
use Rattle.format.specs.declared.refusal.Refusal.TheVariants.{MisplacedRule}
use Rattle.format.specs.declared.refusal.RecipeError.{RecipeError}
use Rattle.format.proofs.Keeping.{got_from, refused_from}
use Rattle.format.proofs.Roundtrip.{Taken, Sound, first_sound}
use Rattle.format.proofs.Readings.{read_step, read_refused}

-- the first refusal from here on, of what is read from here on
abbrev pub refusal_from : ℕ → Bool → Reading → Option RecipeError
refusal_from at within r = first_refusal at within r.words r.ending

-- no refusal stood before `position`
pub record Clear (bs rest : List ℕ) (position : ℕ) (within : Bool) : Type 0 where
  pub same : refusal_of bs ≡ refusal_from position within (read_all today rest)
  pub bytes : Bytes rest

-- what a read took that answered a command
pub record Took (rest : List ℕ) (position : ℕ) (w : Word) (rest' : List ℕ) (position' : ℕ) : Type 0 where
  pub size : ℕ
  pub is : first_read today rest ≡ got w size
  pub behind : rest' ≡ drop size rest
  pub at : position' ≡ position + size

pub took : (rest : List ℕ) (position : ℕ) (w : Word) (rest' : List ℕ) (position' : ℕ) → Ok w ≡ answer position (first_read today rest) → rest' ≡ drop (taken (first_read today rest)) rest → position' ≡ position + taken (first_read today rest) → Took rest position w rest' position'
took rest position w rest' position' e r p =
    let n = got_from (first_read today rest) w position e in
    record {
      size = n.0;
      is = n.1;
      behind = r ∙ ap (λ x. drop (taken x) rest) n.1;
      at = p ∙ ap (λ x. position + taken x) n.1;
    }

module _ {bs rest : List ℕ} {position : ℕ} {within : Bool} (h : Clear bs rest position within) where
  pub clear_refused : (e : RecipeError) → Err e ≡ answer position (first_read today rest) → Some e ≡ refusal_of bs
  clear_refused e q =
      let r = refused_from (first_read today rest) e position q in
      ap (λ n. Some (record { refusal = e.refusal; position = n })) r.1 ∙ sym (ap (refusal_from position within) (read_refused today rest e.refusal r.0)) ∙ sym h.same

  module _ {w : Word} {rest' : List ℕ} {position' : ℕ} (t : Took rest position w rest' position') where
    pub clear_taken : Taken today rest w t.size
    clear_taken = subst (Sound today rest) t.is (first_sound today rest h.bytes)

    pub clear_some : 0 < t.size
    clear_some = omega (arith, clear_taken.long)

    pub clear_within : t.size ≤ length rest
    clear_within = omega (arith, clear_taken.long, ap length clear_taken.same, length-append (encode today w) (drop t.size rest))

    pub clear_shorter : length rest' < length rest
    clear_shorter = omega (arith, ap length t.behind, length-drop t.size rest, clear_some, clear_within)

    step : refusal_of bs ≡ refusal_from position within (before w (read_all today (drop t.size rest)))
    step = h.same ∙ ap (refusal_from position within) (read_step today rest w t.size t.is clear_some)

    pub clear_misplaced : misplaced within w ≡ true → refusal_of bs ≡ Some (record { refusal = MisplacedRule; position = position })
    clear_misplaced stray =
        step ∙ cond_both (is_end w) _ _ (λ r. refusal_from position within r ≡ Some (record { refusal = MisplacedRule; position = position }))
        (λ _. cond-true (misplaced within w) _ _ stray) (λ _. cond-true (misplaced within w) _ _ stray)

    pub clear_end : misplaced within w ≡ false → is_end w ≡ true → refusal_of bs ≡ None
    clear_end placed e = step ∙ ap (refusal_from position within) (cond-true (is_end w) _ _ e) ∙ cond-false (misplaced within w) _ _ placed

    pub clear_more : misplaced within w ≡ false → is_end w ≡ false → Clear bs rest' position' (opens w)
    clear_more placed e =
        let at : position + length (encode today w) ≡ position' = omega (arith, clear_taken.long, t.at) in
        record {
          same = step
              ∙ ap (refusal_from position within) (cond-false (is_end w) _ _ e)
              ∙ cond-false (misplaced within w) _ _ placed
              ∙ (λ i. refusal_from (at i) (opens w) (read_all today (sym t.behind i)));
          bytes = subst Bytes (sym t.behind) (All-drop (λ b. b < 256) t.size rest h.bytes);
        }
