-- Counting and keeping the commands of a recipe as they are read: what is known so far, and one command more. Assumes nothing.
use Rattle.std.proofs.Common.{◌≡◌, ℕ, ◌+◌, ◌^◌, ◌<◌, ◌≤◌, Bool, true, false, List, [], ◌∷◌, ◌++◌, map, length, get_or, drop, Some, None, Ok, Err, Result, sym, refl, ap, ◌∙◌, subst, inl, append_assoc, append-nil, arith, w8, Fits}
use Rattle.std.proofs.ByRecursion.{All-drop, All-from_get_or}
use Rattle.std.proofs.lemmas.List.{flat_map_more, length-append, map-append}
use Rattle.std.proofs.lemmas.Bool.{cond-true, cond-false}
use Rattle.format.specs.Commands.{Word, encode, encode_all, extent, today}
use Rattle.format.specs.Reading.{Read, got, refused, first_read, is_end, before, read_all}
use Rattle.format.specs.Recipes.{Bytes, followed}
use Rattle.format.specs.Values.{Address, behind, word, Lies, NamesLie, answer, taken, counted, RefusedBy}
use Rattle.format.specs.Stepping.{is_last, Reads, Steps}
use Rattle.format.specs.declared.command.Command.{Command}
use Rattle.format.specs.declared.commands.Commands.{Commands}
use Rattle.format.specs.declared.reader.Reader.{Reader}
use Rattle.format.specs.declared.refusal.Refusal.{Refusal}
use Rattle.format.specs.declared.refusal.RecipeError.{RecipeError}
use Rattle.format.proofs.Roundtrip.{Taken, Sound, first_sound}
use Rattle.format.proofs.Readings.{read_step, read_refused}

-- what a read answered, as a read of bytes
pub got_from : (r : Read) (w : Word) (at : ℕ) → Ok w ≡ answer at r → (n : ℕ) × (r ≡ got w n)
got_from (got v n) w at e = let same : w ≡ v = cc in (n, ap (λ x. got x n) (sym same))
got_from (refused r) w at e = absurd (cc)

pub refused_from : (r : Read) (e : RecipeError) (at : ℕ) → Err e ≡ answer at r → (r ≡ refused e.refusal) × (e.position ≡ at)
refused_from (got v n) e at h = absurd (cc)
refused_from (refused r) e at h = let same : e ≡ record { refusal = r; position = at } = cc in (ap (λ x. refused x.refusal) (sym same), ap (λ x. x.position) same)

pub bytes_from : (bs : List ℕ) → ((i : ℕ) → Fits w8 (get_or bs i 0)) → Bytes bs
bytes_from bs h = All-from_get_or (λ b. b < 256) bs 0 (λ i _. (h i).fits)

-- the reader stands at `rest`, behind the commands `ws` of the recipe `bs`
pub record Walked (bs : List ℕ) (ws : List Word) (rest : List ℕ) (position : ℕ) : Type 0 where
  pub read : read_all today bs ≡ followed ws (read_all today rest)
  pub at : position ≡ extent today ws
  pub bytes : Bytes rest

-- the same, where END may be the last of the commands
abbrev pub Given : Bool → List ℕ → List Word → Reader → Type 0
Given false bs ws reader = Walked bs ws reader.rest.now reader.position
Given true bs ws reader = read_all today bs ≡ record { words = ws; ending = None }

-- so many commands were given
pub record Counting (bs : List ℕ) (s : Commands) (count : ℕ) : Type 0 where
  pub words : List Word
  pub given : Given s.ended bs words s.reader
  pub many : count ≡ length words

-- the recipe begins at `place`, and the commands that were given are kept
pub record Sofar (bs : List ℕ) (place : Address) (s : Commands) (cs : List Command) : Type 0 where
  pub given : Given s.ended bs (map word cs) s.reader
  pub from : s.reader.rest.ref_ptr ≡ behind place s.reader.position
  pub names : NamesLie place cs

-- ---- addresses
behind_behind : (place : Address) (m n : ℕ) → behind (behind place m) n ≡ behind place (m + n)
behind_behind place m n = let e : n + (m + place.1) ≡ m + n + place.1 = omega arith in ap (λ (o : ℕ). (place.0, o)) e

pub behind_none : (place : Address) → place ≡ behind place 0
behind_none place = let e : place.1 ≡ 0 + place.1 = omega arith in ap (λ (o : ℕ). (place.0, o)) e

extent_more : (ws : List Word) (w : Word) → extent today (ws ++ w ∷ []) ≡ extent today ws + length (encode today w)
extent_more ws w = ap length (sym (flat_map_more (encode today) [] ws w)) ∙ length-append (encode_all today ws) (encode today w)

lie_more : (place : Address) (cs : List Command) (c : Command) → NamesLie place cs → Lies (behind (behind place (extent today (map word cs))) 1) c → NamesLie place (cs ++ c ∷ [])
lie_more place [] c h l = (subst (λ p. Lies (behind p 1) c) (sym (behind_none place)) l, tt)
lie_more place (d ∷ cs) c h l =
    let n = length (encode today (word d)) in
    let m = extent today (map word cs) in
    let e : behind place (extent today (map word (d ∷ cs))) ≡ behind (behind place n) m = ap (behind place) (length-append (encode today (word d)) (encode_all today (map word cs))) ∙ sym (behind_behind place n m) in
    (h.0, lie_more (behind place n) cs c h.1 (subst (λ p. Lies (behind p 1) c) e l))

-- ---- one command more
module _ (bs : List ℕ) (ws : List Word) (rest : List ℕ) (position : ℕ) (so : Walked bs ws rest position) where
  pub walk_stopped : (r : Refusal) → first_read today rest ≡ refused r → read_all today bs ≡ record { words = ws; ending = Some r }
  walk_stopped r e = so.read ∙ ap (followed ws) (read_refused today rest r e) ∙ ap (λ t. record { words = t; ending = Some r }) (append-nil ws)

  module _ (w : Word) (n : ℕ) (is : first_read today rest ≡ got w n) where
    taken_here : Taken today rest w n
    taken_here = subst (Sound today rest) is (first_sound today rest so.bytes)

    pub some : 0 < n
    some = omega (arith, taken_here.long)

    pub enough : n ≤ length rest
    enough = omega (arith, taken_here.long, ap length taken_here.same, length-append (encode today w) (drop n rest))

    on : read_all today bs ≡ followed ws (before w (read_all today (drop n rest)))
    on = so.read ∙ ap (followed ws) (read_step today rest w n is some)

    pub walk_more : (rest' : List ℕ) (position' : ℕ) → is_end w ≡ false → rest' ≡ drop n rest → position' ≡ position + n → Walked bs (ws ++ w ∷ []) rest' position'
    walk_more rest' position' other same at =
        let r = read_all today (drop n rest) in
        record {
          read = on
              ∙ ap (followed ws) (cond-false (is_end w) _ _ other)
              ∙ ap (λ t. record { words = t; ending = r.ending }) (sym (append_assoc ws (w ∷ []) r.words))
              ∙ ap (λ t. followed (ws ++ w ∷ []) (read_all today t)) (sym same);
          at = let e = extent_more ws w in omega (arith, so.at, taken_here.long);
          bytes = subst Bytes (sym same) (All-drop (λ b. b < 256) n rest so.bytes);
        }

    pub walk_done : is_end w ≡ true → read_all today bs ≡ record { words = ws ++ w ∷ []; ending = None }
    walk_done e = on ∙ ap (followed ws) (cond-true (is_end w) _ _ e)

-- each command has a byte at least
pub few_words : (ws : List Word) → length ws ≤ extent today ws
few_words [] = omega arith
few_words (w ∷ ws) = omega (arith, few_words ws, length-append (encode today w) (encode_all today ws))

-- what a step gave, by another word for it
pub step_is : {read read' : Result Command RecipeError} (s t : Commands) → read ≡ read' → Steps s (Some read) t → Steps s (Some read') t
step_is s t same step = subst (λ r. Steps s (Some r) t) same step

-- a read is a step of a recipe's commands that have not ended
pub read_steps : (s : Reader) (read : Result Command RecipeError) (t : Reader) → Reads s read t → Steps (record { reader = s; ended = false }) (Some read) (record { reader = t; ended = is_last read })
read_steps s read t r = (refl, r, refl)

-- ---- one step more
module _ (bs : List ℕ) (ws : List Word) (s : Commands) (so : Given s.ended bs ws s.reader) where
  walked : s.ended ≡ false → Walked bs ws s.reader.rest.now s.reader.position
  walked e = subst (λ b. Given b bs ws s.reader) e so

  module _ (t : Commands) where
    given_refused : (e : RecipeError) → Steps s (Some (Err e)) t → (read_all today bs ≡ record { words = ws; ending = Some e.refusal }) × (e.position ≡ extent today ws)
    given_refused e step =
        let so = walked step.0 in
        let h = refused_from (first_read today s.reader.rest.now) e s.reader.position step.1.value in
        (walk_stopped bs ws s.reader.rest.now s.reader.position so e.refusal h.0, h.1 ∙ so.at)

    module _ (c : Command) (step : Steps s (Some (Ok c)) t) where
      here : (n : ℕ) × (first_read today s.reader.rest.now ≡ got (word c) n)
      here = got_from (first_read today s.reader.rest.now) (word c) s.reader.position step.1.value

      given_more : Given t.ended bs (ws ++ word c ∷ []) t.reader
      given_more =
          let so = walked step.0 in
          let read = step.1 in
          let at : (b : Bool) → is_end (word c) ≡ b → Given b bs (ws ++ word c ∷ []) t.reader = λ b. elim b as (λ b. is_end (word c) ≡ b → Given b bs (ws ++ word c ∷ []) t.reader) [
            | true ↦ λ e. walk_done bs ws s.reader.rest.now s.reader.position so (word c) here.0 here.1 e
            | false ↦ λ e. walk_more bs ws s.reader.rest.now s.reader.position so (word c) here.0 here.1 t.reader.rest.now t.reader.position e
                (read.rest ∙ ap (λ r. drop (taken r) s.reader.rest.now) here.1)
                (read.position ∙ ap (λ r. s.reader.position + taken r) here.1)
          ] in
          at t.ended (sym step.2)

      -- the commands are no more than bytes
      room : length ws + 1 < 2 ^ 64
      room =
          let so = walked step.0 in
          omega (arith, so.at, few_words ws, some bs ws s.reader.rest.now s.reader.position so (word c) here.0 here.1, enough bs ws s.reader.rest.now s.reader.position so (word c) here.0 here.1, s.reader.fits)

-- ---- one command more that is counted
module _ (bs : List ℕ) (s : Commands) (count : ℕ) (so : Counting bs s count) where
  module _ (t : Commands) where
    pub count_refused : (e : RecipeError) → Steps s (Some (Err e)) t → Err e ≡ counted (read_all today bs)
    count_refused e step =
        let h = given_refused bs so.words s so.given t e step in
        ap (λ n. Err (record { refusal = e.refusal; position = n })) h.1 ∙ sym (ap counted h.0)

    module _ (c : Command) (step : Steps s (Some (Ok c)) t) where
      pub count_room : count + 1 < 2 ^ 64
      count_room = omega (arith, so.many, room bs so.words s so.given t c step)

      pub count_more : Counting bs t (count + 1)
      count_more = record {
        words = so.words ++ word c ∷ [];
        given = given_more bs so.words s so.given t c step;
        many = omega (arith, so.many, length-append so.words (word c ∷ []));
      }

      -- where it is not the last
      pub count_on : t.ended ≡ false → Counting bs (record { reader = t.reader; ended = false }) (count + 1)
      count_on on = subst (λ b. Counting bs (record { reader = t.reader; ended = b }) (count + 1)) on count_more

-- ---- one command more that is kept
module _ (bs : List ℕ) (place : Address) (s : Commands) (cs : List Command) (so : Sofar bs place s cs) where
  module _ (t : Commands) where
    pub kept_refused : (e : RecipeError) → Steps s (Some (Err e)) t → RefusedBy (read_all today bs) e
    kept_refused e step =
        let h = given_refused bs (map word cs) s so.given t e step in
        inl (ap (λ x. x.ending) h.0, h.1 ∙ ap (λ x. extent today x.words) (sym h.0))

    pub kept_more : (c : Command) → Steps s (Some (Ok c)) t → Sofar bs place t (cs ++ c ∷ [])
    kept_more c step =
        let read = step.1 in
        let n = taken (first_read today s.reader.rest.now) in
        let so_walked = walked bs (map word cs) s so.given step.0 in
        record {
          given = subst (λ ws. Given t.ended bs ws t.reader) (sym (map-append word cs (c ∷ []))) (given_more bs (map word cs) s so.given t c step);
          from = read.place ∙ ap (λ p. behind p n) so.from ∙ behind_behind place s.reader.position n ∙ ap (behind place) (sym read.position);
          names = lie_more place cs c so.names (subst (λ p. Lies (behind p 1) c) (so.from ∙ ap (behind place) so_walked.at) read.name);
        }

    -- where it is not the last
    pub kept_on : (c : Command) → Steps s (Some (Ok c)) t → t.ended ≡ false → Sofar bs place (record { reader = t.reader; ended = false }) (cs ++ c ∷ [])
    kept_on c step on = subst (λ b. Sofar bs place (record { reader = t.reader; ended = b }) (cs ++ c ∷ [])) on (kept_more c step)
