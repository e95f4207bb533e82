-- A composition accepts exactly when everything awake is in order, and an accepted input has exactly one reading. Assumes nothing.
use Rattle.std.specs.Prelude.{◌≡◌, ℕ, true, cond, Ok, Err, ◌==◌, refl}
use Rattle.std.proofs.Common.{sym, ap, subst, ◌∙◌, ⊎_elim}
use Rattle.std.proofs.lemmas.Bool.{cond-true, cond-false, cases_Bool}
use Rattle.signals.specs.Sets.{union, intersection, difference, subset, has}
use Rattle.parts.specs.Courses.{Answer}
use Rattle.parts.specs.Operators.{both, under, Move, with_outputs, join_move, awake_answer}
use Rattle.parts.specs.Trees.{Composition, part, parallel, encapsulation, inhibition, moved, StagedComposition, staged, refinement, Reacting, stage_of, answer_of, move_of, outputs, chosen_of, chosen}
use Rattle.parts.specs.Readings.{Accepted, Settles, Site, at_part, at_staged, at_encapsulation, Reading, leaf, pair, set, asleep, open_to, Awake, here, left, right, itself, inside, free, moving, AwakeStaged, here_staged, base, refined, InOrder, Reads, read_part, read_parallel, read_encapsulation, read_asleep, read_free, read_moved, ReadsMove, read_staged, read_refined, read_unrefined, OneReading}
use Rattle.parts.specs.Searching.{ok_same, both_ok, Opened, opened, closed}

pub outputs_ok : (a : Answer Move) (o : ℕ) → outputs a ≡ Ok o → (v : Move) × (a ≡ Ok v) × (o ≡ v.0)
outputs_ok (Ok v) o e = (v, refl, cc)
outputs_ok (Err f) o e = cc

settles_from : (g place o : ℕ) (f : ℕ → Answer ℕ) → Opened g f place o → Settles g f
settles_from g place o f h = (h.setting, (h.within, (h.inner, h.gives, h.settles)), λ t c. h.unique t c.1.0 c.0 c.1.1 c.1.2)

module _ {L M : Type 0} (R : Reacting L M) where
  -- ---- an accepted input finds everything awake in order
  mutual
    pub order : {t : Composition L M} {x y : ℕ} {site : Site L M} → Awake R t x site y → (o : ℕ) → answer_of R t x ≡ Ok o → InOrder R site y
    order here o e = (o, e)
    order (left {a} {b} {x} w) o e = let p = both_ok union (answer_of R a x) (answer_of R b x) o e in order w p.0 p.2
    order (right {a} {b} {x} w) o e = let p = both_ok union (answer_of R a x) (answer_of R b x) o e in order w p.1 p.3
    order (itself {g} {place} {x} {c}) o e = settles_from g place o _ (opened g (λ s. answer_of R c (under g x s)) place o e)
    order (inside {g} {place} {x} {c = c} s h w) o e = let a = (opened g (λ s. answer_of R c (under g x s)) place o e).accepts s h in order w a.0 a.1
    order (free {w} {x} {c = c} h a) o e = order a o (sym (cond-false (has x w) (Ok 0) (answer_of R c x) h) ∙ e)
    order (moving {m} {x} w) o e = let v = outputs_ok (move_of R m x) o e in order_staged w v.0 v.1

    pub order_staged : {m : StagedComposition L M} {x y : ℕ} {site : Site L M} → AwakeStaged R m x site y → (v : Move) → move_of R m x ≡ Ok v → InOrder R site y
    order_staged here_staged v e = (v, e)
    order_staged (base {k} {x} {m = m} {c} w) v e = let p = both_ok with_outputs (move_of R m x) (awake_answer k (stage_of R m) (answer_of R c x)) v e in order_staged w p.0 p.2
    order_staged (refined {k} {x} {m = m} {c} h w) v e =
        let p = both_ok with_outputs (move_of R m x) (awake_answer k (stage_of R m) (answer_of R c x)) v e in
        order w p.1 (sym (cond-true (stage_of R m == k) _ _ h) ∙ p.3)

  -- ---- where everything awake is in order, the input is accepted
  mutual
    pub accepting : (t : Composition L M) (x : ℕ) → ((site : Site L M) (y : ℕ) → Awake R t x site y → InOrder R site y) → Accepted (answer_of R t x)
    accepting (part l) x h = h (at_part l) x here
    accepting (parallel a b) x h =
        let p = accepting a x (λ s y w. h s y (left w)) in
        let q = accepting b x (λ s y w. h s y (right w)) in
        (union p.0 q.0, (λ i. both union (p.1 i) (q.1 i)))
    accepting (encapsulation g place c) x h =
        let all = λ (s : ℕ) (w : subset s g ≡ true). accepting c (under g x s) (λ site y a. h site y (inside s w a)) in
        let one = h (at_encapsulation g c) x itself in
        (difference one.1.1.0 g, closed g (λ s. answer_of R c (under g x s)) place all one)
    accepting (inhibition w c) x h = ⊎_elim
        (λ e. (0, cond-true (has x w) (Ok 0) (answer_of R c x) e))
        (λ e. let p = accepting c x (λ s y a. h s y (free e a)) in (p.0, cond-false (has x w) (Ok 0) (answer_of R c x) e ∙ p.1))
        (cases_Bool (has x w))
    accepting (moved m) x h = let v = accepting_move m x (λ s y a. h s y (moving a)) in (v.0.0, ap outputs v.1)

    pub accepting_move : (m : StagedComposition L M) (x : ℕ) → ((site : Site L M) (y : ℕ) → AwakeStaged R m x site y → InOrder R site y) → Accepted (move_of R m x)
    accepting_move (staged m) x h = h (at_staged m) x here_staged
    accepting_move (refinement k m c) x h =
        let v = accepting_move m x (λ s y a. h s y (base a)) in
        ⊎_elim
        (λ e. let p = accepting c x (λ s y a. h s y (refined e a)) in (with_outputs v.0 p.0, (λ i. join_move (v.1 i) ((cond-true (stage_of R m == k) (answer_of R c x) (Ok 0) e ∙ p.1) i))))
        (λ e. (with_outputs v.0 0, (λ i. join_move (v.1 i) (cond-false (stage_of R m == k) (answer_of R c x) (Ok 0) e i))))
        (cases_Bool (stage_of R m == k))

  -- ---- an accepted input has a reading
  mutual
    reading : (t : Composition L M) (x o : ℕ) → answer_of R t x ≡ Ok o → (r : Reading) × Reads R t x r o
    reading (part l) x o e = (leaf, read_part e)
    reading (parallel a b) x o e =
        let p = both_ok union (answer_of R a x) (answer_of R b x) o e in
        let q = reading a x p.0 p.2 in
        let r = reading b x p.1 p.3 in
        (pair q.0 r.0, subst (Reads R (parallel a b) x (pair q.0 r.0)) (sym p.4) (read_parallel q.1 r.1))
    reading (encapsulation g place c) x o e =
        let h = opened g (λ s. answer_of R c (under g x s)) place o e in
        let q = reading c (under g x h.setting) h.inner h.gives in
        (set h.setting q.0, subst (Reads R (encapsulation g place c) x (set h.setting q.0)) (sym h.output) (read_encapsulation h.within q.1 h.settles))
    reading (inhibition w c) x o e = ⊎_elim
        (λ h. let z : 0 ≡ o = ok_same (answer_of R (inhibition w c) x) 0 o (cond-true (has x w) (Ok 0) (answer_of R c x) h) e in (asleep, subst (Reads R (inhibition w c) x asleep) z (read_asleep h)))
        (λ h. let q = reading c x o (sym (cond-false (has x w) (Ok 0) (answer_of R c x) h) ∙ e) in (open_to q.0, read_free h q.1))
        (cases_Bool (has x w))
    reading (moved m) x o e =
        let v = outputs_ok (move_of R m x) o e in
        let q = reading_move m x v.0 v.1 in
        (q.0, subst (Reads R (moved m) x q.0) (sym v.2) (read_moved q.1))

    reading_move : (m : StagedComposition L M) (x : ℕ) (v : Move) → move_of R m x ≡ Ok v → (r : Reading) × ReadsMove R m x r v
    reading_move (staged m) x v e = (leaf, read_staged e)
    reading_move (refinement k m c) x v e =
        let p = both_ok with_outputs (move_of R m x) (awake_answer k (stage_of R m) (answer_of R c x)) v e in
        let q = reading_move m x p.0 p.2 in
        ⊎_elim
        (λ h. let r = reading c x p.1 (sym (cond-true (stage_of R m == k) (answer_of R c x) (Ok 0) h) ∙ p.3) in (pair q.0 r.0, subst (ReadsMove R (refinement k m c) x (pair q.0 r.0)) (sym p.4) (read_refined h q.1 r.1)))
        (λ h. let z : p.1 ≡ 0 = ok_same (awake_answer k (stage_of R m) (answer_of R c x)) p.1 0 p.3 (cond-false (stage_of R m == k) (answer_of R c x) (Ok 0) h) in (pair q.0 asleep, subst (ReadsMove R (refinement k m c) x (pair q.0 asleep)) (sym (p.4 ∙ ap (with_outputs p.0) z)) (read_unrefined h q.1)))
        (cases_Bool (stage_of R m == k))

  -- ---- and no other: the settings are those that were chosen
  abbrev mutual
    the_reading : Composition L M → ℕ → Reading
    the_reading (part l) x = leaf
    the_reading (parallel a b) x = pair (the_reading a x) (the_reading b x)
    the_reading (encapsulation g place c) x = let s = chosen g (λ s. answer_of R c (under g x s)) in set s (the_reading c (under g x s))
    the_reading (inhibition w c) x = cond (has x w) asleep (open_to (the_reading c x))
    the_reading (moved m) x = the_move_reading m x

    the_move_reading : StagedComposition L M → ℕ → Reading
    the_move_reading (staged m) x = leaf
    the_move_reading (refinement k m c) x = pair (the_move_reading m x) (cond (stage_of R m == k) (the_reading c x) asleep)

  mutual
    no_other : {t : Composition L M} {x p : ℕ} {q : Reading} → Reads R t x q p → (o : ℕ) → answer_of R t x ≡ Ok o → (q ≡ the_reading t x) × (p ≡ o)
    no_other (read_part {l} {x} {o = p} e) o d = (refl, ok_same (R.answer l x) p o e d)
    no_other (read_parallel {a} {b} {x} w y) o d =
        let z = both_ok union (answer_of R a x) (answer_of R b x) o d in
        let m = no_other w z.0 z.2 in
        let n = no_other y z.1 z.3 in
        ((λ i. pair (m.0 i) (n.0 i)), (λ i. union (m.1 i) (n.1 i)) ∙ sym z.4)
    no_other (read_encapsulation {g} {place} {x} {s} {c = c} h w settles) o d =
        let f = λ (s : ℕ). answer_of R c (under g x s) in
        let op = opened g f place o d in
        let acc = op.accepts s h in
        let m = no_other w acc.0 acc.1 in
        let is : s ≡ op.setting = op.unique s acc.0 h acc.1 (ap (λ n. intersection n g) (sym m.1) ∙ settles) in
        let chose : op.setting ≡ chosen g f = sym (ap chosen_of op.found) in
        let inner : acc.0 ≡ op.inner = ok_same (f s) acc.0 op.inner acc.1 (ap f is ∙ op.gives) in
        (ap (set s) m.0 ∙ ap (λ n. set n (the_reading c (under g x n))) (is ∙ chose), ap (λ n. difference n g) (m.1 ∙ inner) ∙ sym op.output)
    no_other (read_asleep {w} {x} {c} h) o d = (sym (cond-true (has x w) _ _ h), ok_same (answer_of R (inhibition w c) x) 0 o (cond-true (has x w) (Ok 0) (answer_of R c x) h) d)
    no_other (read_free {w} {x} {c = c} h a) o d =
        let m = no_other a o (sym (cond-false (has x w) (Ok 0) (answer_of R c x) h) ∙ d) in
        (ap open_to m.0 ∙ sym (cond-false (has x w) asleep (open_to (the_reading c x)) h), m.1)
    no_other (read_moved {m} {x} a) o d =
        let v = outputs_ok (move_of R m x) o d in
        let n = no_other_move a v.0 v.1 in
        (n.0, ap (λ u. u.0) n.1 ∙ sym v.2)

    no_other_move : {m : StagedComposition L M} {x : ℕ} {u : Move} {q : Reading} → ReadsMove R m x q u → (v : Move) → move_of R m x ≡ Ok v → (q ≡ the_move_reading m x) × (u ≡ v)
    no_other_move (read_staged {m} {x} {v = u} e) v d = (refl, ok_same (R.move m x) u v e d)
    no_other_move (read_refined {k} {x} {m = m} {c} h a b) v d =
        let z = both_ok with_outputs (move_of R m x) (awake_answer k (stage_of R m) (answer_of R c x)) v d in
        let n = no_other_move a z.0 z.2 in
        let p = no_other b z.1 (sym (cond-true (stage_of R m == k) (answer_of R c x) (Ok 0) h) ∙ z.3) in
        ((λ i. pair (n.0 i) ((p.0 ∙ sym (cond-true (stage_of R m == k) (the_reading c x) asleep h)) i)), (λ i. with_outputs (n.1 i) (p.1 i)) ∙ sym z.4)
    no_other_move (read_unrefined {k} {x} {m} {c} h a) v d =
        let z = both_ok with_outputs (move_of R m x) (awake_answer k (stage_of R m) (answer_of R c x)) v d in
        let n = no_other_move a z.0 z.2 in
        let none : 0 ≡ z.1 = ok_same (awake_answer k (stage_of R m) (answer_of R c x)) 0 z.1 (cond-false (stage_of R m == k) (answer_of R c x) (Ok 0) h) z.3 in
        ((λ i. pair (n.0 i) (sym (cond-false (stage_of R m == k) (the_reading c x) asleep h) i)), (λ i. with_outputs (n.1 i) (none i)) ∙ sym z.4)

  pub one_reading : (t : Composition L M) (x o : ℕ) → answer_of R t x ≡ Ok o → OneReading R t x o
  one_reading t x o e =
      let r = reading t x o e in
      (r.0, r.1, λ q p w. let n = no_other w o e in (n.0 ∙ sym (no_other r.1 o e).0, n.1))
