-- The search over the settings: what an encapsulation's answer says of its inside. Assumes nothing.
use Rattle.std.specs.Prelude.{◌≡◌, ℕ, zero, suc, ◌+◌, ◌<◌, ◌≤◌, Bool, true, cond, ◌⊎◌, List, [], ◌∷◌, ◌++◌, Ok, Err, filter, map, ◌==◌, ◌≢◌, bit_and}
use Rattle.std.proofs.Math.Path.{refl, ap, subst}
use Rattle.std.proofs.Common.{sym, ◌∙◌, arith}
use Rattle.std.proofs.Math.Logic.{inl, inr, ⊎_elim}
use Rattle.std.proofs.lemmas.Nat.{and_le_r}
use Rattle.std.specs.List.{range_with_len}
use Rattle.std.proofs.lemmas.Bool.{cond_both, cond-true, eqb-true, eq-eqb, cases_eq}
use Rattle.signals.specs.Sets.{intersection, difference, subset}
use Rattle.parts.specs.Lists.{In}
use Rattle.parts.specs.Courses.{Answer}
use Rattle.parts.specs.Operators.{both, settings, settles, settled, only, onto, encapsulate}
use Rattle.parts.specs.Readings.{Accepted, Settles}
use Rattle.parts.specs.declared.fault.Fault.{Fault}

-- ---- answers
pub ok_same : {A : Type 0} (r : Answer A) (a b : A) → r ≡ Ok a → r ≡ Ok b → a ≡ b
ok_same r a b p q = cc

pub ok_not : {A : Type 0} (r : Answer A) (a : A) (f : Fault) → r ≡ Ok a → r ≢ Err f
ok_not r a f p q = cc

pub both_ok : {A B C : Type 0} (f : A → B → C) (a : Answer A) (b : Answer B) (o : C) → both f a b ≡ Ok o → (p : A) × (q : B) × (a ≡ Ok p) × (b ≡ Ok q) × (o ≡ f p q)
both_ok f (Ok a) (Ok b) o e = (a, b, refl, refl, cc)
both_ok f (Ok a) (Err g) o e = cc
both_ok f (Err d) (Ok b) o e = cc
both_ok f (Err d) (Err g) o e = cc

-- ---- elements of a list made of two
pub in_append : {A : Type 0} (a : A) (xs ys : List A) → In a (xs ++ ys) → In a xs ⊎ In a ys
in_append a [] ys i = inr i
in_append a (x ∷ xs) ys i = ⊎_elim (λ e. inl (inl e)) (λ l. ⊎_elim (λ p. inl (inr p)) inr (in_append a xs ys l)) i

pub append_in : {A : Type 0} (a : A) (xs ys : List A) → In a xs ⊎ In a ys → In a (xs ++ ys)
append_in a [] ys i = ⊎_elim (λ z. absurd z) (λ j. j) i
append_in a (x ∷ xs) ys i = ⊎_elim (⊎_elim inl (λ l. inr (append_in a xs ys (inl l)))) (λ j. inr (append_in a xs ys (inr j))) i

-- ---- lists of numbers in rising order
abbrev pub Rising : ℕ → List ℕ → Type 0
Rising b [] = Unit {0}
Rising b (x ∷ xs) = (b ≤ x) × Rising (suc x) xs

rising_from : (a b : ℕ) (xs : List ℕ) → a ≤ b → Rising b xs → Rising a xs
rising_from a b [] h r = tt
rising_from a b (x ∷ xs) h r = (omega (arith, r.0), r.1)

counting_rising : (a n : ℕ) → Rising a (range_with_len a n)
counting_rising a zero = tt
counting_rising a (suc n) = (omega arith, rising_from (suc a) (a + 1) (range_with_len (a + 1) n) (omega arith) (counting_rising (a + 1) n))

kept_rising : (test : ℕ → Bool) (b : ℕ) (xs : List ℕ) → Rising b xs → Rising b (filter test xs)
kept_rising test b [] r = tt
kept_rising test b (x ∷ xs) r =
    cond_both (test x) _ _ (Rising b) (λ _. (r.0, kept_rising test (suc x) xs r.1)) (λ _. rising_from b (suc x) _ (omega (arith, r.0)) (kept_rising test (suc x) xs r.1))

pub settings_rising : (g : ℕ) → Rising 0 (settings g)
settings_rising g = kept_rising (λ s. subset s g) 0 (range_with_len 0 (suc g)) (counting_rising 0 (suc g))

in_counting : (a n s : ℕ) → a ≤ s → s < a + n → In s (range_with_len a n)
in_counting a zero s h l = absurd (omega arith)
in_counting a (suc n) s h l =
    ⊎_elim inl (λ ne. let more : a + 1 ≤ s = omega arith in inr (in_counting (a + 1) n s more (omega arith))) (cases_eq a s)

in_kept : (test : ℕ → Bool) (s : ℕ) (xs : List ℕ) → In s xs → test s ≡ true → In s (filter test xs)
in_kept test s [] i h = i
in_kept test s (x ∷ xs) i h = ⊎_elim
    (λ e. subst (In s) (sym (cond-true (test x) _ _ (ap test e ∙ h))) (inl e))
    (λ l. cond_both (test x) _ _ (In s) (λ _. inr (in_kept test s xs l h)) (λ _. in_kept test s xs l h))
    i

kept_in : (test : ℕ → Bool) (s : ℕ) (xs : List ℕ) → In s (filter test xs) → test s ≡ true
kept_in test s [] i = absurd i
kept_in test s (x ∷ xs) i =
    cond_both (test x) (x ∷ filter test xs) (filter test xs) (λ t. In s t → test s ≡ true)
    (λ h. ⊎_elim (λ e. sym (ap test e) ∙ h) (kept_in test s xs))
    (λ _. kept_in test s xs)
    i

pub in_settings : (g s : ℕ) → subset s g ≡ true → In s (settings g)
in_settings g s h =
    let le : s ≤ g = omega (arith, eqb-true (bit_and s g) s h, and_le_r s g) in
    in_kept (λ t. subset t g) s (range_with_len 0 (suc g)) (in_counting 0 (suc g) s (omega arith) (omega arith)) h

pub settings_in : (g s : ℕ) → In s (settings g) → subset s g ≡ true
settings_in g s i = kept_in (λ t. subset t g) s (range_with_len 0 (suc g)) i

-- ---- what was found under the settings
hit : ℕ → ℕ → Answer ℕ → List (ℕ × ℕ)
hit g s (Ok o) = cond (intersection o g == s) ((s, o) ∷ []) []
hit g s (Err f) = []

hits : ℕ → (ℕ → Answer ℕ) → List ℕ → List (ℕ × ℕ)
hits g f [] = []
hits g f (s ∷ ss) = hit g s (f s) ++ hits g f ss

module _ (g : ℕ) (f : ℕ → Answer ℕ) where
  settled_hits : (ss : List ℕ) → ((s : ℕ) → In s ss → Accepted (f s)) → settled g f ss ≡ Ok (hits g f ss)
  unfolding hit hits
  settled_hits [] h = refl
  settled_hits (s ∷ ss) h =
      let a = h s (inl refl) in
      ap (λ x. both ◌++◌ (settles g s x) (settled g f ss)) a.1
      ∙ ap (both ◌++◌ (settles g s (Ok a.0))) (settled_hits ss (λ t i. h t (inr i)))
      ∙ ap (λ x. Ok (hit g s x ++ hits g f ss)) (sym a.1)

  settled_accepts : (ss : List ℕ) (ps : List (ℕ × ℕ)) → settled g f ss ≡ Ok ps → (s : ℕ) → In s ss → Accepted (f s)
  settled_accepts [] ps e s i = absurd i
  settled_accepts (t ∷ ss) ps e s i =
      let b = both_ok ◌++◌ (settles g t (f t)) (settled g f ss) ps e in
      ⊎_elim (λ q. subst (λ u. Accepted (f u)) q (settles_accepts (f t) b.0 b.2)) (settled_accepts ss b.1 b.3 s) i
    where
      settles_accepts : (a : Answer ℕ) (ps : List (ℕ × ℕ)) → settles g t a ≡ Ok ps → Accepted a
      settles_accepts (Ok o) ps e = (o, refl)
      settles_accepts (Err d) ps e = cc

  -- a pair among the hits: a setting in the list, consistent with that output
  Hit : ℕ × ℕ → Type 0
  Hit p = (f p.0 ≡ Ok p.1) × (intersection p.1 g ≡ p.0)

  hit_is : (s : ℕ) (a : Answer ℕ) (p : ℕ × ℕ) → f s ≡ a → In p (hit g s a) → (s ≡ p.0) × Hit p
  unfolding hit Hit
  hit_is s (Ok o) p e i =
      cond_both (intersection o g == s) ((s, o) ∷ []) [] (λ t. In p t → (s ≡ p.0) × ((f p.0 ≡ Ok p.1) × (intersection p.1 g ≡ p.0)))
      (λ h. ⊎_elim (λ q. subst (λ (r : ℕ × ℕ). (s ≡ r.0) × ((f r.0 ≡ Ok r.1) × (intersection r.1 g ≡ r.0))) q (refl, (e, eqb-true _ _ h))) (λ z. absurd z))
      (λ _ z. absurd z)
      i
  hit_is s (Err d) p e i = absurd i

  hits_in : (ss : List ℕ) (p : ℕ × ℕ) → In p (hits g f ss) → In p.0 ss × Hit p
  unfolding hits
  hits_in [] p i = absurd i
  hits_in (s ∷ ss) p i = ⊎_elim
      (λ l. let h = hit_is s (f s) p refl l in (inl h.0, h.1))
      (λ l. let h = hits_in ss p l in (inr h.0, h.1))
      (in_append p (hit g s (f s)) (hits g f ss) i)

  in_hits : (ss : List ℕ) (s o : ℕ) → In s ss → f s ≡ Ok o → intersection o g ≡ s → In (s, o) (hits g f ss)
  unfolding hits hit
  in_hits [] s o i e c = i
  in_hits (t ∷ ss) s o i e c = append_in (s, o) (hit g t (f t)) (hits g f ss) (⊎_elim
      (λ q. inl (subst (λ u. In (s, o) (hit g u (f u))) (sym q) (subst (λ a. In (s, o) (hit g s a)) (sym e) (subst (In (s, o)) (sym (cond-true (intersection o g == s) _ _ (eq-eqb _ _ c))) (inl refl)))))
      (λ l. inr (in_hits ss s o l e c))
      i)

  -- the settings that were found rise, so none was found twice
  abbrev firsts : List (ℕ × ℕ) → List ℕ
  firsts = map (λ p. p.0)

  hit_rising : (b s : ℕ) (a : Answer ℕ) (ps : List (ℕ × ℕ)) → b ≤ s → Rising (suc s) (firsts ps) → Rising b (firsts (hit g s a ++ ps))
  unfolding hit
  hit_rising b s (Ok o) ps le r =
      cond_both (intersection o g == s) ((s, o) ∷ []) [] (λ t. Rising b (firsts (t ++ ps))) (λ _. (le, r)) (λ _. rising_from b (suc s) (firsts ps) (omega arith) r)
  hit_rising b s (Err d) ps le r = rising_from b (suc s) (firsts ps) (omega arith) r

  hits_rising : (b : ℕ) (ss : List ℕ) → Rising b ss → Rising b (firsts (hits g f ss))
  unfolding hits
  hits_rising b [] r = tt
  hits_rising b (s ∷ ss) r = hit_rising b s (f s) (hits g f ss) r.0 (hits_rising (suc s) ss r.1)

  -- one pair and no other
  single : (b : ℕ) (ps : List (ℕ × ℕ)) (p : ℕ × ℕ) → Rising b (firsts ps) → In p ps → ((q : ℕ × ℕ) → In q ps → q.0 ≡ p.0) → ps ≡ p ∷ []
  single b [] p r i u = absurd i
  single b (q ∷ []) p r i u = ⊎_elim (λ e. ap (λ x. x ∷ []) e) (λ z. absurd z) i
  single b (q ∷ q' ∷ ps) p r i u = let e = u q (inl refl) in let d = u q' (inr (inl refl)) in absurd (omega (arith, r.1.0))

  only_ok : (place o : ℕ) (ps : List (ℕ × ℕ)) → only g place ps ≡ Ok o → (p : ℕ × ℕ) × (ps ≡ p ∷ []) × (o ≡ difference p.1 g)
  only_ok place o [] e = cc
  only_ok place o (p ∷ []) e = (p, refl, cc)
  only_ok place o (p ∷ q ∷ ps) e = cc

  onto_ok : {A : Type 0} (a : Answer A) (k : A → Answer ℕ) (o : ℕ) → onto a k ≡ Ok o → (p : A) × (a ≡ Ok p) × (k p ≡ Ok o)
  onto_ok (Ok p) k o e = (p, refl, e)
  onto_ok (Err d) k o e = cc

  -- ---- what an encapsulation that accepts says of its inside
  pub record Opened (place o : ℕ) : Type 0 where
    pub accepts : (s : ℕ) → subset s g ≡ true → Accepted (f s)
    pub setting : ℕ
    pub within : subset setting g ≡ true
    pub inner : ℕ
    pub gives : f setting ≡ Ok inner
    pub settles : intersection inner g ≡ setting
    pub unique : (s p : ℕ) → subset s g ≡ true → f s ≡ Ok p → intersection p g ≡ s → s ≡ setting
    pub output : o ≡ difference inner g
    pub found : settled g f (settings g) ≡ Ok ((setting, inner) ∷ [])

  pub opened : (place o : ℕ) → encapsulate g place f ≡ Ok o → Opened place o
  unfolding Hit
  opened place o e =
      let a = onto_ok (settled g f (settings g)) (only g place) o e in
      let b = only_ok place o a.0 a.2 in
      let p = b.0 in
      let all = λ (s : ℕ) (h : subset s g ≡ true). settled_accepts (settings g) a.0 a.1 s (in_settings g s h) in
      let is : hits g f (settings g) ≡ p ∷ [] = ok_same (settled g f (settings g)) _ _ (settled_hits (settings g) (λ s i. all s (settings_in g s i))) (a.1 ∙ ap Ok b.1) in
      let h = hits_in (settings g) p (subst (In p) (sym is) (inl refl)) in
      record {
        accepts = all;
        setting = p.0;
        within = settings_in g p.0 h.0;
        inner = p.1;
        gives = h.1.0;
        settles = h.1.1;
        unique = λ s q w v c. ⊎_elim (λ r. ap (λ x. x.0) (sym r)) (λ z. absurd z) (subst (In (s, q)) is (in_hits (settings g) s q (in_settings g s w) v c));
        output = b.2;
        found = a.1 ∙ ap Ok b.1;
      }

  -- ---- and the other way round
  pub closed : (place : ℕ) → ((s : ℕ) → subset s g ≡ true → Accepted (f s)) → (h : Settles g f) → encapsulate g place f ≡ Ok (difference h.1.1.0 g)
  unfolding Hit
  closed place all h =
      let s = h.0 in
      let o = h.1.1.0 in
      let ok = settled_hits (settings g) (λ t i. all t (settings_in g t i)) in
      let one : hits g f (settings g) ≡ (s, o) ∷ [] =
      single 0 (hits g f (settings g)) (s, o) (hits_rising 0 (settings g) (settings_rising g)) (in_hits (settings g) s o (in_settings g s h.1.0) h.1.1.1 h.1.1.2)
      (λ q i. let k = hits_in (settings g) q i in h.2 q.0 (settings_in g q.0 k.0, (q.1, k.1.0, k.1.1))) in
      ap (λ r. onto r (only g place)) (ok ∙ ap Ok one)
