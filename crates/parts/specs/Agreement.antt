-- Courses that agree, and that the operators keep agreement: over whatever stands at the parts, and for any relation between the inputs of the two sides. Assumes nothing.
use Rattle.std.specs.Prelude.{◌≡◌, ℕ, Bool, true, false, cond, List, [], ◌∷◌, ◌++◌, Ok, Err, ◌==◌, refl}
use Rattle.std.proofs.Common.{sym, ap, subst, ◌∙◌, inl, inr}
use Rattle.std.proofs.lemmas.Bool.{cond-true, cond-false, cond_both}
use Rattle.std.specs.List.{AllZip}
use Rattle.signals.specs.Sets.{union, subset, has}
use Rattle.parts.specs.Lists.{In}
use Rattle.parts.specs.Courses.{Answer, Course, run_on, run_of}
use Rattle.parts.specs.Operators.{both, join, settings, under, settles, settled, only, onto, Move, with_outputs, join_move, awake_answer}
use Rattle.parts.specs.Trees.{Composition, part, parallel, encapsulation, inhibition, moved, StagedComposition, staged, refinement, Reacting, stage_of, restarted, put_back, answer_of, move_of, next_of, went_of, outputs, chosen_of, chosen, over_after, course_of, moves_of}
use Rattle.parts.specs.Searching.{both_ok, settings_in, opened}
use Rattle.parts.specs.Accepting.{outputs_ok}

-- ---- agreement
-- courses with equal answers to inputs in the relation
abbrev pub Agree : {A : Type 0} → (ℕ → ℕ → Type 0) → Course A → Course A → Type 0
Agree Q c d = (xs ys : List ℕ) (x y : ℕ) → AllZip Q xs ys → Q x y → c xs x ≡ d ys y

-- Inputs that are in a relation are in another.
abbrev pub Implies : (ℕ → ℕ → Type 0) → (ℕ → ℕ → Type 0) → Type 0
Implies P Q = (x y : ℕ) → P x y → Q x y

-- ---- things with a state
module _ {S T A : Type 0} (answer : S → ℕ → Answer A) (next : S → ℕ → S) (answer' : T → ℕ → Answer A) (next' : T → ℕ → T) (Q : ℕ → ℕ → Type 0) (Rel : S → T → Type 0) (gives : (s : S) (t : T) → Rel s t → (x y : ℕ) → Q x y → answer s x ≡ answer' t y) (kept : (s : S) (t : T) → Rel s t → (x y : ℕ) → Q x y → (a : A) → answer s x ≡ Ok a → Rel (next s x) (next' t y)) where
  step_agree : (s : S) (t : T) → Rel s t → (x y : ℕ) → Q x y → (a : Answer A) → answer s x ≡ a → Rel (run_on answer next a s x) (run_on answer' next' a t y)
  step_agree s t r x y q (Ok a) e = kept s t r x y q a e
  step_agree s t r x y q (Err f) e = r

  pub run_agree : (s : S) (t : T) → Rel s t → Agree Q (run_of answer next s) (run_of answer' next' t)
  run_agree s t r [] [] x y w q = gives s t r x y q
  run_agree s t r [] (v ∷ vs) x y w q = absurd w
  run_agree s t r (u ∷ us) [] x y w q = absurd w
  run_agree s t r (u ∷ us) (v ∷ vs) x y w q =
      run_agree (run_on answer next (answer s u) s u) (run_on answer' next' (answer s u) t v) (step_agree s t r u v w.0 (answer s u) refl) us vs x y w.1 q
      ∙ ap (λ a. run_of answer' next' (run_on answer' next' a t v) vs y) (gives s t r u v w.0)

-- behind accepted inputs
module _ {S T A : Type 0} (answer : S → ℕ → Answer A) (next : S → ℕ → S) (answer' : T → ℕ → Answer A) (next' : T → ℕ → T) (Q : ℕ → ℕ → Type 0) where
  behind_agree : (s : S) (t : T) (x y : ℕ) (a : A) → Q x y → Agree Q (run_of answer next s) (run_of answer' next' t) → answer s x ≡ Ok a → Agree Q (run_of answer next (next s x)) (run_of answer' next' (next' t y))
  behind_agree s t x y a q h e xs ys u v w p =
      ap (λ r. run_of answer next (run_on answer next r s x) xs u) (sym e)
      ∙ h (x ∷ xs) (y ∷ ys) u v (q, w) p
      ∙ ap (λ r. run_of answer' next' (run_on answer' next' r t y) ys v) (sym (h [] [] x y tt q) ∙ e)

-- ---- what stands at the parts
-- A restart forgets what was stepped and that it was restarted, and an accepted move tells the stage that it leads to.
pub record Steady {L M : Type 0} (R : Reacting L M) : Type 0 where
  pub over_twice : (l : L) → R.over (R.over l) ≡ R.over l
  pub over_next : (l : L) (x : ℕ) → R.over (R.next l x) ≡ R.over l
  pub back_twice : (m : M) → R.back (R.back m) ≡ R.back m
  pub back_went : (m : M) (x : ℕ) → R.back (R.went m x) ≡ R.back m
  pub leads : (m : M) (x : ℕ) (v : Move) → R.move m x ≡ Ok v → R.stage (R.went m x) ≡ v.1

-- so does a composition
module _ {L M : Type 0} (R : Reacting L M) (steady : Steady R) where
  mutual
    pub restart_twice : (t : Composition L M) → restarted R (restarted R t) ≡ restarted R t
    restart_twice (part p) = ap part (steady.over_twice p)
    restart_twice (parallel a b) = λ i. parallel (restart_twice a i) (restart_twice b i)
    restart_twice (encapsulation g place c) = ap (encapsulation g place) (restart_twice c)
    restart_twice (inhibition w c) = ap (inhibition w) (restart_twice c)
    restart_twice (moved m) = ap moved (put_back_twice m)

    pub put_back_twice : (m : StagedComposition L M) → put_back R (put_back R m) ≡ put_back R m
    put_back_twice (staged p) = ap staged (steady.back_twice p)
    put_back_twice (refinement k m c) = λ i. refinement k (put_back_twice m i) (restart_twice c i)

  restart_cases : (u w : Bool) (a b c : Composition L M) → restarted R a ≡ restarted R c → restarted R b ≡ restarted R c → restarted R (cond u a (cond w b c)) ≡ restarted R c
  restart_cases true w a b c p q = p
  restart_cases false true a b c p q = q
  restart_cases false false a b c p q = refl

  mutual
    pub restart_next : (t : Composition L M) (x : ℕ) → restarted R (next_of R t x) ≡ restarted R t
    restart_next (part p) x = ap part (steady.over_next p x)
    restart_next (parallel a b) x = λ i. parallel (restart_next a x i) (restart_next b x i)
    restart_next (encapsulation g place c) x = ap (encapsulation g place) (restart_next c (under g x (chosen g (λ s. answer_of R c (under g x s)))))
    restart_next (inhibition w c) x = ap (inhibition w) (cond_both (has x w) c (next_of R c x) (λ t. restarted R t ≡ restarted R c) (λ _. refl) (λ _. restart_next c x))
    restart_next (moved m) x = ap moved (put_back_went m x)

    pub put_back_went : (m : StagedComposition L M) (x : ℕ) → put_back R (went_of R m x) ≡ put_back R m
    put_back_went (staged p) x = ap staged (steady.back_went p x)
    put_back_went (refinement k m c) x = λ i. refinement k (put_back_went m x i) (restart_cases (over_after k (stage_of R m) (move_of R m x)) (stage_of R m == k) (restarted R c) (next_of R c x) c (restart_twice c) (restart_next c x) i)

  -- of a refinement's inside, whatever became of it
  pub restart_inside : (u w : Bool) (c : Composition L M) (x : ℕ) → restarted R (cond u (restarted R c) (cond w (next_of R c x) c)) ≡ restarted R c
  restart_inside u w c x = restart_cases u w (restarted R c) (next_of R c x) c (restart_twice c) (restart_next c x)

  -- an accepted move tells the stage that it leads to
  pub stage_went : (m : StagedComposition L M) (x : ℕ) (v : Move) → move_of R m x ≡ Ok v → stage_of R (went_of R m x) ≡ v.1
  stage_went (staged p) x v e = steady.leads p x v e
  stage_went (refinement k m c) x v e =
      let b = both_ok with_outputs (move_of R m x) (awake_answer k (stage_of R m) (answer_of R c x)) v e in
      stage_went m x b.0 b.2 ∙ ap (λ u. u.1) (sym b.4)

-- ---- operator by operator: agreeing courses in, agreeing courses out
settled_same : (g : ℕ) (f h : ℕ → Answer ℕ) (ss : List ℕ) → ((s : ℕ) → In s ss → f s ≡ h s) → settled g f ss ≡ settled g h ss
settled_same g f h [] e = refl
settled_same g f h (s ∷ ss) e = λ i. both ◌++◌ (settles g s (e s (inl refl) i)) (settled_same g f h ss (λ t j. e t (inr j)) i)

module _ {L M L' M' : Type 0} (R : Reacting L M) (steady : Steady R) (R' : Reacting L' M') (steady' : Steady R') where
  abbrev AlikeCourses : (ℕ → ℕ → Type 0) → Composition L M → Composition L' M' → Type 0
  AlikeCourses Q a b = Agree Q (course_of R a) (course_of R' b)

  abbrev AlikeMoves : (ℕ → ℕ → Type 0) → StagedComposition L M → StagedComposition L' M' → Type 0
  AlikeMoves Q m n = Agree Q (moves_of R m) (moves_of R' n)

  next_agree : (Q : ℕ → ℕ → Type 0) (a : Composition L M) (b : Composition L' M') (x y o : ℕ) → Q x y → AlikeCourses Q a b → answer_of R a x ≡ Ok o → AlikeCourses Q (next_of R a x) (next_of R' b y)
  next_agree Q a b x y o = behind_agree (answer_of R) (next_of R) (answer_of R') (next_of R') Q a b x y o

  went_agree : (Q : ℕ → ℕ → Type 0) (m : StagedComposition L M) (n : StagedComposition L' M') (x y : ℕ) (v : Move) → Q x y → AlikeMoves Q m n → move_of R m x ≡ Ok v → AlikeMoves Q (went_of R m x) (went_of R' n y)
  went_agree Q m n x y v = behind_agree (move_of R) (went_of R) (move_of R') (went_of R') Q m n x y v

  -- ---- parallel
  module _ (Q P N : ℕ → ℕ → Type 0) (left : Implies Q P) (right : Implies Q N) where
    data Beside : Composition L M → Composition L' M' → Type 0 where
      beside : {a b : Composition L M} {c d : Composition L' M'} → AlikeCourses P a c → AlikeCourses N b d → Beside (parallel a b) (parallel c d)

    beside_gives : (s : Composition L M) (t : Composition L' M') → Beside s t → (x y : ℕ) → Q x y → answer_of R s x ≡ answer_of R' t y
    beside_gives s t (beside p q) x y h = λ i. join (p [] [] x y tt (left x y h) i) (q [] [] x y tt (right x y h) i)

    beside_kept : (s : Composition L M) (t : Composition L' M') → Beside s t → (x y : ℕ) → Q x y → (o : ℕ) → answer_of R s x ≡ Ok o → Beside (next_of R s x) (next_of R' t y)
    beside_kept s t (beside {a} {b} {c} {d} p q) x y h o e =
        let z = both_ok union (answer_of R a x) (answer_of R b x) o e in
        beside (next_agree P a c x y z.0 (left x y h) p z.2) (next_agree N b d x y z.1 (right x y h) q z.3)

    pub parallel_agree : (a b : Composition L M) (c d : Composition L' M') → AlikeCourses P a c → AlikeCourses N b d → AlikeCourses Q (parallel a b) (parallel c d)
    parallel_agree a b c d p q = run_agree (answer_of R) (next_of R) (answer_of R') (next_of R') Q Beside beside_gives beside_kept (parallel a b) (parallel c d) (beside p q)

  -- ---- inhibition
  module _ (Q P : ℕ → ℕ → Type 0) (w : ℕ) (inner : Implies Q P) (wire : (x y : ℕ) → Q x y → has x w ≡ has y w) where
    data Behind : Composition L M → Composition L' M' → Type 0 where
      behind : {c : Composition L M} {d : Composition L' M'} → AlikeCourses P c d → Behind (inhibition w c) (inhibition w d)

    behind_gives : (s : Composition L M) (t : Composition L' M') → Behind s t → (x y : ℕ) → Q x y → answer_of R s x ≡ answer_of R' t y
    behind_gives s t (behind p) x y h = λ i. cond (wire x y h i) (Ok 0) (p [] [] x y tt (inner x y h) i)

    behind_kept : (s : Composition L M) (t : Composition L' M') → Behind s t → (x y : ℕ) → Q x y → (o : ℕ) → answer_of R s x ≡ Ok o → Behind (next_of R s x) (next_of R' t y)
    behind_kept s t (behind {c} {d} p) x y h o e =
        subst (λ b. Behind (inhibition w (cond (has x w) c (next_of R c x))) (inhibition w (cond b d (next_of R' d y)))) (wire x y h) (either (has x w) refl)
      where
        either : (b : Bool) → has x w ≡ b → Behind (inhibition w (cond b c (next_of R c x))) (inhibition w (cond b d (next_of R' d y)))
        either true on = behind p
        either false off = behind (next_agree P c d x y o (inner x y h) p (sym (cond-false (has x w) (Ok 0) (answer_of R c x) off) ∙ e))

    pub inhibition_agree : (c : Composition L M) (d : Composition L' M') → AlikeCourses P c d → AlikeCourses Q (inhibition w c) (inhibition w d)
    inhibition_agree c d p = run_agree (answer_of R) (next_of R) (answer_of R') (next_of R') Q Behind behind_gives behind_kept (inhibition w c) (inhibition w d) (behind p)

  -- ---- encapsulation
  module _ (Q P : ℕ → ℕ → Type 0) (g place : ℕ) (inner : (x y s : ℕ) → subset s g ≡ true → Q x y → P (under g x s) (under g y s)) where
    data Within : Composition L M → Composition L' M' → Type 0 where
      within : {c : Composition L M} {d : Composition L' M'} → AlikeCourses P c d → Within (encapsulation g place c) (encapsulation g place d)

    within_settled : (c : Composition L M) (d : Composition L' M') → AlikeCourses P c d → (x y : ℕ) → Q x y → settled g (λ s. answer_of R c (under g x s)) (settings g) ≡ settled g (λ s. answer_of R' d (under g y s)) (settings g)
    within_settled c d p x y h = settled_same g _ _ (settings g) (λ s i. p [] [] (under g x s) (under g y s) tt (inner x y s (settings_in g s i) h))

    within_gives : (s : Composition L M) (t : Composition L' M') → Within s t → (x y : ℕ) → Q x y → answer_of R s x ≡ answer_of R' t y
    within_gives s t (within {c} {d} p) x y h = ap (λ r. onto r (only g place)) (within_settled c d p x y h)

    within_kept : (s : Composition L M) (t : Composition L' M') → Within s t → (x y : ℕ) → Q x y → (o : ℕ) → answer_of R s x ≡ Ok o → Within (next_of R s x) (next_of R' t y)
    within_kept s t (within {c} {d} p) x y h o e =
        let f = λ (s : ℕ). answer_of R c (under g x s) in
        let op = opened g f place o e in
        let same : chosen g f ≡ chosen g (λ s. answer_of R' d (under g y s)) = ap chosen_of (within_settled c d p x y h) in
        let chose : chosen g f ≡ op.setting = ap chosen_of op.found in
        let gives : answer_of R c (under g x (chosen g f)) ≡ Ok op.inner = ap (λ n. answer_of R c (under g x n)) chose ∙ op.gives in
        let into : P (under g x (chosen g f)) (under g y (chosen g f)) = inner x y (chosen g f) (ap (λ n. subset n g) chose ∙ op.within) h in
        within (subst (λ n. AlikeCourses P (next_of R c (under g x (chosen g f))) (next_of R' d (under g y n))) same (next_agree P c d (under g x (chosen g f)) (under g y (chosen g f)) op.inner into p gives))

    pub encapsulation_agree : (c : Composition L M) (d : Composition L' M') → AlikeCourses P c d → AlikeCourses Q (encapsulation g place c) (encapsulation g place d)
    encapsulation_agree c d p = run_agree (answer_of R) (next_of R) (answer_of R') (next_of R') Q Within within_gives within_kept (encapsulation g place c) (encapsulation g place d) (within p)

  -- ---- the outputs of moves
  module _ (Q : ℕ → ℕ → Type 0) where
    data Moving : Composition L M → Composition L' M' → Type 0 where
      moving : {m : StagedComposition L M} {n : StagedComposition L' M'} → AlikeMoves Q m n → Moving (moved m) (moved n)

    moving_gives : (s : Composition L M) (t : Composition L' M') → Moving s t → (x y : ℕ) → Q x y → answer_of R s x ≡ answer_of R' t y
    moving_gives s t (moving p) x y h = ap outputs (p [] [] x y tt h)

    moving_kept : (s : Composition L M) (t : Composition L' M') → Moving s t → (x y : ℕ) → Q x y → (o : ℕ) → answer_of R s x ≡ Ok o → Moving (next_of R s x) (next_of R' t y)
    moving_kept s t (moving {m} {n} p) x y h o e = let v = outputs_ok (move_of R m x) o e in moving (went_agree Q m n x y v.0 h p v.1)

    pub moved_agree : (m : StagedComposition L M) (n : StagedComposition L' M') → AlikeMoves Q m n → AlikeCourses Q (moved m) (moved n)
    moved_agree m n p = run_agree (answer_of R) (next_of R) (answer_of R') (next_of R') Q Moving moving_gives moving_kept (moved m) (moved n) (moving p)

  -- ---- refinement
  module _ (Q P N : ℕ → ℕ → Type 0) (k : ℕ) (base : Implies Q P) (inner : Implies Q N) where
    data Refining : StagedComposition L M → StagedComposition L' M' → Type 0 where
      refining : {m : StagedComposition L M} {n : StagedComposition L' M'} {c : Composition L M} {d : Composition L' M'} → AlikeMoves P m n → stage_of R m ≡ stage_of R' n → AlikeCourses N c d → AlikeCourses N (restarted R c) (restarted R' d) → Refining (refinement k m c) (refinement k n d)

    refining_gives : (s : StagedComposition L M) (t : StagedComposition L' M') → Refining s t → (x y : ℕ) → Q x y → move_of R s x ≡ move_of R' t y
    refining_gives s t (refining p q r f) x y h = λ i. join_move (p [] [] x y tt (base x y h) i) (awake_answer k (q i) (r [] [] x y tt (inner x y h) i))

    -- the inside, restarted or stepped or left as it is
    inside_agree : (j : ℕ) (c : Composition L M) (d : Composition L' M') (x y o : ℕ) → Q x y → AlikeCourses N c d → AlikeCourses N (restarted R c) (restarted R' d) → awake_answer k j (answer_of R c x) ≡ Ok o → (u w : Bool) → (j == k) ≡ w → AlikeCourses N (cond u (restarted R c) (cond w (next_of R c x) c)) (cond u (restarted R' d) (cond w (next_of R' d y) d))
    inside_agree j c d x y o h r f e true w g = f
    inside_agree j c d x y o h r f e false true g = next_agree N c d x y o (inner x y h) r (sym (cond-true (j == k) (answer_of R c x) (Ok 0) g) ∙ e)
    inside_agree j c d x y o h r f e false false g = r

    refining_kept : (s : StagedComposition L M) (t : StagedComposition L' M') → Refining s t → (x y : ℕ) → Q x y → (v : Move) → move_of R s x ≡ Ok v → Refining (went_of R s x) (went_of R' t y)
    refining_kept s t (refining {m} {n} {c} {d} p q r f) x y h v e =
        let b = both_ok with_outputs (move_of R m x) (awake_answer k (stage_of R m) (answer_of R c x)) v e in
        let told : move_of R' n y ≡ Ok b.0 = sym (p [] [] x y tt (base x y h)) ∙ b.2 in
        let i = stage_of R m in
        let j = stage_of R' n in
        let u = over_after k i (move_of R m x) in
        let w = over_after k j (move_of R' n y) in
        let over : u ≡ w = λ l. over_after k (q l) (p [] [] x y tt (base x y h) l) in
        let left = cond u (restarted R c) (cond (i == k) (next_of R c x) c) in
        let stepped : AlikeCourses N left (cond u (restarted R' d) (cond (i == k) (next_of R' d y) d)) = inside_agree i c d x y b.1 h r f b.3 u (i == k) refl in
        let restarts : AlikeCourses N (restarted R left) (restarted R' (cond w (restarted R' d) (cond (j == k) (next_of R' d y) d))) =
        subst (λ z. AlikeCourses N z (restarted R' (cond w (restarted R' d) (cond (j == k) (next_of R' d y) d)))) (sym (restart_inside R steady u (i == k) c x)) (subst (λ z. AlikeCourses N (restarted R c) z) (sym (restart_inside R' steady' w (j == k) d y)) f) in
        refining
        (went_agree P m n x y b.0 (base x y h) p b.2)
        (stage_went R steady m x b.0 b.2 ∙ sym (stage_went R' steady' n y b.0 told))
        (subst (λ z. AlikeCourses N left (cond w (restarted R' d) (cond (z == k) (next_of R' d y) d))) q (subst (λ z. AlikeCourses N left (cond z (restarted R' d) (cond (i == k) (next_of R' d y) d))) over stepped))
        restarts

    pub refinement_agree : (m : StagedComposition L M) (n : StagedComposition L' M') (c : Composition L M) (d : Composition L' M') → AlikeMoves P m n → stage_of R m ≡ stage_of R' n → AlikeCourses N c d → AlikeCourses N (restarted R c) (restarted R' d) → AlikeMoves Q (refinement k m c) (refinement k n d)
    refinement_agree m n c d p q r f = run_agree (move_of R) (went_of R) (move_of R') (went_of R') Q Refining refining_gives refining_kept (refinement k m c) (refinement k n d) (refining p q r f)
