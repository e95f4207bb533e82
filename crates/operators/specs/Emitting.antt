-- The wires that operators emit, and where the stage of a refinement stays. Assumes nothing.
use Rattle.std.specs.Prelude.{◌≡◌, ℕ, Bool, true, false, cond, not, List, [], ◌∷◌, Ok, Err, ◌==◌, refl}
use Rattle.std.proofs.Common.{sym, ap, subst, ◌∙◌, ⊎_elim}
use Rattle.std.proofs.lemmas.Bool.{true≢false, and_parts, and_from, or_cases, or_left, or_right, cond-true, cond-false, cases_Bool}
use Rattle.signals.specs.Sets.{has, union, difference, subset}
use Rattle.signals.proofs.Wires.{union_wires, difference_wires, subset_wires, none_empty}
use Rattle.parts.specs.Courses.{Answer, Course, behind, Named, run_on, run_of}
use Rattle.parts.specs.Operators.{Move, fired, with_outputs, under, inhibit, awake_answer}
use Rattle.parts.specs.Plans.{told_stage}
use Rattle.parts.specs.Stages.{outputs_of, Stays}
use Rattle.parts.specs.Trees.{Composition, StagedComposition, parallel, encapsulation, inhibition, refinement, part, staged, outputs, answer_of, move_of, next_of, went_of, stage_of, chosen, over_after}
use Rattle.parts.specs.Searching.{ok_same, both_ok, opened}
use Rattle.parts.specs.Accepting.{outputs_ok}
use Rattle.parts.specs.Agreement.{stage_went}
use Rattle.parts.proofs.Staging.{run_stays, stays_behind}
use Rattle.operators.specs.Joined.{Held, HeldStaged, held, parallel_course, encapsulation_course, inhibition_course, refinement_moves, refinement_course}
use Rattle.operators.specs.Holding.{held_steady}

-- ---- sets
subset_union : (a b e f : ℕ) → subset a e ≡ true → subset b f ≡ true → subset (union a b) (union e f) ≡ true
subset_union a b e f p q = (subset_wires (union a b) (union e f)).1 (λ w h. union_wires e f w ∙ ⊎_elim (λ i. or_left _ _ ((subset_wires a e).0 p w i)) (λ j. or_right _ _ ((subset_wires b f).0 q w j)) (or_cases _ _ (sym (union_wires a b w) ∙ h)))

subset_less : (a e g : ℕ) → subset a e ≡ true → subset (difference a g) (difference e g) ≡ true
subset_less a e g p = (subset_wires (difference a g) (difference e g)).1 (λ w h.
    let z = and_parts (has a w) (not (has g w)) (sym (difference_wires a g w) ∙ h) in
    difference_wires e g w ∙ and_from (has e w) (not (has g w)) ((subset_wires a e).0 p w z.0) z.1)

subset_none : (e : ℕ) → subset 0 e ≡ true
subset_none e = (subset_wires 0 e).1 (λ w h. absurd (true≢false (sym h ∙ none_empty w)))

-- ---- things with a state: what holds of it, with outputs in the set, is kept by accepted inputs
module _ {S A : Type 0} (answer : S → ℕ → Answer A) (next : S → ℕ → S) (Good : A → Type 0) (Inv : S → Type 0) (gives : (s : S) → Inv s → (x : ℕ) (a : A) → answer s x ≡ Ok a → Good a) (kept : (s : S) → Inv s → (x : ℕ) (a : A) → answer s x ≡ Ok a → Inv (next s x)) where
  inv_on : (s : S) → Inv s → (y : ℕ) (a : Answer A) → answer s y ≡ a → Inv (run_on answer next a s y)
  inv_on s h y (Ok a) e = kept s h y a e
  inv_on s h y (Err f) e = h

  run_good : (s : S) → Inv s → (xs : List ℕ) (x : ℕ) (a : A) → run_of answer next s xs x ≡ Ok a → Good a
  run_good s h [] x a e = gives s h x a e
  run_good s h (y ∷ ys) x a e = run_good (run_on answer next (answer s y) s y) (inv_on s h y (answer s y) refl) ys x a e

named_behind : (e : ℕ) (c : Course ℕ) (x : ℕ) → Named e c → Named e (behind c x)
named_behind e c x n xs y o h = n (x ∷ xs) y o h

abbrev Tree : Type 0
Tree = Composition Held HeldStaged

-- ---- parallel
data Both (e f : ℕ) : Tree → Type 0 where
  both_named : {c g d h : Course ℕ} → Named e c → Named f d → Both e f (parallel (part (c, g)) (part (d, h)))

pub parallel_named : (e f : ℕ) (c g d h : Course ℕ) → Named e c → Named f d → Named (union e f) (parallel_course (c, g) (d, h))
parallel_named e f c g d h n m = run_good (answer_of held) (next_of held) (λ o. subset o (union e f) ≡ true) (Both e f) gives kept (parallel (part (c, g)) (part (d, h))) (both_named n m)
  where
    gives : (s : Tree) → Both e f s → (x o : ℕ) → answer_of held s x ≡ Ok o → subset o (union e f) ≡ true
    gives s (both_named {c} {g} {d} {h} n m) x o a =
        let b = both_ok union (c [] x) (d [] x) o a in
        subst (λ v. subset v (union e f) ≡ true) (sym b.4) (subset_union b.0 b.1 e f (n [] x b.0 b.2) (m [] x b.1 b.3))

    kept : (s : Tree) → Both e f s → (x o : ℕ) → answer_of held s x ≡ Ok o → Both e f (next_of held s x)
    kept s (both_named {c} {g} {d} {h} n m) x o a = both_named (named_behind e c x n) (named_behind f d x m)

-- ---- encapsulation
data Inside (g place e : ℕ) : Tree → Type 0 where
  inside_named : {c f : Course ℕ} → Named e c → Inside g place e (encapsulation g place (part (c, f)))

pub encapsulation_named : (g place e : ℕ) (c f : Course ℕ) → Named e c → Named (difference e g) (encapsulation_course g place (c, f))
encapsulation_named g place e c f n = run_good (answer_of held) (next_of held) (λ o. subset o (difference e g) ≡ true) (Inside g place e) gives kept (encapsulation g place (part (c, f))) (inside_named n)
  where
    gives : (s : Tree) → Inside g place e s → (x o : ℕ) → answer_of held s x ≡ Ok o → subset o (difference e g) ≡ true
    gives s (inside_named {c} {f} n) x o a =
        let op = opened g (λ s. c [] (under g x s)) place o a in
        subst (λ v. subset v (difference e g) ≡ true) (sym op.output) (subset_less op.inner e g (n [] (under g x op.setting) op.inner op.gives))

    kept : (s : Tree) → Inside g place e s → (x o : ℕ) → answer_of held s x ≡ Ok o → Inside g place e (next_of held s x)
    kept s (inside_named {c} {f} n) x o a = inside_named (named_behind e c (under g x (chosen g (λ s. c [] (under g x s)))) n)

-- ---- inhibition
data AwakeOrNot (w e : ℕ) : Tree → Type 0 where
  inner_named : {c f : Course ℕ} → Named e c → AwakeOrNot w e (inhibition w (part (c, f)))

pub inhibition_named : (w e : ℕ) (c f : Course ℕ) → Named e c → Named e (inhibition_course w (c, f))
inhibition_named w e c f n = run_good (answer_of held) (next_of held) (λ o. subset o e ≡ true) (AwakeOrNot w e) gives kept (inhibition w (part (c, f))) (inner_named n)
  where
    gives : (s : Tree) → AwakeOrNot w e s → (x o : ℕ) → answer_of held s x ≡ Ok o → subset o e ≡ true
    gives s (inner_named {c} {f} n) x o a = ⊎_elim
        (λ on. subst (λ v. subset v e ≡ true) (ok_same (inhibit w x (c [] x)) 0 o (cond-true (has x w) (Ok 0) (c [] x) on) a) (subset_none e))
        (λ off. n [] x o (sym (cond-false (has x w) (Ok 0) (c [] x) off) ∙ a))
        (cases_Bool (has x w))

    either : (b : Bool) (c f : Course ℕ) (x : ℕ) → Named e c → AwakeOrNot w e (inhibition w (cond b (part (c, f)) (part (behind c x, f))))
    either true c f x n = inner_named n
    either false c f x n = inner_named (named_behind e c x n)

    kept : (s : Tree) → AwakeOrNot w e s → (x o : ℕ) → answer_of held s x ≡ Ok o → AwakeOrNot w e (next_of held s x)
    kept s (inner_named {c} {f} n) x o a = either (has x w) c f x n

-- ---- refinement
abbrev StagedTree : Type 0
StagedTree = StagedComposition Held HeldStaged

data Refined (k e f : ℕ) : StagedTree → Type 0 where
  refined_named : {m n : Course Move} {stage : ℕ} {c g : Course ℕ} → Named e (outputs_of m) → Named f c → Named f g → Refined k e f (refinement k (staged (m, n, stage)) (part (c, g)))

pub refinement_named : (k e f : ℕ) (m n : Course Move) (stage : ℕ) (c g : Course ℕ) → Named e (outputs_of m) → Named f c → Named f g → Named (union e f) (outputs_of (refinement_moves k (m, n, stage) (c, g)))
refinement_named k e f m n stage c g p q r xs x o h =
    let v = outputs_ok (refinement_moves k (m, n, stage) (c, g) xs x) o h in
    subst (λ u. subset u (union e f) ≡ true) (sym v.2) (run_good (move_of held) (went_of held) (λ v. subset v.0 (union e f) ≡ true) (Refined k e f) gives kept (refinement k (staged (m, n, stage)) (part (c, g))) (refined_named p q r) xs x v.0 v.1)
  where
    inner : (j : ℕ) (c : Course ℕ) (x o : ℕ) → Named f c → awake_answer k j (c [] x) ≡ Ok o → subset o f ≡ true
    inner j c x o q h = ⊎_elim
        (λ on. q [] x o (sym (cond-true (j == k) (c [] x) (Ok 0) on) ∙ h))
        (λ off. subst (λ v. subset v f ≡ true) (ok_same (awake_answer k j (c [] x)) 0 o (cond-false (j == k) (c [] x) (Ok 0) off) h) (subset_none f))
        (cases_Bool (j == k))

    gives : (s : StagedTree) → Refined k e f s → (x : ℕ) (v : Move) → move_of held s x ≡ Ok v → subset v.0 (union e f) ≡ true
    gives s (refined_named {m} {n} {stage} {c} {g} p q r) x v h =
        let b = both_ok with_outputs (m [] x) (awake_answer k stage (c [] x)) v h in
        subst (λ u. subset u.0 (union e f) ≡ true) (sym b.4) (subset_union b.0.0 b.1 e f (p [] x b.0.0 (ap outputs b.2)) (inner stage c x b.1 q b.3))

    either : (u w : Bool) (m n : Course Move) (j : ℕ) (c g : Course ℕ) (x : ℕ) → Named e (outputs_of m) → Named f c → Named f g → Refined k e f (refinement k (staged (m, n, j)) (cond u (part (g, g)) (cond w (part (behind c x, g)) (part (c, g)))))
    either true w m n j c g x p q r = refined_named p r r
    either false true m n j c g x p q r = refined_named p (named_behind f c x q) r
    either false false m n j c g x p q r = refined_named p q r

    kept : (s : StagedTree) → Refined k e f s → (x : ℕ) (v : Move) → move_of held s x ≡ Ok v → Refined k e f (went_of held s x)
    kept s (refined_named {m} {n} {stage} {c} {g} p q r) x v h = either (over_after k stage (m [] x)) (stage == k) (behind m x) n (told_stage (m [] x) stage) c g x (named_behind e (outputs_of m) x p) q r

-- where no written rule fires, its stage stays
data Resting (k : ℕ) : StagedTree → Type 0 where
  resting : {m n : Course Move} {stage : ℕ} {c : Tree} → Stays stage m → Resting k (refinement k (staged (m, n, stage)) c)

pub refinement_stays : (k : ℕ) (m n : Course Move) (stage : ℕ) (c g : Course ℕ) → Stays stage m → Stays stage (refinement_moves k (m, n, stage) (c, g))
refinement_stays k m n stage c g h = run_stays (move_of held) (went_of held) (stage_of held) (Resting k) kept leads rests (refinement k (staged (m, n, stage)) (part (c, g))) (resting h)
  where
    kept : (s : StagedTree) → Resting k s → (x : ℕ) (v : Move) → move_of held s x ≡ Ok v → Resting k (went_of held s x)
    kept s (resting {m} {n} {stage} {c} h) x v e =
        let b = both_ok with_outputs (m [] x) (awake_answer k stage (answer_of held c x)) v e in
        resting (subst (λ a. Stays (told_stage a stage) (behind m x)) (sym b.2) (stays_behind stage m x b.0 b.2 h))

    leads : (s : StagedTree) → Resting k s → (x : ℕ) (v : Move) → move_of held s x ≡ Ok v → stage_of held (went_of held s x) ≡ v.1
    leads s r x v e = stage_went held held_steady s x v e

    rests : (s : StagedTree) → Resting k s → (x : ℕ) (v : Move) → move_of held s x ≡ Ok v → fired v ≡ false → v.1 ≡ stage_of held s
    rests s (resting {m} {n} {stage} {c} h) x v e f =
        let b = both_ok with_outputs (m [] x) (awake_answer k stage (answer_of held c x)) v e in
        ap (λ u. u.1) b.4 ∙ h [] x b.0 b.2 (sym (ap fired b.4) ∙ f)

-- ---- the course now and the one behind a restart, together
pub parallel_both_named : (e f : ℕ) (c g d h : Course ℕ) → Named e c × Named e g → Named f d × Named f h → Named (union e f) (parallel_course (c, g) (d, h)) × Named (union e f) (parallel_course (g, g) (h, h))
parallel_both_named e f c g d h n m = (parallel_named e f c g d h n.0 m.0, parallel_named e f g g h h n.1 m.1)

pub encapsulation_both_named : (g place e : ℕ) (c f : Course ℕ) → Named e c × Named e f → Named (difference e g) (encapsulation_course g place (c, f)) × Named (difference e g) (encapsulation_course g place (f, f))
encapsulation_both_named g place e c f n = (encapsulation_named g place e c f n.0, encapsulation_named g place e f f n.1)

pub inhibition_both_named : (w e : ℕ) (c f : Course ℕ) → Named e c × Named e f → Named e (inhibition_course w (c, f)) × Named e (inhibition_course w (f, f))
inhibition_both_named w e c f n = (inhibition_named w e c f n.0, inhibition_named w e f f n.1)

pub refinement_both_named : (k e f : ℕ) (m n : Course Move) (stage : ℕ) (c g : Course ℕ) → Named e (outputs_of m) × Named e (outputs_of n) → Named f c × Named f g → Named (union e f) (refinement_course k (m, n, stage) (c, g)) × Named (union e f) (refinement_course k (n, n, 0) (g, g))
refinement_both_named k e f m n stage c g p q = (refinement_named k e f m n stage c g p.0 q.0 q.1, refinement_named k e f n n 0 g g p.1 q.1 q.1)

pub refinement_both_stay : (k : ℕ) (m n : Course Move) (stage : ℕ) (c g : Course ℕ) → Stays stage m × Stays 0 n → Stays stage (refinement_moves k (m, n, stage) (c, g)) × Stays 0 (refinement_moves k (n, n, 0) (g, g))
refinement_both_stay k m n stage c g h = (refinement_stays k m n stage c g h.0, refinement_stays k n n 0 g g h.1)
