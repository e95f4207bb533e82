-- When rules fire, and when two of them may stand together. Assumes nothing.
use Rattle.std.proofs.Common.{◌≡◌, ℕ, Bool, true, false, eqb, Decides, sym, refl, ◌∙◌, ⊎_elim}
use Rattle.std.proofs.lemmas.Bool.{true≢false, eqb-true, eq-eqb, and_parts, and_from, or_cases, or_left, or_right, or_from, not-true, not_from_false, cases_Bool}
use Rattle.std.proofs.lemmas.Bool.Decides.{Decides-at}
use Rattle.signals.specs.Sets.{union, subset, disjoint, has}
use Rattle.signals.proofs.Wires.{union_wires, subset_wires, disjoint_wires}
use Rattle.rules.specs.declared.rule.Rule.{Rule}
use Rattle.rules.specs.Rules.{granted, fires, Fires, together, accord, Accord}

-- what a rule that fires has of its state and its input
module _ (r : Rule) (state x : ℕ) (h : fires r state x ≡ true) where
  pub fires_from : eqb r.from state ≡ true
  fires_from = (and_parts (eqb r.from state) (granted r x) h).0

  pub fires_present : subset r.present.bits x ≡ true
  fires_present = (and_parts (subset r.present.bits x) (disjoint r.absent.bits x) (and_parts (eqb r.from state) (granted r x) h).1).0

  pub fires_absent : disjoint r.absent.bits x ≡ true
  fires_absent = (and_parts (subset r.present.bits x) (disjoint r.absent.bits x) (and_parts (eqb r.from state) (granted r x) h).1).1

pub fires_decides : (r : Rule) (state x : ℕ) → Decides (fires r state x) (Fires r state x)
fires_decides r state x = (
  λ h. record {
    from_here = eqb-true _ _ (fires_from r state x h);
    present_there = (subset_wires r.present.bits x).0 (fires_present r state x h);
    absent_not = (disjoint_wires r.absent.bits x).0 (fires_absent r state x h);
  },
  λ f. and_from _ _ (eq-eqb _ _ f.from_here) (and_from _ _ ((subset_wires r.present.bits x).1 f.present_there) ((disjoint_wires r.absent.bits x).1 f.absent_not)),
)

-- what a test that tells whether a rule fires has to show
pub fires_facts : (r : Rule) (state x : ℕ) (t : Bool) → t ≡ fires r state x → (t ≡ fires r state x) × Decides t (Fires r state x)
fires_facts r state x t e = (e, Decides-at t (fires r state x) e (fires_decides r state x))

-- ---- two rules
module _ (a b : Rule) where
  abbrev asked : ℕ
  asked = union a.present.bits b.present.bits

  abbrev forbidden : ℕ
  forbidden = union a.absent.bits b.absent.bits

  -- rules that fire together: no wire is asked for by one and forbidden by one
  both_together : (state x : ℕ) → fires a state x ≡ true → fires b state x ≡ true → together a b ≡ true
  both_together state x p q = and_from _ _ (eq-eqb _ _ (eqb-true _ _ (fires_from a state x p) ∙ sym (eqb-true _ _ (fires_from b state x q)))) ((disjoint_wires asked forbidden).1 not_forbidden)
    where
      there : (w : ℕ) → has asked w ≡ true → has x w ≡ true
      there w h = ⊎_elim ((subset_wires a.present.bits x).0 (fires_present a state x p) w) ((subset_wires b.present.bits x).0 (fires_present b state x q) w) (or_cases _ _ (sym (union_wires a.present.bits b.present.bits w) ∙ h))

      absent : (r : Rule) → fires r state x ≡ true → (w : ℕ) → has x w ≡ true → has r.absent.bits w ≡ false
      absent r f w h = ⊎_elim (λ t. absurd (true≢false (sym h ∙ (disjoint_wires r.absent.bits x).0 (fires_absent r state x f) w t))) (λ e. e) (cases_Bool (has r.absent.bits w))

      not_forbidden : (w : ℕ) → has asked w ≡ true → has forbidden w ≡ false
      not_forbidden w h = union_wires a.absent.bits b.absent.bits w ∙ or_from _ _ (absent a p w (there w h)) (absent b q w (there w h))

  -- otherwise the asked wires alone fire both
  fires_asked : (r : Rule) (state : ℕ) → disjoint asked forbidden ≡ true → eqb r.from state ≡ true → ((w : ℕ) → has r.present.bits w ≡ true → has asked w ≡ true) → ((w : ℕ) → has r.absent.bits w ≡ true → has forbidden w ≡ true) → fires r state asked ≡ true
  fires_asked r state d e up down = and_from _ _ e (and_from _ _ ((subset_wires r.present.bits asked).1 up) ((disjoint_wires r.absent.bits asked).1 (λ w h. ⊎_elim (λ t. absurd (true≢false (sym (down w h) ∙ (disjoint_wires asked forbidden).0 d w t))) (λ f. f) (cases_Bool (has asked w)))))

  accord_true : accord a b ≡ true → Accord a b
  accord_true h state x p q = ⊎_elim
      (λ n. absurd (true≢false (sym (both_together state x p q) ∙ not-true (together a b) n)))
      (λ s. let e = and_parts (eqb a.to b.to) (eqb a.emits.bits b.emits.bits) s in (eqb-true a.to b.to e.0, eqb-true a.emits.bits b.emits.bits e.1))
      (or_cases _ _ h)

  true_accord : Accord a b → accord a b ≡ true
  true_accord h = ⊎_elim
      (λ t.
      let z = and_parts _ _ t in
      let same = h b.from asked (fires_asked a b.from z.1 z.0 (λ w k. union_wires _ _ w ∙ or_left _ _ k) (λ w k. union_wires _ _ w ∙ or_left _ _ k)) (fires_asked b b.from z.1 (eq-eqb _ _ refl) (λ w k. union_wires _ _ w ∙ or_right _ _ k) (λ w k. union_wires _ _ w ∙ or_right _ _ k)) in
      or_right _ _ (and_from _ _ (eq-eqb _ _ same.0) (eq-eqb _ _ same.1)))
      (λ f. or_left _ _ (not_from_false _ f))
      (cases_Bool (together a b))

  accord_decides : Decides (accord a b) (Accord a b)
  accord_decides = (accord_true, true_accord)

  pub accord_facts : (t : Bool) → t ≡ accord a b → (t ≡ accord a b) × Decides t (Accord a b)
  accord_facts t e = (e, Decides-at t (accord a b) e accord_decides)
