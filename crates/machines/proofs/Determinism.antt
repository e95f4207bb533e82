-- The rules of a machine allow exactly one move, and the questions accept exactly the proper machines. Assumes nothing.
use Rattle.std.proofs.Common.{◌≡◌, ℕ, ◌<◌, ◌≤◌, Bool, true, false, cond, ◌&&◌, ltb, leb, List, [], ◌∷◌, ◌++◌, length, is_ok, Ok, Err, Result, sym, refl, ap, ◌∙◌, subst, inl, inr, ⊎_elim, append_assoc, append-nil, arith}
use Rattle.std.proofs.lemmas.Bool.{true≢false, cond-true, cond-false, cases_Bool, and_parts, and_from, leb-true, le-leb, ltb-true, lt-ltb, eqb-true}
use Rattle.std.proofs.lemmas.List.{length-append, length_push}
use Rattle.signals.specs.Sets.{disjoint}
use Rattle.signals.proofs.Wires.{disjoint_wires}
use Rattle.parts.specs.Lists.{In}
use Rattle.parts.specs.Operators.{Move}
use Rattle.parts.specs.Searching.{in_append, append_in}
use Rattle.rules.specs.declared.rule.Rule.{Rule}
use Rattle.machines.specs.declared.refusal.RuleRefusal.{RuleRefusal}
use Rattle.machines.specs.declared.refusal.MachineRefusal.{MachineRefusal}
use Rattle.rules.specs.Rules.{fires, within, accord, Accord}
use Rattle.machines.specs.Reactions.{rule_move, reaction, Allows, Determined, KeepsStates}
use Rattle.machines.specs.Questions.{accords_all, rule_question, if_allowed, rules_question, machine_question, WellFormed, Proper}
use Rattle.machines.specs.declared.machine.Machine.{Machine}
use Rattle.machines.specs.Made.{machine_made}
use Rattle.rules.proofs.Matching.{fires_from, accord_facts}

-- ---- exactly one move
-- the reaction is a move that the rules allow
allowed : (rules : List Rule) (state x : ℕ) → Allows rules state x (reaction rules state x)
allowed [] state x = inr ((λ r i. absurd i), refl)
allowed (r ∷ rs) state x = ⊎_elim
    (λ f. inl (r, inl refl, f, cond-true (fires r state x) _ _ f))
    (λ n. let stays = cond-false (fires r state x) (rule_move r) (reaction rs state x) n in ⊎_elim
    (λ a. inl (a.0, inr a.1, a.2, stays ∙ a.3))
    (λ a. inr ((λ s i. ⊎_elim (λ e. ap (λ t. fires t state x) (sym e) ∙ n) (a.0 s) i), stays ∙ a.1))
    (allowed rs state x))
    (cases_Bool (fires r state x))

-- and, where any two rules are in accord, every move that they allow is the reaction
same_move : (a b : Rule) → (a.to ≡ b.to) × (a.emits.bits ≡ b.emits.bits) → rule_move a ≡ rule_move b
same_move a b e = λ i. (e.1 i, e.0 i, true)

only_one : (rules : List Rule) → ((a b : Rule) → In a rules → In b rules → Accord a b) → (state x : ℕ) (m n : Move) → Allows rules state x m → Allows rules state x n → m ≡ n
only_one rules h state x m n p q = ⊎_elim
    (λ a. ⊎_elim (λ b. a.3 ∙ same_move a.0 b.0 (h a.0 b.0 a.1 b.1 state x a.2 b.2) ∙ sym b.3) (λ b. absurd (true≢false (sym a.2 ∙ b.0 a.0 a.1))) q)
    (λ a. ⊎_elim (λ b. absurd (true≢false (sym b.2 ∙ a.0 b.0 b.1))) (λ b. a.1 ∙ sym b.1) q)
    p

pub determined : (rules : List Rule) → ((a b : Rule) → In a rules → In b rules → Accord a b) → Determined rules
determined rules h state x = (allowed rules state x, λ m a. only_one rules h state x m (reaction rules state x) a (allowed rules state x))

-- ---- the questions
-- each is answered with yes
asked : {E : Type 0} (b : Bool) (q : Result (Unit {0}) E) (e : E) → cond b q (Err e) ≡ Ok tt → (b ≡ true) × (q ≡ Ok tt)
asked true q e h = (refl, h)
asked false q e h = cc

allowed_rule : (n : ℕ) (q : Result (Unit {0}) RuleRefusal) (others : Result (Unit {0}) MachineRefusal) → if_allowed n q others ≡ Ok tt → (q ≡ Ok tt) × (others ≡ Ok tt)
allowed_rule n (Ok u) others h = (refl, h)
allowed_rule n (Err e) others h = cc

accords_each : (earlier : List Rule) (r : Rule) → accords_all earlier r ≡ true → (e : Rule) → In e earlier → Accord e r
accords_each [] r h e i = absurd i
accords_each (f ∷ fs) r h e i =
    let p = and_parts (accord f r) (accords_all fs r) h in
    ⊎_elim (λ q. subst (λ t. Accord t r) q ((accord_facts f r (accord f r) refl).1.0 p.0)) (accords_each fs r p.1 e) i

each_accords : (earlier : List Rule) (r : Rule) → ((e : Rule) → In e earlier → Accord e r) → accords_all earlier r ≡ true
each_accords [] r h = refl
each_accords (f ∷ fs) r h = and_from (accord f r) (accords_all fs r) ((accord_facts f r (accord f r) refl).1.1 (h f (inl refl))) (each_accords fs r (λ e i. h e (inr i)))

module _ (states : ℕ) where
  -- rules that were all asked
  record Sound (rules : List Rule) : Type 0 where
    few : length rules ≤ 16
    each : (r : Rule) → In r rules → WellFormed states r
    agree : (a b : Rule) → In a rules → In b rules → Accord a b

  sound_push : (earlier : List Rule) (r : Rule) → Sound earlier → rule_question states earlier r ≡ Ok tt → Sound (earlier ++ r ∷ [])
  sound_push earlier r s h =
      let a = asked (within states r) _ _ h in
      let b = asked (disjoint r.present.bits r.absent.bits) _ _ a.1 in
      let c = asked (ltb (length earlier) 16) _ _ b.1 in
      let d = asked (accords_all earlier r) _ _ c.1 in
      let w = and_parts (ltb r.from states) (ltb r.to states) a.0 in
      let with_Each = accords_each earlier r d.0 in
      let formed : WellFormed states r = record { from_state = ltb-true r.from states w.0; to_state = ltb-true r.to states w.1; no_wire_both = (disjoint_wires r.present.bits r.absent.bits).0 b.0 } in
      record {
        few = omega (arith, length_push earlier r, ltb-true (length earlier) 16 c.0);
        each = λ t i. ⊎_elim (s.each t) (λ j. ⊎_elim (λ e. subst (WellFormed states) e formed) (λ z. absurd z) j) (in_append t earlier (r ∷ []) i);
        agree = λ p q i j. ⊎_elim
            (λ k. ⊎_elim (s.agree p q k) (⊎_elim (λ e. subst (Accord p) e (with_Each p k)) (λ z. absurd z)) (in_append q earlier (r ∷ []) j))
            (⊎_elim (λ e. ⊎_elim (λ l state x f g. let v = subst (Accord q) e (with_Each q l) state x g f in (sym v.0, sym v.1)) (⊎_elim (λ d state x f g. (ap (λ v. v.to) (sym e ∙ d), ap (λ v. v.emits.bits) (sym e ∙ d))) (λ z. absurd z)) (in_append q earlier (r ∷ []) j)) (λ z. absurd z))
            (in_append p earlier (r ∷ []) i);
      }

  rules_sound : (earlier rs : List Rule) → Sound earlier → rules_question states earlier rs ≡ Ok tt → Sound (earlier ++ rs)
  rules_sound earlier [] s h = subst Sound (sym (append-nil earlier)) s
  rules_sound earlier (r ∷ rs) s h =
      let a = allowed_rule (length earlier) (rule_question states earlier r) (rules_question states (earlier ++ r ∷ []) rs) h in
      subst Sound (append_assoc earlier (r ∷ []) rs) (rules_sound (earlier ++ r ∷ []) rs (sound_push earlier r s a.0) a.1)

  sound_rule : (earlier : List Rule) (r : Rule) (rs : List Rule) → Sound (earlier ++ r ∷ rs) → rule_question states earlier r ≡ Ok tt
  sound_rule earlier r rs s =
      let here : In r (earlier ++ r ∷ rs) = append_in r earlier (r ∷ rs) (inr (inl refl)) in
      let formed = s.each r here in
      cond-true (within states r) _ _ (and_from _ _ (lt-ltb r.from states formed.from_state) (lt-ltb r.to states formed.to_state))
      ∙ cond-true (disjoint r.present.bits r.absent.bits) _ _ ((disjoint_wires r.present.bits r.absent.bits).1 formed.no_wire_both)
      ∙ cond-true (ltb (length earlier) 16) _ _ (lt-ltb (length earlier) 16 (omega (arith, length-append earlier (r ∷ rs), s.few)))
      ∙ cond-true (accords_all earlier r) _ _ (each_accords earlier r (λ e i. s.agree e r (append_in e earlier (r ∷ rs) (inl i)) here))

  sound_rules : (earlier rs : List Rule) → Sound (earlier ++ rs) → rules_question states earlier rs ≡ Ok tt
  sound_rules earlier [] s = refl
  sound_rules earlier (r ∷ rs) s =
      ap (λ q. if_allowed (length earlier) q (rules_question states (earlier ++ r ∷ []) rs)) (sound_rule earlier r rs s)
      ∙ sound_rules (earlier ++ r ∷ []) rs (subst Sound (sym (append_assoc earlier (r ∷ []) rs)) s)

pub question_proper : (states : ℕ) (rules : List Rule) → machine_question states rules ≡ Ok tt → Proper states rules
question_proper states rules h =
    let a = asked (leb 1 states && leb states 16) _ _ h in
    let b = and_parts (leb 1 states) (leb states 16) a.0 in
    let s = rules_sound states [] rules (record { few = omega arith; each = λ r i. absurd i; agree = λ p q i j. absurd i }) a.1 in
    record { some_state = leb-true 1 states b.0; few_states = leb-true states 16 b.1; few_rules = s.few; each = s.each; in_accord = s.agree }

pub proper_question : (states : ℕ) (rules : List Rule) → Proper states rules → machine_question states rules ≡ Ok tt
proper_question states rules p =
    cond-true (leb 1 states && leb states 16) _ _ (and_from _ _ (le-leb 1 states p.some_state) (le-leb states 16 p.few_states))
    ∙ sound_rules states [] rules (record { few = p.few_rules; each = p.each; agree = p.in_accord })

-- ---- states
-- a rule that fires is in its own state
from_here : (r : Rule) (state x : ℕ) → fires r state x ≡ true → r.from ≡ state
from_here r state x f = eqb-true r.from state (fires_from r state x f)

pub keeps_states : (states : ℕ) (rules : List Rule) → Proper states rules → KeepsStates states rules
keeps_states states rules p = record {
  outside = λ state x h. ⊎_elim (λ a. absurd (below (p.each a.0 a.1).from_state (from_here a.0 state x a.2) h)) (λ a. a.1) (allowed rules state x);
  inside = λ state x h. ⊎_elim (λ a. subst (λ n. n < states) (sym (ap (λ m. m.1) a.3)) (p.each a.0 a.1).to_state) (λ a. subst (λ n. n < states) (sym (ap (λ m. m.1) a.1)) h) (allowed rules state x);
}
  where
    below : {a b n : ℕ} → a < n → a ≡ b → n ≤ b → ⊥
    below h e l = omega arith

-- the state that a reaction tells
pub told_state : (states : ℕ) (rules : List Rule) (state x : ℕ) (m : Move) → Proper states rules → state < states → m ≡ reaction rules state x → m.1 < states
told_state states rules state x m p h e = subst (λ v. v.1 < states) (sym e) ((keeps_states states rules p).inside state x h)

-- what the type of machines keeps says that they are proper
pub kept_proper : (states : ℕ) (rules : List Rule) → is_ok (machine_question states rules) ≡ true → Proper states rules
kept_proper states rules h = question_proper states rules (from_ok (machine_question states rules) h)
  where
    from_ok : {E : Type 0} (q : Result (Unit {0}) E) → is_ok q ≡ true → q ≡ Ok tt
    from_ok (Ok u) h = refl
    from_ok (Err e) h = cc

pub made_ok : (r : Result Machine MachineRefusal) (m : ℕ × List Rule × ℕ) → machine_made r ≡ Ok m → is_ok r ≡ true
made_ok (Ok s) m h = refl
made_ok (Err e) m h = cc
