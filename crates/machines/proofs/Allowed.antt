-- What is asked of rules, one after the other. Assumes nothing.
use Rattle.std.proofs.Common.{◌≡◌, ℕ, zero, suc, ◌+◌, ◌<◌, Bool, true, false, cond, ◌&&◌, leb, List, [], ◌∷◌, ◌++◌, length, get_or, take, Ok, Err, Result, sym, refl, ap, ◌∙◌, subst, append_assoc, append-nil, arith}
use Rattle.std.proofs.lemmas.List.{length_push}
use Rattle.std.proofs.lemmas.Bool.{true≢false, and_parts, and_from, leb-true, le-leb}
use Rattle.rules.specs.declared.rule.Rule.{Rule}
use Rattle.machines.specs.declared.refusal.RuleRefusal.{RuleRefusal}
use Rattle.machines.specs.declared.refusal.MachineRefusal.{MachineRefusal}
use Rattle.machines.specs.declared.refusal.MachineRefusal.TheVariants.{States, OfRule}
use Rattle.machines.specs.Questions.{rule_question, if_allowed, rules_question, machine_question, ToldFirst}

-- ---- the rule that is refused is the first one
-- so many rules behind the earlier ones
record RefusedAt (states : ℕ) (earlier rs : List Rule) (place : ℕ) (e : RuleRefusal) : Type 0 where
  at : ℕ
  is : place ≡ length earlier + at
  there : at < length rs
  before : (i : ℕ) (d : Rule) → i < at → rule_question states (earlier ++ take i rs) (get_or rs i d) ≡ Ok tt
  here : (d : Rule) → rule_question states (earlier ++ take at rs) (get_or rs at d) ≡ Err e

refused_step : (states : ℕ) (earlier : List Rule) (r : Rule) (rs : List Rule) (place : ℕ) (e : RuleRefusal) (q : Result (Unit {0}) RuleRefusal) → rule_question states earlier r ≡ q → if_allowed (length earlier) q (rules_question states (earlier ++ r ∷ []) rs) ≡ Err (OfRule place e) → (rules_question states (earlier ++ r ∷ []) rs ≡ Err (OfRule place e) → RefusedAt states (earlier ++ r ∷ []) rs place e) → RefusedAt states earlier (r ∷ rs) place e
refused_step states earlier r rs place e (Ok u) p k others =
    let m = others k in
    record {
      at = suc m.at;
      is = omega (arith, m.is, length_push earlier r);
      there = omega (arith, m.there);
      before = before_here m;
      here = λ d. ap (λ es. rule_question states es (get_or rs m.at d)) (sym (append_assoc earlier (r ∷ []) (take m.at rs))) ∙ m.here d;
    }
  where
    before_here : (m : RefusedAt states (earlier ++ r ∷ []) rs place e) (i : ℕ) (d : Rule) → i < suc m.at → rule_question states (earlier ++ take i (r ∷ rs)) (get_or (r ∷ rs) i d) ≡ Ok tt
    before_here m zero d l = ap (λ es. rule_question states es r) (append-nil earlier) ∙ p
    before_here m (suc i) d l = ap (λ es. rule_question states es (get_or rs i d)) (sym (append_assoc earlier (r ∷ []) (take i rs))) ∙ m.before i d (omega arith)
refused_step states earlier r rs place e (Err f) p k others =
    let same_place : length earlier ≡ place = cc in
    let same : f ≡ e = cc in
    record {
      at = 0;
      is = omega arith;
      there = omega arith;
      before = λ i d l. absurd (let z : ⊥ = omega arith in z);
      here = λ d. ap (λ es. rule_question states es r) (append-nil earlier) ∙ p ∙ ap Err same;
    }

refused_at : (states : ℕ) (earlier rs : List Rule) (place : ℕ) (e : RuleRefusal) → rules_question states earlier rs ≡ Err (OfRule place e) → RefusedAt states earlier rs place e
refused_at states earlier [] place e h = cc
refused_at states earlier (r ∷ rs) place e h = refused_step states earlier r rs place e (rule_question states earlier r) refl h (refused_at states (earlier ++ r ∷ []) rs place e)

-- no rule is refused for the states
not_states_step : (n : ℕ) (q : Result (Unit {0}) RuleRefusal) (others : Result (Unit {0}) MachineRefusal) → (others ≡ Err States → ⊥) → if_allowed n q others ≡ Err States → ⊥
not_states_step n (Ok u) others never h = never h
not_states_step n (Err f) others never h = cc

not_states : (states : ℕ) (earlier rs : List Rule) → rules_question states earlier rs ≡ Err States → ⊥
not_states states earlier [] h = cc
not_states states earlier (r ∷ rs) h = not_states_step (length earlier) (rule_question states earlier r) (rules_question states (earlier ++ r ∷ []) rs) (not_states states (earlier ++ r ∷ []) rs) h

told_of : (states : ℕ) (rules : List Rule) (e : MachineRefusal) (b : Bool) → (leb 1 states && leb states 16) ≡ b → cond b (rules_question states [] rules) (Err States) ≡ Err e → ToldFirst states rules e
told_of states rules States true b h = absurd (not_states states [] rules h)
told_of states rules (OfRule place e) true b h =
    let p = and_parts (leb 1 states) (leb states 16) b in
    let m = refused_at states [] rules place e h in
    let same : m.at ≡ place = omega (arith, m.is) in
    record {
      some_state = leb-true 1 states p.0;
      few_states = leb-true states 16 p.1;
      there = subst (λ n. n < length rules) same m.there;
      before = λ i d l. m.before i d (subst (λ n. i < n) (sym same) l);
      here = λ d. ap (λ n. rule_question states (take n rules) (get_or rules n d)) (sym same) ∙ m.here d;
    }
told_of states rules States false b h = λ lo hi. true≢false (sym (and_from (leb 1 states) (leb states 16) (le-leb 1 states lo) (le-leb states 16 hi)) ∙ b)
told_of states rules (OfRule place e) false b h = cc

pub told_first : (states : ℕ) (rules : List Rule) (e : MachineRefusal) → Err e ≡ machine_question states rules → ToldFirst states rules e
told_first states rules e h = told_of states rules e (leb 1 states && leb states 16) refl (sym h)
