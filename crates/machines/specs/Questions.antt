-- What is asked of a machine that stands alone. Assumes nothing: these are definitions.
use Rattle.std.specs.Prelude.{◌≡◌, ℕ, ◌<◌, ◌≤◌, Bool, true, false, cond, ◌&&◌, List, [], ◌∷◌, ◌++◌, length, take, Ok, Err, Result, nat_le, nat_lt, slice_index_or}
use Rattle.std.specs.List.{list_all}
use Rattle.signals.specs.Sets.{has, disjoint}
use Rattle.parts.specs.Lists.{In}
use Rattle.rules.specs.declared.rule.Rule.{Rule}
use Rattle.machines.specs.declared.refusal.RuleRefusal.{RuleRefusal}
use Rattle.machines.specs.declared.refusal.RuleRefusal.TheVariants.{NoSuchState, PresentAndAbsent, TooMany, Discord}
use Rattle.machines.specs.declared.refusal.MachineRefusal.{MachineRefusal}
use Rattle.machines.specs.declared.refusal.MachineRefusal.TheVariants.{States, OfRule}
use Rattle.rules.specs.Rules.{within, accord, Accord}

-- ---- one rule, with those written before it
-- in accord with each earlier rule
abbrev pub accords_all : List Rule → Rule → Bool
accords_all earlier r = list_all (λ e. accord e r) earlier

abbrev pub rule_question : ℕ → List Rule → Rule → Result (Unit {0}) RuleRefusal
rule_question states earlier r = cond (within states r) (cond (disjoint r.present.bits r.absent.bits) (cond (nat_lt (length earlier) 16) (cond (accords_all earlier r) (Ok tt) (Err Discord)) (Err TooMany)) (Err PresentAndAbsent)) (Err NoSuchState)

-- ---- all rules, in written order: the first refusal, with the place of its rule from 0
abbrev pub if_allowed : ℕ → Result (Unit {0}) RuleRefusal → Result (Unit {0}) MachineRefusal → Result (Unit {0}) MachineRefusal
if_allowed place (Ok u) others = others
if_allowed place (Err e) others = Err (OfRule place e)

abbrev pub rules_question : ℕ → List Rule → List Rule → Result (Unit {0}) MachineRefusal
rules_question states earlier [] = Ok tt
rules_question states earlier (r ∷ rs) = if_allowed (length earlier) (rule_question states earlier r) (rules_question states (earlier ++ r ∷ []) rs)

abbrev pub machine_question : ℕ → List Rule → Result (Unit {0}) MachineRefusal
machine_question states rules = cond (nat_le 1 states && nat_le states 16) (rules_question states [] rules) (Err States)

-- ---- the same in words
-- A rule's refusal is told where the states are no reason and no rule before it is refused.
pub record FirstRefused (states : ℕ) (rules : List Rule) (place : ℕ) (e : RuleRefusal) : Type 0 where
  pub some_state : 1 ≤ states
  pub few_states : states ≤ 16
  pub there : place < length rules
  pub before : (i : ℕ) (d : Rule) → i < place → rule_question states (take i rules) (slice_index_or rules i d) ≡ Ok tt
  pub here : (d : Rule) → rule_question states (take place rules) (slice_index_or rules place d) ≡ Err e

abbrev pub ToldFirst : ℕ → List Rule → MachineRefusal → Type 0
ToldFirst states rules States = (1 ≤ states → states ≤ 16 → ⊥)
ToldFirst states rules (OfRule place e) = FirstRefused states rules place e

-- What states and rules make a machine
pub record WellFormed (states : ℕ) (r : Rule) : Type 0 where
  pub from_state : r.from < states
  pub to_state : r.to < states
  pub no_wire_both : (w : ℕ) → has r.present.bits w ≡ true → has r.absent.bits w ≡ false

pub record Proper (states : ℕ) (rules : List Rule) : Type 0 where
  pub some_state : 1 ≤ states
  pub few_states : states ≤ 16
  pub few_rules : length rules ≤ 16
  pub each : (r : Rule) → In r rules → WellFormed states r
  -- any two rules have the same move wherever both fire
  pub in_accord : (a b : Rule) → In a rules → In b rules → Accord a b
