-- The courses of machines. Assumes nothing.
use Rattle.std.specs.Prelude.{◌≡◌, ℕ, Bool, true, false, cond, ◌&&◌, List, [], ◌∷◌, Ok, ◌==◌, refl}
use Rattle.std.proofs.Common.{sym, ap, subst, ◌∙◌}
use Rattle.std.proofs.lemmas.Bool.{true≢false, cond_both, or_left, or_right}
use Rattle.signals.specs.Sets.{has, intersection, subset, Within}
use Rattle.signals.proofs.Wires.{union_wires, intersection_wires, same_wires, same_at, subset_wires, none_empty}
use Rattle.parts.specs.Courses.{Lawful, Unread, Named}
use Rattle.parts.specs.Operators.{fired}
use Rattle.parts.specs.Stages.{Stays}
use Rattle.parts.specs.Running.{run_lawful}
use Rattle.parts.proofs.Staging.{outputs_lawful, outputs_unread, run_stays}
use Rattle.rules.specs.declared.rule.Rule.{Rule}
use Rattle.rules.specs.Rules.{granted, fires}
use Rattle.machines.specs.Reactions.{rule_move, reaction, rule_reads, read_by_rules, emitted_by_rules}
use Rattle.machines.specs.Machines.{machine_move, machine_next, machine_moves, machine_course, NeverRefuses}

-- what holds in every state holds in the present one and behind a restart
pub now_and_fresh : {P : ℕ → Type 0} → ((state : ℕ) → P state) → (state : ℕ) → P state × P 0
now_and_fresh every state = (every state, every 0)

-- ---- what follows a refused input is answered as if that had not been put
pub machine_lawful : (rules : List Rule) (state : ℕ) → Lawful (machine_moves rules state)
machine_lawful rules = run_lawful (machine_move rules) (machine_next rules)

pub outputs_are_lawful : (rules : List Rule) (state : ℕ) → Lawful (machine_course rules state)
outputs_are_lawful rules state = outputs_lawful (machine_moves rules state) (machine_lawful rules state)

-- ---- no input is refused
pub never_refuses : (rules : List Rule) → NeverRefuses rules
never_refuses rules state [] x = ((reaction rules state x, refl), ((reaction rules state x).0, refl))
never_refuses rules state (y ∷ ys) x = never_refuses rules (machine_next rules state y) ys x

-- ---- where no written rule fires, the state stays
rests : (rules : List Rule) (state x : ℕ) → fired (reaction rules state x) ≡ false → (reaction rules state x).1 ≡ state
rests [] state x f = refl
rests (r ∷ rs) state x f =
    cond_both (fires r state x) (rule_move r) (reaction rs state x) (λ m. fired m ≡ false → m.1 ≡ state) (λ _ t. cc) (λ _. rests rs state x) f

pub machine_stays : (rules : List Rule) (state : ℕ) → Stays state (machine_moves rules state)
machine_stays rules =
    λ state. run_stays (machine_move rules) (machine_next rules) (λ s. s) (λ s. Unit {0}) (λ s h x m e. tt) (λ s h x m e. cc)
    (λ s h x m e f. let same : reaction rules s x ≡ m = cc in subst (λ v. v.1 ≡ s) same (rests rules s x (ap fired same ∙ f))) state tt

-- ---- wires that no rule asks for or forbids
module _ (reads x y : ℕ) (e : intersection x reads ≡ intersection y reads) where
  same_part : (s : ℕ) → Within s reads → intersection s x ≡ intersection s y
  same_part s h = same_wires _ _ (λ w. intersection_wires s x w ∙ both w (has s w) refl ∙ sym (intersection_wires s y w))
    where
      both : (w : ℕ) (b : Bool) → has s w ≡ b → (b && has x w) ≡ (b && has y w)
      both w true t = same_at reads x y e w (h w t)
      both w false t = refl

  granted_same : (r : Rule) → Within (rule_reads r) reads → granted r x ≡ granted r y
  granted_same r h =
      let p = same_part r.present.bits (λ w t. h w (union_wires r.present.bits r.absent.bits w ∙ or_left _ _ t)) in
      let a = same_part r.absent.bits (λ w t. h w (union_wires r.present.bits r.absent.bits w ∙ or_right _ _ t)) in
      (λ i. (p i == r.present.bits) && a i == 0)

  reaction_same : (rules : List Rule) (state : ℕ) → Within (read_by_rules rules) reads → reaction rules state x ≡ reaction rules state y
  reaction_same [] state h = refl
  reaction_same (r ∷ rs) state h =
      let one = granted_same r (λ w t. h w (union_wires (rule_reads r) (read_by_rules rs) w ∙ or_left _ _ t)) in
      let others = reaction_same rs state (λ w t. h w (union_wires (rule_reads r) (read_by_rules rs) w ∙ or_right _ _ t)) in
      (λ i. cond (r.from == state && one i) (rule_move r) (others i))

module _ (rules : List Rule) where
  same_reaction : (state x y : ℕ) → intersection x (read_by_rules rules) ≡ intersection y (read_by_rules rules) → reaction rules state x ≡ reaction rules state y
  same_reaction state x y e = reaction_same (read_by_rules rules) x y e rules state (λ w h. h)

  pub machine_unread : (state : ℕ) → Unread (read_by_rules rules) (machine_moves rules state)
  machine_unread state [] [] x y r e = ap Ok (same_reaction state x y e)
  machine_unread state [] (v ∷ vs) x y r e = absurd r
  machine_unread state (u ∷ us) [] x y r e = absurd r
  machine_unread state (u ∷ us) (v ∷ vs) x y r e =
      ap (λ m. machine_moves rules m.1 us x) (same_reaction state u v r.0)
      ∙ machine_unread (machine_next rules state v) us vs x y r.1 e

  pub outputs_are_unread : (state : ℕ) → Unread (read_by_rules rules) (machine_course rules state)
  outputs_are_unread state = outputs_unread (read_by_rules rules) (machine_moves rules state) (machine_unread state)

-- ---- no wire is emitted but those of the rules
emits_within : (rules : List Rule) (state x : ℕ) → Within (reaction rules state x).0 (emitted_by_rules rules)
emits_within [] state x = λ w h. absurd (true≢false (sym h ∙ none_empty w))
emits_within (r ∷ rs) state x =
    cond_both (fires r state x) (rule_move r) (reaction rs state x) (λ m. Within m.0 (emitted_by_rules (r ∷ rs)))
    (λ _ w h. union_wires r.emits.bits (emitted_by_rules rs) w ∙ or_left _ _ h)
    (λ _ w h. union_wires r.emits.bits (emitted_by_rules rs) w ∙ or_right _ _ (emits_within rs state x w h))

pub machine_named : (rules : List Rule) (state : ℕ) → Named (emitted_by_rules rules) (machine_course rules state)
machine_named rules state [] x o e =
    let same : (reaction rules state x).0 ≡ o = cc in
    subst (λ v. subset v (emitted_by_rules rules) ≡ true) same ((subset_wires (reaction rules state x).0 (emitted_by_rules rules)).1 (emits_within rules state x))
machine_named rules state (y ∷ ys) x o e = machine_named rules (machine_next rules state y) ys x o e
