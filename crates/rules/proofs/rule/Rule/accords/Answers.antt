use Rattle.std.proofs.Common.{not, ◌&&◌, ◌||◌, eqb, sym, ap, ◌∙◌}
use Rattle.std.proofs.lemmas.Bool.{eq-eqb, ne_eqb}
use Rattle.rules.proofs.Matching.{accord_facts}
use Rattle.rules.proofs.rule.Rule.accords.Goals as goal

pub returns-then-not-can_fire_with : goal.returns-then-not-can_fire_with
returns-then-not-can_fire_with c =
    let a = c.args.self.now in
    let b = c.args.other.now in
    let facts = accord_facts a b _ (ap not c.if-not-can_fire_with.true ∙ ap (λ t. not t || (eqb a.to b.to && eqb a.emits.bits b.emits.bits)) c.if-not-can_fire_with.ensures) in
    record { value = facts.0; law = facts.1 }

pub returns-then-self-other : goal.returns-then-self-other
returns-then-self-other c =
    let a = c.args.self.now in
    let b = c.args.other.now in
    let facts = accord_facts a b _ (c.eq.ensures ∙ ap (λ t. t && eqb a.emits.bits b.emits.bits) (sym (eq-eqb a.to b.to c.if-self-other.true)) ∙ ap (λ t. not t || (eqb a.to b.to && eqb a.emits.bits b.emits.bits)) c.if-not-can_fire_with.ensures) in
    record { value = facts.0; law = facts.1 }

pub returns-else-self-other : goal.returns-else-self-other
returns-else-self-other c =
    let a = c.args.self.now in
    let b = c.args.other.now in
    let differ = ne_eqb a.to b.to c.if-self-other.false in
    let facts = accord_facts a b _ (differ ∙ ap (λ t. t && eqb a.emits.bits b.emits.bits) (sym differ) ∙ ap (λ t. not t || (eqb a.to b.to && eqb a.emits.bits b.emits.bits)) c.if-not-can_fire_with.ensures) in
    record { value = facts.0; law = facts.1 }
