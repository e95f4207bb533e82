use Rattle.std.proofs.Common.{◌&&◌, sym, ap, ◌∙◌}
use Rattle.std.proofs.lemmas.Bool.{eq-eqb}
use Rattle.rules.specs.Rules.{granted}
use Rattle.rules.proofs.Matching.{fires_facts}
use Rattle.rules.proofs.rule.Rule.fires.Goals as goal

pub returns-then-self-state : goal.returns-then-self-state
returns-then-self-state c =
    let rule = c.args.self.now in
    let facts = fires_facts rule c.args.state c.args.input.bits c.is_granted.result (c.is_granted.ensures ∙ sym (ap (λ t. t && granted rule c.args.input.bits) (eq-eqb rule.from c.args.state c.if-self-state.true))) in
    record { value = facts.0; law = facts.1 }
