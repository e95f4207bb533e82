use Rattle.std.proofs.Common.{ap, ◌∙◌}
use Rattle.parts.specs.Stages.{as_move}
use Rattle.machines.specs.Reactions.{reaction}
use Rattle.machines.proofs.Determinism.{told_state, kept_proper}
use Rattle.machines.proofs.machine.Machine.reaction.Goals as goal

pub returns-clause-state : goal.returns-clause-state
returns-clause-state c =
    let machine = c.args.self.now in
    let x = c.args.input.bits in
    told_state machine.states machine.rules.items machine.state x (as_move c.react.result) (kept_proper machine.states machine.rules.items machine.proper) machine.exists (c.react.ensures ∙ ap (λ rs. reaction rs machine.state x) c.deref.ensures.0)
