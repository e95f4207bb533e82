use Rattle.std.proofs.Common.{[], ap, ◌∙◌}
use Rattle.parts.specs.Trees.{outputs}
use Rattle.operators.proofs.Refining.{asleep}
use Rattle.operators.proofs.refinement.RefinementStaged.predict.Goals as goal

pub returns-then-current_stage-self : goal.returns-then-current_stage-self
returns-then-current_stage-self g c =
    let s = c.args.self.now in
    let move = asleep _ (g.S.Staged.moves s.staged [] c.args.input.bits) s.stage (g.S.Staged.stage s.staged) (g.P.Part.course s.inside [] c.args.input.bits) c.in_ok-outputs.ensures.value (λ e. c.if-current_stage-self.true (c.current_stage.ensures ∙ e)) in
    record { value = move; answer = ap outputs move }
