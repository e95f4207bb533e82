use Rattle.std.proofs.Common.{sym, ◌∙◌}
use Rattle.nesting.proofs.Nested.{nested}
use Rattle.nesting.proofs.nest.make_nest.Goals as goal

pub returns-in-Ok-new-clause-plan : goal.returns-in-Ok-new-clause-plan
returns-in-Ok-new-clause-plan c = nested c.in-Ok-new.ensures.plan c.new-staged.ensures.layout c.in-Ok.ensures.plan c.new-both.ensures.plan

pub returns-in-Ok-new-clause-begins : goal.returns-in-Ok-new-clause-begins
returns-in-Ok-new-clause-begins c = c.in-Ok-new.ensures.course ∙ sym c.in-Ok-new.ensures.fresh
