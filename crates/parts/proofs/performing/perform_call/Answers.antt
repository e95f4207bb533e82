use Rattle.std.proofs.Common.{rules}
use Rattle.parts.specs.Calls.{call_of}
use Rattle.parts.specs.Calling.{promised}
use Rattle.parts.proofs.performing.perform_call.Goals as goal

pub returns-in-Look-clause-promise : goal.returns-in-Look-clause-promise
returns-in-Look-clause-promise g c =
    let part = c.args.part.now in
    promised (g.P.Part.plan part) (g.P.Part.fresh part) (g.P.Part.course part) (g.P.Part.course part) (call_of c.args.call) _ (g.met.P.Part.planned part) (search rules) (search rules) (search rules)

pub returns-in-Step-clause-promise : goal.returns-in-Step-clause-promise
returns-in-Step-clause-promise g c =
    let part = c.args.part.now in
    promised (g.P.Part.plan part) (g.P.Part.fresh part) (g.P.Part.course part) (g.P.Part.course c.step.new.self) (call_of c.args.call) _ (g.met.P.Part.planned part) (search rules) (search rules) (search rules)

pub returns-in-Restart-clause-promise : goal.returns-in-Restart-clause-promise
returns-in-Restart-clause-promise g c =
    let part = c.args.part.now in
    promised (g.P.Part.plan part) (g.P.Part.fresh part) (g.P.Part.course part) (g.P.Part.course c.restart.new.self) (call_of c.args.call) _ (g.met.P.Part.planned part) (search rules) (search rules) (search rules)
