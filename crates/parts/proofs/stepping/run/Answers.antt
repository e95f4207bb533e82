use Rattle.std.proofs.Common.{rules}
use Rattle.parts.proofs.Ticks.{gone_next, said_next, said_end}
use Rattle.parts.proofs.stepping.run.Goals as goal

pub returns-in-Err : goal.returns-in-Err
returns-in-Err g c =
    let part = c.args.part.now in
    let told = c.in-Err.ensures in
    let said = said_next (g.P.Part.plan part) (g.P.Part.course part) (g.P.Part.course c.loop-i.part) (g.P.Part.course c.tick.new.part) c.args.inputs.now c.args.outputs.now c.loop-i.outputs c.loop-i.i _ c.in-Err.fault c.loop-i.invariant.0 c.loop-i-test.true c.if-outputs-inputs.false told.value told.course in
    record { value = said.value; outputs = said.outputs; course = search rules; within = search rules; unmoved = search rules; kept = search rules; reached = search rules; law = said.law_of }

pub loop-i-preserved : goal.loop-i-preserved
loop-i-preserved g c =
    let part = c.args.part.now in
    let here = c.loop-i.part in
    let told = c.in-Ok.ensures in (
      gone_next (g.P.Part.plan part) (g.P.Part.plan here) (g.P.Part.course part) (g.P.Part.course here) (g.P.Part.course c.tick.new.part) c.args.inputs.now c.args.outputs.now c.loop-i.outputs c.loop-i.i _ c.in-Ok.output c.loop-i.invariant.0 c.loop-i-test.true c.if-outputs-inputs.false c.loop-i.invariant.1.plan told.value told.course told.reached,
      search rules,
    )

pub returns-clause-law : goal.returns-clause-law
returns-clause-law g c = (said_end (g.P.Part.plan c.args.part.now) (g.P.Part.course c.args.part.now) (g.P.Part.course c.loop-i.part) c.args.inputs.now c.args.outputs.now c.loop-i.outputs c.loop-i.i c.loop-i.invariant.0 c.loop-i-test.false c.if-outputs-inputs.false).law_of
