use Rattle.std.proofs.Common.{take}
use Rattle.parts.specs.Keeping.{Keeps}
use Rattle.parts.specs.Runs.{numbers}
use Rattle.parts.proofs.Ticks.{Gone}
use Rattle.parts.proofs.stepping.run.Given as goal

abbrev pub invariant-loop-i : goal.invariant-loop-i
invariant-loop-i g l =
    let part = l.initial.part in
    Gone (g.P.Part.plan part) (g.P.Part.course part) (g.P.Part.course l.part) (take l.i (numbers l.inputs)) (numbers l.initial.outputs) (numbers l.outputs)
    × Keeps g.P.Part.fresh g.P.Part.reads g.P.Part.emits g.P.Part.plan part l.part
