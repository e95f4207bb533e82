use Rattle.std.proofs.Common.{take}
use Rattle.parts.specs.Keeping.{Keeps}
use Rattle.parts.proofs.Turns.{Done}
use Rattle.parts.proofs.performing.perform.Given as goal

abbrev pub invariant-loop-i : goal.invariant-loop-i
invariant-loop-i g l =
    let part = l.initial.part in
    Done (g.P.Part.plan part) (g.P.Part.fresh part) (g.P.Part.course part) (g.P.Part.course l.part) (take l.i l.calls) l.initial.replies l.replies
    × Keeps g.P.Part.fresh g.P.Part.reads g.P.Part.emits g.P.Part.plan part l.part
