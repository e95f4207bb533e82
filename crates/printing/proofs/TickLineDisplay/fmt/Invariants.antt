use Rattle.std.proofs.Common.{◌++◌, decimal}
use Rattle.std.specs.Fmt.{HasWritten, IsPlainFormatter}
use Rattle.printing.specs.Lines.{wires_text}
use Rattle.printing.proofs.TickLineDisplay.fmt.Given as goal

abbrev pub invariant-loop-wire : goal.invariant-loop-wire
invariant-loop-wire g l =
    IsPlainFormatter l.fn.f → HasWritten g.W.Write.write_str_gives l.fn.f (decimal l.self.tick ++ wires_text l.self.outputs.bits l.wire-counter) l.f
