use Rattle.std.proofs.Common.{◌≡◌, ◌++◌, map, length, take, string_bytes}
use Rattle.reports.specs.Lines.{wires_line, wire_lines}
use Rattle.reports.specs.Names.{shown}
use Rattle.reports.proofs.wires.list.Given as goal

abbrev pub invariant-loop-wire : goal.invariant-loop-wire
invariant-loop-wire l = string_bytes l.text ≡ wires_line (length l.names) ++ wire_lines 0 (map shown (take l.wire-counter l.names))
