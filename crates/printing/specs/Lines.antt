-- The lines that programs print of ticks and calls, as bytes. Assumes nothing: these are definitions.
use Rattle.std.specs.Prelude.{ℕ, zero, suc, cond, List, [], ◌++◌, Ok, Err, codes, decimal, ◌==◌}
use Rattle.signals.specs.Sets.{has}
use Rattle.parts.specs.declared.fault.Fault.{Fault}
use Rattle.parts.specs.declared.call.Reply.{Reply}
use Rattle.parts.specs.declared.call.Reply.TheVariants.{Answer, Restarted}
use Rattle.parts.specs.Faults.{fault_text}

-- the wires of a set below k, by number, a space before each
abbrev pub wires_text : ℕ → ℕ → List ℕ
wires_text set zero = []
wires_text set (suc k) = wires_text set k ++ cond (has set k) (codes " " ++ decimal k) []

-- a tick's number, and the wires that it emits, or a hyphen
abbrev pub tick_text : ℕ → ℕ → List ℕ
tick_text tick set = cond (set == 0) (decimal tick ++ codes " -\n") ((decimal tick ++ wires_text set 64) ++ codes "\n")

-- the number of a refused tick, and its fault
abbrev pub refused_text : ℕ → Fault → List ℕ
refused_text tick fault = decimal tick ++ (codes " " ++ (fault_text fault ++ codes "\n"))

-- a call's number, and what it is answered with
abbrev pub reply_text : ℕ → Reply → List ℕ
reply_text number (Answer (Ok outputs)) = tick_text number outputs.bits
reply_text number (Answer (Err fault)) = refused_text number fault
reply_text number Restarted = decimal number ++ codes " restarted\n"
