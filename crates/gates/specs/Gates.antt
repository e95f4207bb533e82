-- A part that refuses. Assumes nothing: these are definitions.
use Rattle.std.specs.Prelude.{ℕ, cond, Ok, Err}
use Rattle.signals.specs.Sets.{has}
use Rattle.parts.specs.declared.fault.Fault.{Fault}
use Rattle.parts.specs.Courses.{Course}

-- it refuses wire 0 at any time with its fault, and emits nothing
abbrev pub gate_course : Fault → Course ℕ
gate_course fault xs x = cond (has x 0) (Err fault) (Ok 0)
