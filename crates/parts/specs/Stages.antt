-- Moves: what a staged part answers besides its outputs. Assumes nothing: these are definitions.
use Rattle.std.specs.Prelude.{◌≡◌, ℕ, Bool, false, List, [], Ok, Err, Result}
use Rattle.signals.specs.declared.wire_set.WireSet.{WireSet}
use Rattle.parts.specs.declared.fault.Fault.{Fault}
use Rattle.parts.specs.Courses.{Answer, Course}
use Rattle.parts.specs.Operators.{Move, fired}
use Rattle.parts.specs.Trees.{outputs}
use Rattle.parts.specs.Plans.{stage_after}

-- the course of outputs that a course of moves has: the same faults, and of each move its outputs
abbrev pub outputs_of : Course Move → Course ℕ
outputs_of c xs x = outputs (c xs x)

-- Where no written rule fires, the stage stays: the told stage is the one told by the last accepted move of the list, and k, the present one, where there is none.
abbrev pub Stays : ℕ → Course Move → Type 0
Stays k c = (xs : List ℕ) (x : ℕ) (m : Move) → c xs x ≡ Ok m → fired m ≡ false → m.1 ≡ stage_after c [] xs k

-- the move that a call tells
abbrev pub as_move : WireSet × ℕ × Bool → Move
as_move m = (m.0.bits, m.1, m.2)

abbrev pub told_move : Result (WireSet × ℕ × Bool) Fault → Answer Move
told_move (Ok m) = Ok (as_move m)
told_move (Err fault) = Err fault
