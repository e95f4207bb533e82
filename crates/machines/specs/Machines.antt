-- Machines: the courses of rules. Assumes nothing: these are definitions.
use Rattle.std.specs.Prelude.{ℕ, List, Ok}
use Rattle.parts.specs.Courses.{Answer, Course, run_of}
use Rattle.parts.specs.Readings.{Accepted}
use Rattle.parts.specs.Operators.{Move}
use Rattle.parts.specs.Stages.{outputs_of}
use Rattle.rules.specs.declared.rule.Rule.{Rule}
use Rattle.machines.specs.Reactions.{reaction}

-- the course of moves that rules have from a state: each accepted input is answered by their reaction, which tells the next state
abbrev pub machine_move : List Rule → ℕ → ℕ → Answer Move
machine_move rules state x = Ok (reaction rules state x)

abbrev pub machine_next : List Rule → ℕ → ℕ → ℕ
machine_next rules state x = (reaction rules state x).1

abbrev pub machine_moves : List Rule → ℕ → Course Move
machine_moves rules = run_of (machine_move rules) (machine_next rules)

-- and the course of their outputs
abbrev pub machine_course : List Rule → ℕ → Course ℕ
machine_course rules state = outputs_of (machine_moves rules state)

-- no input is refused, from any state and behind any inputs
abbrev pub NeverRefuses : List Rule → Type 0
NeverRefuses rules = (state : ℕ) (xs : List ℕ) (x : ℕ) → Accepted (machine_moves rules state xs x) × Accepted (machine_course rules state xs x)
