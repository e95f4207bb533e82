-- A writer in either of its open states. Assumes nothing: these are definitions.
use Rattle.std.specs.Prelude.{ℕ, Bool, true, false, cond, List, Ok, Err, Result}
use Rattle.format.specs.Commands.{Word}
use Rattle.writing.specs.Rewriting.{opens, misplaced}
use Rattle.writing.specs.Writing.{write_answer, written}
use Rattle.writing.specs.declared.pen.Pen.{Pen}
use Rattle.writing.specs.declared.pen.Pen.TheVariants.{Between, InMachine}
use Rattle.format.specs.declared.refusal.Refusal.{Refusal}
use Rattle.format.specs.declared.refusal.Refusal.TheVariants.{MisplacedRule}

abbrev pub place : Pen → ℕ
place (Between n) = n
place (InMachine n) = n

-- it is in a machine
abbrev pub within : Pen → Bool
within (Between n) = false
within (InMachine n) = true

-- an answer by the pen's position and state
abbrev pub told : Result Pen Refusal → Result (ℕ × Bool) Refusal
told (Ok p) = Ok (place p, within p)
told (Err e) = Err e

abbrev pub with_state : Bool → Result ℕ Refusal → Result (ℕ × Bool) Refusal
with_state b (Ok n) = Ok (n, b)
with_state b (Err e) = Err e

-- a RULE is written in a machine alone, and any other command between parts
abbrev pub pen_answer : Bool → Word → ℕ → List ℕ → Result (ℕ × Bool) Refusal
pen_answer inside w at out = cond (misplaced inside w) (Err MisplacedRule) (with_state (opens w) (write_answer w at out))

abbrev pub pen_output : Bool → Word → ℕ → List ℕ → List ℕ
pen_output inside w at out = cond (misplaced inside w) out (written w at out)
