-- What a writer answers. A writer is seen as its position, and one that finished as the recipe's length. Assumes nothing: these are definitions.
use Rattle.std.specs.Prelude.{◌≡◌, ℕ, List, IfOk, Ok, Err, Result}
use Rattle.format.specs.Commands.{Word}
use Rattle.format.specs.declared.refusal.Refusal.{Refusal}
use Rattle.writing.specs.Writing.{write_answer, written, Wrote}
use Rattle.writing.specs.declared.writer.Unwritten.{Unwritten}

-- a written command moves the writer on to its next state, behind the command; a refused one hands it back
abbrev pub answered : ℕ → Result ℕ Refusal → Result ℕ (Unwritten ℕ)
answered writer (Ok n) = Ok n
answered writer (Err e) = Err (record { refusal = e; writer = writer })

-- What a call that writes the command `w` makes of a writer and an output: its answer, and the output then. A command that was written is read back, and stands behind those that were written before it.
pub record Writes (w : Word) (writer : ℕ) (before : List ℕ) (r : Result ℕ (Unwritten ℕ)) (after : List ℕ) : Type 0 where
  pub value : r ≡ answered writer (write_answer w writer before)
  pub output : after ≡ written w writer before
  pub law : IfOk r (λ n. Wrote w writer before n after)
