-- What one step of reading a recipe's commands gives. Assumes nothing: these are definitions.
use Rattle.std.specs.Prelude.{◌≡◌, suc, ◌+◌, Bool, true, false, cond, length, drop, Ok, Err, Result, Option, MatchOption, IfOk}
use Rattle.std.specs.Iterator.{Count, at_most}
use Rattle.format.specs.Commands.{today}
use Rattle.format.specs.Reading.{is_end, first_read}
use Rattle.format.specs.Values.{word, Lies, behind, words_told, answer, taken}
use Rattle.format.specs.declared.command.Command.{Command}
use Rattle.format.specs.declared.refusal.RecipeError.{RecipeError}
use Rattle.format.specs.declared.reader.Reader.{Reader}
use Rattle.format.specs.declared.commands.Commands.{Commands}

-- nothing is read behind END, and nothing behind a refusal
abbrev pub is_last : Result Command RecipeError → Bool
is_last (Ok c) = is_end (word c)
is_last (Err e) = true

-- one read of the commands that are left
pub record Reads (s : Reader) (read : Result Command RecipeError) (t : Reader) : Type 0 where
  pub value : words_told read ≡ answer s.position (first_read today s.rest.now)
  pub position : t.position ≡ s.position + taken (first_read today s.rest.now)
  pub rest : t.rest.now ≡ drop (taken (first_read today s.rest.now)) s.rest.now
  pub place : t.rest.ref_ptr ≡ behind s.rest.ref_ptr (taken (first_read today s.rest.now))
  pub name : IfOk read (Lies (behind s.rest.ref_ptr 1))

-- a step gives what is read, or nothing behind the last
abbrev pub Steps : Commands → Option (Result Command RecipeError) → Commands → Type 0
Steps s r t = MatchOption r ((s.ended ≡ true) × (t ≡ s)) (λ read. (s.ended ≡ false) × Reads s.reader read t.reader × (t.ended ≡ is_last read))

-- each command has a byte at least, and a refusal may come
abbrev pub steps_left : Commands → Count
steps_left s = at_most (cond s.ended 0 (suc (length s.reader.rest.now)))
