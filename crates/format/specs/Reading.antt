-- What bytes mean as commands. Assumes nothing: these are definitions.
use Rattle.std.specs.Prelude.{ℕ, zero, suc, ◌-◌, Bool, true, false, cond, List, [], ◌∷◌, length, take, drop, Some, None, Option, ◌==◌, nat_le, slice_index}
use Rattle.signals.specs.Bytes.{number}
use Rattle.format.specs.Names.{before_zero, holds_name}
use Rattle.format.specs.Commands.{Form, Word, wire, machine, rule, par, hide, unless, refine, end, size, command_of}
use Rattle.format.specs.declared.command.Opcode.{Opcode}
use Rattle.format.specs.declared.command.Opcode.TheVariants.{Wire, Machine, Rule, Par, Hide, Unless, Refine, End}
use Rattle.format.specs.declared.refusal.Refusal.{Refusal}
use Rattle.format.specs.declared.refusal.Refusal.TheVariants.{EndOfBytes, UnknownCommand, MissingOperands, MalformedName, BytesAfterEnd}

-- what one read gives: a command and the number of its bytes, or a refusal
pub data Read : Type 0 where
  got : Word → ℕ → Read
  refused : Refusal → Read

-- the wire set in the eight bytes from place i on
abbrev pub set_at : ℕ → List ℕ → ℕ
set_at i bs = number (take 8 (drop i bs))

-- the command, given the bytes behind its first, among which its operands are
abbrev pub operands_read : Form → Opcode → List ℕ → Read
operands_read form Wire bs = let name = take form.width bs in cond (holds_name name) (got (wire (before_zero name)) (suc form.width)) (refused MalformedName)
operands_read form Machine bs = got (machine (slice_index bs 0)) 2
operands_read form Rule bs = got (rule (slice_index bs 0) (slice_index bs 1) (set_at 2 bs) (set_at 10 bs) (set_at 18 bs)) 27
operands_read form Par bs = got par 1
operands_read form Hide bs = got (hide (set_at 0 bs)) 9
operands_read form Unless bs = got (unless (slice_index bs 0)) 2
operands_read form Refine bs = got (refine (slice_index bs 0)) 2
operands_read form End bs = cond (length bs == 0) (got end 1) (refused BytesAfterEnd)

abbrev pub command_read : Form → Option Opcode → List ℕ → Read
command_read form None bs = refused UnknownCommand
command_read form (Some k) bs = cond (nat_le (size form k) (length bs)) (operands_read form k bs) (refused MissingOperands)

-- the first command of the bytes
abbrev pub first_read : Form → List ℕ → Read
first_read form [] = refused EndOfBytes
first_read form (b ∷ bs) = command_read form (command_of form b) bs

-- What reading to the end gives: the commands, and how it ended. None: with END, the last of them.
pub record Reading : Type 0 where
  pub words : List Word
  pub ending : Option Refusal

abbrev pub is_end : Word → Bool
is_end (wire name) = false
is_end (machine states) = false
is_end (rule from to present absent emits) = false
is_end par = false
is_end (hide hidden) = false
is_end (unless w) = false
is_end (refine stage) = false
is_end end = true

-- one more command before those read behind it; behind END nothing is read
abbrev pub before : Word → Reading → Reading
before w rest = cond (is_end w) (record { words = w ∷ []; ending = None }) (record { words = w ∷ rest.words; ending = rest.ending })

-- Reading to the end, from the place `skip` bytes on: each command is read behind the one before it.
abbrev pub read_from : Form → ℕ → List ℕ → Reading
read_from form skip [] = record { words = []; ending = Some EndOfBytes }
read_from form zero (b ∷ bs) = elim (first_read form (b ∷ bs)) [ got w n ↦ before w (read_from form (n - 1) bs) | refused r ↦ record { words = []; ending = Some r } ]
read_from form (suc skip) (b ∷ bs) = read_from form skip bs

-- reading to the end
abbrev pub read_all : Form → List ℕ → Reading
read_all form = read_from form 0
