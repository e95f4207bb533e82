-- What reading a whole recipe comes to, in the words of its commands. Assumes nothing: these are definitions.
use Rattle.std.specs.Prelude.{◌≡◌, ℕ, suc, ◌+◌, ◌<◌, Bool, true, false, List, [], ◌∷◌, ◌++◌, length, take, drop, Some, None, Option}
use Rattle.std.specs.List.{AllByRecursion}
use Rattle.format.specs.Commands.{Form, Word, end, opcode, size, command_of, encode_all, extent, Proper}
use Rattle.format.specs.Reading.{refused, first_read, is_end, Reading, read_all}
use Rattle.format.specs.declared.command.Opcode.{Opcode}
use Rattle.format.specs.declared.refusal.Refusal.{Refusal}
use Rattle.format.specs.declared.refusal.Refusal.TheVariants.{EndOfBytes, UnknownCommand, MissingOperands, MalformedName, MisplacedRule, BytesAfterEnd, TooLong, NoSpace, OutOfMemory}

abbrev pub Bytes : List ℕ → Type 0
Bytes = AllByRecursion (λ b. b < 256)

abbrev pub NotEnd : Word → Type 0
NotEnd w = is_end w ≡ false

-- The bytes are the encodings of the commands, in order and end to end, with END last and nowhere else.
pub record Complete (form : Form) (bs : List ℕ) (ws : List Word) : Type 0 where
  pub whole : encode_all form ws ≡ bs
  pub front : List Word
  pub last : ws ≡ front ++ end ∷ []
  pub once : AllByRecursion NotEnd front
  pub proper : AllByRecursion (Proper form) ws

-- The bytes begin with the encodings of the commands, among which END is not, and the command behind them is refused.
pub record Stopped (form : Form) (bs : List ℕ) (ws : List Word) (r : Refusal) : Type 0 where
  pub behind : List ℕ
  pub split : encode_all form ws ++ behind ≡ bs
  pub asked : first_read form behind ≡ refused r
  pub none : AllByRecursion NotEnd ws
  pub proper : AllByRecursion (Proper form) ws

abbrev pub Ended : Form → List ℕ → List Word → Option Refusal → Type 0
Ended form bs ws None = Complete form bs ws
Ended form bs ws (Some r) = Stopped form bs ws r

-- the bytes that the first command names: its own byte and its operands
abbrev pub named_operands : Form → Option Opcode → ℕ
named_operands form None = 0
named_operands form (Some k) = size form k

abbrev pub named : Form → List ℕ → ℕ
named form [] = 0
named form (b ∷ bs) = suc (named_operands form (command_of form b))

-- the refusals that no byte behind the command they name can alter
abbrev pub settled : Refusal → Bool
settled EndOfBytes = false
settled UnknownCommand = true
settled MissingOperands = false
settled MalformedName = true
settled MisplacedRule = true
settled BytesAfterEnd = false
settled TooLong = true
settled NoSpace = true
settled OutOfMemory = true

-- commands, and what was read behind them
abbrev pub followed : List Word → Reading → Reading
followed ws r = record { words = ws ++ r.words; ending = r.ending }

-- What a reading of bytes is, to the end.
pub record Whole (form : Form) (bs : List ℕ) (r : Reading) : Type 0 where
  pub ended : Ended form bs r.words r.ending
  -- commands with END last, and nowhere else, are read as what they are
  pub complete : form.has (opcode end) ≡ true → (ws : List Word) → AllByRecursion (Proper form) ws → AllByRecursion NotEnd ws → bs ≡ encode_all form (ws ++ end ∷ []) → r ≡ record { words = ws ++ end ∷ []; ending = None }
  -- where no byte is left, the refusal stands at the recipe's length
  pub short : r.ending ≡ Some EndOfBytes → extent form r.words ≡ length bs
  -- whatever stands behind the commands before a refusal, they are read
  pub before : (e : Refusal) → r.ending ≡ Some e → (t : List ℕ) → read_all form (take (extent form r.words) bs ++ t) ≡ followed r.words (read_all form t)
  -- whatever stands behind the bytes that a settled refusal names, the reading is the same
  pub blind : (e : Refusal) → r.ending ≡ Some e → settled e ≡ true → (t : List ℕ) → let p = extent form r.words in read_all form (take (p + named form (drop p bs)) bs ++ t) ≡ r
