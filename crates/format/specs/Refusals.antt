-- The numbers of the refusals. Assumes nothing: these are definitions.
use Rattle.std.specs.Prelude.{ℕ, List, ◌++◌, codes, decimal}
use Rattle.format.specs.declared.refusal.Refusal.{Refusal}
use Rattle.format.specs.declared.refusal.RecipeError.{RecipeError}
use Rattle.format.specs.declared.refusal.Refusal.TheVariants.{EndOfBytes, UnknownCommand, MissingOperands, MalformedName, MisplacedRule, BytesAfterEnd, TooLong, NoSpace, OutOfMemory}

-- the number by which people know a refusal
abbrev pub refusal_number : Refusal → ℕ
refusal_number EndOfBytes = 1
refusal_number UnknownCommand = 2
refusal_number MissingOperands = 3
refusal_number MalformedName = 5
refusal_number MisplacedRule = 9
refusal_number BytesAfterEnd = 21
refusal_number TooLong = 22
refusal_number NoSpace = 51
refusal_number OutOfMemory = 100

-- how a refusal is printed with its position: load, the number and the position
abbrev pub error_text : RecipeError → List ℕ
error_text e = codes "load " ++ (decimal (refusal_number e.refusal) ++ (codes " " ++ decimal e.position))

-- want of memory, which is about no byte
abbrev pub out_of_memory : RecipeError
out_of_memory = record { refusal = OutOfMemory; position = 0 }
