-- What the program's own values mean. Assumes nothing: these are definitions.
use Rattle.std.specs.Prelude.{◌≡◌, ℕ, suc, ◌+◌, ◌⊎◌, List, [], ◌∷◌, length, Some, None, Ok, Err, Result}
use Rattle.std.specs.Borrow.{Bor}
use Rattle.format.specs.Commands.{Word, wire, machine, rule, par, hide, unless, refine, end, encode, extent, today}
use Rattle.format.specs.Refusals.{out_of_memory}
use Rattle.format.specs.Reading.{Read, got, refused, Reading}
use Rattle.format.specs.declared.command.Command.{Command}
use Rattle.format.specs.declared.command.Command.TheVariants.{Wire, Machine, Rule, Par, Hide, Unless, Refine, End}
use Rattle.rules.specs.declared.rule.Rule.{Rule as Rules}
use Rattle.format.specs.declared.refusal.Refusal.{Refusal}
use Rattle.format.specs.declared.refusal.RecipeError.{RecipeError}

-- a rule by the values of its operands
abbrev pub rule_word : Rules → Word
rule_word r = rule r.from r.to r.present.bits r.absent.bits r.emits.bits

-- a command by the values of its operands
abbrev pub word : Command → Word
word (Wire name) = wire name.now
word (Machine states) = machine states
word (Rule r) = rule_word r
word Par = par
word (Hide hidden) = hide hidden.bits
word (Unless w) = unless w
word (Refine stage) = refine stage
word End = end

-- An address is a block of memory and an offset in it.
abbrev pub Address : Type 0
Address = ℕ × ℕ

abbrev pub behind : Address → ℕ → Address
behind place n = (place.0, n + place.1)

-- A command whose operands begin at an address: the name of a WIRE is the bytes that stand there, and no copy of them.
abbrev pub Lies : Address → Command → Type 0
Lies place (Wire name) = name.ref_ptr ≡ place
Lies place (Machine states) = Unit {0}
Lies place (Rule r) = Unit {0}
Lies place Par = Unit {0}
Lies place (Hide hidden) = Unit {0}
Lies place (Unless w) = Unit {0}
Lies place (Refine stage) = Unit {0}
Lies place End = Unit {0}

-- what reading a part of a recipe answers, told as a read of bytes: its value as a command, and the number of its bytes
abbrev pub told : {A : Type 0} → (A → Word) → (A → ℕ) → Result A Refusal → Read
told command bytes (Ok a) = got (command a) (bytes a)
told command bytes (Err e) = refused e

-- where the answer is a name
abbrev pub name_told : Result (Bor (List ℕ)) Refusal → Read
name_told = told (λ name. wire name.now) (λ _. suc today.width)

-- where it is a command of n bytes
abbrev pub command_told : ℕ → Result Command Refusal → Read
command_told n = told word (λ _. n)

-- where it is a command with the number of its bytes
abbrev pub counted_told : Result (Command × ℕ) Refusal → Read
counted_told = told (λ p. word p.0) (λ p. p.1)

-- what one read of a recipe answers, told by the values of the operands
abbrev pub words_told : Result Command RecipeError → Result Word RecipeError
words_told (Ok c) = Ok (word c)
words_told (Err e) = Err e

-- what a read at a position has to answer
abbrev pub answer : ℕ → Read → Result Word RecipeError
answer position (got w n) = Ok w
answer position (refused r) = Err (record { refusal = r; position = position })

-- the bytes that a read takes
abbrev pub taken : Read → ℕ
taken (got w n) = n
taken (refused r) = 0

-- what counting the commands of a recipe answers: how many there are; or the refusal, at the sum of the lengths of the commands before it
abbrev pub counted : Reading → Result ℕ RecipeError
counted r = elim r.ending [ None ↦ Ok (length r.words) | Some e ↦ Err (record { refusal = e; position = extent today r.words }) ]

-- The refusal with which a reading ended, at the sum of the lengths of the commands before it; or want of memory, where it was not refused.
abbrev pub RefusedBy : Reading → RecipeError → Type 0
RefusedBy r e = ((r.ending ≡ Some e.refusal) × (e.position ≡ extent today r.words)) ⊎ ((e ≡ out_of_memory) × (r.ending ≡ None))

-- commands that stand end to end from an address on, each name within its own
abbrev pub NamesLie : Address → List Command → Type 0
NamesLie place [] = Unit {0}
NamesLie place (c ∷ cs) = Lies (behind place 1) c × NamesLie (behind place (length (encode today (word c)))) cs
