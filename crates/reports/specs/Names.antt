-- The names that a recipe's commands declare. Assumes nothing: these are definitions.
use Rattle.std.specs.Prelude.{◌≡◌, ℕ, true, List, Some, None, Option}
use Rattle.std.specs.Borrow.{Bor}
use Rattle.std.specs.List.{filter_map}
use Rattle.format.specs.Names.{spelled}
use Rattle.format.specs.Commands.{Word, wire, machine, rule, par, hide, unless, refine, end}
use Rattle.format.specs.declared.command.Command.{Command}
use Rattle.format.specs.declared.command.Command.TheVariants.{Wire, Machine, Rule, Par, Hide, Unless, Refine, End}

-- the name that a command declares, if it is a WIRE
abbrev pub name_ref : Command → Option (Bor (List ℕ))
name_ref (Wire name) = Some name
name_ref (Machine states) = None
name_ref (Rule r) = None
name_ref Par = None
name_ref (Hide hidden) = None
name_ref (Unless w) = None
name_ref (Refine stage) = None
name_ref End = None

abbrev pub name_refs : List Command → List (Bor (List ℕ))
name_refs = filter_map name_ref

-- the bytes of a name
abbrev pub shown : Bor (List ℕ) → List ℕ
shown name = name.now

-- a name of capital letters, digits and hyphens
abbrev pub Spelled : Bor (List ℕ) → Type 0
Spelled name = spelled name.now ≡ true

-- the names, by the values of the operands
abbrev pub name_of : Word → Option (List ℕ)
name_of (wire name) = Some name
name_of (machine states) = None
name_of (rule from to present absent emits) = None
name_of par = None
name_of (hide hidden) = None
name_of (unless w) = None
name_of (refine stage) = None
name_of end = None

abbrev pub names_of : List Word → List (List ℕ)
names_of = filter_map name_of
