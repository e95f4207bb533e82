-- The commands of a recipe and their bytes. Assumes nothing: these are definitions.
use Rattle.std.specs.Prelude.{◌≡◌, ℕ, ◌^◌, ◌<◌, Bool, true, cond, List, [], ◌∷◌, ◌++◌, length, Some, None, Option, ◌==◌}
use Rattle.std.specs.List.{flat_map}
use Rattle.signals.specs.Bytes.{eight}
use Rattle.format.specs.Names.{well_formed, field}
use Rattle.format.specs.declared.command.Opcode.{Opcode}
use Rattle.format.specs.declared.command.Opcode.TheVariants.{Wire, Machine, Rule, Par, Hide, Unless, Refine, End}

-- A form of recipe files: the bytes of a name's field, and the commands that it has.
pub record Form : Type 0 where
  pub width : ℕ
  pub has : Opcode → Bool

-- the form of today's files: 24 bytes to a name, and all eight commands
abbrev pub today : Form
today = record { width = 24; has = λ _. true }

-- A command by the values of its operands, which are numbers. A wire set is its number, a name has no zero bytes.
pub data Word : Type 0 where
  wire : List ℕ → Word
  machine : ℕ → Word
  -- from, to, present, absent, emits
  rule : ℕ → ℕ → ℕ → ℕ → ℕ → Word
  par : Word
  hide : ℕ → Word
  unless : ℕ → Word
  refine : ℕ → Word
  end : Word

abbrev pub opcode : Word → Opcode
opcode (wire name) = Wire
opcode (machine states) = Machine
opcode (rule from to present absent emits) = Rule
opcode par = Par
opcode (hide hidden) = Hide
opcode (unless w) = Unless
opcode (refine stage) = Refine
opcode end = End

-- the byte that begins a command
abbrev pub byte : Opcode → ℕ
byte Wire = 1
byte Machine = 2
byte Rule = 3
byte Par = 4
byte Hide = 5
byte Unless = 6
byte Refine = 7
byte End = 8

-- the bytes of a command's operands
abbrev pub size : Form → Opcode → ℕ
size form Wire = form.width
size form Machine = 1
size form Rule = 26
size form Par = 0
size form Hide = 8
size form Unless = 1
size form Refine = 1
size form End = 0

-- the command that a byte begins
abbrev pub opcode_of : ℕ → Option Opcode
opcode_of b = cond (b == 1) (Some Wire) (cond (b == 2) (Some Machine) (cond (b == 3) (Some Rule) (cond (b == 4) (Some Par) (cond (b == 5) (Some Hide) (cond (b == 6) (Some Unless) (cond (b == 7) (Some Refine) (cond (b == 8) (Some End) None)))))))

abbrev pub if_had : Form → Option Opcode → Option Opcode
if_had form None = None
if_had form (Some k) = cond (form.has k) (Some k) None

-- the command of a form that a byte begins
abbrev pub command_of : Form → ℕ → Option Opcode
command_of form b = if_had form (opcode_of b)

-- a command's operands as bytes
abbrev pub operands : Form → Word → List ℕ
operands form (wire name) = field form.width name
operands form (machine states) = states ∷ []
operands form (rule from to present absent emits) = from ∷ to ∷ (eight present ++ (eight absent ++ eight emits))
operands form par = []
operands form (hide hidden) = eight hidden
operands form (unless w) = w ∷ []
operands form (refine stage) = stage ∷ []
operands form end = []

-- a command as bytes
abbrev pub encode : Form → Word → List ℕ
encode form w = byte (opcode w) ∷ operands form w

-- commands as bytes, end to end
abbrev pub encode_all : Form → List Word → List ℕ
encode_all form = flat_map (encode form)

abbrev pub extent : Form → List Word → ℕ
extent form ws = length (encode_all form ws)

-- the operands of a command fit their places
abbrev pub Fitting : Form → Word → Type 0
Fitting form (wire name) = well_formed form.width name ≡ true
Fitting form (machine states) = states < 256
Fitting form (rule from to present absent emits) = (from < 256) × (to < 256) × (present < 2 ^ 64) × (absent < 2 ^ 64) × (emits < 2 ^ 64)
Fitting form par = Unit {0}
Fitting form (hide hidden) = hidden < 2 ^ 64
Fitting form (unless w) = w < 256
Fitting form (refine stage) = stage < 256
Fitting form end = Unit {0}

-- a command that a file of this form can hold
abbrev pub Proper : Form → Word → Type 0
Proper form w = (form.has (opcode w) ≡ true) × Fitting form w
