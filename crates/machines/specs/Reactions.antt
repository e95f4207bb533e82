-- How a machine reacts by its rules. Assumes nothing: these are definitions.
use Rattle.std.specs.Prelude.{◌≡◌, ℕ, ◌<◌, ◌≤◌, true, false, cond, ◌⊎◌, List, [], ◌∷◌}
use Rattle.signals.specs.Sets.{union}
use Rattle.rules.specs.declared.rule.Rule.{Rule}
use Rattle.rules.specs.Rules.{fires}
use Rattle.parts.specs.Lists.{In}
use Rattle.parts.specs.Operators.{Move}

-- the move of a rule that fires, and that of a machine that stays, which is no written rule
abbrev pub rule_move : Rule → Move
rule_move r = (r.emits.bits, r.to, true)

abbrev pub staying : ℕ → Move
staying state = (0, state, false)

-- the move in a state at an input: that of the first rule in written order that fires; where none fires it stays, and emits nothing
abbrev pub reaction : List Rule → ℕ → ℕ → Move
reaction [] state x = staying state
reaction (r ∷ rs) state x = cond (fires r state x) (rule_move r) (reaction rs state x)

-- a move that the rules allow in a state at an input, in whatever order they are written: that of any rule that fires, or staying where none does
abbrev pub Allows : List Rule → ℕ → ℕ → Move → Type 0
Allows rules state x m = ((r : Rule) × In r rules × (fires r state x ≡ true) × (m ≡ rule_move r)) ⊎ (((r : Rule) → In r rules → fires r state x ≡ false) × (m ≡ staying state))

-- Deterministic and reactive: in every state, at every input, the rules allow exactly one move, which is the reaction.
abbrev pub Determined : List Rule → Type 0
Determined rules = (state x : ℕ) → Allows rules state x (reaction rules state x) × ((m : Move) → Allows rules state x m → m ≡ reaction rules state x)

-- Rules of so many states: from any other number no rule fires, and the states lead to states.
pub record KeepsStates (states : ℕ) (rules : List Rule) : Type 0 where
  pub outside : (state x : ℕ) → states ≤ state → reaction rules state x ≡ staying state
  pub inside : (state x : ℕ) → state < states → (reaction rules state x).1 < states

-- the wires of any rule of the list
abbrev pub united : (Rule → ℕ) → List Rule → ℕ
united wires [] = 0
united wires (r ∷ rs) = union (wires r) (united wires rs)

-- the wires that the rules ask for or forbid, and those that they emit
abbrev pub rule_reads : Rule → ℕ
rule_reads r = union r.present.bits r.absent.bits

abbrev pub read_by_rules : List Rule → ℕ
read_by_rules = united rule_reads

abbrev pub emitted_by_rules : List Rule → ℕ
emitted_by_rules = united (λ r. r.emits.bits)
