-- Rules of machines: when they fire, and which may stand together. Assumes nothing: these are definitions.
use Rattle.std.specs.Prelude.{◌≡◌, ℕ, Bool, true, false, not, ◌&&◌, ◌||◌, ◌==◌, nat_lt}
use Rattle.signals.specs.Sets.{union, subset, disjoint, has}
use Rattle.rules.specs.declared.rule.Rule.{Rule}

-- ---- one rule
-- all of present and none of absent is in the input
abbrev pub granted : Rule → ℕ → Bool
granted r x = subset r.present.bits x && disjoint r.absent.bits x

-- it fires in its state at an input that grants it
abbrev pub fires : Rule → ℕ → ℕ → Bool
fires r state x = r.from == state && granted r x

-- the same, wire by wire
pub record Fires (r : Rule) (state x : ℕ) : Type 0 where
  pub from_here : r.from ≡ state
  pub present_there : (w : ℕ) → has r.present.bits w ≡ true → has x w ≡ true
  pub absent_not : (w : ℕ) → has r.absent.bits w ≡ true → has x w ≡ false

-- from and to are below the number of states
abbrev pub within : ℕ → Rule → Bool
within states r = nat_lt r.from states && nat_lt r.to states

-- ---- two rules
-- some input fires both: they are of one state, and no wire that either asks for is forbidden by either
abbrev pub together : Rule → Rule → Bool
together a b = a.from == b.from && disjoint (union a.present.bits b.present.bits) (union a.absent.bits b.absent.bits)

-- if some input fires both, they lead to the same state and emit the same
abbrev pub accord : Rule → Rule → Bool
accord a b = not (together a b) || (a.to == b.to && a.emits.bits == b.emits.bits)

-- wherever both fire, they lead to the same state and emit the same
abbrev pub Accord : Rule → Rule → Type 0
Accord a b = (state x : ℕ) → fires a state x ≡ true → fires b state x ≡ true → (a.to ≡ b.to) × (a.emits.bits ≡ b.emits.bits)
