-- The settings of hidden wires that are tried. Assumes nothing: these are definitions.
use Rattle.std.specs.Prelude.{ℕ, suc, ◌≤◌, ◌-◌, Bool, true, Option, Some, None, List, [], length, filter}
use Rattle.std.specs.List.{range_with_len}
use Rattle.signals.specs.declared.wire_set.WireSet.{WireSet}
use Rattle.signals.specs.Sets.{subset, has}

-- the settings of the hidden wires from s on, by rising value
abbrev pub untried : ℕ → ℕ → List ℕ
untried h s = filter (λ t. subset t h) (range_with_len s (suc h - s))

-- the settings that are left, the next one first
abbrev pub left : ℕ → Option WireSet → List ℕ
left h None = []
left h (Some s) = untried h s.bits

-- the next setting is one
abbrev pub is_within : ℕ → Option WireSet → Bool
is_within h None = true
is_within h (Some s) = subset s.bits h

-- the wires of a set below k
abbrev pub wires_below : ℕ → ℕ → List ℕ
wires_below k set = filter (λ w. has set w) (range_with_len 0 k)

-- how many wires a set has
unfoldable pub size : ℕ → ℕ
size set = length (wires_below 64 set)

-- so few wires can be hidden
abbrev pub IsFew : ℕ → Type 0
IsFew set = size set ≤ 12
