-- Which numbers are wires. Assumes nothing: these are definitions.
use Rattle.std.specs.Prelude.{◌≡◌, ℕ, cond, Ok, Err, Result, Option, Some, None, nat_lt}
use Rattle.signals.specs.declared.wire.Wire.{Wire}
use Rattle.signals.specs.declared.wire.NoSuchWire.{NoSuchWire}

-- the wire of a number, if there is one
abbrev pub wire_of : ℕ → Option ℕ
wire_of number = cond (nat_lt number 64) (Some number) None

-- the wire that is told, if one is
abbrev pub told_wire : Result Wire NoSuchWire → Option ℕ
told_wire (Ok wire) = Some wire
told_wire (Err e) = None

-- the wire of the number is told
abbrev pub Numbers : ℕ → Result Wire NoSuchWire → Type 0
Numbers number r = told_wire r ≡ wire_of number
