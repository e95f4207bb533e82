use Rattle.std.proofs.Common.{refl}
use Rattle.signals.proofs.Wires.{union_wires}
use Rattle.signals.proofs.wire_set.WireSet.union.Goals as goal

pub returns : goal.returns
returns c = record { value = refl; wires = union_wires c.args.self.bits c.args.other.bits }
