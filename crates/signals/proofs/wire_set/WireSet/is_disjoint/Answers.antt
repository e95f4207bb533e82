use Rattle.std.proofs.Common.{refl}
use Rattle.signals.proofs.Wires.{disjoint_wires}
use Rattle.signals.proofs.wire_set.WireSet.is_disjoint.Goals as goal

pub returns : goal.returns
returns c = record { value = refl; wires = disjoint_wires c.args.self.bits c.args.other.bits }
