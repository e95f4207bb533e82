use Rattle.std.proofs.Common.{refl}
use Rattle.signals.proofs.Wires.{intersection_wires}
use Rattle.signals.proofs.wire_set.WireSet.intersection.Goals as goal

pub returns : goal.returns
returns c = record { value = refl; wires = intersection_wires c.args.self.bits c.args.other.bits }
