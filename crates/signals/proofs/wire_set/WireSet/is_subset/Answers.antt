use Rattle.std.proofs.Common.{refl}
use Rattle.signals.proofs.Wires.{subset_wires}
use Rattle.signals.proofs.wire_set.WireSet.is_subset.Goals as goal

pub returns : goal.returns
returns c = record { value = refl; wires = subset_wires c.args.self.bits c.args.other.bits }
