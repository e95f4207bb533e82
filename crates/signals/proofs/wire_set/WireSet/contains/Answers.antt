use Rattle.std.proofs.Common.{sym, ◌∙◌, rules}
use Rattle.std.proofs.lemmas.Bool.{le-ltb}
use Rattle.signals.proofs.Wires.{none_above}
use Rattle.signals.proofs.wire_set.WireSet.contains.Goals as goal

pub returns-else-wire-lt-WIRES : goal.returns-else-wire-lt-WIRES
returns-else-wire-lt-WIRES c =
    le-ltb c.args.wire 64 (search rules) ∙ sym (none_above 64 c.args.self.bits c.args.wire (search rules) (search rules))
