use Rattle.std.proofs.Common.{◌∙◌, rules}
use Rattle.signals.proofs.Numbers.{number_of_eight}
use Rattle.signals.proofs.wire_set.WireSet.from_be_bytes.Goals as goal

pub returns : goal.returns
returns c = c.from_be_bytes-bits.ensures ∙ number_of_eight c.args.bytes (search rules)
