use Rattle.std.proofs.Common.{ap, ◌∙◌, rules}
use Rattle.signals.specs.Sets.{has}
use Rattle.signals.proofs.Wires.{and_not, difference_wires}
use Rattle.signals.proofs.wire_set.WireSet.difference.Goals as goal

pub returns : goal.returns
returns c =
    let a = c.args.self.bits in
    let b = c.args.other.bits in
    let e = and_not 64 a b (search rules) (search rules) in
    record { value = e; wires = λ w. ap (λ n. has n w) e ∙ difference_wires a b w }
