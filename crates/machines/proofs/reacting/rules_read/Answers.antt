use Rattle.std.proofs.Common.{rules, tests, ap, ◌∙◌}
use Rattle.std.proofs.lemmas.Iterator.{YieldsList-from_slice}
use Rattle.std.proofs.lemmas.Iterator.Consumers.{fold_from_yields_List}
use Rattle.machines.specs.Reactions.{rule_reads}
use Rattle.machines.proofs.Reactions.{with_wires, bits-fold}
use Rattle.machines.proofs.reacting.rules_read.Goals as goal

pub returns : goal.returns
returns c =
    ap (λ w. w.bits) (fold_from_yields_List _ (with_wires rule_reads) _ _ c.fold.ensures.ran (YieldsList-from_slice c.args.rules.now cc) (λ a x b q k. search (rules, tests)))
    ∙ bits-fold rule_reads (record { bits = 0 }) c.args.rules.now
