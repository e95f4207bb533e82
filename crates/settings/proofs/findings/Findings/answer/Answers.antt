use Rattle.std.proofs.Common.{◌≤◌, length, subst, le_trans, rules, arith}
use Rattle.parts.specs.Operators.{settings}
use Rattle.settings.specs.Findings.{Finds}
use Rattle.settings.specs.declared.findings.Findings.TheVariants.{Several}
use Rattle.settings.proofs.Sizes.{settings_few, several_is, most_is}
use Rattle.settings.proofs.findings.Findings.answer.Goals as goal

pub returns-in-Several : goal.returns-in-Several
returns-in-Several c = λ ps found.
    let wires = c.wires-wires.ensures in
    let several : Finds (Several c.in-Several.count) ps = subst (λ f. Finds f ps) c.in-Several.is found in
    let few = subst (λ h. length (settings h) ≤ 4096) wires.value (settings_few c.wires-wires.result.bits (search rules) wires.few) in
    record {
      most = most_is c.args.hidden c.args.place c.in-Several.count 65535 ps (omega arith) several.0 several.1;
      whole = λ fewer. several_is c.args.hidden c.args.place c.in-Several.count ps several.0 several.1 (le_trans fewer few);
      setting = tt;
    }
