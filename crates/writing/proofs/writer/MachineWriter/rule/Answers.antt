use Rattle.std.proofs.Common.{◌≡◌, ◌∷◌, refl, rules, arith}
use Rattle.std.proofs.lemmas.Grind.{common_steps}
use Rattle.format.specs.Commands.{byte}
use Rattle.format.specs.Values.{rule_word}
use Rattle.format.specs.declared.command.Opcode.TheVariants.{Rule}
use Rattle.writing.specs.Writing.{put_answer}
use Rattle.writing.specs.Writers.{answered}
use Rattle.writing.proofs.Outputs.{writes}
use Rattle.writing.proofs.writer.MachineWriter.rule.Goals as goal

pub returns : goal.returns
returns c =
    let value : c.map_err.result ≡ answered c.args.self (put_answer c.args.self (byte Rule ∷ c.rule_operands-operands.result) c.args.out.now) = grind (arith, common_steps) in
    let output = rw c.self.view_is at c.put.ensures.output in
    writes (rule_word c.args.rule) _ _ _ _ _ value output c.rule_operands-operands.ensures (search rules) refl
