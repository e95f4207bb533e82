use Rattle.std.proofs.Common.{rules}
use Rattle.writing.proofs.Outputs.{writes}
use Rattle.writing.proofs.writer.Writer.machine.Goals as goal

pub returns : goal.returns
returns c =
    let value = c.in_ok-writer.ensures.value in
    rw c.writer.view_is (search (rules, writes))
