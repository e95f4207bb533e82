use Rattle.writing.proofs.Outputs.{ended}
use Rattle.writing.proofs.writer.Writer.end.Goals as goal

pub returns-clause-law : goal.returns-clause-law
returns-clause-law c = rw c.writer.view_is (ended _ _ _ _ c.in_ok-writer.ensures.value c.in_ok-writer.ensures.output)
