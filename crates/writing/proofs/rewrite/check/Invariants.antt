use Rattle.std.proofs.Common.{length}
use Rattle.writing.proofs.Checking.{Clear}
use Rattle.writing.proofs.rewrite.check.Given as goal

abbrev pub invariant-loop-command : goal.invariant-loop-command
invariant-loop-command l = Clear l.recipe l.reader.rest.now l.reader.position l.in_machine

abbrev pub decreases-loop-command : goal.decreases-loop-command
decreases-loop-command l = length l.reader.rest.now
