use Rattle.std.proofs.Common.{false, length}
use Rattle.format.proofs.Keeping.{Counting}
use Rattle.format.proofs.recipe.count_commands.Given as goal

abbrev pub invariant-loop-command : goal.invariant-loop-command
invariant-loop-command l = Counting l.recipe (record { reader = l.reader; ended = false }) l.count

abbrev pub decreases-loop-command : goal.decreases-loop-command
decreases-loop-command l = length l.reader.rest.now
