use Rattle.std.proofs.Common.{false, length, vec_items}
use Rattle.format.proofs.Keeping.{Sofar}
use Rattle.format.proofs.recipe.read_commands.Given as goal

abbrev pub invariant-loop-commands : goal.invariant-loop-commands
invariant-loop-commands l = Sofar l.recipe l.initial.reader.rest.ref_ptr (record { reader = l.reader; ended = false }) (vec_items l.commands)

abbrev pub decreases-loop-commands : goal.decreases-loop-commands
decreases-loop-commands l = length l.reader.rest.now
