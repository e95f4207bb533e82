use Rattle.std.proofs.Common.{length}
use Rattle.writing.specs.Pens.{place, within}
use Rattle.writing.proofs.Copying.{Copied}
use Rattle.writing.proofs.rewrite.copy.Given as goal

abbrev pub invariant-loop-reader : goal.invariant-loop-reader
invariant-loop-reader l = Copied l.recipe l.initial.out l.reader.rest.now l.reader.position (place l.pen) (within l.pen) l.out

abbrev pub decreases-loop-reader : goal.decreases-loop-reader
decreases-loop-reader l = length l.reader.rest.now
