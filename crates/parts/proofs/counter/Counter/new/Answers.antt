use Rattle.std.proofs.Common.{rules}
use Rattle.parts.specs.Counting.{counter_counts}
use Rattle.parts.proofs.counter.Counter.new.Goals as goal

pub returns-clause-law : goal.returns-clause-law
returns-clause-law c = counter_counts (record { input = c.in-Ok-Ok.input; output = c.in-Ok-Ok.output; number = c.args.number }) (search rules)
