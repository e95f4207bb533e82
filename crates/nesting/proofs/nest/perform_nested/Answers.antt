use Rattle.std.proofs.Common.{sym}
use Rattle.nesting.proofs.Nested.{promised_first}
use Rattle.nesting.proofs.nest.perform_nested.Goals as goal

pub returns-in-Ok-perform-clause-promise : goal.returns-in-Ok-perform-clause-promise
returns-in-Ok-perform-clause-promise c =
    let done = c.in-Ok-perform.ensures in
    promised_first c.args.calls.now c.args.replies.now _ c.in-Ok.ensures.plan c.in-Ok.ensures.begins done.begins (sym done.value) done.promise
