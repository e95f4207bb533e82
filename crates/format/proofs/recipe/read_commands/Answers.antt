use Rattle.std.proofs.Common.{false, Some, Ok, Err, sym, ap, ◌∙◌, subst}
use Rattle.std.proofs.lemmas.Result.{err_from_is_err_and}
use Rattle.format.specs.Stepping.{is_last, Steps}
use Rattle.format.specs.Values.{NamesLie}
use Rattle.format.proofs.Keeping.{read_steps, kept_refused, kept_more, kept_on}
use Rattle.format.proofs.recipe.read_commands.Goals as goal
use Rattle.format.proofs.recipe.read_commands.Goals.{In_ok-command}

-- the command that was read
here : (c : In_ok-command) → Steps (record { reader = c.loop-commands.reader; ended = false }) (Some (Ok c.in_ok-command.command)) (record { reader = c.read.new.self; ended = is_last (Ok c.in_ok-command.command) })
here c =
    let told = c.in_ok-command.ensures in
    read_steps c.loop-commands.reader (Ok c.in_ok-command.command) c.read.new.self (record { value = told.value; position = told.position; rest = told.rest; place = told.place; name = told.name })

pub returns-in_err-command-clause-value : goal.returns-in_err-command-clause-value
returns-in_err-command-clause-value c =
    let p = err_from_is_err_and c.from_residual-in_err-command.result c.from_residual-in_err-command.ensures.1 in
    let e = c.in_err-command.field-0.0 in
    let told = c.in_err-command.ensures in
    rw (p.1, p.2) (kept_refused _ _ _ _ c.loop-commands.invariant _ e (read_steps c.loop-commands.reader (Err e) c.read.new.self (record { value = told.value; position = told.position; rest = told.rest; place = told.place; name = tt })))

pub returns-then-is_end-clause-names : goal.returns-then-is_end-clause-names
returns-then-is_end-clause-names c =
    let more = kept_more _ _ _ _ c.loop-commands.invariant _ _ (here (goal.at.returns-then-is_end-clause-names c).In_ok-command) in
    subst (λ p. NamesLie p c.push.new.self.items) (ap (λ r. r.ref_ptr) c.new-reader.ensures.rest) (rw c.in_ok-push.ensures.items more.names)

pub loop-commands-preserved : goal.loop-commands-preserved
loop-commands-preserved c =
    rw c.in_ok-push.ensures.items
    (kept_on _ _ _ _ c.loop-commands.invariant _ _ (here (goal.at.loop-commands-preserved c).In_ok-command) (sym c.is_end.ensures ∙ c.if-is_end.false))
