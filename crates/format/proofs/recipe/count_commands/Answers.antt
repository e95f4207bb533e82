use Rattle.std.proofs.Common.{false, Some, Ok, Err, sym, ◌∙◌, arith}
use Rattle.std.proofs.lemmas.Result.{err_from_is_err_and}
use Rattle.format.specs.Commands.{today}
use Rattle.format.specs.Stepping.{is_last, Steps}
use Rattle.format.proofs.Readings.{whole}
use Rattle.format.proofs.Keeping.{bytes_from, read_steps, count_refused, count_room, count_on}
use Rattle.format.proofs.recipe.count_commands.Goals as goal
use Rattle.format.proofs.recipe.count_commands.Goals.{In_ok-command}

-- the command that was read
here : (c : In_ok-command) → Steps (record { reader = c.loop-command.reader; ended = false }) (Some (Ok c.in_ok-command.command)) (record { reader = c.read.new.self; ended = is_last (Ok c.in_ok-command.command) })
here c =
    let told = c.in_ok-command.ensures in
    read_steps c.loop-command.reader (Ok c.in_ok-command.command) c.read.new.self (record { value = told.value; position = told.position; rest = told.rest; place = told.place; name = told.name })

pub returns-in_err-command-clause-value : goal.returns-in_err-command-clause-value
returns-in_err-command-clause-value c =
    let p = err_from_is_err_and c.from_residual.result c.from_residual.ensures.1 in
    let e = c.in_err-command.field-0.0 in
    let told = c.in_err-command.ensures in
    rw (p.1, p.2) (count_refused _ _ _ c.loop-command.invariant _ e (read_steps c.loop-command.reader (Err e) c.read.new.self (record { value = told.value; position = told.position; rest = told.rest; place = told.place; name = tt })))

pub returns-in_err-command-clause-law : goal.returns-in_err-command-clause-law
returns-in_err-command-clause-law c = whole today _ (bytes_from _ c.type_inv.recipe)

pub overflow_add-count : goal.overflow_add-count
overflow_add-count c =
    let room = count_room _ _ _ c.loop-command.invariant _ _ (here (goal.at.overflow_add-count c).In_ok-command) in
    omega (arith, room)

pub returns-then-is_end-clause-law : goal.returns-then-is_end-clause-law
returns-then-is_end-clause-law c = whole today _ (bytes_from _ c.type_inv.recipe)

pub loop-command-preserved : goal.loop-command-preserved
loop-command-preserved c = count_on _ _ _ c.loop-command.invariant _ _ (here (goal.at.loop-command-preserved c).In_ok-command) (sym c.is_end.ensures ∙ c.if-is_end.false)
