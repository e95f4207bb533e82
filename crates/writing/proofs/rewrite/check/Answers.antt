use Rattle.std.proofs.Common.{sym}
use Rattle.std.proofs.lemmas.Result.{err_from_is_err_and}
use Rattle.format.specs.Values.{word}
use Rattle.writing.proofs.Checking.{Took, took, clear_refused, clear_shorter, clear_more}
use Rattle.writing.proofs.rewrite.check.Goals as goal
use Rattle.writing.proofs.rewrite.check.Goals.{In_ok-command}

-- the command that was read
here : (c : In_ok-command) → Took c.loop-command.reader.rest.now c.loop-command.reader.position (word c.in_ok-command.command) c.read.new.self.rest.now c.read.new.self.position
here c = took _ _ _ _ _ c.in_ok-command.ensures.value c.in_ok-command.ensures.rest c.in_ok-command.ensures.position

pub returns-in_err-command : goal.returns-in_err-command
returns-in_err-command c =
    let p = err_from_is_err_and c.from_residual.result c.from_residual.ensures.1 in
    rw (p.1, p.2) (clear_refused c.loop-command.invariant c.in_err-command.field-0.0 c.in_err-command.ensures.value)

pub loop-command-smaller : goal.loop-command-smaller
loop-command-smaller c = clear_shorter c.loop-command.invariant (here (goal.at.loop-command-smaller c).In_ok-command)

pub loop-command-preserved : goal.loop-command-preserved
loop-command-preserved c =
    rw c.opens_machine-in_machine.ensures (clear_more c.loop-command.invariant (here (goal.at.loop-command-preserved c).In_ok-command) (sym c.if-is_misplaced.ensures) (sym c.if-is_end.ensures))
