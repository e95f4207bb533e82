use Rattle.std.proofs.Common.{◌≡◌, Err, is_ok, sym, refl, ap, ◌∙◌, subst, arith}
use Rattle.std.proofs.lemmas.Result.{err_from_is_err_and}
use Rattle.parts.specs.Leaves.{part_begins}
use Rattle.machines.specs.Reactions.{Determined, KeepsStates}
use Rattle.machines.specs.Questions.{Proper, machine_question}
use Rattle.machines.specs.Machines.{machine_course}
use Rattle.machines.specs.Courses.{outputs_are_lawful, never_refuses}
use Rattle.machines.proofs.Allowed.{told_first}
use Rattle.machines.proofs.Determinism.{determined, question_proper, proper_question, keeps_states}
use Rattle.machines.proofs.machine.Machine.new.Goals as goal
use Rattle.machines.proofs.machine.Machine.new.Goals.{In_ok-check_machine, After-unwrap, After-from_residual}

-- nothing that was asked was refused
proper : (c : In_ok-check_machine) → Proper c.args.states c.args.rules.now
proper c = question_proper c.args.states c.args.rules.now (sym c.in_ok-check_machine.ensures)

-- the rules that are kept are those that were handed in
same : (c : After-unwrap) → c.unwrap.result.items ≡ c.args.rules.now
same c = (rw c.unwrap.ensures at c.try_from.ensures).0

-- the refusal that is told is that of the questions
told : (c : After-from_residual) → c.from_residual.result ≡ Err c.in_err-check_machine.field-0.0
told c = let p = err_from_is_err_and c.from_residual.result c.from_residual.ensures.1 in p.1 ∙ ap Err p.2

pub returns-in_err-check_machine-clause-proper : goal.returns-in_err-check_machine-clause-proper
returns-in_err-check_machine-clause-proper c =
    let refused = c.in_err-check_machine.ensures in
    rw (told (goal.at.returns-in_err-check_machine-clause-proper c).After-from_residual)
    ((λ t. cc), λ p. let allowed = proper_question c.args.states c.args.rules.now p in cc)

pub returns-in_err-check_machine-clause-refused : goal.returns-in_err-check_machine-clause-refused
returns-in_err-check_machine-clause-refused c =
    rw (told (goal.at.returns-in_err-check_machine-clause-refused c).After-from_residual)
    (told_first c.args.states c.args.rules.now c.in_err-check_machine.field-0.0 c.in_err-check_machine.ensures)

pub unwrap-requires : goal.unwrap-requires
unwrap-requires c = let few = (proper (goal.at.unwrap-requires c).In_ok-check_machine).few_rules in grind (arith, few, c.try_from.ensures)

pub invariant_of-result-clause-proper : goal.invariant_of-result-clause-proper
invariant_of-result-clause-proper c =
    ap (λ rs. is_ok (machine_question c.args.states rs)) (same (goal.at.invariant_of-result-clause-proper c).After-unwrap)
    ∙ ap is_ok (sym c.in_ok-check_machine.ensures)

pub returns-clause-proper : goal.returns-clause-proper
returns-clause-proper c = ((λ _. proper (goal.at.returns-clause-proper c).In_ok-check_machine), λ _. refl)

pub returns-clause-begins : goal.returns-clause-begins
returns-clause-begins c = let kept = c.unwrap.result.items in part_begins (machine_course kept 0) (outputs_are_lawful kept 0)

pub returns-clause-determined : goal.returns-clause-determined
returns-clause-determined c =
    subst Determined (sym (same (goal.at.returns-clause-determined c).After-unwrap)) (determined c.args.rules.now (proper (goal.at.returns-clause-determined c).In_ok-check_machine).in_accord)

pub returns-clause-states : goal.returns-clause-states
returns-clause-states c =
    subst (KeepsStates c.args.states) (sym (same (goal.at.returns-clause-states c).After-unwrap)) (keeps_states c.args.states c.args.rules.now (proper (goal.at.returns-clause-states c).In_ok-check_machine))

pub returns-clause-accepts : goal.returns-clause-accepts
returns-clause-accepts c = never_refuses c.unwrap.result.items
