use Rattle.std.proofs.Common.{◌≡◌, [], take, drop}
use Rattle.machines.specs.Questions.{rules_question}
use Rattle.machines.proofs.asking.check_rules.Given as goal

abbrev pub invariant-loop-i : goal.invariant-loop-i
invariant-loop-i l = rules_question l.states (take l.i-counter l.rules) (drop l.i-counter l.rules) ≡ rules_question l.states [] l.rules
