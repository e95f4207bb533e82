-- The program's machines. Assumes nothing: these are definitions.
use Rattle.std.specs.Prelude.{ℕ, List, Ok, Err, Result}
use Rattle.rules.specs.declared.rule.Rule.{Rule}
use Rattle.machines.specs.declared.machine.Machine.{Machine}
use Rattle.machines.specs.declared.refusal.MachineRefusal.{MachineRefusal}
use Rattle.machines.specs.Questions.{machine_question}

-- the number of a machine's states, its rules in written order, and the state that it is in
abbrev pub machine_states : Machine → ℕ
machine_states s = s.states

abbrev pub machine_rules : Machine → List Rule
machine_rules s = s.rules.items

abbrev pub machine_state : Machine → ℕ
machine_state s = s.state

-- what a making answers: the machine's states, its rules, and the state that it is in
abbrev pub machine_made : Result Machine MachineRefusal → Result (ℕ × List Rule × ℕ) MachineRefusal
machine_made (Ok s) = Ok (machine_states s, machine_rules s, machine_state s)
machine_made (Err e) = Err e

abbrev pub made_of : Result (Unit {0}) MachineRefusal → ℕ → List Rule → Result (ℕ × List Rule × ℕ) MachineRefusal
made_of (Ok u) states rules = Ok (states, rules, 0)
made_of (Err e) states rules = Err e

abbrev pub machine_making : ℕ → List Rule → Result (ℕ × List Rule × ℕ) MachineRefusal
machine_making states rules = made_of (machine_question states rules) states rules
