-- The numbers by which people know the refusals. Assumes nothing: these are definitions.
use Rattle.std.specs.Prelude.{ℕ}
use Rattle.machines.specs.declared.refusal.RuleRefusal.{RuleRefusal}
use Rattle.machines.specs.declared.refusal.RuleRefusal.TheVariants.{NoSuchState, PresentAndAbsent, TooMany, Discord}
use Rattle.machines.specs.declared.refusal.MachineRefusal.{MachineRefusal}
use Rattle.machines.specs.declared.refusal.MachineRefusal.TheVariants.{States, OfRule}

abbrev pub rule_refusal_number : RuleRefusal → ℕ
rule_refusal_number NoSuchState = 10
rule_refusal_number PresentAndAbsent = 12
rule_refusal_number TooMany = 13
rule_refusal_number Discord = 14

abbrev pub machine_refusal_number : MachineRefusal → ℕ
machine_refusal_number States = 7
machine_refusal_number (OfRule rule refusal) = rule_refusal_number refusal
