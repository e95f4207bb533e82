-- What is asked where the nesting is made and calls are performed on it. Assumes nothing: these are definitions.
use Rattle.std.specs.Prelude.{ℕ, cond, Option, Some, None, nat_le, nat_lt}
use Rattle.parts.specs.Calls.{short_list}
use Rattle.settings.specs.Tried.{size}
use Rattle.operators.specs.declared.unmade.OperatorRefusal.{OperatorRefusal}
use Rattle.operators.specs.declared.unmade.OperatorRefusal.TheVariants.{TooManyHidden, Wire}
use Rattle.nesting.specs.declared.nest.NestRefusal.{NestRefusal}
use Rattle.nesting.specs.declared.nest.NestRefusal.TheVariants.{NotMade, ShortList}

-- why an operator is not made, the inner one first: at most 12 hidden wires, and a wire below 64
abbrev pub unmade : ℕ → ℕ → Option OperatorRefusal
unmade hidden wire = cond (nat_le (size hidden) 12) (cond (nat_lt wire 64) None (Some Wire)) (Some TooManyHidden)

-- and then: is there room for so many replies?
abbrev pub refused_for : Option OperatorRefusal → ℕ → ℕ → Option NestRefusal
refused_for (Some refusal) count room = Some (NotMade refusal)
refused_for None count room = cond (nat_le count room) None (Some (ShortList short_list))
