-- The numbers by which people know the refusals. Assumes nothing: these are definitions.
use Rattle.std.specs.Prelude.{ℕ}
use Rattle.operators.specs.declared.unmade.OperatorRefusal.{OperatorRefusal}
use Rattle.operators.specs.declared.unmade.OperatorRefusal.TheVariants.{TooManyHidden, Wire}

abbrev pub operator_refusal_number : OperatorRefusal → ℕ
operator_refusal_number TooManyHidden = 16
operator_refusal_number Wire = 37
