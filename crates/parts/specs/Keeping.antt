-- What calls leave as it was. Assumes nothing: these are definitions.
use Rattle.std.specs.Prelude.{◌≡◌, ℕ}
use Rattle.parts.specs.Courses.{Course}
use Rattle.parts.specs.Operators.{Move}
use Rattle.parts.specs.Plans.{Plan, StagedPlan}

-- The members come one by one, since the clauses of an interface itself have no record of them.
-- A part keeps the course behind a restart, the wires that it reads and those that it emits, and its plan.
pub record Keeps {S : Type 0} (fresh_of : S → Course ℕ) (reads_of emits_of : S → ℕ) (plan_of : S → Plan) (old new : S) : Type 0 where
  pub fresh : fresh_of new ≡ fresh_of old
  pub reads : reads_of new ≡ reads_of old
  pub emits : emits_of new ≡ emits_of old
  pub plan : plan_of new ≡ plan_of old

-- A staged part keeps the moves behind a restart, the wires that moves read and those that they emit, and its staged plan.
pub record KeepsMoves {S : Type 0} (anew_of : S → Course Move) (heeds_of sends_of : S → ℕ) (layout_of : S → StagedPlan) (old new : S) : Type 0 where
  pub anew : anew_of new ≡ anew_of old
  pub heeds : heeds_of new ≡ heeds_of old
  pub sends : sends_of new ≡ sends_of old
  pub layout : layout_of new ≡ layout_of old
