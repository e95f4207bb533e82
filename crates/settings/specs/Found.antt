-- What was found so far. Assumes nothing: this is a definition.
use Rattle.std.specs.Prelude.{◌≡◌, ℕ, List, ◌++◌, Ok}
use Rattle.parts.specs.Courses.{Answer}
use Rattle.parts.specs.Operators.{both, settings, settled}
use Rattle.settings.specs.declared.findings.Findings.{Findings}
use Rattle.settings.specs.Findings.{Finds}

-- Before each turn of a loop over the settings of h, f being the inside's answer under each: what was found, and then what is found under the settings that are left, is what is found under all.
pub record Sofar (h : ℕ) (f : ℕ → Answer ℕ) (rest : List ℕ) (found : Findings) : Type 0 where
  pub pairs : List (ℕ × ℕ)
  pub settles : settled h f (settings h) ≡ both ◌++◌ (Ok pairs) (settled h f rest)
  pub finds : Finds found pairs
