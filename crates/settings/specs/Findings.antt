-- What was found under settings. Assumes nothing: these are definitions.
use Rattle.std.specs.Prelude.{◌≡◌, ℕ, ◌≤◌, min, cond, List, [], ◌∷◌, ◌++◌, length, take, Ok, Err, Result, ◌==◌}
use Rattle.signals.specs.declared.wire_set.WireSet.{WireSet}
use Rattle.signals.specs.Sets.{intersection}
use Rattle.parts.specs.declared.fault.Fault.{Fault}
use Rattle.parts.specs.Courses.{Answer}
use Rattle.parts.specs.Operators.{settings, only}
use Rattle.parts.specs.Trees.{chosen_of}
use Rattle.settings.specs.declared.findings.Findings.{Findings}
use Rattle.settings.specs.declared.findings.Findings.TheVariants.{Nothing, One, Several}

-- The findings tell of these consistent settings, each with what the inside emits: of one setting both, of several the number, up to 65535.
abbrev pub Finds : Findings → List (ℕ × ℕ) → Type 0
Finds Nothing ps = ps ≡ []
Finds (One setting outputs) ps = ps ≡ (setting.bits, outputs.bits) ∷ []
Finds (Several count) ps = (2 ≤ length ps) × (count ≡ min (length ps) 65535)

-- a setting with what the inside emits, where it is consistent
abbrev pub hit : ℕ → ℕ → ℕ → List (ℕ × ℕ)
hit h s o = cond (intersection o h == s) ((s, o) ∷ []) []

-- what was found before, and the setting where it is consistent
abbrev pub Taken : Findings → ℕ → ℕ → ℕ → Findings → Type 0
Taken f h s o f' = (ps : List (ℕ × ℕ)) → Finds f ps → Finds f' (ps ++ hit h s o)

-- ---- what is answered: a setting and the outputs, or a fault
abbrev pub told_outputs : Result (WireSet × WireSet) Fault → Answer ℕ
told_outputs (Ok t) = Ok t.1.bits
told_outputs (Err f) = Err f

-- a setting that is told is this one
abbrev pub ToldSetting : Result (WireSet × WireSet) Fault → ℕ → Type 0
ToldSetting (Ok t) s = t.0.bits ≡ s
ToldSetting (Err f) s = Unit {0}

-- What is told where these consistent settings were found: with exactly one, its setting and its outputs without the hidden wires; else a fault at the place, with how many there are.
pub record ToldOf (h place : ℕ) (ps : List (ℕ × ℕ)) (r : Result (WireSet × WireSet) Fault) : Type 0 where
  -- of more than a count can tell, it tells the most that it can
  pub most : told_outputs r ≡ only h place (take 65535 ps)
  -- which no search comes to
  pub whole : length ps ≤ length (settings h) → told_outputs r ≡ only h place ps
  pub setting : ToldSetting r (chosen_of (Ok ps))

-- of whatever was found
abbrev pub Tells : Findings → ℕ → ℕ → Result (WireSet × WireSet) Fault → Type 0
Tells f h place r = (ps : List (ℕ × ℕ)) → Finds f ps → ToldOf h place ps r
