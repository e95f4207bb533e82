-- Runs: ticks one after the other on any part, into a list of the caller. Assumes nothing: these are definitions.
use Rattle.std.specs.Prelude.{◌≡◌, ℕ, ◌<◌, ◌≤◌, cond, List, [], ◌∷◌, ◌++◌, map, length, take, drop, Some, None, Ok, Err, Option, nat_le, slice_index}
use Rattle.signals.specs.declared.wire_set.WireSet.{WireSet}
use Rattle.parts.specs.declared.fault.Fault.{Fault}
use Rattle.parts.specs.declared.stepping.RunReport.{RunReport}
use Rattle.parts.specs.Courses.{Answer, Course, behind}
use Rattle.parts.specs.Plans.{Plan}
use Rattle.parts.specs.Calls.{Call, step, Reached, short_list}

-- sets of wires by their numbers
abbrev pub numbers : List WireSet → List ℕ
numbers = map (λ (s : WireSet). s.bits)

-- the course behind inputs
abbrev pub behind_all : Course ℕ → List ℕ → Course ℕ
behind_all c xs ys y = c (xs ++ ys) y

-- the outputs of the accepted ticks, and the fault that ended the run
abbrev pub Outcome : Type 0
Outcome = List ℕ × Option Fault

abbrev pub going_on : Answer ℕ → Outcome → Outcome
going_on (Ok o) rest = (o ∷ rest.0, rest.1)
going_on (Err f) rest = ([], Some f)

abbrev pub ran : Course ℕ → List ℕ → Outcome
ran c [] = ([], None)
ran c (x ∷ xs) = going_on (c [] x) (ran (behind c x) xs)

-- the same where there is room for so many outputs
abbrev pub ran_in : Course ℕ → List ℕ → ℕ → Outcome
ran_in c xs room = cond (nat_le (length xs) room) (ran c xs) ([], Some short_list)

-- what a run reports, and what it leaves of the outputs before
abbrev pub report : Outcome → RunReport
report out = record { ticks = length out.0; fault = out.1 }

abbrev pub written : Outcome → List ℕ → List ℕ
written out before = out.0 ++ drop (length out.0) before

-- A run of a part with the course c over the inputs xs: the outputs before and after, the accepted ticks, the fault that
-- ended it, and the course d that it left.
pub record Ran (c : Course ℕ) (xs before after : List ℕ) (ticks : ℕ) (fault : Option Fault) (d : Course ℕ) : Type 0 where
  pub within : ticks ≤ length xs
  -- each output is the course's answer to the inputs so far
  pub each : (i : ℕ) → i < ticks → c (take i xs) (slice_index xs i) ≡ Ok (slice_index after i)
  -- without a fault every input was accepted
  pub ended : fault ≡ None → ticks ≡ length xs
  -- a fault is the course's answer to the first input that was not accepted
  pub stopped : (f : Fault) → fault ≡ Some f → (ticks < length xs) × (c (take ticks xs) (slice_index xs ticks) ≡ Err f)
  -- places behind the outputs stay
  pub stay : drop ticks after ≡ drop ticks before
  -- the part is behind the accepted inputs
  pub course : d ≡ behind_all c (take ticks xs)

-- A run that was not begun.
pub record NotRun (c : Course ℕ) (before after : List ℕ) (ticks : ℕ) (fault : Option Fault) (d : Course ℕ) : Type 0 where
  pub none : ticks ≡ 0
  pub short : fault ≡ Some short_list
  pub stay : after ≡ before
  pub course : d ≡ c

-- A run where there is room for the outputs, and none where there is not.
pub record RanIn (c : Course ℕ) (xs before after : List ℕ) (ticks : ℕ) (fault : Option Fault) (d : Course ℕ) : Type 0 where
  pub room : length xs ≤ length before → Ran c xs before after ticks fault d
  pub no_room : length before < length xs → NotRun c before after ticks fault d

-- Wherever earlier calls led a part with the plan p and the course c, these and a step with each of the inputs lead it to
-- the course d.
abbrev pub Leads : Plan → Course ℕ → List ℕ → Course ℕ → Type 0
Leads p c xs d = (earlier : List Call) → Reached p c earlier → Reached p d (earlier ++ map step xs)
