-- Counters. Assumes nothing: these are definitions.
use Rattle.std.specs.Prelude.{◌≡◌, ℕ, ◌+◌, ◌%◌, ◌^◌, cond, ◌&&◌, List, Ok, Err, Result, ◌==◌, nat_le, nat_lt}
use Rattle.std.specs.List.{count_by}
use Rattle.parts.specs.declared.counter.Counter.{Counter}
use Rattle.parts.specs.declared.counter.CounterRefusal.{CounterRefusal}
use Rattle.parts.specs.declared.counter.CounterRefusal.TheVariants.{Number, Wire}
use Rattle.signals.specs.Sets.{has}
use Rattle.parts.specs.Courses.{Answer, Course, run_of}

-- A counter's in wire, out wire and number.
pub record Counting : Type 0 where
  pub input : ℕ
  pub output : ℕ
  pub number : ℕ

-- the answer at a tally: a tick with the in wire that makes the tally the number emits the out wire
abbrev pub counter_answer : Counting → ℕ → ℕ → Answer ℕ
counter_answer k tally x = Ok (cond (has x k.input && tally + 1 == k.number) (2 ^ k.output) 0)

-- the tally behind a tick: at the number it is 0 again
abbrev pub counter_next : Counting → ℕ → ℕ → ℕ
counter_next k tally x = cond (has x k.input) (cond (tally + 1 == k.number) 0 (tally + 1)) tally

abbrev pub counter_course : Counting → ℕ → Course ℕ
counter_course k = run_of (counter_answer k) (counter_next k)

-- The ticks that have the wire.
abbrev pub ticks_with : ℕ → List ℕ → ℕ
ticks_with w = count_by (λ x. has x w)

-- The out wire is emitted at the k-th tick with the in wire exactly when the number divides k.
abbrev pub Counts : Counting → Course ℕ → Type 0
Counts k c = (xs : List ℕ) (x : ℕ) → c xs x ≡ Ok (cond (has x k.input && (ticks_with k.input xs + 1) % k.number == 0) (2 ^ k.output) 0)

-- ---- the program's counters
-- the number by which people know a refusal
abbrev pub counter_refusal_number : CounterRefusal → ℕ
counter_refusal_number Number = 36
counter_refusal_number Wire = 37

abbrev pub counting : Counter → Counting
counting s = record { input = s.input; output = s.output; number = s.number }

-- what a making answers: the counter's wires and number, and its tally
abbrev pub counter_made : Result Counter CounterRefusal → Result (Counting × ℕ) CounterRefusal
counter_made (Ok s) = Ok (counting s, s.tally)
counter_made (Err e) = Err e

abbrev pub counter_making : ℕ → ℕ → ℕ → Result (Counting × ℕ) CounterRefusal
counter_making input output number = cond (nat_le 1 number && nat_le number 60000) (cond (nat_lt input 64 && nat_lt output 64) (Ok (record { input = input; output = output; number = number }, 0)) (Err Wire)) (Err Number)
