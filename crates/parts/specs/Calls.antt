-- Lists of calls on any part: what they answer and leave, and all that is promised of them. Assumes nothing: these are definitions.
use Rattle.std.specs.Prelude.{◌≡◌, ℕ, ◌<◌, cond, List, [], ◌++◌, map, length, take, drop, Ok, Err, Result, nat_le}
use Rattle.std.specs.List.{AllByRecursion, fold, scan}
use Rattle.parts.specs.declared.call.Call.{Call as Calling}
use Rattle.parts.specs.declared.call.Call.TheVariants.{Look, Step, Restart}
use Rattle.parts.specs.declared.call.Reply.{Reply as Replying}
use Rattle.parts.specs.declared.call.Reply.TheVariants.{Answer as Told, Restarted}
use Rattle.parts.specs.declared.fault.Fault.{Fault}
use Rattle.parts.specs.Courses.{told, Answer, Course, after, run_on, Set, Same}
use Rattle.parts.specs.Trees.{answer_of, next_of, restarted, course_of}
use Rattle.parts.specs.Plans.{Plan, worked, Working, begin, Alike}
use Rattle.parts.specs.Readings.{Accepted, AllInOrder, OneReading}

-- a look at an input, a step with it, or a restart
pub data Call : Type 0 where
  look : ℕ → Call
  step : ℕ → Call
  restart : Call

-- the answer of a look or a step, or that of a restart
pub data Reply : Type 0 where
  answered : Answer ℕ → Reply
  started_over : Reply

-- the call's input is a set of wires
abbrev pub Put : Call → Type 0
Put (look x) = Set x
Put (step x) = Set x
Put restart = Unit {0}

-- Calls one after the other: their replies are a scan, and what they leave is a fold.
-- of a composition, worked out from lists
abbrev pub reply : Working → Call → Reply
reply t (look x) = answered (answer_of worked t x)
reply t (step x) = answered (answer_of worked t x)
reply t restart = started_over

abbrev pub left_by : Working → Call → Working
left_by t (look x) = t
left_by t (step x) = run_on (answer_of worked) (next_of worked) (answer_of worked t x) t x
left_by t restart = restarted worked t

abbrev pub replies : Working → List Call → List Reply
replies = scan left_by reply

abbrev pub after_calls : Working → List Call → Working
after_calls = fold left_by

-- of a part, by its course and the fresh one
abbrev pub part_reply : Course ℕ → Call → Reply
part_reply c (look x) = answered (c [] x)
part_reply c (step x) = answered (c [] x)
part_reply c restart = started_over

abbrev pub part_left : Course ℕ → Course ℕ → Call → Course ℕ
part_left fresh c (look x) = c
part_left fresh c (step x) = after c x
part_left fresh c restart = fresh

abbrev pub part_replies : Course ℕ → Course ℕ → List Call → List Reply
part_replies fresh = scan (part_left fresh) part_reply

abbrev pub part_after : Course ℕ → Course ℕ → List Call → Course ℕ
part_after fresh = fold (part_left fresh)

-- A part with the course c is where the earlier calls leave a plan that was just begun. One that was just made or
-- restarted has the fresh course, and is where no calls lead.
pub record Reached (p : Plan) (c : Course ℕ) (earlier : List Call) : Type 0 where
  pub sets : AllByRecursion Put earlier
  pub course : Same c (course_of worked (after_calls (begin p) earlier))

-- What calls on such a part have for replies, and the course d that they leave, are those of a plan.
pub record AsPlanned (p : Plan) (earlier calls : List Call) (answers : List Reply) (d : Course ℕ) : Type 0 where
  pub answers_as : answers ≡ replies (after_calls (begin p) earlier) calls
  pub course_as : Same d (course_of worked (after_calls (begin p) (earlier ++ calls)))

-- Everything that is promised of calls on a part that earlier calls left: p is its plan.
pub record Promise (p : Plan) (earlier calls : List Call) (answers : List Reply) (d : Course ℕ) : Type 0 where
  -- the replies, the course at the end and so every further answer are as worked out
  pub planned : AsPlanned p earlier calls answers d
  -- further calls have this promise again
  pub reached : Reached p d (earlier ++ calls)
  -- it then accepts an input exactly when everything that is awake is in order
  pub accepts : (x : ℕ) → Set x → Accepted (d [] x) → AllInOrder worked (after_calls (begin p) (earlier ++ calls)) x
  pub in_order : (x : ℕ) → Set x → AllInOrder worked (after_calls (begin p) (earlier ++ calls)) x → Accepted (d [] x)
  -- an accepted input has exactly one reading, and the answer is what that emits
  pub reads : (x o : ℕ) → Set x → d [] x ≡ Ok o → OneReading worked (after_calls (begin p) (earlier ++ calls)) x o
  -- and all of it is as any alike plan works out
  pub exchanged : (q : Plan) → Alike p q → AsPlanned q earlier calls answers d

-- the program's calls and replies
abbrev pub call_of : Calling → Call
call_of (Look input) = look input.bits
call_of (Step input) = step input.bits
call_of Restart = restart

abbrev pub reply_of : Replying → Reply
reply_of (Told answer) = answered (told answer)
reply_of Restarted = started_over

-- the promise, wherever earlier calls led the part: p is its plan, c its course before the calls and d behind them
abbrev pub Promised : Plan → Course ℕ → List Call → List Reply → Course ℕ → Type 0
Promised p c calls answers d = (earlier : List Call) → Reached p c earlier → Promise p earlier calls answers d

-- ---- lists of calls of the program, and the caller's list for their replies
-- the fault of a list that has no room for what is asked for
abbrev pub short_list : Fault
short_list = record { cause = 34; place = 0; count = 0 }

-- with less room than is needed nothing at all changes
abbrev pub Unmoved : {A : Type 0} → ℕ → ℕ → A → A → Type 0
Unmoved needed room before after = room < needed → after ≡ before

-- what so many calls are answered with where there is room for so many replies
abbrev pub roomy : ℕ → ℕ → Result (Unit {0}) Fault
roomy count room = cond (nat_le count room) (Ok tt) (Err short_list)

-- the calls that are performed with this list for their replies: all of them, or none
abbrev pub performed : List Calling → List Replying → List Calling
performed calls before = cond (nat_le (length calls) (length before)) calls []

abbrev pub calls_of : List Calling → List Call
calls_of = map call_of

abbrev pub replies_of : List Replying → List Reply
replies_of = map reply_of

-- Below, calls are those that are performed, on a part with the course c.
-- what they leave in the list for their replies: a reply for each, and behind them what was there before
abbrev pub replied : Course ℕ → Course ℕ → List Calling → List Replying → List Reply
replied fresh c calls before = part_replies fresh c (calls_of calls) ++ drop (length calls) (replies_of before)

-- places behind the replies keep what they had
abbrev pub RestKept : List Calling → List Replying → List Replying → Type 0
RestKept calls before after = drop (length calls) after ≡ drop (length calls) before

-- the course that they leave
abbrev pub course_left : Course ℕ → Course ℕ → List Calling → Course ℕ
course_left fresh c calls = part_after fresh c (calls_of calls)

-- their promise, with the replies that stand in the list after them: p is the part's plan, and d its course behind them
abbrev pub PromisedAll : Plan → Course ℕ → List Calling → List Replying → Course ℕ → Type 0
PromisedAll p c calls after d = Promised p c (calls_of calls) (replies_of (take (length calls) after)) d
