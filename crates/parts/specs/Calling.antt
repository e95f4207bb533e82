-- Calls on a part are answered as its plan works out. Assumes nothing.
use Rattle.std.specs.Prelude.{◌≡◌, ℕ, List, [], ◌∷◌, ◌++◌, Ok, Err, refl}
use Rattle.std.proofs.Common.{sym, ap, subst, ◌∙◌}
use Rattle.parts.specs.declared.call.Call.{Call as Calling}
use Rattle.std.specs.List.{AllByRecursion, fold, scan}
use Rattle.std.proofs.lemmas.List.Sums.{fold-append}
use Rattle.std.proofs.ByRecursion.{All-append}
use Rattle.parts.specs.Courses.{Answer, Course, after_answer, after, run_on, Set, Same}
use Rattle.parts.specs.Trees.{answer_of, next_of, restarted, course_of}
use Rattle.parts.specs.Plans.{Plan, worked, Working, begin, plan_course, Alike}
use Rattle.parts.specs.Calls.{Call, look, step, restart, Reply, answered, Put, reply, left_by, after_calls, part_reply, part_left, part_replies, part_after, Reached, AsPlanned, Promise, Promised, call_of}
use Rattle.parts.specs.Accepting.{order, accepting, one_reading}
use Rattle.parts.specs.Running.{run_after}
use Rattle.parts.specs.Agreement.{restart_twice, restart_next}
use Rattle.parts.specs.Working.{worked_steady, restart_begin}
use Rattle.parts.specs.Likeness.{alike}

abbrev course : Working → Course ℕ
course = course_of worked

-- ---- calls in turn
pub left_join : {S : Type 0} (left : S → Call → S) (s : S) (ks ls : List Call) → fold left s (ks ++ ls) ≡ fold left (fold left s ks) ls
left_join left = fold-append left

-- Two things in a relation that gives equal replies and is kept by each call.
module _ {S T : Type 0} (reply_s : S → Call → Reply) (left_s : S → Call → S) (reply_t : T → Call → Reply) (left_t : T → Call → T) (Rel : S → T → Type 0) (gives : (s : S) (t : T) → Rel s t → (k : Call) → Put k → reply_s s k ≡ reply_t t k) (kept : (s : S) (t : T) → Rel s t → (k : Call) → Put k → Rel (left_s s k) (left_t t k)) where
  same_replies : (s : S) (t : T) → Rel s t → (ks : List Call) → AllByRecursion Put ks → scan left_s reply_s s ks ≡ scan left_t reply_t t ks
  same_replies s t r [] w = refl
  same_replies s t r (k ∷ ks) w = λ i. gives s t r k w.0 i ∷ same_replies (left_s s k) (left_t t k) (kept s t r k w.0) ks w.1 i

  still : (s : S) (t : T) → Rel s t → (ks : List Call) → AllByRecursion Put ks → Rel (fold left_s s ks) (fold left_t t ks)
  still s t r [] w = r
  still s t r (k ∷ ks) w = still (left_s s k) (left_t t k) (kept s t r k w.0) ks w.1

-- ---- the course behind a step, of courses that agree
after_same : (c d : Course ℕ) (x : ℕ) → Set x → Same c d → Same (after c x) (after d x)
after_same c d x h s = subst (λ a. Same (after c x) (after_answer a d x)) (s [] x tt h) (go (c [] x))
  where
    go : (a : Answer ℕ) → Same (after_answer a c x) (after_answer a d x)
    go (Ok o) xs y w z = s (x ∷ xs) y (h, w) z
    go (Err f) xs y w z = s xs y w z

step_course : (t : Working) (x : ℕ) → after (course t) x ≡ course (left_by t (step x))
step_course t x = run_after (answer_of worked) (next_of worked) t x

-- ---- a part and its plan worked out
module _ (p : Plan) (fresh : Course ℕ) (is_fresh : Same fresh (plan_course p)) where
  record At (c : Course ℕ) (t : Working) : Type 0 where
    now : Same c (course t)
    anew : restarted worked t ≡ begin p

  at_gives : (c : Course ℕ) (t : Working) → At c t → (k : Call) → Put k → part_reply c k ≡ reply t k
  at_gives c t r (look x) h = ap answered (r.now [] x tt h)
  at_gives c t r (step x) h = ap answered (r.now [] x tt h)
  at_gives c t r restart h = refl

  step_anew : (t : Working) (x : ℕ) → restarted worked t ≡ begin p → (a : Answer ℕ) → restarted worked (run_on (answer_of worked) (next_of worked) a t x) ≡ begin p
  step_anew t x e (Ok o) = restart_next worked worked_steady t x ∙ e
  step_anew t x e (Err f) = e

  at_kept : (c : Course ℕ) (t : Working) → At c t → (k : Call) → Put k → At (part_left fresh c k) (left_by t k)
  at_kept c t r (look x) h = r
  at_kept c t r (step x) h = record {
    now = subst (λ d. Same (after c x) d) (step_course t x) (after_same c (course t) x h r.now);
    anew = step_anew t x r.anew (answer_of worked t x);
  }
  at_kept c t r restart h = record {
    now = subst (λ u. Same fresh (course u)) (sym r.anew) is_fresh;
    anew = restart_twice worked worked_steady t ∙ r.anew;
  }

  at_begin : At fresh (begin p)
  at_begin = record { now = is_fresh; anew = restart_begin p }

  -- wherever earlier calls lead, a restart leads back
  at_earlier : (c : Course ℕ) (earlier : List Call) → Reached p c earlier → At c (after_calls (begin p) earlier)
  at_earlier c earlier r = record {
    now = r.course;
    anew = (still part_reply (part_left fresh) reply left_by At at_gives at_kept fresh (begin p) at_begin earlier r.sets).anew;
  }

  pub planned : (c : Course ℕ) (earlier calls : List Call) → AllByRecursion Put calls → Reached p c earlier → AsPlanned p earlier calls (part_replies fresh c calls) (part_after fresh c calls)
  planned c earlier calls w r =
      let a = at_earlier c earlier r in
      record {
        answers_as = same_replies part_reply (part_left fresh) reply left_by At at_gives at_kept c (after_calls (begin p) earlier) a calls w;
        course_as = subst (λ t. Same (part_after fresh c calls) (course t)) (sym (fold-append left_by (begin p) earlier calls)) (still part_reply (part_left fresh) reply left_by At at_gives at_kept c (after_calls (begin p) earlier) a calls w).now;
      }

-- a part whose course is the fresh one is where no calls lead
pub reached_fresh : (p : Plan) (fresh : Course ℕ) → fresh ≡ plan_course p → Reached p fresh []
reached_fresh p fresh f = record { sets = tt; course = λ xs x _ _. ap (λ g. g xs x) f }

-- ---- the whole promise
-- where earlier calls lead an alike plan, the same inputs have the same answers
alike_reached : (p q : Plan) → Alike p q → (c : Course ℕ) (earlier : List Call) → Reached p c earlier → Reached q c earlier
alike_reached p q s c earlier r =
    let of_p = (planned p (plan_course p) (λ xs x w h. refl) (plan_course p) [] earlier r.sets (record { sets = tt; course = λ xs x w h. refl })).course_as in
    let of_q = (planned q (plan_course p) (alike s) (plan_course p) [] earlier r.sets (record { sets = tt; course = alike s })).course_as in
    record { sets = r.sets; course = λ xs x w h. r.course xs x w h ∙ sym (of_p xs x w h) ∙ of_q xs x w h }

pub promise : (p : Plan) (fresh : Course ℕ) → Same fresh (plan_course p) → (c : Course ℕ) (earlier calls : List Call) → AllByRecursion Put calls → Reached p c earlier → Promise p earlier calls (part_replies fresh c calls) (part_after fresh c calls)
promise p fresh f c earlier calls w r =
    let t = after_calls (begin p) (earlier ++ calls) in
    let d = part_after fresh c calls in
    let made = planned p fresh f c earlier calls w r in
    let now : (x : ℕ) → Set x → d [] x ≡ answer_of worked t x = λ x h. made.course_as [] x tt h in
    record {
      planned = made;
      reached = record { sets = All-append Put earlier calls r.sets w; course = made.course_as };
      accepts = λ x h a site y awake. order worked awake a.0 (sym (now x h) ∙ a.1);
      in_order = λ x h all. let a = accepting worked t x all in (a.0, now x h ∙ a.1);
      reads = λ x o h e. one_reading worked t x o (sym (now x h) ∙ e);
      exchanged = λ q s. planned q fresh (λ xs x u h. f xs x u h ∙ alike s xs x u h) c earlier calls w (alike_reached p q s c earlier r);
    }

-- one more call keeps what the promise asks for
pub reached_by : (p : Plan) (fresh : Course ℕ) → Same fresh (plan_course p) → (c : Course ℕ) (earlier : List Call) (k : Call) → Put k → Reached p c earlier → Reached p (part_left fresh c k) (earlier ++ k ∷ [])
reached_by p fresh f c earlier k h r = (promise p fresh f c earlier (k ∷ []) (h, tt) r).reached

-- One call on a part, whose reply r and course d behind it are those of the part's courses.
pub promised : (p : Plan) (fresh c d : Course ℕ) (k : Call) (r : Reply) → fresh ≡ plan_course p → Put k → r ≡ part_reply c k → d ≡ part_left fresh c k → Promised p c (k ∷ []) (r ∷ []) d
promised p fresh c d k r f h e l earlier z = subst (λ u. Promise p earlier (k ∷ []) (u ∷ []) d) (sym e) (subst (λ u. Promise p earlier (k ∷ []) (part_reply c k ∷ []) u) (sym l) (promise p fresh (λ xs x _ _. ap (λ g. g xs x) f) c earlier (k ∷ []) (h, tt) z))

-- the same for a call as the program has it
pub call_facts : (p : Plan) (fresh c d : Course ℕ) (k : Calling) (j : Call) (r : Reply) → call_of k ≡ j → fresh ≡ plan_course p → Put j → r ≡ part_reply c j → d ≡ part_left fresh c j → (r ≡ part_reply c (call_of k)) × (d ≡ part_left fresh c (call_of k)) × Promised p c (call_of k ∷ []) (r ∷ []) d
call_facts p fresh c d k j r e f h a l = (
  a ∙ ap (part_reply c) (sym e),
  l ∙ ap (part_left fresh c) (sym e),
  subst (λ i. Promised p c (i ∷ []) (r ∷ []) d) (sym e) (promised p fresh c d j r f h a l),
)
