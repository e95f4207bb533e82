-- Calls performed one after the other keep the whole promise. Assumes nothing.
use Rattle.std.proofs.Common.{◌≡◌, ℕ, suc, ◌+◌, ◌<◌, ◌≤◌, List, [], ◌∷◌, ◌++◌, length, get_or, take, drop, set, Ok, sym, refl, ap, ◌∙◌, subst, arith}
use Rattle.std.specs.List.{fold, scan}
use Rattle.std.proofs.lemmas.List.Sums.{fold-append}
use Rattle.std.proofs.lemmas.List.{append_assoc, drop-drop, drop_more, drop-set-lt, length-map, length_push, length-take-le, map_push, map-set, set_at, take_at, take-map, take_more}
use Rattle.parts.specs.declared.call.Call.{Call as Calling}
use Rattle.parts.specs.declared.call.Reply.{Reply as Replying}
use Rattle.parts.specs.Courses.{Course, Set, Same}
use Rattle.parts.specs.Trees.{course_of}
use Rattle.parts.specs.Plans.{Plan, worked, begin, plan_course}
use Rattle.parts.specs.Readings.{Accepted, AllInOrder, OneReading}
use Rattle.parts.specs.Calls.{Call, Reply, reply, left_by, replies, after_calls, part_reply, part_left, part_replies, part_after, Reached, AsPlanned, Promise, Promised, call_of, reply_of, calls_of, replies_of, replied, RestKept, course_left, PromisedAll}
use Rattle.parts.specs.Calling.{promise}

-- ---- lists
-- the next place of a list whose front is written
pub write_next : {X : Type 0} (front before : List X) (n : ℕ) (x : X) → length front ≡ n → n < length before → set (front ++ drop n before) n x ≡ (front ++ x ∷ []) ++ drop (n + 1) before
write_next front before n x e h = rw (drop_more before n x h) (set_at front _ (drop (n + 1) before) x n e ∙ sym (append_assoc front (x ∷ []) (drop (n + 1) before)))

stay_next : {X : Type 0} (before after : List X) (n : ℕ) (x : X) → drop n after ≡ drop n before → drop (n + 1) (set after n x) ≡ drop (n + 1) before
stay_next before after n x e = simp (drop-set-lt (n + 1) after n x (omega arith)) (let a = drop-drop 1 n after in let b = drop-drop 1 n before in cc)

-- ---- calls in turn
replies_join : {S : Type 0} (reply-s : S → Call → Reply) (left : S → Call → S) (s : S) (ks ls : List Call) → scan left reply-s s (ks ++ ls) ≡ scan left reply-s s ks ++ scan left reply-s (fold left s ks) ls
replies_join reply-s left s [] ls = refl
replies_join reply-s left s (k ∷ ks) ls = ap (λ t. reply-s s k ∷ t) (replies_join reply-s left (left s k) ks ls)

replies_count : {S : Type 0} (reply-s : S → Call → Reply) (left : S → Call → S) (s : S) (ks : List Call) → length (scan left reply-s s ks) ≡ length ks
replies_count reply-s left s [] = refl
replies_count reply-s left s (k ∷ ks) = ap suc (replies_count reply-s left (left s k) ks)

-- ---- the promise of calls, and of further ones
planned_join : (p : Plan) (earlier ks ls : List Call) (rs ss : List Reply) (b d : Course ℕ) → AsPlanned p earlier ks rs b → AsPlanned p (earlier ++ ks) ls ss d → AsPlanned p earlier (ks ++ ls) (rs ++ ss) d
planned_join p earlier ks ls rs ss b d first then =
    let t = after_calls (begin p) earlier in
    record {
      answers_as =
          (λ i. first.answers_as i ++ then.answers_as i)
          ∙ ap (λ u. replies t ks ++ replies u ls) (fold-append left_by (begin p) earlier ks)
          ∙ sym (replies_join reply left_by t ks ls);
      course_as = subst (λ z. Same d (course_of worked (after_calls (begin p) z))) (append_assoc earlier ks ls) then.course_as;
    }

promise_join : (p : Plan) (earlier ks ls : List Call) (rs ss : List Reply) (b d : Course ℕ) → Promise p earlier ks rs b → Promise p (earlier ++ ks) ls ss d → Promise p earlier (ks ++ ls) (rs ++ ss) d
promise_join p earlier ks ls rs ss b d first then =
    let e = append_assoc earlier ks ls in
    record {
      planned = planned_join p earlier ks ls rs ss b d first.planned then.planned;
      reached = subst (λ z. Reached p d z) e then.reached;
      accepts = subst (λ z. (x : ℕ) → Set x → Accepted (d [] x) → AllInOrder worked (after_calls (begin p) z) x) e then.accepts;
      in_order = subst (λ z. (x : ℕ) → Set x → AllInOrder worked (after_calls (begin p) z) x → Accepted (d [] x)) e then.in_order;
      reads = subst (λ z. (x o : ℕ) → Set x → d [] x ≡ Ok o → OneReading worked (after_calls (begin p) z) x o) e then.reads;
      exchanged = λ q s. planned_join q earlier ks ls rs ss b d (first.exchanged q s) (then.exchanged q s);
    }

promised_join : (p : Plan) (c b d : Course ℕ) (ks ls : List Call) (rs ss : List Reply) → Promised p c ks rs b → Promised p b ls ss d → Promised p c (ks ++ ls) (rs ++ ss) d
promised_join p c b d ks ls rs ss first then earlier r =
    let made = first earlier r in
    promise_join p earlier ks ls rs ss b d made (then (earlier ++ ks) made.reached)

-- ---- calls of the program
-- What these calls have done to a part with the plan p and the fresh course, whose course was c and now is d.
pub record Done (p : Plan) (fresh c d : Course ℕ) (calls : List Calling) (before after : List Replying) : Type 0 where
  pub replies : replies_of after ≡ replied fresh c calls before
  pub stay : RestKept calls before after
  pub course : d ≡ course_left fresh c calls
  pub promise : Promised p c (calls_of calls) (part_replies fresh c (calls_of calls)) d

pub done_none : (p : Plan) (fresh c : Course ℕ) → fresh ≡ plan_course p → (before : List Replying) → Done p fresh c c [] before before
done_none p fresh c f before = record {
  replies = refl;
  stay = refl;
  course = refl;
  promise = λ earlier r. promise p fresh (λ xs x _ _. ap (λ g. g xs x) f) c earlier [] tt r;
}

done_more : (p : Plan) (fresh c b d : Course ℕ) (calls : List Calling) (before after : List Replying) → Done p fresh c b calls before after → length calls < length before → (k : Calling) (r : Replying) → reply_of r ≡ part_reply b (call_of k) → d ≡ part_left fresh b (call_of k) → Promised p b (call_of k ∷ []) (reply_of r ∷ []) d → Done p fresh c d (calls ++ k ∷ []) before (set after (length calls) r)
done_more p fresh c b d calls before after done h k r e l told =
    let ks = calls_of calls in
    let rs = part_replies fresh c ks in
    let n = length calls in
    let pushed : calls_of (calls ++ k ∷ []) ≡ ks ++ call_of k ∷ [] = map_push call_of calls k in
    let more : rs ++ reply_of r ∷ [] ≡ part_replies fresh c (calls_of (calls ++ k ∷ [])) =
    ap (λ z. rs ++ z ∷ []) (e ∙ ap (λ z. part_reply z (call_of k)) done.course)
    ∙ sym (replies_join part_reply (part_left fresh) c ks (call_of k ∷ []))
    ∙ ap (part_replies fresh c) (sym pushed)
    in
    let count : length (calls ++ k ∷ []) ≡ n + 1 = length_push calls k in
    record {
      replies =
          map-set reply_of after n r
          ∙ ap (λ z. set z n (reply_of r)) done.replies
          ∙ write_next rs (replies_of before) n (reply_of r) (replies_count part_reply (part_left fresh) c ks ∙ length-map calls call_of) (subst (λ m. n < m) (sym (length-map before reply_of)) h)
          ∙ (λ i. more i ++ drop (sym count i) (replies_of before));
      stay = subst (λ m. drop m (set after n r) ≡ drop m before) (sym count) (stay_next before after n r done.stay);
      course =
          l
          ∙ ap (λ z. part_left fresh z (call_of k)) done.course
          ∙ sym (fold-append (part_left fresh) c ks (call_of k ∷ []))
          ∙ ap (part_after fresh c) (sym pushed);
      promise = subst (λ z. Promised p c (calls_of (calls ++ k ∷ [])) z d) more (subst (λ z. Promised p c z (rs ++ reply_of r ∷ []) d) (sym pushed) (promised_join p c b d ks (call_of k ∷ []) rs (reply_of r ∷ []) done.promise told));
    }

pub done_promise : (p : Plan) (fresh c d : Course ℕ) (calls : List Calling) (before after : List Replying) → Done p fresh c d calls before after → PromisedAll p c calls after d
done_promise p fresh c d calls before after done =
    let ks = calls_of calls in
    let rs = part_replies fresh c ks in
    let n = length calls in
    let told : replies_of (take n after) ≡ rs =
    sym (take-map reply_of n after)
    ∙ ap (take n) done.replies
    ∙ take_at rs (drop n (replies_of before)) n (replies_count part_reply (part_left fresh) c ks ∙ length-map calls call_of)
    in
    subst (λ z. Promised p c ks z d) (sym told) done.promise

-- one more call of a list of calls, by the facts of a part whose plan and fresh course are the same as at the start
pub done_next : (p p' : Plan) (fresh fresh' c b d : Course ℕ) (calls : List Calling) (before after : List Replying) (i : ℕ) (default : Calling) (r : Replying) → Done p fresh c b (take i calls) before after → p' ≡ p → fresh' ≡ fresh → i < length calls → length calls ≤ length before → reply_of r ≡ part_reply b (call_of (get_or calls i default)) → d ≡ part_left fresh' b (call_of (get_or calls i default)) → Promised p' b (call_of (get_or calls i default) ∷ []) (reply_of r ∷ []) d → Done p fresh c d (take (i + 1) calls) before (set after i r)
done_next p p' fresh fresh' c b d calls before after i default r done same_p same_fresh h room e l told =
    let k = get_or calls i default in
    let count : length (take i calls) ≡ i = length-take-le i calls (omega arith) in
    let more = done_more p fresh c b d (take i calls) before after done (omega arith) k r e
    (l ∙ ap (λ f. part_left f b (call_of k)) same_fresh)
    (subst (λ q. Promised q b (call_of k ∷ []) (reply_of r ∷ []) d) same_p told)
    in
    subst (λ n. Done p fresh c d (take (i + 1) calls) before (set after n r)) count
    (subst (λ ks. Done p fresh c d ks before (set after (length (take i calls)) r)) (sym (take_more calls i default h)) more)
