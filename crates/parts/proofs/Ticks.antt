-- Runs: the outcome of a run, where it leads, and the law of runs. Assumes nothing.
use Rattle.std.proofs.Common.{◌≡◌, ℕ, zero, suc, ◌+◌, ◌<◌, ◌≤◌, leb, List, [], ◌∷◌, ◌++◌, map, length, get_or, take, drop, set, Some, None, Ok, Err, Option, sym, refl, ap, ◌∙◌, subst, arith}
use Rattle.std.proofs.lemmas.List.{append_assoc, append-nil, drop_at, drop_more, get_or_append_left, get_or-map, length-map, length_push, length-take-le, map-append, map-set, take_all, take-append-drop, take_more}
use Rattle.std.proofs.lemmas.Bool.{cond-true, le-leb}
use Rattle.parts.specs.declared.fault.Fault.{Fault}
use Rattle.parts.specs.declared.stepping.RunReport.{RunReport}
use Rattle.parts.specs.Courses.{Answer, Course, behind, after_answer, after as after_step}
use Rattle.signals.specs.declared.wire_set.WireSet.{WireSet}
use Rattle.parts.specs.Plans.{Plan}
use Rattle.parts.specs.Calls.{step, Reached, short_list}
use Rattle.parts.specs.Runs.{numbers, behind_all, Outcome, going_on, ran, ran_in, report, written, Ran, RanIn, Leads}
use Rattle.parts.proofs.Turns.{write_next}

-- ---- the outcome of a run, one input after the other
within_step : (a : Answer ℕ) (rest : Outcome) (n : ℕ) → length rest.0 ≤ n → length (going_on a rest).0 ≤ suc n
within_step (Ok o) rest n h = omega arith
within_step (Err f) rest n h = omega arith

within : (c : Course ℕ) (xs : List ℕ) → length (ran c xs).0 ≤ length xs
within c [] = omega arith
within c (x ∷ xs) = within_step (c [] x) (ran (behind c x) xs) (length xs) (within (behind c x) xs)

-- the course's answer at a place of the inputs
abbrev answer_at : Course ℕ → List ℕ → ℕ → Answer ℕ
answer_at c xs i = c (take i xs) (get_or xs i 0)

each_step : (c : Course ℕ) (x : ℕ) (xs : List ℕ) (a : Answer ℕ) (rest : Outcome) → c [] x ≡ a → ((i : ℕ) → i < length rest.0 → answer_at (behind c x) xs i ≡ Ok (get_or rest.0 i 0)) → (i : ℕ) → i < length (going_on a rest).0 → answer_at c (x ∷ xs) i ≡ Ok (get_or (going_on a rest).0 i 0)
each_step c x xs (Ok o) rest e all zero h = e
each_step c x xs (Ok o) rest e all (suc i) h = all i (omega arith)
each_step c x xs (Err f) rest e all i h = absurd (let z : ⊥ = omega arith in z)

each : (c : Course ℕ) (xs : List ℕ) (i : ℕ) → i < length (ran c xs).0 → answer_at c xs i ≡ Ok (get_or (ran c xs).0 i 0)
each c [] i h = absurd (let z : ⊥ = omega arith in z)
each c (x ∷ xs) i h = each_step c x xs (c [] x) (ran (behind c x) xs) refl (each (behind c x) xs) i h

ended_step : (a : Answer ℕ) (rest : Outcome) (n : ℕ) → (rest.1 ≡ None → length rest.0 ≡ n) → (going_on a rest).1 ≡ None → length (going_on a rest).0 ≡ suc n
ended_step (Ok o) rest n all e = ap suc (all e)
ended_step (Err f) rest n all e = cc

ended : (c : Course ℕ) (xs : List ℕ) → (ran c xs).1 ≡ None → length (ran c xs).0 ≡ length xs
ended c [] e = refl
ended c (x ∷ xs) e = ended_step (c [] x) (ran (behind c x) xs) (length xs) (ended (behind c x) xs) e

-- the fault is the answer at the place where the outputs end
abbrev Stopped : Course ℕ → List ℕ → List ℕ → Fault → Type 0
Stopped c xs outs f = (length outs < length xs) × (answer_at c xs (length outs) ≡ Err f)

stopped_step : (c : Course ℕ) (x : ℕ) (xs : List ℕ) (a : Answer ℕ) (rest : Outcome) (f : Fault) → c [] x ≡ a → (rest.1 ≡ Some f → Stopped (behind c x) xs rest.0 f) → (going_on a rest).1 ≡ Some f → Stopped c (x ∷ xs) (going_on a rest).0 f
stopped_step c x xs (Ok o) rest f e all s = let more = all s in (omega arith, more.1)
stopped_step c x xs (Err g) rest f e all s = (omega arith, cc)

stopped : (c : Course ℕ) (xs : List ℕ) (f : Fault) → (ran c xs).1 ≡ Some f → Stopped c xs (ran c xs).0 f
stopped c [] f e = cc
stopped c (x ∷ xs) f e = stopped_step c x xs (c [] x) (ran (behind c x) xs) f refl (stopped (behind c x) xs f) e

-- more inputs behind accepted ones
abbrev followed : Outcome → Outcome → Outcome
followed first more = (first.0 ++ more.0, more.1)

join_step : (a : Answer ℕ) (rest more whole : Outcome) → (rest.1 ≡ None → whole ≡ followed rest more) → (going_on a rest).1 ≡ None → going_on a whole ≡ followed (going_on a rest) more
join_step (Ok o) rest more whole all e = ap (going_on (Ok o)) (all e)
join_step (Err f) rest more whole all e = cc

ran_join : (c : Course ℕ) (xs zs : List ℕ) → (ran c xs).1 ≡ None → ran c (xs ++ zs) ≡ followed (ran c xs) (ran (behind_all c xs) zs)
ran_join c [] zs e = refl
ran_join c (x ∷ xs) zs e = join_step (c [] x) (ran (behind c x) xs) (ran (behind_all c (x ∷ xs)) zs) (ran (behind c x) (xs ++ zs)) (ran_join (behind c x) xs zs) e

-- ---- where steps with inputs lead a part with the plan p
leads_join : (p : Plan) (c b d : Course ℕ) (xs ys : List ℕ) → Leads p c xs b → Leads p b ys d → Leads p c (xs ++ ys) d
leads_join p c b d xs ys first then earlier r = subst (λ ks. Reached p d ks) (append_assoc earlier (map step xs) (map step ys) ∙ ap (λ ks. earlier ++ ks) (sym (map-append step xs ys))) (then (earlier ++ map step xs) (first earlier r))

-- ---- a run so far: xs are the inputs, all accepted
pub record Gone (p : Plan) (c d : Course ℕ) (xs before after : List ℕ) : Type 0 where
  pub fault : (ran c xs).1 ≡ None
  pub outputs : after ≡ (ran c xs).0 ++ drop (length xs) before
  pub course : d ≡ behind_all c xs
  pub reached : Leads p c xs d

gone_more : (p : Plan) (c b d : Course ℕ) (xs before after : List ℕ) → Gone p c b xs before after → length xs < length before → (x o : ℕ) → b [] x ≡ Ok o → d ≡ behind b x → Leads p b (x ∷ []) d → Gone p c d (xs ++ x ∷ []) before (set after (length xs) o)
gone_more p c b d xs before after gone h x o e l more_led =
    let n = length xs in
    let outs = (ran c xs).0 in
    let more : ran c (xs ++ x ∷ []) ≡ (outs ++ o ∷ [], None) =
    ran_join c xs (x ∷ []) gone.fault
    ∙ ap (λ (a : Answer ℕ). followed (ran c xs) (going_on a ([], None))) (sym (ap (λ f. f [] x) gone.course) ∙ e)
    in
    record {
      fault = ap (λ (t : Outcome). t.1) more;
      outputs =
          ap (λ t. set t n o) gone.outputs
          ∙ write_next outs before n o (ended c xs gone.fault) h
          ∙ (λ i. (sym more i).0 ++ drop (sym (length_push xs x) i) before);
      course = l ∙ ap (λ f. behind f x) gone.course ∙ (λ i ys y. c (sym (append_assoc xs (x ∷ []) ys) i) y);
      reached = leads_join p c b d xs (x ∷ []) gone.reached more_led;
    }

-- ---- a run that was begun
-- the law holds of what a run does
law : (c d : Course ℕ) (xs before after : List ℕ) (ticks : ℕ) (fault : Option Fault) → ticks ≡ length (ran c xs).0 → fault ≡ (ran c xs).1 → after ≡ written (ran c xs) before → d ≡ behind_all c (take ticks xs) → Ran c xs before after ticks fault d
law c d xs before after ticks fault t f a k =
    let outs = (ran c xs).0 in
    record {
      within = subst (λ n. n ≤ length xs) (sym t) (within c xs);
      each = λ i h.
          let in_outs : i < length outs = subst (λ n. i < n) t h in
          each c xs i in_outs ∙ ap (λ o. Ok o) (sym (ap (λ l. get_or l i 0) a ∙ get_or_append_left outs (drop (length outs) before) 0 i in_outs));
      ended = λ e. t ∙ ended c xs (sym f ∙ e);
      stopped = λ g e. subst (λ n. (n < length xs) × (answer_at c xs n ≡ Err g)) (sym t) (stopped c xs g (sym f ∙ e));
      stay = subst (λ n. drop n after ≡ drop n before) (sym t) (ap (drop (length outs)) a ∙ drop_at outs (drop (length outs) before) (length outs) refl);
      course = k;
    }

abbrev reported : ℕ → Option Fault → RunReport
reported ticks fault = record { ticks = ticks; fault = fault }

-- ---- what a call answers: room is the length of the outputs
pub record Said (c d : Course ℕ) (xs before after : List ℕ) (room ticks : ℕ) (fault : Option Fault) : Type 0 where
  pub value : reported ticks fault ≡ report (ran_in c xs room)
  pub outputs : after ≡ written (ran_in c xs room) before
  pub law_of : RanIn c xs before after ticks fault d

said : (c d : Course ℕ) (xs before after : List ℕ) (room ticks : ℕ) (fault : Option Fault) → length before ≡ room → length xs ≤ room → ticks ≡ length (ran c xs).0 → fault ≡ (ran c xs).1 → after ≡ written (ran c xs) before → d ≡ behind_all c (take ticks xs) → Said c d xs before after room ticks fault
said c d xs before after room ticks fault e h t f a k =
    let out : ran_in c xs room ≡ ran c xs = cond-true (leb (length xs) room) (ran c xs) ([], Some short_list) (le-leb (length xs) room h) in
    record {
      value = (λ i. reported (t i) (f i)) ∙ ap report (sym out);
      outputs = a ∙ ap (λ u. written u before) (sym out);
      law_of = record {
        room = λ l. law c d xs before after ticks fault t f a k;
        no_room = λ l. absurd (let z : ⊥ = omega arith in z);
      };
    }

-- at the end of the inputs
said_all : (p : Plan) (c d : Course ℕ) (xs before after : List ℕ) (room ticks : ℕ) → length before ≡ room → length xs ≤ room → Gone p c d xs before after → ticks ≡ length xs → Said c d xs before after room ticks None
said_all p c d xs before after room ticks e h gone t =
    let count = ended c xs gone.fault in
    let whole : take ticks xs ≡ xs = take_all ticks xs (omega arith) in
    said c d xs before after room ticks None e h (t ∙ sym count) (sym gone.fault)
    (gone.outputs ∙ ap (λ n. (ran c xs).0 ++ drop n before) (sym count))
    (gone.course ∙ ap (behind_all c) (sym whole))

-- at the first input that is refused
said_stopped : (p : Plan) (c b d : Course ℕ) (xs before after : List ℕ) (room : ℕ) → length before ≡ room → length xs ≤ room → (i : ℕ) → i < length xs → Gone p c b (take i xs) before after → (f : Fault) → b [] (get_or xs i 0) ≡ Err f → d ≡ b → Said c d xs before after room i (Some f)
said_stopped p c b d xs before after room e h i l gone f s k =
    let done = take i xs in
    let out : ran c xs ≡ ((ran c done).0, Some f) =
    ap (ran c) (sym (take-append-drop i xs) ∙ ap (λ t. done ++ t) (drop_more xs i 0 l))
    ∙ ran_join c done (get_or xs i 0 ∷ drop (i + 1) xs) gone.fault
    ∙ ap (λ (a : Answer ℕ). followed (ran c done) (going_on a (ran (behind (behind_all c done) (get_or xs i 0)) (drop (i + 1) xs)))) (sym (ap (λ g. g [] (get_or xs i 0)) gone.course) ∙ s)
    ∙ ap (λ t. (t, Some f)) (append-nil (ran c done).0)
    in
    let count : length (ran c done).0 ≡ i = ended c done gone.fault ∙ length-take-le i xs (omega arith) in
    said c d xs before after room i (Some f) e h
    (sym count ∙ ap (λ (u : Outcome). length u.0) (sym out))
    (ap (λ (u : Outcome). u.1) (sym out))
    (gone.outputs ∙ ap (λ n. (ran c done).0 ++ drop n before) (sym (ended c done gone.fault)) ∙ ap (λ u. written u before) (sym out))
    (k ∙ gone.course)

-- ---- the program's lists
-- one more input
pub gone_next : (p p' : Plan) (c b d : Course ℕ) (inputs before after : List WireSet) (i : ℕ) (default output : WireSet) → Gone p c b (take i (numbers inputs)) (numbers before) (numbers after) → i < length inputs → length inputs ≤ length before → p' ≡ p → Ok output.bits ≡ b [] (get_or inputs i default).bits → d ≡ after_step b (get_or inputs i default).bits → Leads p' b ((get_or inputs i default).bits ∷ []) d → Gone p c d (take (i + 1) (numbers inputs)) (numbers before) (numbers (set after i output))
gone_next p p' c b d inputs before after i default output gone h room same_p e l led =
    let bits : WireSet → ℕ = λ s. s.bits in
    let xs = numbers inputs in
    let many : length xs ≡ length inputs = length-map inputs bits in
    let as_many : length (numbers before) ≡ length before = length-map before bits in
    let same : get_or xs i 0 ≡ (get_or inputs i default).bits = get_or-map bits inputs i default 0 h in
    let count : length (take i xs) ≡ i = length-take-le i xs (omega arith) in
    let more = gone_more p c b d (take i xs) (numbers before) (numbers after) gone (omega arith) (get_or xs i 0) output.bits (ap (b []) same ∙ sym e) (l ∙ ap (λ a. after_answer a b (get_or inputs i default).bits) (sym e) ∙ ap (behind b) (sym same)) (subst (λ y. Leads p b (y ∷ []) d) (sym same) (subst (λ q. Leads q b ((get_or inputs i default).bits ∷ []) d) same_p led)) in
    subst (λ t. Gone p c d (take (i + 1) xs) (numbers before) t) (sym (map-set bits after i output))
    (subst (λ n. Gone p c d (take (i + 1) xs) (numbers before) (set (numbers after) n output.bits)) count
    (subst (λ t. Gone p c d t (numbers before) (set (numbers after) (length (take i xs)) output.bits)) (sym (take_more xs i 0 (omega arith))) more))

-- an input that is refused
pub said_next : (p : Plan) (c b d : Course ℕ) (inputs before after : List WireSet) (i : ℕ) (default : WireSet) (f : Fault) → Gone p c b (take i (numbers inputs)) (numbers before) (numbers after) → i < length inputs → length inputs ≤ length before → Err f ≡ b [] (get_or inputs i default).bits → d ≡ after_step b (get_or inputs i default).bits → Said c d (numbers inputs) (numbers before) (numbers after) (length before) i (Some f)
said_next p c b d inputs before after i default f gone h room e l =
    let bits : WireSet → ℕ = λ s. s.bits in
    let many : length (numbers inputs) ≡ length inputs = length-map inputs bits in
    said_stopped p c b d (numbers inputs) (numbers before) (numbers after) (length before) (length-map before bits) (omega arith) i (omega arith) gone f
    (ap (b []) (get_or-map bits inputs i default 0 h) ∙ sym e)
    (l ∙ ap (λ a. after_answer a b (get_or inputs i default).bits) (sym e))

-- the end of the inputs
pub said_end : (p : Plan) (c d : Course ℕ) (inputs before after : List WireSet) (i : ℕ) → Gone p c d (take i (numbers inputs)) (numbers before) (numbers after) → length inputs ≤ i → length inputs ≤ length before → Said c d (numbers inputs) (numbers before) (numbers after) (length before) (length inputs) None
said_end p c d inputs before after i gone h room =
    let bits : WireSet → ℕ = λ s. s.bits in
    let many : length (numbers inputs) ≡ length inputs = length-map inputs bits in
    said_all p c d (numbers inputs) (numbers before) (numbers after) (length before) (length inputs) (length-map before bits) (omega arith)
    (subst (λ t. Gone p c d t (numbers before) (numbers after)) (take_all i (numbers inputs) (omega arith)) gone)
    (sym many)
