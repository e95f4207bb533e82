-- The plan of a nesting, operator by operator, and the promise of the first calls on it. Assumes nothing.
use Rattle.std.proofs.Common.{◌≡◌, ℕ, Bool, true, false, cond, List, [], Ok, Err, Result, length, take, nat_le, sym, ap, ◌∙◌, subst}
use Rattle.parts.specs.declared.call.Call.{Call}
use Rattle.parts.specs.declared.call.Reply.{Reply}
use Rattle.parts.specs.declared.fault.Fault.{Fault}
use Rattle.parts.specs.Courses.{Course}
use Rattle.parts.specs.Plans.{Plan, StagedPlan}
use Rattle.parts.specs.Trees.{inhibition, moved, refinement, encapsulation}
use Rattle.parts.specs.Calls.{Reached, Promise, PromisedAll, calls_of, replies_of, performed, roomy, short_list}

pub nested : {w k g place : ℕ} {layout r : StagedPlan} {n i b c : Plan} → n ≡ inhibition w (moved r) → r ≡ refinement k layout i → i ≡ encapsulation g place b → b ≡ c → n ≡ inhibition w (moved (refinement k layout (encapsulation g place c)))
nested {w} {k} {g} {place} {layout} made refined hidden both =
    made
    ∙ ap (λ m. inhibition w (moved m)) refined
    ∙ ap (λ p. inhibition w (moved (refinement k layout p))) (hidden ∙ ap (encapsulation g place) both)

-- where there is room, all calls are performed
with_room : (calls : List Call) (room : Bool) (P : List Call → Type 0) → ◌≡◌ {A = Result (Unit {0}) Fault} (cond room (Ok tt) (Err short_list)) (Ok tt) → P (cond room calls []) → P calls
with_room calls true P e p = p
with_room calls false P e p = absurd cc

pub promised_first : (calls : List Call) (before after : List Reply) {p q : Plan} {fresh c d : Course ℕ} → p ≡ q → c ≡ fresh → Reached p fresh [] → roomy (length calls) (length before) ≡ Ok tt → PromisedAll p c (performed calls before) after d → Promise q [] (calls_of calls) (replies_of (take (length calls) after)) d
promised_first calls before after {p} {q} {fresh} {c} {d} plan new begins room promise =
    let all : PromisedAll p c calls after d = with_room calls (nat_le (length calls) (length before)) (λ ks. PromisedAll p c ks after d) room promise in
    subst (λ r. Promise r [] (calls_of calls) (replies_of (take (length calls) after)) d) plan (all [] (subst (λ f. Reached p f []) (sym new) begins))
