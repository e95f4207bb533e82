use Rattle.std.proofs.Common.{[], ◌≡◌, rules, subst}
use Rattle.std.proofs.lemmas.List.{take_all}
use Rattle.parts.specs.Calls.{performed}
use Rattle.parts.proofs.Turns.{Done, done_none, done_next, done_promise}
use Rattle.parts.proofs.performing.perform.Goals as goal

pub returns-then-replies-calls-clause-promise : goal.returns-then-replies-calls-clause-promise
returns-then-replies-calls-clause-promise g c =
    let part = c.args.part.now in
    let before = c.args.replies.now in
    let plan = g.P.Part.plan part in
    let fresh = g.P.Part.fresh part in
    let course = g.P.Part.course part in
    let none : performed c.args.calls.now before ≡ [] = search rules in
    rw none (done_promise plan fresh course course [] before before (done_none plan fresh course (g.met.P.Part.planned part) before))

pub loop-i-init : goal.loop-i-init
loop-i-init g c =
    let part = c.args.part.now in
    (done_none (g.P.Part.plan part) (g.P.Part.fresh part) (g.P.Part.course part) (g.met.P.Part.planned part) c.args.replies.now, search rules)

pub loop-i-preserved : goal.loop-i-preserved
loop-i-preserved g c =
    let part = c.args.part.now in
    let here = c.loop-i.part in
    let told = c.perform_call.ensures in
    let kept = c.loop-i.invariant.1 in (
      done_next (g.P.Part.plan part) (g.P.Part.plan here) (g.P.Part.fresh part) (g.P.Part.fresh here) (g.P.Part.course part) (g.P.Part.course here) (g.P.Part.course c.perform_call.new.part) c.args.calls.now c.args.replies.now c.loop-i.replies c.loop-i.i _ c.perform_call.result c.loop-i.invariant.0 kept.plan kept.fresh c.loop-i-test.true c.if-replies-calls.false told.value told.course told.promise,
      search rules,
    )

pub returns-clause-promise : goal.returns-clause-promise
returns-clause-promise g c =
    let part = c.args.part.now in
    let here = c.loop-i.part in
    let calls = c.args.calls.now in
    let before = c.args.replies.now in
    let after = c.loop-i.replies in
    let plan = g.P.Part.plan part in
    let fresh = g.P.Part.fresh part in
    let course = g.P.Part.course part in
    let all : performed calls before ≡ calls = search rules in
    let done = subst (λ ks. Done plan fresh course (g.P.Part.course here) ks before after) (take_all c.loop-i.i calls c.loop-i-test.false) c.loop-i.invariant.0 in
    rw all (done_promise plan fresh course (g.P.Part.course here) calls before after done)
