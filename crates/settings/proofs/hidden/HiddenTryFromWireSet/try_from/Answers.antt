use Rattle.std.proofs.Common.{◌<◌, ◌≤◌, sym, arith, rules}
use Rattle.std.proofs.lemmas.Bool.{cond-true, cond-false, le-leb, lt-leb}
use Rattle.settings.specs.Tried.{size}
use Rattle.settings.proofs.Sizes.{size_ones}
use Rattle.settings.proofs.hidden.HiddenTryFromWireSet.try_from.Goals as goal

pub returns-then-set-gt-MAX_HIDDEN : goal.returns-then-set-gt-MAX_HIDDEN
returns-then-set-gt-MAX_HIDDEN c =
    let e = size_ones c.args.set.bits (search rules) in
    let more : 12 < size c.args.set.bits = omega arith in
    sym (cond-false _ _ _ (lt-leb _ _ more))

pub invariant_of-result : goal.invariant_of-result
invariant_of-result c =
    let e = size_ones c.args.set.bits (search rules) in
    omega arith

pub returns : goal.returns
returns c =
    let e = size_ones c.args.set.bits (search rules) in
    let few : size c.args.set.bits ≤ 12 = omega arith in
    sym (cond-true _ _ _ (le-leb _ _ few))
