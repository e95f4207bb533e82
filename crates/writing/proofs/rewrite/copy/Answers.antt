use Rattle.std.proofs.Common.{◌≡◌, ℕ, Bool, length, Ok, Err, Result, sym, refl, ap, ◌∙◌}
use Rattle.std.specs.Result.{IsOk}
use Rattle.format.specs.Commands.{end}
use Rattle.format.specs.Values.{word, words_told}
use Rattle.format.specs.declared.refusal.Refusal.{Refusal}
use Rattle.format.proofs.Variants.{same_ok}
use Rattle.writing.specs.Pens.{place, told}
use Rattle.writing.specs.Writing.{write_answer, written}
use Rattle.writing.specs.Writers.{answered}
use Rattle.writing.specs.declared.pen.Pen.{Pen}
use Rattle.writing.proofs.Checking.{Took, took, clear_shorter}
use Rattle.writing.proofs.Copying.{pen_accepts, copied_more, end_answer, end_output}
use Rattle.writing.proofs.rewrite.copy.Goals as goal
use Rattle.writing.proofs.rewrite.copy.Goals.{After-unwrap-command}

-- the command that was read
here : (c : After-unwrap-command) → Took c.loop-reader.reader.rest.now c.loop-reader.reader.position (word c.unwrap-command.result) c.read.new.self.rest.now c.read.new.self.position
here c = took _ _ _ _ _ (ap words_told (sym c.unwrap-command.ensures) ∙ c.read.ensures.value) c.read.ensures.rest c.read.ensures.position

ok_told : (r : Result Pen Refusal) (p : ℕ × Bool) → told r ≡ Ok p → IsOk r
ok_told (Ok pen) p e = refl
ok_told (Err x) p e = cc

pub returns-then-is_end-clause-value : goal.returns-then-is_end-clause-value
returns-then-is_end-clause-value c =
    let t = here (goal.at.returns-then-is_end-clause-value c).After-unwrap-command in
    let told = end_answer c.loop-reader.invariant t (sym c.if-is_end.ensures) in
    let is = c.end.ensures.value ∙ ap (λ k. answered k (write_answer end k c.loop-reader.out)) c.close.ensures ∙ ap (answered (place c.loop-reader.pen)) told in
    c.length.ensures ∙ same_ok _ c.unwrap.result (length c.args.recipe.now) c.unwrap.ensures is

pub returns-then-is_end-clause-output : goal.returns-then-is_end-clause-output
returns-then-is_end-clause-output c =
    let t = here (goal.at.returns-then-is_end-clause-output c).After-unwrap-command in
    c.end.ensures.output
    ∙ ap (λ k. written end k c.loop-reader.out) c.close.ensures
    ∙ end_output c.loop-reader.invariant t (sym c.if-is_end.ensures)

pub unwrap-pen-requires : goal.unwrap-pen-requires
unwrap-pen-requires c =
    let t = here (goal.at.unwrap-pen-requires c).After-unwrap-command in
    ok_told c.write.result _ (c.write.ensures.value ∙ pen_accepts c.loop-reader.invariant t)

pub loop-reader-smaller : goal.loop-reader-smaller
loop-reader-smaller c = clear_shorter c.loop-reader.invariant.clear (here (goal.at.loop-reader-smaller c).After-unwrap-command)

pub loop-reader-preserved : goal.loop-reader-preserved
loop-reader-preserved c =
    let t = here (goal.at.loop-reader-preserved c).After-unwrap-command in
    copied_more c.loop-reader.invariant t _ _ (sym c.if-is_end.ensures) (ap told (sym c.unwrap-pen.ensures) ∙ c.write.ensures.value) c.write.ensures.output
