use Rattle.std.proofs.Common.{take, sym, ◌∙◌}
use Rattle.std.proofs.lemmas.Bool.{cond-false, and_left, and_right}
use Rattle.format.proofs.Spelling.{holds_is}
use Rattle.format.proofs.parse.wire_name.Goals as goal
use Rattle.format.proofs.parse.wire_name.Goals.{else-is_spelled-via-then-is_spelled+else-is_all_zero, else-is_spelled-via-else-is_spelled}

pub returns-else-is_spelled-clause-value : goal.returns-else-is_spelled-clause-value
returns-else-is_spelled-clause-value c =
    let field = take 24 c.args.operands.now in
    let h = holds_is field _ c.name_length-length.ensures.value in
    sym (cond-false _ _ _ (elim c.else-is_spelled.branch [
      | else-is_spelled-via-then-is_spelled+else-is_all_zero w ↦ h ∙ and_right _ _ (sym w.if-is_all_zero.ensures)
      | else-is_spelled-via-else-is_spelled w ↦ h ∙ and_left _ _ (sym w.if-is_spelled.ensures)
    ]))
