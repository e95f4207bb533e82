use Rattle.std.proofs.Common.{◌++◌, map, length, get_or, take, sym, ap, ◌∙◌, append_assoc}
use Rattle.std.proofs.ByRecursion.{All-get_or}
use Rattle.std.proofs.lemmas.Result.{MatchResult-at_ok}
use Rattle.reports.specs.Lines.{wires_line, wire_line_text, wire_lines}
use Rattle.reports.specs.Names.{shown, Spelled}
use Rattle.reports.proofs.Texts.{line_more, name_text, ok_from}
use Rattle.reports.proofs.wires.list.Goals as goal

pub unwrap-name-requires : goal.unwrap-name-requires
unwrap-name-requires c = ok_from _ _ _ c.from_utf8.result (name_text _ (All-get_or Spelled c.args.names.now c.loop-wire.wire-counter _ c.loop-wire-test.true c.requires)) c.from_utf8.ensures.cases

pub loop-wire-preserved : goal.loop-wire-preserved
loop-wire-preserved c =
    let names = c.args.names.now in
    let i = c.loop-wire.wire-counter in
    let head = wires_line (length names) in
    let lines = wire_lines 0 (map shown (take i names)) in
    let line = wire_line_text i (shown (get_or names i _)) in
    let same = (MatchResult-at_ok {r = c.from_utf8.result} _ _ c.unwrap-name.result c.unwrap-name.ensures c.from_utf8.ensures.cases).0 in
    c.in_ok-writeln.ensures.bytes
    ∙ (λ j. c.loop-wire.invariant j ++ wire_line_text i (same j))
    ∙ append_assoc head lines line
    ∙ ap (λ t. head ++ t) (sym (line_more names i _ c.loop-wire-test.true))
