use Rattle.std.proofs.Common.{◌≡◌, ◌++◌, codes, decimal, sym, ap, ◌∙◌, subst, arith, rules}
use Rattle.std.specs.Fmt.{HasWritten}
use Rattle.std.proofs.Output.{has_written_append}
use Rattle.std.proofs.lemmas.Bool.{cond-false}
use Rattle.printing.specs.Lines.{wires_text, tick_text}
use Rattle.printing.proofs.TickLineDisplay.fmt.Goals as goal

pub returns-clause-writes : goal.returns-clause-writes
returns-clause-writes g c = λ plain ok.
    let line = c.args.self.now in
    let set = line.outputs.bits in
    let all : c.loop-wire.wire-counter ≡ 64 = omega (arith, c.loop-wire-test.false, c.loop-wire.auto.wire-counter-end) in
    let text : (decimal line.tick ++ wires_text set c.loop-wire.wire-counter) ++ codes "\n" ≡ tick_text line.tick set =
    ap (λ k. (decimal line.tick ++ wires_text set k) ++ codes "\n") all ∙ sym (cond-false _ _ _ (sym c.eq.ensures ∙ c.if-eq.false)) in
    subst (λ t. HasWritten g.W.Write.write_str_gives c.args.f.now t c.write_str.new.self) text (has_written_append _ _ _ _ _ _ (c.loop-wire.invariant plain) (search rules))
