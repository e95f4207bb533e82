use Rattle.std.proofs.Common.{[]}
use Rattle.parts.specs.Operators.{under}
use Rattle.settings.specs.Found.{Sofar}
use Rattle.settings.specs.Left.{settings_left}
use Rattle.operators.proofs.encapsulation.Encapsulation.settle.Given as goal

abbrev pub invariant-loop-setting : goal.invariant-loop-setting
invariant-loop-setting g l = Sofar l.self.hidden (λ s. g.P.Part.course l.self.inside [] (under l.self.hidden l.input.bits s)) (settings_left l.setting-iterator) l.findings
