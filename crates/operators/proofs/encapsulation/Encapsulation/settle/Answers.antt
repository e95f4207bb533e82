use Rattle.std.proofs.Common.{ℕ, [], subst}
use Rattle.parts.specs.Courses.{Answer}
use Rattle.parts.specs.Operators.{under}
use Rattle.settings.specs.Found.{Sofar}
use Rattle.settings.proofs.Looping.{ends}
use Rattle.operators.proofs.encapsulation.Encapsulation.settle.Goals as goal

-- every setting was tried
pub returns : goal.returns
returns g c =
    let s = c.args.self.now in
    let f : ℕ → Answer ℕ = λ t. g.P.Part.course s.inside [] (under s.hidden c.args.input.bits t) in
    let so : Sofar s.hidden f [] c.loop-setting.findings = subst (λ ts. Sofar s.hidden f ts c.loop-setting.findings) c.in-None.ensures.steps.0 c.loop-setting.invariant in
    let told = ends s.hidden f c.loop-setting.findings s.place c.answer.result so c.answer.ensures in
    record { outputs = told.0; setting = told.1 }
