use Rattle.std.proofs.Common.{◌≡◌, [], ap, ◌∙◌}
use Rattle.parts.specs.Operators.{under}
use Rattle.parts.specs.Trees.{chosen}
use Rattle.operators.proofs.Hiding.{encapsulation_step}
use Rattle.operators.proofs.encapsulation.EncapsulationPart.step.Goals as goal

pub returns-clause-course : goal.returns-clause-course
returns-clause-course g c =
    let s = c.args.self.now in
    let h = s.hidden in
    let x = c.args.input.bits in
    let course = g.P.Part.course s.inside in
    let told = c.in_ok-setting.ensures in
    let left = c.step.ensures in
    let inner : c.input.result.bits ≡ under h x (chosen h (λ t. course [] (under h x t))) = c.input.ensures ∙ ap (under h x) told.setting in
    encapsulation_step h s.place course (g.P.Part.fresh s.inside) (g.P.Part.course c.step.new.self) (g.P.Part.fresh c.step.new.self) x c.in_ok-setting.outputs.bits c.input.result.bits told.outputs inner left.course left.kept.fresh
