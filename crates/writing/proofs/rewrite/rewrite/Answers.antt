use Rattle.std.proofs.Common.{◌≡◌, Some, None, ◌∙◌}
use Rattle.writing.proofs.Placing.{placed_rules}
use Rattle.writing.proofs.rewrite.rewrite.Goals as goal

pub returns-in_err-check-clause-law : goal.returns-in_err-check-clause-law
returns-in_err-check-clause-law c = λ ended placed _. let none : Some c.in_err-check.field-0.0 ≡ None = c.in_err-check.ensures ∙ placed_rules c.args.recipe.now ended placed in cc
