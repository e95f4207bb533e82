use Rattle.std.proofs.Common.{◌≡◌, rules, tests, ap, ◌∙◌}
use Rattle.std.specs.Option.{option_map}
use Rattle.std.proofs.lemmas.Iterator.{YieldsList-from_slice}
use Rattle.std.proofs.lemmas.Iterator.Search.{find_from_yields_List}
use Rattle.rules.specs.Rules.{fires}
use Rattle.machines.specs.Reactions.{reaction}
use Rattle.machines.proofs.Reactions.{move_of_found, reaction-found}
use Rattle.machines.proofs.reacting.react.Goals as goal
use Rattle.machines.proofs.reacting.react.Goals.{After-find}

-- what was found is the first rule that fires
found : (c : After-find) → move_of_found c.args.state (option_map (λ r. r.now) c.find.result) ≡ reaction c.args.rules.now c.args.state c.args.input.bits
found c =
    ap (move_of_found c.args.state) (find_from_yields_List (λ r. fires r c.args.state c.args.input.bits) c.find.new.self _ c.find.result c.find.ensures.ran (YieldsList-from_slice c.args.rules.now cc) (λ x b q k. search (rules, tests)))
    ∙ reaction-found c.args.rules.now c.args.state c.args.input.bits

pub returns-in-Some : goal.returns-in-Some
returns-in-Some c = rw c.in-Some.is at (found (goal.at.returns-in-Some c).After-find)

pub returns-in-None : goal.returns-in-None
returns-in-None c = rw c.in-None.is at (found (goal.at.returns-in-None c).After-find)
