use Rattle.std.proofs.Common.{◌≡◌, ◌<◌, ◌&&◌, length, sym, ap, ◌∙◌, rules}
use Rattle.std.specs.List.{between, list_all}
use Rattle.std.proofs.lemmas.Slice.{first_rest}
use Rattle.std.proofs.lemmas.Iterator.{YieldsList-from_slice}
use Rattle.std.proofs.lemmas.Iterator.Search.{all_from_yields_List}
use Rattle.format.specs.Names.{name_byte, spelled}
use Rattle.format.proofs.name.is_spelled.Goals as goal

pub returns-then-is_ascii_uppercase : goal.returns-then-is_ascii_uppercase
returns-then-is_ascii_uppercase c =
    let name = c.args.name.now in
    let some : 0 < length name = search rules in
    let rest : c.all.result ≡ list_all name_byte (between 1 (length name) name) = all_from_yields_List name_byte _ _ c.all.result c.all.ensures.ran (YieldsList-from_slice _ c.iter.ensures.rest) (λ x b q k. search rules) in
    rest ∙ ap (λ t. t && list_all name_byte (between 1 (length name) name)) (sym c.if-is_ascii_uppercase.true ∙ c.is_ascii_uppercase.ensures.value) ∙ ap spelled (sym (first_rest name 0 some))
