use Rattle.std.proofs.Common.{◌≡◌, map, length, vec_items, sym, ap, ◌∙◌, subst}
use Rattle.std.specs.List.{AllByRecursion}
use Rattle.std.proofs.lemmas.Result.{IfOk-weaker}
use Rattle.std.proofs.lemmas.Bool.{cond-true, le-leb}
use Rattle.reports.specs.Lines.{wire_list_text, reading_report}
use Rattle.reports.specs.Names.{shown, Spelled, name_refs}
use Rattle.reports.proofs.Declared.{all_names, spelled_refs, all_proper}
use Rattle.reports.proofs.wires.wire_list.Goals as goal
use Rattle.reports.proofs.wires.wire_list.Goals.{In_ok-names-in-Ok}

-- the names that are listed are those of the commands that were read
names-are : (c : In_ok-names-in-Ok) → vec_items c.in_ok-names-in-Ok.names ≡ name_refs (vec_items c.in-Ok.commands)
names-are c = c.in_ok-names-in-Ok.ensures ∙ ap name_refs c.deref.ensures.value

pub list-requires : goal.list-requires
list-requires c =
    let cs = vec_items c.in-Ok.commands in
    let told = c.in-Ok.ensures in
    subst (AllByRecursion Spelled) (sym (c.deref-in-Ok.ensures.value ∙ names-are (goal.at.list-requires c).In_ok-names-in-Ok)) (spelled_refs cs (all_proper c.args.recipe.now cs told.law told.value))

pub returns-in_ok-names-in-Ok : goal.returns-in_ok-names-in-Ok
returns-in_ok-names-in-Ok c =
    let bs = c.args.recipe.now in
    let cs = vec_items c.in-Ok.commands in
    let told = c.in-Ok.ensures in
    let names = c.deref-in-Ok.ensures.value ∙ names-are (goal.at.returns-in_ok-names-in-Ok c).In_ok-names-in-Ok in
    IfOk-weaker c.list.result _ _
    (λ s h. h ∙ ap (λ t. wire_list_text (map shown t)) names ∙ ap wire_list_text (all_names cs) ∙ sym (ap (λ r. reading_report r.words r.ending) told.value) ∙ sym (cond-true _ _ _ (le-leb (length bs) 16384 c.if-recipe-gt-MAX_RECIPE.false)))
    c.list.ensures
