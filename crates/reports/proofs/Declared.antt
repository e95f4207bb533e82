-- The names that commands declare, one command more. Assumes nothing.
use Rattle.std.proofs.Common.{◌≡◌, ℕ, List, [], ◌∷◌, map, None, refl, ap, subst, Bor}
use Rattle.std.specs.List.{AllByRecursion, cons_option}
use Rattle.std.proofs.lemmas.Bool.{and_parts}
use Rattle.format.specs.Commands.{Proper, today}
use Rattle.format.specs.Names.{spelled}
use Rattle.format.specs.Reading.{Reading, read_all}
use Rattle.format.specs.Recipes.{Ended, Whole}
use Rattle.format.specs.Values.{word}
use Rattle.format.specs.declared.command.Command.{Command}
use Rattle.format.specs.declared.command.Command.TheVariants.{Wire, Machine, Rule, Par, Hide, Unless, Refine, End}
use Rattle.reports.specs.Names.{shown, Spelled, name_ref, name_refs, name_of, names_of}

-- the names by reference are the names by value
pub one_name : (c : Command) (refs : List (Bor (List ℕ))) (names : List (List ℕ)) → map shown refs ≡ names → map shown (cons_option (name_ref c) refs) ≡ cons_option (name_of (word c)) names
one_name (Wire name) refs names h = ap (λ t. name.now ∷ t) h
one_name (Machine n) refs names h = h
one_name (Rule r) refs names h = h
one_name Par refs names h = h
one_name (Hide g) refs names h = h
one_name (Unless w) refs names h = h
one_name (Refine k) refs names h = h
one_name End refs names h = h

pub all_names : (cs : List Command) → map shown (name_refs cs) ≡ names_of (map word cs)
all_names [] = refl
all_names (c ∷ cs) = one_name c (name_refs cs) (names_of (map word cs)) (all_names cs)

-- ---- the names of proper commands are spelled
spelled_ref : (c : Command) (refs : List (Bor (List ℕ))) → Proper today (word c) → AllByRecursion Spelled refs → AllByRecursion Spelled (cons_option (name_ref c) refs)
spelled_ref (Wire name) refs p h = ((and_parts (spelled name.now) _ p.1).0, h)
spelled_ref (Machine n) refs p h = h
spelled_ref (Rule r) refs p h = h
spelled_ref Par refs p h = h
spelled_ref (Hide g) refs p h = h
spelled_ref (Unless w) refs p h = h
spelled_ref (Refine k) refs p h = h
spelled_ref End refs p h = h

pub spelled_refs : (cs : List Command) → AllByRecursion (Proper today) (map word cs) → AllByRecursion Spelled (name_refs cs)
spelled_refs [] h = tt
spelled_refs (c ∷ cs) h = spelled_ref c (name_refs cs) h.0 (spelled_refs cs h.1)

-- commands that reading accepted are proper
pub all_proper : (bs : List ℕ) (cs : List Command) → Whole today bs (read_all today bs) → read_all today bs ≡ record { words = map word cs; ending = None } → AllByRecursion (Proper today) (map word cs)
all_proper bs cs h e = (subst (λ (r : Reading). Ended today bs r.words r.ending) e h.ended).proper
