-- A part that refuses keeps the laws of parts. Assumes nothing.
use Rattle.std.specs.Prelude.{◌≡◌, true, cond, Ok, Err, refl}
use Rattle.std.proofs.Common.{ap, subst}
use Rattle.std.proofs.lemmas.Bool.{cond_both}
use Rattle.signals.specs.Sets.{has, subset}
use Rattle.signals.proofs.Wires.{same_at}
use Rattle.parts.specs.Courses.{Lawful, Unread, Named}
use Rattle.parts.specs.declared.fault.Fault.{Fault}
use Rattle.parts.specs.Searching.{ok_same}
use Rattle.gates.specs.Gates.{gate_course}

pub lawful : (fault : Fault) → Lawful (gate_course fault)
lawful fault xs x f e ys y = refl

pub unread : (fault : Fault) → Unread 1 (gate_course fault)
unread fault xs ys x y r e = ap (λ b. cond b (Err fault) (Ok 0)) (same_at 1 x y e 0 refl)

pub named : (fault : Fault) → Named 0 (gate_course fault)
named fault xs x o e = cond_both (has x 0) (Err fault) (Ok 0) (λ a. a ≡ Ok o → subset o 0 ≡ true) (λ _ h. cc) (λ _ h. subst (λ n. subset n 0 ≡ true) (ok_same (Ok 0) 0 o refl h) refl) e
