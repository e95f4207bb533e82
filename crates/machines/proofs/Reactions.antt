-- How rules react, and the wires of all of them, by what an iterator over them finds. Assumes nothing.
use Rattle.std.proofs.Common.{◌≡◌, ℕ, List, [], ◌∷◌, Some, None, Option, sym, refl, ◌∙◌, arith}
use Rattle.std.specs.List.{find, fold}
use lib.Bits.{or_zero_r}
use Rattle.signals.specs.declared.wire_set.WireSet.{WireSet}
use Rattle.signals.specs.Sets.{union}
use Rattle.signals.proofs.Wires.{union_assoc}
use Rattle.rules.specs.declared.rule.Rule.{Rule}
use Rattle.rules.specs.Rules.{fires}
use Rattle.parts.specs.Operators.{Move}
use Rattle.machines.specs.Reactions.{rule_move, staying, reaction, united}

-- ---- the move of the first rule that fires, and staying where none does
abbrev pub move_of_found : ℕ → Option Rule → Move
move_of_found state None = staying state
move_of_found state (Some r) = rule_move r

pub reaction-found : (rules : List Rule) (state x : ℕ) → move_of_found state (find (λ r. fires r state x) rules) ≡ reaction rules state x
reaction-found [] state x = refl
reaction-found (r ∷ rs) state x = grind (arith, reaction-found rs state x)

-- ---- the wires of all rules: the wires of each are added to those of the rules before it
abbrev pub with_wires : (Rule → ℕ) → WireSet → Rule → WireSet
with_wires wires w r = record { bits = union w.bits (wires r) }

pub bits-fold : (wires : Rule → ℕ) (found : WireSet) (rules : List Rule) → (fold (with_wires wires) found rules).bits ≡ union found.bits (united wires rules)
bits-fold wires found [] = sym (or_zero_r found.bits)
bits-fold wires found (r ∷ rs) = bits-fold wires (with_wires wires found r) rs ∙ union_assoc found.bits (wires r) (united wires rs)
