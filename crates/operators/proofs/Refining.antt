-- Refinements, call by call. Assumes nothing.
use Rattle.std.proofs.Common.{◌≡◌, ℕ, eqb, Ok, sym, ap, ◌∙◌}
use lib.Bits.{or_zero_r}
use Rattle.std.proofs.lemmas.Bool.{cond-false, ne_eqb}
use Rattle.parts.specs.Courses.{Answer}
use Rattle.parts.specs.Operators.{Move, join_move, awake_answer}

-- a part inside that is asleep adds nothing
pub asleep : (m : Move) (a : Answer Move) (k j : ℕ) (b : Answer ℕ) → Ok m ≡ a → (j ≡ k → ⊥) → Ok m ≡ join_move a (awake_answer k j b)
asleep m a k j b e h =
    ap (λ o. Ok (o, m.1, m.2)) (sym (or_zero_r m.0))
    ∙ (λ i. join_move (e i) (sym (cond-false (eqb j k) b (Ok 0) (ne_eqb j k h)) i))
