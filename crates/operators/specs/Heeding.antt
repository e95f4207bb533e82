-- The wires that operators read: others alter nothing. Assumes nothing.
use Rattle.std.specs.Prelude.{◌≡◌, ℕ, ◌^◌, Bool, true, false, not, ◌&&◌, ◌||◌, refl}
use Rattle.std.proofs.Common.{sym, ap, ◌∙◌}
use Rattle.signals.specs.Sets.{has, union, difference, Within}
use Rattle.signals.proofs.Wires.{same_wires, same_at, union_wires, intersection_wires, difference_wires, has_itself}
use Rattle.std.proofs.Math.Bool.{and-false}
use Rattle.std.proofs.lemmas.Bool.{or_left, or_right}
use Rattle.parts.specs.Courses.{Course, Lawful, Unread, AlikeIn}
use Rattle.parts.specs.Operators.{Move, under}
use Rattle.parts.specs.Trees.{part, staged, course_of, moves_of}
use Rattle.parts.specs.Agreement.{Agree, Implies, parallel_agree, inhibition_agree, encapsulation_agree, refinement_agree}
use Rattle.parts.proofs.Staging.{outputs_unread}
use Rattle.operators.specs.Joined.{held, parallel_course, encapsulation_course, inhibition_course, refinement_moves, refinement_course}
use Rattle.operators.specs.Holding.{held_steady, held_part, held_staged}

-- ---- inputs that have the same wires of a larger set
pub narrower : (r t : ℕ) → Within r t → Implies (AlikeIn t) (AlikeIn r)
narrower r t h x y e = same_wires _ _ (λ w. intersection_wires x r w ∙ both w (has r w) refl ∙ sym (intersection_wires y r w))
  where
    both : (w : ℕ) (b : Bool) → has r w ≡ b → (has x w && b) ≡ (has y w && b)
    both w true k = ap (λ b. b && true) (same_at t x y e w (h w k))
    both w false k = and-false (has x w) ∙ sym (and-false (has y w))

pub left_within : (a b : ℕ) → Within a (union a b)
left_within a b w h = union_wires a b w ∙ or_left _ _ h

pub right_within : (a b : ℕ) → Within b (union a b)
right_within a b w h = union_wires a b w ∙ or_right _ _ h

-- under a setting, an inside sees of the input what is not hidden
under_wires : (g x s w : ℕ) → has (under g x s) w ≡ ((has x w && not (has g w)) || has s w)
under_wires g x s w = union_wires (difference x g) s w ∙ ap (λ b. b || has s w) (difference_wires x g w)

pub under_read : (g r x y s : ℕ) → AlikeIn (difference r g) x y → AlikeIn r (under g x s) (under g y s)
under_read g r x y s e = same_wires _ _ (λ w. intersection_wires (under g x s) r w ∙ ap (λ b. b && has r w) (under_wires g x s w) ∙ both w (has r w) (has g w) refl refl ∙ sym (intersection_wires (under g y s) r w ∙ ap (λ b. b && has r w) (under_wires g y s w)))
  where
    hidden : (a b : Bool) → (((a && not true) || b) && true) ≡ (b && true)
    hidden true b = refl
    hidden false b = refl

    both : (w : ℕ) (i j : Bool) → has r w ≡ i → has g w ≡ j → (((has x w && not (has g w)) || has s w) && i) ≡ (((has y w && not (has g w)) || has s w) && i)
    both w false j p q = and-false ((has x w && not (has g w)) || has s w) ∙ sym (and-false ((has y w && not (has g w)) || has s w))
    both w true true p q = ap (λ b. ((has x w && not b) || has s w) && true) q ∙ hidden (has x w) (has s w) ∙ sym (ap (λ b. ((has y w && not b) || has s w) && true) q ∙ hidden (has y w) (has s w))
    both w true false p q =
        let there : has (difference r g) w ≡ true = difference_wires r g w ∙ (λ i. p i && not (q i)) in
        ap (λ b. ((b && not (has g w)) || has s w) && true) (same_at (difference r g) x y e w there)

-- ---- what is held
part_unread : (r : ℕ) (c f : Course ℕ) → Lawful c → Unread r c → Agree (AlikeIn r) (course_of held (part (c, f))) (course_of held (part (c, f)))
part_unread r c f l u xs ys x y h q = held_part c f l xs x ∙ u xs ys x y h q ∙ sym (held_part c f l ys y)

staged_unread : (r : ℕ) (m f : Course Move) (k : ℕ) → Lawful m → Unread r m → Agree (AlikeIn r) (moves_of held (staged (m, f, k))) (moves_of held (staged (m, f, k)))
staged_unread r m f k l u xs ys x y h q = held_staged m f k l xs x ∙ u xs ys x y h q ∙ sym (held_staged m f k l ys y)

-- ---- the operators
pub parallel_unread : (r s : ℕ) (c f d g : Course ℕ) → Lawful c → Lawful d → Unread r c → Unread s d → Unread (union r s) (parallel_course (c, f) (d, g))
parallel_unread r s c f d g l k u v = parallel_agree held held_steady held held_steady (AlikeIn (union r s)) (AlikeIn r) (AlikeIn s) (narrower r (union r s) (left_within r s)) (narrower s (union r s) (right_within r s)) (part (c, f)) (part (d, g)) (part (c, f)) (part (d, g)) (part_unread r c f l u) (part_unread s d g k v)

pub encapsulation_unread : (g place r : ℕ) (c f : Course ℕ) → Lawful c → Unread r c → Unread (difference r g) (encapsulation_course g place (c, f))
encapsulation_unread g place r c f l u = encapsulation_agree held held_steady held held_steady (AlikeIn (difference r g)) (AlikeIn r) g place (λ x y s h q. under_read g r x y s q) (part (c, f)) (part (c, f)) (part_unread r c f l u)

pub inhibition_unread : (w r : ℕ) (c f : Course ℕ) → Lawful c → Unread r c → Unread (union (2 ^ w) r) (inhibition_course w (c, f))
inhibition_unread w r c f l u = inhibition_agree held held_steady held held_steady (AlikeIn (union (2 ^ w) r)) (AlikeIn r) w (narrower r (union (2 ^ w) r) (right_within (2 ^ w) r)) (λ x y q. same_at (union (2 ^ w) r) x y q w (left_within (2 ^ w) r w (has_itself w))) (part (c, f)) (part (c, f)) (part_unread r c f l u)

pub refinement_unread : (k r s : ℕ) (m n : Course Move) (stage : ℕ) (c f : Course ℕ) → Lawful m → Lawful c → Lawful f → Unread r m → Unread s c → Unread s f → Unread (union r s) (refinement_moves k (m, n, stage) (c, f))
refinement_unread k r s m n stage c f l h j u v w =
    refinement_agree held held_steady held held_steady (AlikeIn (union r s)) (AlikeIn r) (AlikeIn s) k (narrower r (union r s) (left_within r s)) (narrower s (union r s) (right_within r s)) (staged (m, n, stage)) (staged (m, n, stage)) (part (c, f)) (part (c, f)) (staged_unread r m n stage l u) refl (part_unread s c f h v) (part_unread s f f j w)

-- ---- the course now and the one behind a restart, together
pub parallel_both_unread : (r s : ℕ) (c f d g : Course ℕ) → Lawful c × Lawful f → Lawful d × Lawful g → Unread r c × Unread r f → Unread s d × Unread s g → Unread (union r s) (parallel_course (c, f) (d, g)) × Unread (union r s) (parallel_course (f, f) (g, g))
parallel_both_unread r s c f d g l k u v = (parallel_unread r s c f d g l.0 k.0 u.0 v.0, parallel_unread r s f f g g l.1 k.1 u.1 v.1)

pub encapsulation_both_unread : (g place r : ℕ) (c f : Course ℕ) → Lawful c × Lawful f → Unread r c × Unread r f → Unread (difference r g) (encapsulation_course g place (c, f)) × Unread (difference r g) (encapsulation_course g place (f, f))
encapsulation_both_unread g place r c f l u = (encapsulation_unread g place r c f l.0 u.0, encapsulation_unread g place r f f l.1 u.1)

pub inhibition_both_unread : (w r : ℕ) (c f : Course ℕ) → Lawful c × Lawful f → Unread r c × Unread r f → Unread (union (2 ^ w) r) (inhibition_course w (c, f)) × Unread (union (2 ^ w) r) (inhibition_course w (f, f))
inhibition_both_unread w r c f l u = (inhibition_unread w r c f l.0 u.0, inhibition_unread w r f f l.1 u.1)

pub refinement_both_unread : (k r s : ℕ) (m n : Course Move) (stage : ℕ) (c f : Course ℕ) → Lawful m × Lawful n → Lawful c × Lawful f → Unread r m × Unread r n → Unread s c × Unread s f → Unread (union r s) (refinement_moves k (m, n, stage) (c, f)) × Unread (union r s) (refinement_moves k (n, n, 0) (f, f))
refinement_both_unread k r s m n stage c f h l u v = (refinement_unread k r s m n stage c f h.0 l.0 l.1 u.0 v.0 v.1, refinement_unread k r s n n 0 f f h.1 l.1 l.1 u.1 v.1 v.1)

-- and the outputs of moves
pub refinement_outputs_unread : (k r s : ℕ) (m n : Course Move) (stage : ℕ) (c f : Course ℕ) → Lawful m × Lawful n → Lawful c × Lawful f → Unread r m × Unread r n → Unread s c × Unread s f → Unread (union r s) (refinement_course k (m, n, stage) (c, f)) × Unread (union r s) (refinement_course k (n, n, 0) (f, f))
refinement_outputs_unread k r s m n stage c f h l u v =
    let moves = refinement_both_unread k r s m n stage c f h l u v in
    (outputs_unread (union r s) (refinement_moves k (m, n, stage) (c, f)) moves.0, outputs_unread (union r s) (refinement_moves k (n, n, 0) (f, f)) moves.1)
