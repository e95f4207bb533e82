-- The rules of the four operators, over answers alone. Assumes nothing: these are definitions.
use Rattle.std.specs.Prelude.{ℕ, suc, Bool, cond, ◌&&◌, ◌||◌, List, [], ◌∷◌, ◌++◌, length, Ok, Err, filter, ◌==◌}
use Rattle.std.specs.List.{range_with_len}
use Rattle.signals.specs.Sets.{union, intersection, difference, subset, has}
use Rattle.parts.specs.Courses.{Answer}
use Rattle.parts.specs.declared.fault.Fault.{Fault}

-- Of two faults in order, the one that comes up: the first.
abbrev pub foremost : Fault → Fault → Fault
foremost f g = f

-- two answers, one before the other: both outputs joined by f, or the fault that comes up
abbrev pub both : {A B C : Type 0} → (A → B → C) → Answer A → Answer B → Answer C
both f (Ok a) (Ok b) = Ok (f a b)
both f (Ok a) (Err g) = Err g
both f (Err e) (Ok b) = Err e
both f (Err e) (Err g) = Err (foremost e g)

-- ---- parallel: both outputs joined
abbrev pub join : Answer ℕ → Answer ℕ → Answer ℕ
join = both union

-- ---- encapsulation of the wires g
-- the settings: all subsets of g, by rising value
abbrev pub settings : ℕ → List ℕ
settings g = filter (λ s. subset s g) (range_with_len 0 (suc g))

-- what reaches the inside under a setting
abbrev pub under : ℕ → ℕ → ℕ → ℕ
under g x s = union (difference x g) s

-- the settings under which the inside emits, out of g, exactly the setting, each with what it emits; or the fault that comes up
abbrev pub settles : ℕ → ℕ → Answer ℕ → Answer (List (ℕ × ℕ))
settles g s (Ok o) = Ok (cond (intersection o g == s) ((s, o) ∷ []) [])
settles g s (Err f) = Err f

abbrev pub settled : ℕ → (ℕ → Answer ℕ) → List ℕ → Answer (List (ℕ × ℕ))
settled g f [] = Ok []
settled g f (s ∷ ss) = both ◌++◌ (settles g s (f s)) (settled g f ss)

-- with exactly one, its output without g; else a fault at the place
abbrev pub only : ℕ → ℕ → List (ℕ × ℕ) → Answer ℕ
only g place [] = Err (record { cause = 41; place = place; count = 0 })
only g place (p ∷ []) = Ok (difference p.1 g)
only g place (p ∷ q ∷ ps) = Err (record { cause = 42; place = place; count = length (p ∷ q ∷ ps) })

abbrev pub onto : {A B : Type 0} → Answer A → (A → Answer B) → Answer B
onto (Ok a) k = k a
onto (Err f) k = Err f

abbrev pub encapsulate : ℕ → ℕ → (ℕ → Answer ℕ) → Answer ℕ
encapsulate g place f = onto (settled g f (settings g)) (only g place)

-- ---- inhibition by the wire w
abbrev pub inhibit : ℕ → ℕ → Answer ℕ → Answer ℕ
inhibit w x a = cond (has x w) (Ok 0) a

-- ---- refinement of stage k
-- a move: the outputs, the next stage, and whether a written rule fired
abbrev pub Move : Type 0
Move = ℕ × ℕ × Bool

-- a written rule fired
abbrev pub fired : Move → Bool
fired m = m.2

-- the inside starts over: a written rule fired from k or to k
abbrev pub starts_over : ℕ → ℕ → Move → Bool
starts_over k before m = fired m && (before == k || m.1 == k)

-- the move with the inside's outputs
abbrev pub with_outputs : Move → ℕ → Move
with_outputs m o = (union m.0 o, m.1, m.2)

abbrev pub join_move : Answer Move → Answer ℕ → Answer Move
join_move = both with_outputs

-- the inside's answer where it is awake, else nothing
abbrev pub awake_answer : ℕ → ℕ → Answer ℕ → Answer ℕ
awake_answer k stage a = cond (stage == k) a (Ok 0)
