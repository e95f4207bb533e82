-- Compositions as trees, over whatever stands at their parts. Assumes nothing: these are definitions.
use Rattle.std.specs.Prelude.{ℕ, Bool, false, cond, List, [], ◌∷◌, Ok, Err, ◌==◌}
use Rattle.signals.specs.Sets.{has}
use Rattle.parts.specs.Courses.{Answer, Course, run_of}
use Rattle.parts.specs.Operators.{join, settings, under, settled, encapsulate, inhibit, Move, starts_over, join_move, awake_answer}

-- A composition of the four operators. L stands at a part, M at a part that a refinement has as its staged part.
mutual
  pub data Composition (L M : Type 0) : Type 0 where
    part : L → Composition L M
    parallel : Composition L M → Composition L M → Composition L M
    -- the hidden wires, the place number, and the inside
    encapsulation : ℕ → ℕ → Composition L M → Composition L M
    -- the wire, and the inside
    inhibition : ℕ → Composition L M → Composition L M
    moved : StagedComposition L M → Composition L M

  pub data StagedComposition (L M : Type 0) : Type 0 where
    staged : M → StagedComposition L M
    -- the stage, the staged part, and the inside
    refinement : ℕ → StagedComposition L M → Composition L M → StagedComposition L M

-- How what stands at the parts reacts: its answer, what it is after an accepted step, and after a restart; for a staged part its move, what it is after an accepted move, and after a restart, and its stage.
pub record Reacting (L M : Type 0) : Type 0 where
  pub answer : L → ℕ → Answer ℕ
  pub next : L → ℕ → L
  pub over : L → L
  pub move : M → ℕ → Answer Move
  pub went : M → ℕ → M
  pub back : M → M
  pub stage : M → ℕ

-- the outputs of a move
abbrev pub outputs : Answer Move → Answer ℕ
outputs (Ok m) = Ok m.0
outputs (Err f) = Err f

-- the setting that was the only consistent one
abbrev pub chosen_of : Answer (List (ℕ × ℕ)) → ℕ
chosen_of (Ok []) = 0
chosen_of (Ok (p ∷ ps)) = p.0
chosen_of (Err f) = 0

abbrev pub chosen : ℕ → (ℕ → Answer ℕ) → ℕ
chosen g f = chosen_of (settled g f (settings g))

-- the inside starts over after this move, of the stage before it
abbrev pub over_after : ℕ → ℕ → Answer Move → Bool
over_after k before (Ok m) = starts_over k before m
over_after k before (Err f) = false

module _ {L M : Type 0} (R : Reacting L M) where
  abbrev pub stage_of : StagedComposition L M → ℕ
  stage_of (staged m) = R.stage m
  stage_of (refinement k m c) = stage_of m

  -- each part restarted
  abbrev mutual
    pub restarted : Composition L M → Composition L M
    restarted (part l) = part (R.over l)
    restarted (parallel a b) = parallel (restarted a) (restarted b)
    restarted (encapsulation g place c) = encapsulation g place (restarted c)
    restarted (inhibition w c) = inhibition w (restarted c)
    restarted (moved m) = moved (put_back m)

    pub put_back : StagedComposition L M → StagedComposition L M
    put_back (staged m) = staged (R.back m)
    put_back (refinement k m c) = refinement k (put_back m) (restarted c)

  -- the answer to an input, and the move
  abbrev mutual
    pub answer_of : Composition L M → ℕ → Answer ℕ
    answer_of (part l) x = R.answer l x
    answer_of (parallel a b) x = join (answer_of a x) (answer_of b x)
    answer_of (encapsulation g place c) x = encapsulate g place (λ s. answer_of c (under g x s))
    answer_of (inhibition w c) x = inhibit w x (answer_of c x)
    answer_of (moved m) x = outputs (move_of m x)

    pub move_of : StagedComposition L M → ℕ → Answer Move
    move_of (staged m) x = R.move m x
    move_of (refinement k m c) x = join_move (move_of m x) (awake_answer k (stage_of m) (answer_of c x))

  -- what a composition is after an accepted step, and after an accepted move
  abbrev mutual
    pub next_of : Composition L M → ℕ → Composition L M
    next_of (part l) x = part (R.next l x)
    next_of (parallel a b) x = parallel (next_of a x) (next_of b x)
    next_of (encapsulation g place c) x = encapsulation g place (next_of c (under g x (chosen g (λ s. answer_of c (under g x s)))))
    next_of (inhibition w c) x = inhibition w (cond (has x w) c (next_of c x))
    next_of (moved m) x = moved (went_of m x)

    pub went_of : StagedComposition L M → ℕ → StagedComposition L M
    went_of (staged m) x = staged (R.went m x)
    went_of (refinement k m c) x = refinement k (went_of m x) (cond (over_after k (stage_of m) (move_of m x)) (restarted c) (cond (stage_of m == k) (next_of c x) c))

  abbrev pub course_of : Composition L M → Course ℕ
  course_of = run_of answer_of next_of

  abbrev pub moves_of : StagedComposition L M → Course Move
  moves_of = run_of move_of went_of
