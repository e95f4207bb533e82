-- Plans, and what they work out to. Assumes nothing: these are definitions.
use Rattle.std.specs.Prelude.{ℕ, List, [], ◌∷◌, ◌++◌, Ok, Err}
use Rattle.parts.specs.Courses.{Answer, Course, Set, Same}
use Rattle.parts.specs.Operators.{Move}
use Rattle.parts.specs.Trees.{Composition, part, parallel, encapsulation, inhibition, moved, StagedComposition, staged, refinement, Reacting, course_of, moves_of}

-- A plan has at each part its fresh course, and at a staged part that of its moves.
abbrev pub Plan : Type 0
Plan = Composition (Course ℕ) (Course Move)

abbrev pub StagedPlan : Type 0
StagedPlan = StagedComposition (Course ℕ) (Course Move)

-- the stage that a move tells, or the present one where it is refused
abbrev pub told_stage : Answer Move → ℕ → ℕ
told_stage (Ok m) k = m.1
told_stage (Err f) k = k

-- the stage told by the last accepted move of a list, else the present one
abbrev pub stage_after : Course Move → List ℕ → List ℕ → ℕ → ℕ
stage_after c before [] k = k
stage_after c before (x ∷ xs) k = stage_after c (before ++ x ∷ []) xs (told_stage (c before x) k)

-- Worked out from lists: at each part stand its fresh course and the inputs that it took since it was started.
abbrev pub Taken : Type 0 → Type 0
Taken A = Course A × List ℕ

abbrev pub worked : Reacting (Taken ℕ) (Taken Move)
worked = record {
  answer = λ p x. p.0 p.1 x;
  next = λ p x. (p.0, p.1 ++ x ∷ []);
  over = λ p. (p.0, []);
  move = λ p x. p.0 p.1 x;
  went = λ p x. (p.0, p.1 ++ x ∷ []);
  back = λ p. (p.0, []);
  stage = λ p. stage_after p.0 [] p.1 0;
}

abbrev pub Working : Type 0
Working = Composition (Taken ℕ) (Taken Move)

abbrev pub StagedWorking : Type 0
StagedWorking = StagedComposition (Taken ℕ) (Taken Move)

-- a plan with an empty list at each part
abbrev mutual
  pub begin : Plan → Working
  begin (part c) = part (c, [])
  begin (parallel a b) = parallel (begin a) (begin b)
  begin (encapsulation g place c) = encapsulation g place (begin c)
  begin (inhibition w c) = inhibition w (begin c)
  begin (moved m) = moved (begin_staged m)

  pub begin_staged : StagedPlan → StagedWorking
  begin_staged (staged c) = staged (c, [])
  begin_staged (refinement k m c) = refinement k (begin_staged m) (begin c)

-- what a plan works out to
abbrev pub plan_course : Plan → Course ℕ
plan_course p = course_of worked (begin p)

abbrev pub plan_moves : StagedPlan → Course Move
plan_moves p = moves_of worked (begin_staged p)

-- Alike plans: the same operator with the same numbers over alike children; or any two plans that work out to equal courses; or, as a refinement's staged part, any two that work out to equal moves.
mutual
  pub data Alike : Plan → Plan → Type 0 where
    equal : {p q : Plan} → Same (plan_course p) (plan_course q) → Alike p q
    parallels : {a b c d : Plan} → Alike a c → Alike b d → Alike (parallel a b) (parallel c d)
    encapsulations : {g place : ℕ} {c d : Plan} → Set g → Alike c d → Alike (encapsulation g place c) (encapsulation g place d)
    inhibitions : {w : ℕ} {c d : Plan} → Alike c d → Alike (inhibition w c) (inhibition w d)
    moveds : {m n : StagedPlan} → AlikeStaged m n → Alike (moved m) (moved n)

  pub data AlikeStaged : StagedPlan → StagedPlan → Type 0 where
    equal_moves : {p q : StagedPlan} → Same (plan_moves p) (plan_moves q) → AlikeStaged p q
    refinements : {k : ℕ} {m n : StagedPlan} {c d : Plan} → AlikeStaged m n → Alike c d → AlikeStaged (refinement k m c) (refinement k n d)
