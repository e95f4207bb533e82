-- The courses of the four operators, by those of what they hold. Assumes nothing: these are definitions.
use Rattle.std.specs.Prelude.{ℕ, []}
use Rattle.parts.specs.Courses.{Course, behind}
use Rattle.parts.specs.Operators.{Move}
use Rattle.parts.specs.Plans.{told_stage}
use Rattle.parts.specs.Trees.{Reacting, parallel, encapsulation, inhibition, refinement, part, staged, course_of, moves_of}
use Rattle.parts.specs.Stages.{outputs_of}

-- At a part stands its course and the fresh one, at a staged part its moves, the fresh ones and its stage.
abbrev pub Held : Type 0
Held = Course ℕ × Course ℕ

abbrev pub HeldStaged : Type 0
HeldStaged = Course Move × Course Move × ℕ

abbrev pub held : Reacting Held HeldStaged
held = record {
  answer = λ p x. p.0 [] x;
  next = λ p x. (behind p.0 x, p.1);
  over = λ p. (p.1, p.1);
  move = λ p x. p.0 [] x;
  went = λ p x. (behind p.0 x, p.1, told_stage (p.0 [] x) p.2);
  back = λ p. (p.1, p.1, 0);
  stage = λ p. p.2;
}

-- each operator, over what it holds
abbrev pub parallel_course : Held → Held → Course ℕ
parallel_course a b = course_of held (parallel (part a) (part b))

abbrev pub encapsulation_course : ℕ → ℕ → Held → Course ℕ
encapsulation_course g place c = course_of held (encapsulation g place (part c))

abbrev pub inhibition_course : ℕ → Held → Course ℕ
inhibition_course w c = course_of held (inhibition w (part c))

abbrev pub refinement_moves : ℕ → HeldStaged → Held → Course Move
refinement_moves k m c = moves_of held (refinement k (staged m) (part c))

abbrev pub refinement_course : ℕ → HeldStaged → Held → Course ℕ
refinement_course k m c = outputs_of (refinement_moves k m c)
