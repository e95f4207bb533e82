-- What is worked out from lists: restarts, stages, and plans that were just begun. Assumes nothing.
use Rattle.std.specs.Prelude.{◌≡◌, ℕ, List, [], ◌∷◌, ◌++◌, refl}
use Rattle.std.proofs.Common.{sym, ap, ◌∙◌, append_assoc, append-nil}
use Rattle.parts.specs.Courses.{Course}
use Rattle.parts.specs.Operators.{Move}
use Rattle.parts.specs.Trees.{part, parallel, encapsulation, inhibition, moved, staged, refinement, stage_of, restarted, put_back}
use Rattle.parts.specs.Plans.{Plan, StagedPlan, told_stage, stage_after, worked, begin, begin_staged}
use Rattle.parts.specs.Agreement.{Steady}

-- ---- lists of inputs
-- one more input tells the stage that it leads to
stage_last : (c : Course Move) (before xs : List ℕ) (x k : ℕ) → stage_after c before (xs ++ x ∷ []) k ≡ told_stage (c (before ++ xs) x) (stage_after c before xs k)
stage_last c before [] x k = ap (λ l. told_stage (c l x) k) (sym (append-nil before))
stage_last c before (y ∷ xs) x k = stage_last c (before ++ y ∷ []) xs x (told_stage (c before y) k) ∙ ap (λ l. told_stage (c l x) (stage_after c (before ++ y ∷ []) xs (told_stage (c before y) k))) (append_assoc before (y ∷ []) xs)

-- a restart forgets the lists, and nothing else
pub worked_steady : Steady worked
worked_steady = record {
  over_twice = λ p. refl;
  over_next = λ p x. refl;
  back_twice = λ p. refl;
  back_went = λ p x. refl;
  leads = λ p x v e. stage_last p.0 [] p.1 x 0 ∙ ap (λ a. told_stage a (stage_after p.0 [] p.1 0)) e;
}

-- ---- plans that were just begun
mutual
  pub restart_begin : (p : Plan) → restarted worked (begin p) ≡ begin p
  restart_begin (part c) = refl
  restart_begin (parallel a b) = λ i. parallel (restart_begin a i) (restart_begin b i)
  restart_begin (encapsulation g place c) = ap (encapsulation g place) (restart_begin c)
  restart_begin (inhibition w c) = ap (inhibition w) (restart_begin c)
  restart_begin (moved m) = ap moved (back_begin m)

  pub back_begin : (m : StagedPlan) → put_back worked (begin_staged m) ≡ begin_staged m
  back_begin (staged c) = refl
  back_begin (refinement k m c) = λ i. refinement k (back_begin m i) (restart_begin c i)

pub stage_begin : (m : StagedPlan) → stage_of worked (begin_staged m) ≡ 0
stage_begin (staged c) = refl
stage_begin (refinement k m c) = stage_begin m
