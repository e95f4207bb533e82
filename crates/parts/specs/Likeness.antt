-- Alike plans work out to equal courses. Assumes nothing.
use Rattle.std.specs.Prelude.{◌≡◌, ℕ, ◌^◌, ◌<◌, ◌≤◌, true, List, [], ◌∷◌, Ok, bit_and, refl}
use Rattle.std.proofs.Common.{sym, ap, subst, ◌∙◌, arith}
use Rattle.std.proofs.lemmas.Nat.{and_le_r, or_lt}
use Rattle.std.specs.List.{AllByRecursion, AllZip}
use Rattle.std.proofs.lemmas.Bool.{eqb-true}
use Rattle.signals.specs.Sets.{difference, subset, has}
use Rattle.parts.specs.Courses.{Answer, Course, Set, Same, run_of}
use Rattle.parts.specs.Operators.{under, Move}
use Rattle.parts.specs.Trees.{parallel, encapsulation, inhibition, moved, refinement, stage_of, restarted, course_of, moves_of}
use Rattle.parts.specs.Plans.{Plan, StagedPlan, Working, StagedWorking, worked, begin, begin_staged, plan_course, plan_moves, Alike, equal, parallels, encapsulations, inhibitions, moveds, AlikeStaged, equal_moves, refinements}
use Rattle.parts.specs.Agreement.{Agree, run_agree, parallel_agree, inhibition_agree, encapsulation_agree, moved_agree, refinement_agree}
use Rattle.parts.specs.Working.{worked_steady, restart_begin, stage_begin}

-- ---- the same sets of wires on both sides
abbrev EqualSets : ℕ → ℕ → Type 0
EqualSets x y = (x ≡ y) × Set x

same_lists : (xs ys : List ℕ) → AllZip EqualSets xs ys → (xs ≡ ys) × AllByRecursion Set xs
same_lists [] [] h = (refl, tt)
same_lists [] (y ∷ ys) h = absurd h
same_lists (x ∷ xs) [] h = absurd h
same_lists (x ∷ xs) (y ∷ ys) h = let more = same_lists xs ys h.1 in ((λ i. h.0.0 i ∷ more.0 i), (h.0.1, more.1))

each_itself : (xs : List ℕ) → AllByRecursion Set xs → AllZip EqualSets xs xs
each_itself [] h = tt
each_itself (x ∷ xs) h = ((refl, h.0), each_itself xs h.1)

same_agree : {A : Type 0} (c d : Course A) → Same c d → Agree EqualSets c d
same_agree c d s xs ys x y h q = let e = same_lists xs ys h in s xs x e.1 q.1 ∙ (λ i. d (e.0 i) (q.0 i))

agree_same : {A : Type 0} (c d : Course A) → Agree EqualSets c d → Same c d
agree_same c d a xs x w h = a xs xs x x (each_itself xs w) (refl, h)

-- under a setting they are sets of wires again
under_set : (g x s : ℕ) → Set g → Set x → subset s g ≡ true → Set (under g x s)
under_set g x s hg hx h =
    let le : s ≤ g = omega (arith, eqb-true (bit_and s g) s h, and_le_r s g) in
    let hs : s < 2 ^ 64 = omega arith in
    let hd : difference x g < 2 ^ 64 = omega arith in
    or_lt 64 (difference x g) s hd hs

-- things with a state whose states stay in a relation that gives equal answers
module _ {S T A : Type 0} (answer : S → ℕ → Answer A) (next : S → ℕ → S) (answer' : T → ℕ → Answer A) (next' : T → ℕ → T) (Rel : S → T → Type 0) (gives : (s : S) (t : T) → Rel s t → (x : ℕ) → Set x → answer s x ≡ answer' t x) (kept : (s : S) (t : T) → Rel s t → (x : ℕ) → Set x → (a : A) → answer s x ≡ Ok a → Rel (next s x) (next' t x)) where
  pub run_same : (s : S) (t : T) → Rel s t → Same (run_of answer next s) (run_of answer' next' t)
  run_same s t r =
      agree_same _ _ (run_agree answer next answer' next' EqualSets Rel (λ s t r x y q. gives s t r x q.1 ∙ ap (answer' t) q.0) (λ s t r x y q a e. subst (λ z. Rel (next s x) (next' t z)) q.0 (kept s t r x q.1 a e)) s t r)

-- ---- equal courses in, equal course out, operator by operator
abbrev course : Working → Course ℕ
course = course_of worked

abbrev moves : StagedWorking → Course Move
moves = moves_of worked

pub parallel_same : (a b c d : Working) → Same (course a) (course c) → Same (course b) (course d) → Same (course (parallel a b)) (course (parallel c d))
parallel_same a b c d p q =
    agree_same _ _ (parallel_agree worked worked_steady worked worked_steady EqualSets EqualSets EqualSets (λ x y h. h) (λ x y h. h) a b c d (same_agree (course a) (course c) p) (same_agree (course b) (course d) q))

pub encapsulation_same : (g place : ℕ) → Set g → (c d : Working) → Same (course c) (course d) → Same (course (encapsulation g place c)) (course (encapsulation g place d))
encapsulation_same g place hg c d p =
    agree_same _ _ (encapsulation_agree worked worked_steady worked worked_steady EqualSets EqualSets g place (λ x y s h q. (ap (λ n. under g n s) q.0, under_set g x s hg q.1 h)) c d (same_agree (course c) (course d) p))

pub inhibition_same : (w : ℕ) (c d : Working) → Same (course c) (course d) → Same (course (inhibition w c)) (course (inhibition w d))
inhibition_same w c d p =
    agree_same _ _ (inhibition_agree worked worked_steady worked worked_steady EqualSets EqualSets w (λ x y h. h) (λ x y h. ap (λ n. has n w) h.0) c d (same_agree (course c) (course d) p))

pub moved_same : (m n : StagedWorking) → Same (moves m) (moves n) → Same (course (moved m)) (course (moved n))
moved_same m n p = agree_same _ _ (moved_agree worked worked_steady worked worked_steady EqualSets m n (same_agree (moves m) (moves n) p))

pub refinement_same : (k : ℕ) (m n : StagedWorking) (c d : Working) → Same (moves m) (moves n) → stage_of worked m ≡ stage_of worked n → Same (course c) (course d) → Same (course (restarted worked c)) (course (restarted worked d)) → Same (moves (refinement k m c)) (moves (refinement k n d))
refinement_same k m n c d p q r f =
    agree_same _ _ (refinement_agree worked worked_steady worked worked_steady EqualSets EqualSets EqualSets k (λ x y h. h) (λ x y h. h) m n c d (same_agree (moves m) (moves n) p) q (same_agree (course c) (course d) r) (same_agree (course (restarted worked c)) (course (restarted worked d)) f))

-- ---- alike plans work out to equal courses, and alike staged plans to equal moves
mutual
  pub alike : {p q : Plan} → Alike p q → Same (plan_course p) (plan_course q)
  alike (equal s) = s
  alike (parallels {a} {b} {c} {d} s t) = parallel_same (begin a) (begin b) (begin c) (begin d) (alike s) (alike t)
  alike (encapsulations {g} {place} {c} {d} hg s) = encapsulation_same g place hg (begin c) (begin d) (alike s)
  alike (inhibitions {w} {c} {d} s) = inhibition_same w (begin c) (begin d) (alike s)
  alike (moveds {m} {n} s) = moved_same (begin_staged m) (begin_staged n) (alike_staged s)

  pub alike_staged : {p q : StagedPlan} → AlikeStaged p q → Same (plan_moves p) (plan_moves q)
  alike_staged (equal_moves s) = s
  alike_staged (refinements {k} {m} {n} {c} {d} s t) =
      refinement_same k (begin_staged m) (begin_staged n) (begin c) (begin d) (alike_staged s) (stage_begin m ∙ sym (stage_begin n)) (alike t)
      (subst (λ z. Same (course z) (course (restarted worked (begin d)))) (sym (restart_begin c)) (subst (λ z. Same (course (begin c)) (course z)) (sym (restart_begin d)) (alike t)))
