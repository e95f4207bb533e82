-- What a loop over the settings has found at its end. Assumes nothing.
use Rattle.std.proofs.Common.{◌≡◌, ℕ, ◌≤◌, Bool, true, false, cond, ◌==◌, List, [], ◌∷◌, ◌++◌, length, Ok, Err, Result, sym, refl, ap, ◌∙◌, subst, append-nil, arith, length-append}
use Rattle.signals.specs.declared.wire_set.WireSet.{WireSet}
use Rattle.signals.specs.Sets.{intersection}
use Rattle.parts.specs.declared.fault.Fault.{Fault}
use Rattle.parts.specs.Courses.{Answer}
use Rattle.parts.specs.Operators.{settings, settles, settled, only, onto, encapsulate}
use Rattle.parts.specs.Trees.{chosen_of, chosen}
use Rattle.parts.specs.Searching.{ok_same, ok_not, both_ok}
use Rattle.settings.specs.declared.findings.Findings.{Findings}
use Rattle.settings.specs.Findings.{Tells, hit, told_outputs, ToldSetting}
use Rattle.settings.specs.Found.{Sofar}

-- no more are found than are tried
one_at_most : (b : Bool) (p : ℕ × ℕ) → length (cond b (p ∷ []) []) ≤ 1
one_at_most true p = omega arith
one_at_most false p = omega arith

module _ (h : ℕ) (f : ℕ → Answer ℕ) where
  settles_fewer : (s : ℕ) (a : Answer ℕ) (ps : List (ℕ × ℕ)) → settles h s a ≡ Ok ps → length ps ≤ 1
  settles_fewer s (Ok o) ps e = subst (λ qs. length qs ≤ 1) (ok_same (Ok (hit h s o)) _ _ refl e) (one_at_most (intersection o h == s) (s, o))
  settles_fewer s (Err d) ps e = absurd (ok_not _ ps d e refl)

  pub settled_fewer : (xs : List ℕ) (ps : List (ℕ × ℕ)) → settled h f xs ≡ Ok ps → length ps ≤ length xs
  settled_fewer [] ps e = omega (arith, ap length (ok_same _ [] ps refl e))
  settled_fewer (x ∷ xs) ps e =
      let b = both_ok ◌++◌ (settles h x (f x)) (settled h f xs) ps e in
      omega (arith, settles_fewer x (f x) b.0 b.2, settled_fewer xs b.1 b.3, length-append b.0 b.1, ap length b.4)

  -- where no setting is left, what is told is the answer of the whole, and the setting its only consistent one
  pub ends : (found : Findings) (place : ℕ) (r : Result (WireSet × WireSet) Fault) → Sofar h f [] found → Tells found h place r → (told_outputs r ≡ encapsulate h place f) × ToldSetting r (chosen h f)
  ends found place r so tells =
      let all : settled h f (settings h) ≡ Ok so.pairs = so.settles ∙ ap Ok (append-nil so.pairs) in
      let told = tells so.pairs so.finds in
      (told.whole (settled_fewer (settings h) so.pairs all) ∙ ap (λ a. onto a (only h place)) (sym all), subst (λ a. ToldSetting r (chosen_of a)) (sym all) told.setting)
