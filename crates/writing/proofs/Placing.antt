-- Rules that stand straight behind a MACHINE or a RULE are not refused. Assumes nothing.
use Rattle.std.proofs.Common.{◌≡◌, ℕ, ◌+◌, Bool, true, false, not, ◌&&◌, ◌⊎◌, List, [], ◌∷◌, ◌++◌, length, None, refl, ap, ◌∙◌, inl, inr, ⊎_elim, arith}
use Rattle.std.proofs.lemmas.Bool.{cond-false, cases_Bool, and_left}
use Rattle.format.specs.Commands.{Word, encode, today}
use Rattle.format.specs.Reading.{read_all}
use Rattle.writing.specs.Rewriting.{is_rule, opens, misplaced, first_refusal, refusal_of, RulesPlaced}

-- the last of these commands is MACHINE or RULE
abbrev Opened : List Word → Type 0
Opened front = (earlier : List Word) × (v : Word) × (front ≡ earlier ++ v ∷ []) × (opens v ≡ true)

-- each RULE stands where one may, and the first command is in a machine if `within`
abbrev Placed : Bool → List Word → Type 0
Placed within ws = (front : List Word) (w : Word) (rest : List Word) → ws ≡ front ++ w ∷ rest → is_rule w ≡ true → ((front ≡ []) × (within ≡ true)) ⊎ Opened front

nothing_opened : Opened [] → ⊥
nothing_opened (earlier, v, e, o) = none earlier e
  where
    none : (xs : List Word) → [] ≡ xs ++ v ∷ [] → ⊥
    none [] q = cc
    none (x ∷ xs) q = cc

head_placed : (within : Bool) (w : Word) (ws : List Word) → Placed within (w ∷ ws) → misplaced within w ≡ false
head_placed within w ws h = ⊎_elim
    (λ r. ⊎_elim (λ p. ap (λ b. is_rule w && not b) p.1 ∙ never (is_rule w)) (λ o. absurd (nothing_opened o)) (h [] w ws refl r))
    (λ f. and_left (is_rule w) (not within) f)
    (cases_Bool (is_rule w))
  where
    never : (b : Bool) → (b && not true) ≡ false
    never true = refl
    never false = refl

split_last : (w : Word) (front earlier : List Word) (v : Word) → w ∷ front ≡ earlier ++ v ∷ [] → opens v ≡ true → ((front ≡ []) × (opens w ≡ true)) ⊎ Opened front
split_last w front [] v e o = let a : w ≡ v = cc in let b : front ≡ [] = cc in inl (b, ap opens a ∙ o)
split_last w front (x ∷ earlier) v e o = let b : front ≡ earlier ++ v ∷ [] = cc in inr (earlier, v, b, o)

tail_placed : (within : Bool) (w : Word) (ws : List Word) → Placed within (w ∷ ws) → Placed (opens w) ws
tail_placed within w ws h front x rest e r = ⊎_elim
    (λ p. absurd (omega (arith, ap length p.0)))
    (λ o. split_last w front o.0 o.1 o.2 o.3)
    (h (w ∷ front) x rest (ap (λ t. w ∷ t) e) r)

placed_clear : (at : ℕ) (within : Bool) (ws : List Word) → Placed within ws → first_refusal at within ws None ≡ None
placed_clear at within [] h = refl
placed_clear at within (w ∷ ws) h = cond-false (misplaced within w) _ _ (head_placed within w ws h) ∙ placed_clear (at + length (encode today w)) (opens w) ws (tail_placed within w ws h)

pub placed_rules : (bs : List ℕ) → (read_all today bs).ending ≡ None → RulesPlaced (read_all today bs).words → refusal_of bs ≡ None
placed_rules bs e h =
    let ws = (read_all today bs).words in
    ap (first_refusal 0 false ws) e ∙ placed_clear 0 false ws (λ front w rest q r. inr (h front w rest q r))
