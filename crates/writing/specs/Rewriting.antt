-- What rewriting a recipe comes to. Assumes nothing: these are definitions.
use Rattle.std.specs.Prelude.{◌≡◌, ℕ, ◌+◌, ◌≤◌, Bool, true, false, cond, not, ◌&&◌, List, [], ◌∷◌, ◌++◌, length, drop, Some, None, Ok, Err, Option, Result, nat_le}
use Rattle.format.specs.Commands.{Word, wire, machine, rule, par, hide, unless, refine, end, encode, today}
use Rattle.format.specs.Reading.{read_all}
use Rattle.format.specs.declared.refusal.Refusal.{Refusal}
use Rattle.format.specs.declared.refusal.Refusal.TheVariants.{MisplacedRule, NoSpace}
use Rattle.format.specs.declared.refusal.RecipeError.{RecipeError}

abbrev pub is_rule : Word → Bool
is_rule (wire name) = false
is_rule (machine states) = false
is_rule (rule from to present absent emits) = true
is_rule par = false
is_rule (hide hidden) = false
is_rule (unless w) = false
is_rule (refine stage) = false
is_rule end = false

-- a RULE may stand straight behind this command: it is MACHINE or RULE
abbrev pub opens : Word → Bool
opens (wire name) = false
opens (machine states) = true
opens (rule from to present absent emits) = true
opens par = false
opens (hide hidden) = false
opens (unless w) = false
opens (refine stage) = false
opens end = false

-- a RULE that stands where none may
abbrev pub misplaced : Bool → Word → Bool
misplaced within w = is_rule w && not within

-- The first refusal from position `at` on, where a RULE may stand if `within`: a misplaced RULE, or what reading ends with.
abbrev pub first_refusal : ℕ → Bool → List Word → Option Refusal → Option RecipeError
first_refusal at within [] None = None
first_refusal at within [] (Some r) = Some (record { refusal = r; position = at })
first_refusal at within (w ∷ ws) e = cond (misplaced within w) (Some (record { refusal = MisplacedRule; position = at })) (first_refusal (at + length (encode today w)) (opens w) ws e)

abbrev pub refusal_of : List ℕ → Option RecipeError
refusal_of bytes = let r = read_all today bytes in first_refusal 0 false r.words r.ending

-- what rewriting answers: the first refusal; or want of space, which is about the whole recipe; or the recipe's length
abbrev pub space_answer : List ℕ → List ℕ → Result ℕ RecipeError
space_answer bytes out = cond (nat_le (length bytes) (length out)) (Ok (length bytes)) (Err (record { refusal = NoSpace; position = 0 }))

abbrev pub refused_first : Option RecipeError → Result ℕ RecipeError → Result ℕ RecipeError
refused_first None r = r
refused_first (Some e) r = Err e

abbrev pub rewrite_answer : List ℕ → List ℕ → Result ℕ RecipeError
rewrite_answer bytes out = refused_first (refusal_of bytes) (space_answer bytes out)

-- the output then: the recipe's bytes at its front, or as it was
abbrev pub output_for : Result ℕ RecipeError → List ℕ → List ℕ → List ℕ
output_for (Ok n) bytes out = bytes ++ drop (length bytes) out
output_for (Err e) bytes out = out

abbrev pub rewritten : List ℕ → List ℕ → List ℕ
rewritten bytes out = output_for (rewrite_answer bytes out) bytes out

-- Each RULE stands straight behind a MACHINE or a RULE.
abbrev pub RulesPlaced : List Word → Type 0
RulesPlaced ws = (front : List Word) (w : Word) (rest : List Word) → ws ≡ front ++ w ∷ rest → is_rule w ≡ true → (earlier : List Word) × (v : Word) × (front ≡ earlier ++ v ∷ []) × (opens v ≡ true)

-- A recipe that reading accepts and whose rules are placed is rewritten, wherever there is space, to the same bytes.
abbrev pub RewritesSame : List ℕ → List ℕ → Result ℕ RecipeError → List ℕ → Type 0
RewritesSame bytes out r after = (read_all today bytes).ending ≡ None → RulesPlaced (read_all today bytes).words → length bytes ≤ length out → (r ≡ Ok (length bytes)) × (after ≡ bytes ++ drop (length bytes) out)
