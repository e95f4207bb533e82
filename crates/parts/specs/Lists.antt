-- Elements of lists, and lists place by place. Assumes nothing: these are definitions.
use Rattle.std.specs.Prelude.{◌≡◌, ◌⊎◌, List, [], ◌∷◌}
use Rattle.std.specs.List.{AllZip}

-- the element is in the list: by recursion, as the lemmas go along lists, where std's Contains goes by places
abbrev pub In : {A : Type 0} → A → List A → Type 0
In a [] = ⊥
In a (x ∷ xs) = (x ≡ a) ⊎ In a xs

-- two lists of the same length, with the relation at each place: std's word, under the name that crates above cite
abbrev pub Each : {A : Type 0} → (A → A → Type 0) → List A → List A → Type 0
Each = AllZip
