-- When a composition accepts an input, and what its readings are. Assumes nothing: these are definitions.
use Rattle.std.specs.Prelude.{◌≡◌, ℕ, true, false, Ok, ◌==◌}
use Rattle.signals.specs.Sets.{union, intersection, difference, subset, has}
use Rattle.parts.specs.Courses.{Answer}
use Rattle.parts.specs.Operators.{under, Move, with_outputs}
use Rattle.parts.specs.Trees.{Composition, part, parallel, encapsulation, inhibition, moved, StagedComposition, staged, refinement, Reacting, stage_of, answer_of}

-- an answer that is no fault
abbrev pub Accepted : {A : Type 0} → Answer A → Type 0
Accepted {A} a = (o : A) × (a ≡ Ok o)

-- under the setting s of g, the inside, whose answers under settings f tells, emits out of g exactly s
abbrev pub Consistent : ℕ → (ℕ → Answer ℕ) → ℕ → Type 0
Consistent g f s = (subset s g ≡ true) × ((o : ℕ) × (f s ≡ Ok o) × (intersection o g ≡ s))

-- exactly one setting is consistent
abbrev pub Settles : ℕ → (ℕ → Answer ℕ) → Type 0
Settles g f = (s : ℕ) × Consistent g f s × ((t : ℕ) → Consistent g f t → t ≡ s)

-- A site of a composition: a part, a staged part, or an encapsulation, by its hidden wires and its inside.
pub data Site (L M : Type 0) : Type 0 where
  at_part : L → Site L M
  at_staged : M → Site L M
  at_encapsulation : ℕ → Composition L M → Site L M

-- A reading: a setting for each encapsulation that is awake, in the shape of what is awake.
pub data Reading : Type 0 where
  leaf : Reading
  pair : Reading → Reading → Reading
  set : ℕ → Reading → Reading
  asleep : Reading
  open_to : Reading → Reading

module _ {L M : Type 0} (R : Reacting L M) where
  -- The site is awake and gets the input y, under some setting of the wires hidden around it, consistent or not.
  mutual
    pub data Awake : Composition L M → ℕ → Site L M → ℕ → Type 0 where
      here : {l : L} {x : ℕ} → Awake (part l) x (at_part l) x
      left : {a b : Composition L M} {x y : ℕ} {site : Site L M} → Awake a x site y → Awake (parallel a b) x site y
      right : {a b : Composition L M} {x y : ℕ} {site : Site L M} → Awake b x site y → Awake (parallel a b) x site y
      itself : {g place x : ℕ} {c : Composition L M} → Awake (encapsulation g place c) x (at_encapsulation g c) x
      inside : {g place x y : ℕ} {c : Composition L M} {site : Site L M} (s : ℕ) → subset s g ≡ true → Awake c (under g x s) site y → Awake (encapsulation g place c) x site y
      free : {w x y : ℕ} {c : Composition L M} {site : Site L M} → has x w ≡ false → Awake c x site y → Awake (inhibition w c) x site y
      moving : {m : StagedComposition L M} {x y : ℕ} {site : Site L M} → AwakeStaged m x site y → Awake (moved m) x site y

    pub data AwakeStaged : StagedComposition L M → ℕ → Site L M → ℕ → Type 0 where
      here_staged : {m : M} {x : ℕ} → AwakeStaged (staged m) x (at_staged m) x
      base : {k x y : ℕ} {m : StagedComposition L M} {c : Composition L M} {site : Site L M} → AwakeStaged m x site y → AwakeStaged (refinement k m c) x site y
      refined : {k x y : ℕ} {m : StagedComposition L M} {c : Composition L M} {site : Site L M} → (stage_of R m == k) ≡ true → Awake c x site y → AwakeStaged (refinement k m c) x site y

  -- A part accepts its input; an encapsulation has exactly one consistent setting.
  abbrev pub InOrder : Site L M → ℕ → Type 0
  InOrder (at_part l) y = Accepted (R.answer l y)
  InOrder (at_staged m) y = Accepted (R.move m y)
  InOrder (at_encapsulation g c) y = Settles g (λ s. answer_of R c (under g y s))

  -- everything that is awake is in order
  abbrev pub AllInOrder : Composition L M → ℕ → Type 0
  AllInOrder t x = (site : Site L M) (y : ℕ) → Awake t x site y → InOrder site y

  -- Under the reading r the awake parts accept, the inside of each awake encapsulation emits out of its hidden wires exactly its setting, and the whole emits o.
  mutual
    pub data Reads : Composition L M → ℕ → Reading → ℕ → Type 0 where
      read_part : {l : L} {x o : ℕ} → R.answer l x ≡ Ok o → Reads (part l) x leaf o
      read_parallel : {a b : Composition L M} {x o p : ℕ} {q r : Reading} → Reads a x q o → Reads b x r p → Reads (parallel a b) x (pair q r) (union o p)
      read_encapsulation : {g place x s o : ℕ} {c : Composition L M} {r : Reading} → subset s g ≡ true → Reads c (under g x s) r o → intersection o g ≡ s → Reads (encapsulation g place c) x (set s r) (difference o g)
      read_asleep : {w x : ℕ} {c : Composition L M} → has x w ≡ true → Reads (inhibition w c) x asleep 0
      read_free : {w x o : ℕ} {c : Composition L M} {r : Reading} → has x w ≡ false → Reads c x r o → Reads (inhibition w c) x (open_to r) o
      read_moved : {m : StagedComposition L M} {x : ℕ} {r : Reading} {v : Move} → ReadsMove m x r v → Reads (moved m) x r v.0

    pub data ReadsMove : StagedComposition L M → ℕ → Reading → Move → Type 0 where
      read_staged : {m : M} {x : ℕ} {v : Move} → R.move m x ≡ Ok v → ReadsMove (staged m) x leaf v
      read_refined : {k x o : ℕ} {m : StagedComposition L M} {c : Composition L M} {q r : Reading} {v : Move} → (stage_of R m == k) ≡ true → ReadsMove m x q v → Reads c x r o → ReadsMove (refinement k m c) x (pair q r) (with_outputs v o)
      read_unrefined : {k x : ℕ} {m : StagedComposition L M} {c : Composition L M} {q : Reading} {v : Move} → (stage_of R m == k) ≡ false → ReadsMove m x q v → ReadsMove (refinement k m c) x (pair q asleep) (with_outputs v 0)

  -- the input has exactly one reading, under which the whole emits o
  abbrev pub OneReading : Composition L M → ℕ → ℕ → Type 0
  OneReading t x o = (r : Reading) × Reads t x r o × ((q : Reading) (p : ℕ) → Reads t x q p → (q ≡ r) × (p ≡ o))
