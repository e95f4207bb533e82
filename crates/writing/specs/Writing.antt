-- What writing a command does to an output. Assumes nothing: these are definitions.
use Rattle.std.specs.Prelude.{◌≡◌, ℕ, ◌+◌, Bool, true, cond, List, [], ◌∷◌, ◌++◌, length, take, drop, None, Ok, Err, Result, nat_le}
use Rattle.std.specs.List.{AllByRecursion}
use Rattle.format.specs.Names.{well_formed}
use Rattle.format.specs.Commands.{Word, wire, machine, rule, par, hide, unless, refine, end, encode, encode_all, Proper, today}
use Rattle.format.specs.Reading.{got, first_read, read_all}
use Rattle.format.specs.Recipes.{NotEnd}
use Rattle.format.specs.declared.refusal.Refusal.{Refusal}
use Rattle.format.specs.declared.refusal.Refusal.TheVariants.{MalformedName, NoSpace}

-- the output with the bytes from place `at` on in it
abbrev pub placed : ℕ → List ℕ → List ℕ → List ℕ
placed at bytes out = take at out ++ (bytes ++ drop (at + length bytes) out)

-- the bytes fit into the output from place `at` on
abbrev pub fits : ℕ → List ℕ → List ℕ → Bool
fits at bytes out = nat_le (at + length bytes) (length out)

abbrev pub put_answer : ℕ → List ℕ → List ℕ → Result ℕ Refusal
put_answer at bytes out = cond (fits at bytes out) (Ok (at + length bytes)) (Err NoSpace)

abbrev pub put_output : ℕ → List ℕ → List ℕ → List ℕ
put_output at bytes out = cond (fits at bytes out) (placed at bytes out) out

-- the name of a command, if it has one, is well formed
abbrev pub well_named : Word → Bool
well_named (wire name) = well_formed today.width name
well_named (machine states) = true
well_named (rule from to present absent emits) = true
well_named par = true
well_named (hide hidden) = true
well_named (unless w) = true
well_named (refine stage) = true
well_named end = true

-- Writing a command at a place: is the name well formed? Is there space? Else the answer is the place behind it.
abbrev pub write_answer : Word → ℕ → List ℕ → Result ℕ Refusal
write_answer w at out = cond (well_named w) (put_answer at (encode today w) out) (Err MalformedName)

-- the output then: a refused write changes no byte
abbrev pub written : Word → ℕ → List ℕ → List ℕ
written w at out = cond (well_named w) (put_output at (encode today w) out) out

-- the bytes are the encodings of these commands, in order and end to end, END not among them
pub record Holds (bytes : List ℕ) (ws : List Word) : Type 0 where
  pub whole : encode_all today ws ≡ bytes
  pub proper : AllByRecursion (Proper today) ws
  pub none : AllByRecursion NotEnd ws

-- A command that was written from place `at` on is read back there, and is one more behind those that were written before it.
pub record Wrote (w : Word) (at : ℕ) (before : List ℕ) (end-at : ℕ) (after : List ℕ) : Type 0 where
  pub back : first_read today (drop at after) ≡ got w (length (encode today w))
  pub adds : (ws : List Word) → Holds (take at before) ws → Holds (take end-at after) (ws ++ w ∷ [])

-- END that was written from place `at` on is read back there, where the recipe ends behind it, and the recipe that it ends is read back as what was written, with END last.
pub record EndedWith (at : ℕ) (before : List ℕ) (end-at : ℕ) (after : List ℕ) : Type 0 where
  pub back : first_read today (drop at (take end-at after)) ≡ got end 1
  pub whole : (ws : List Word) → Holds (take at before) ws → read_all today (take end-at after) ≡ record { words = ws ++ end ∷ []; ending = None }
