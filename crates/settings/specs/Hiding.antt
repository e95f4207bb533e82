-- Which sets of wires can be hidden. Assumes nothing: these are definitions.
use Rattle.std.specs.Prelude.{◌≡◌, ℕ, cond, Ok, Err, Result, nat_le}
use Rattle.settings.specs.declared.hidden.Hidden.{Hidden}
use Rattle.settings.specs.declared.hidden.TooManyHidden.{TooManyHidden}
use Rattle.settings.specs.Tried.{size}

-- the number by which people know the refusal
abbrev pub too_many_hidden : ℕ
too_many_hidden = 16

-- what a making answers: the hidden wires, or the number of the refusal
abbrev pub hidden_made : Result Hidden TooManyHidden → Result ℕ ℕ
hidden_made (Ok h) = Ok h
hidden_made (Err e) = Err too_many_hidden

-- at most 12 wires can be hidden
abbrev pub hidden_making : ℕ → Result ℕ ℕ
hidden_making set = cond (nat_le (size set) 12) (Ok set) (Err too_many_hidden)

-- a making of hidden wires
abbrev pub HidesFew : ℕ → Result Hidden TooManyHidden → Type 0
HidesFew set r = hidden_made r ≡ hidden_making set
