-- Names of wires, and the field of bytes in which a recipe has one. Assumes nothing: these are definitions.
use Rattle.std.specs.Prelude.{ℕ, ◌-◌, Bool, false, cond, ◌&&◌, ◌||◌, List, [], ◌∷◌, ◌++◌, length, drop, replicate, ◌==◌, nat_eq, nat_le}
use Rattle.std.specs.List.{list_all}

-- A to Z
abbrev pub capital : ℕ → Bool
capital b = nat_le 65 b && nat_le b 90

-- a byte that may stand behind the first of a name: a capital letter, a digit or a hyphen
abbrev pub name_byte : ℕ → Bool
name_byte b = capital b || ((nat_le 48 b && nat_le b 57) || b == 45)

-- a capital letter, then capital letters, digits and hyphens
abbrev pub spelled : List ℕ → Bool
spelled [] = false
spelled (b ∷ bs) = capital b && list_all name_byte bs

-- a name that a field of `width` bytes can hold
abbrev pub well_formed : ℕ → List ℕ → Bool
well_formed width name = spelled name && nat_le (length name) width

-- the field of `width` bytes that holds a name: zero bytes fill the rest
abbrev pub field : ℕ → List ℕ → List ℕ
field width name = name ++ replicate (width - length name) 0

-- the bytes of a field before its first zero byte
abbrev pub before_zero : List ℕ → List ℕ
before_zero [] = []
before_zero (b ∷ bs) = cond (b == 0) [] (b ∷ before_zero bs)

-- a field holds a name, with nothing but zero bytes behind it
abbrev pub holds_name : List ℕ → Bool
holds_name bytes = spelled (before_zero bytes) && list_all (λ b. nat_eq b 0) (drop (length (before_zero bytes)) bytes)
