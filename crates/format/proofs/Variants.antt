-- The two answers of a `Result` are never equal, and equal answers hold equal values. Assumes nothing.
use Rattle.std.proofs.Common.{◌≡◌, Ok, Err, Result}

pub ok_not_err : {A E : Type 0} (r : Result A E) (a : A) (e : E) → r ≡ Ok a → r ≡ Err e → ⊥
ok_not_err r a e p q = cc

pub same_ok : {A E : Type 0} (r : Result A E) (a b : A) → r ≡ Ok a → r ≡ Ok b → a ≡ b
same_ok r a b p q = cc
