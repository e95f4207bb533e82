-- What is printed of a fault. Assumes nothing: these are definitions.
use Rattle.std.specs.Prelude.{ℕ, List, ◌++◌, codes}
use Rattle.std.specs.Fmt.{decimal}
use Rattle.parts.specs.declared.fault.Fault.{Fault}

-- the word and the three numbers, by single spaces
abbrev pub fault_text : Fault → List ℕ
fault_text f = codes "fault " ++ decimal f.cause ++ codes " " ++ decimal f.place ++ codes " " ++ decimal f.count
