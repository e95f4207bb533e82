-- The lines that programs print, as bytes. Assumes nothing: these are definitions.
use Rattle.std.specs.Prelude.{ℕ, ◌+◌, cond, List, [], ◌∷◌, ◌++◌, length, Some, None, codes, decimal, Option, nat_le}
use Rattle.format.specs.Commands.{Word, extent, today}
use Rattle.format.specs.Reading.{read_all}
use Rattle.format.specs.Refusals.{refusal_number}
use Rattle.format.specs.declared.refusal.Refusal.{Refusal}
use Rattle.format.specs.declared.refusal.Refusal.TheVariants.{TooLong}
use Rattle.reports.specs.Names.{names_of}

-- load, the refusal's number and its position
abbrev pub load_line : ℕ → ℕ → List ℕ
load_line number position = codes "load " ++ (decimal number ++ (codes " " ++ (decimal position ++ codes "\n")))

-- how many wires there are
abbrev pub wires_line : ℕ → List ℕ
wires_line count = codes "wires " ++ (decimal count ++ codes "\n")

-- a wire's number and name
abbrev pub wire_line_text : ℕ → List ℕ → List ℕ
wire_line_text wire name = decimal wire ++ (codes " " ++ (name ++ codes "\n"))

-- a line for each name, the wires numbered from the first number on
abbrev pub wire_lines : ℕ → List (List ℕ) → List ℕ
wire_lines wire [] = []
wire_lines wire (name ∷ names) = wire_line_text wire name ++ wire_lines (wire + 1) names

-- the wire list
abbrev pub wire_list_text : List (List ℕ) → List ℕ
wire_list_text names = wires_line (length names) ++ wire_lines 0 names

-- the wire list of what was read, or the refusal with which reading ended
abbrev pub reading_report : List Word → Option Refusal → List ℕ
reading_report ws None = wire_list_text (names_of ws)
reading_report ws (Some r) = load_line (refusal_number r) (extent today ws)

-- what is printed of a file's bytes, of which a recipe has at most 16,384
abbrev pub wire_report : List ℕ → List ℕ
wire_report bytes = let r = read_all today bytes in cond (nat_le (length bytes) 16384) (reading_report r.words r.ending) (load_line (refusal_number TooLong) 0)
