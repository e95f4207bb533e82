-- The first command of bytes that are not empty. No answer cites this law, since the check finds its cases alone. Assumes nothing.
use Rattle.std.proofs.Common.{◌≡◌, ℕ, ◌<◌, List, length, get_or, Option, ap, ◌∙◌}
use Rattle.std.specs.List.{between}
use Rattle.std.proofs.lemmas.Slice.{first_rest}
use Rattle.format.specs.Commands.{Form, command_of}
use Rattle.format.specs.Reading.{first_read, command_read}
use Rattle.format.specs.declared.command.Opcode.{Opcode}

module _ (form : Form) (bs : List ℕ) (some : 0 < length bs) (o : Option Opcode) (is : command_of form (get_or bs 0 0) ≡ o) where
  pub command_at_front : first_read form bs ≡ command_read form o (between 1 (length bs) bs)
  command_at_front = ap (first_read form) (first_rest bs 0 some) ∙ ap (λ k. command_read form k (between 1 (length bs) bs)) is
