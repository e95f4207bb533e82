use Rattle.machines.proofs.Determinism.{made_ok}
use Rattle.two_parts.proofs.print_both.Goals as goal

-- the machine is made: nothing that is asked of it is refused
pub unwrap-bit-requires : goal.unwrap-bit-requires
unwrap-bit-requires g c = made_ok c.new.result _ c.new.ensures.value
