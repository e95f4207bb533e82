use Rattle.std.proofs.Common.{rules}
use Rattle.settings.proofs.Stepping.{stepped}
use Rattle.settings.proofs.settings.next_setting.Goals as goal

pub returns : goal.returns
returns c =
    let next = stepped 64 c.args.hidden.bits c.args.setting.bits (search rules) c.requires.within c.requires.not_last in
    record { within = next.within; above = next.above; untried = next.rest }
