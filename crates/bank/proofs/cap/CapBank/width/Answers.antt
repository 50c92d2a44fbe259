use Rattle.std.proofs.Common.{sym, ◌∙◌}
use Rattle.bank.specs.CapSounds.{caps_length}
use Rattle.bank.proofs.cap.CapBank.width.Goals as goal

pub returns : goal.returns
returns g c = let b = c.args.self.now in c.width.ensures ∙ sym (caps_length b.limit b.counts (g.B.Bank.skills b.below))
