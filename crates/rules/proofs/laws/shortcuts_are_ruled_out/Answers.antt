use Rattle.rules.proofs.Evenings.{ruled_out}
use Rattle.rules.proofs.laws.shortcuts_are_ruled_out.Goals as goal

pub returns : goal.returns
returns c = ruled_out
