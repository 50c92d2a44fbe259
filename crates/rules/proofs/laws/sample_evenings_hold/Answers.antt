use Rattle.rules.proofs.Evenings.{evenings_hold}
use Rattle.rules.proofs.laws.sample_evenings_hold.Goals as goal

pub returns : goal.returns
returns c = evenings_hold
