use Rattle.rules.proofs.Settling.{nothing_runs_on}
use Rattle.rules.proofs.laws.nothing_runs_on.Goals as goal

pub returns : goal.returns
returns c = nothing_runs_on
