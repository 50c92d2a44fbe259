use Rattle.rules.proofs.Wholes.{law_of_whole_runs}
use Rattle.rules.proofs.laws.whole_runs_are_accounted_for_and_regroup.Goals as goal

pub returns : goal.returns
returns c = law_of_whole_runs
