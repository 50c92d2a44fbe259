use Rattle.mission.proofs.Beginning.{first_lawful, first_written}
use Rattle.mission.proofs.mission.Mission.new.Goals as goal

pub invariant_of-result : goal.invariant_of-result
invariant_of-result c = record { lawful = first_lawful _ }

pub returns : goal.returns
returns c = first_written
