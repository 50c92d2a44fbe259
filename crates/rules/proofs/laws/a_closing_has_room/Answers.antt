use Rattle.rules.proofs.Roomy.{there_is_room}
use Rattle.rules.proofs.laws.a_closing_has_room.Goals as goal

pub returns : goal.returns
returns c = there_is_room
