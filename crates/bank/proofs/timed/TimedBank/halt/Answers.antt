use Rattle.std.proofs.Common.{rules}
use Rattle.bank.specs.Skills.{struck}
use Rattle.bank.proofs.Slots.{slot_after}
use Rattle.bank.specs.Timing.{timed_skill}
use Rattle.bank.proofs.timed.TimedBank.halt.Goals as goal

pub returns-clause-after : goal.returns-clause-after
returns-clause-after c =
    slot_after timed_skill _ _ struck c.halt.result c.in_ok-skill.skill.now _ _ c.from.ensures (search rules) (search rules) c.halt.ensures.after
