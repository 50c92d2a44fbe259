use Rattle.std.proofs.Common.{rules}
use Rattle.bank.specs.Skills.{polled}
use Rattle.bank.proofs.Slots.{slot_after}
use Rattle.bank.specs.Timing.{timed_skill}
use Rattle.bank.proofs.timed.TimedBank.poll.Goals as goal

pub returns-clause-after : goal.returns-clause-after
returns-clause-after c =
    slot_after timed_skill _ _ polled c.poll.result c.in_ok-skill.skill.now _ _ c.from.ensures (search rules) (search rules) c.poll.ensures.after
