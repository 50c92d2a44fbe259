use Rattle.std.proofs.Common.{rules}
use Rattle.bank.specs.Recording.{recorded_skill, rows_of}
use Rattle.bank.specs.Skills.{struck}
use Rattle.bank.proofs.Slots.{slot_after}
use Rattle.bank.proofs.recorded.RecordedBank.halt.Goals as goal

pub returns-clause-after : goal.returns-clause-after
returns-clause-after c =
    slot_after (recorded_skill (rows_of c.args.self.now)) _ _ struck c.halt.result c.in_ok-skill.skill.now _ _ c.from.ensures (search rules) (search rules)
    (rw c.deref.ensures.0 at c.halt.ensures.after)
