use Rattle.std.proofs.Common.{rules}
use Rattle.bank.proofs.Records.{first_started}
use Rattle.bank.specs.Recording.{recorded_skill, rows_of}
use Rattle.bank.specs.Skills.{started}
use Rattle.bank.proofs.Slots.{slot_after}
use Rattle.bank.proofs.recorded.RecordedBank.start.Goals as goal

pub returns-clause-after : goal.returns-clause-after
returns-clause-after c =
    slot_after (recorded_skill (rows_of c.args.self.now)) _ _ started c.start.result c.in_ok-skill.skill.now _ _ c.from.ensures (search rules) (search rules)
    (first_started (rows_of c.args.self.now) c.in_ok-skill.skill.now c.start.new.self c.start.result c.start.ensures.after)
