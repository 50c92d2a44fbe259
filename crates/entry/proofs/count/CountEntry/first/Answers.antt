use Rattle.std.proofs.Common.{rules}
use Rattle.entry.proofs.Making.{count_first}
use Rattle.entry.proofs.count.CountEntry.first.Goals as goal

pub returns : goal.returns
returns c = count_first c.args.share _ (search rules)
