use Rattle.std.proofs.Common.{◌+ℤ◌, ◌∙◌, rules}
use Rattle.entry.proofs.Making.{count_answered}
use Rattle.entry.proofs.count.CountEntry.take.Goals as goal

pub returns : goal.returns
returns c =
    c.ok.ensures.value
    ∙ count_answered _ (c.args.self.value +ℤ c.args.share.value) c.new.result (search rules) c.new.ensures
