use Rattle.std.proofs.Common.{slice_index_or, rules}
use Rattle.sitting.proofs.Ending.{past_on}
use Rattle.sitting.proofs.making.past.Goals as goal

pub loop-preserved : goal.loop-preserved
loop-preserved c = past_on c.args.kids c.loop.counter (λ i. slice_index_or c.args.ends.now i 0) c.loop.at c.unwrap_or-at.result _ c.loop-test.true (search rules) c.loop.invariant
