use Rattle.std.proofs.Common.{ap, rules, replicate}
use Rattle.entry.proofs.Same.{same_whole}
use Rattle.entry.specs.Kinds.{Count, whole_in}
use Rattle.board.specs.declared.pair.Pair.{Pair}
use Rattle.board.proofs.kinds.CountTabled.unused_pairs.Goals as goal

abbrev empty : Count → Pair Count
empty held = record { key = 0; held = held }

pub returns : goal.returns
unfolding whole_in
returns c = ap (λ h. replicate 32 (empty h)) (same_whole c.unwrap-held.result _ (search rules))
