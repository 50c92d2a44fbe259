use Rattle.std.proofs.Common.{map}
use Rattle.bank.specs.Recording.{Holds, recorded_skill}
use Rattle.bank.proofs.parts.Recorded.new.Given as goal

abbrev pub invariant-loop-k : goal.invariant-loop-k
invariant-loop-k l = Holds l.k l.takes (map (recorded_skill l.takes) l.table.items)
