use Rattle.std.proofs.Common.{◌≡◌, length}
use Rattle.sitting.proofs.Ending.{Found}
use Rattle.sitting.proofs.making.ends_of.Given as goal

abbrev pub invariant-loop-at : goal.invariant-loop-at
invariant-loop-at l =
    record {
      found : Found l.fn.nodes l.ends l.at;
      table : length l.ends ≡ 256;
    }
