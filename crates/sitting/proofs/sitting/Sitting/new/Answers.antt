use Rattle.std.proofs.Common.{◌≤◌, sym, subst, arith}
use Rattle.sitting.specs.declared.ledger.Ledger.{Ledger}
use Rattle.sitting.proofs.Keepings.{new_kept}
use Rattle.sitting.proofs.sitting.Sitting.new.Goals as goal

pub invariant_of-result : goal.invariant_of-result
invariant_of-result c =
    let o = c.of.ensures in
    record {
      kept = (new_kept c.of.result c.new.result o.mission o.ends o.memories o.ledger).0;
      room = λ e. absurd cc;
      timely = subst (λ (k : Ledger). k.tick ≤ k.used) (sym o.ledger) (omega arith);
    }
