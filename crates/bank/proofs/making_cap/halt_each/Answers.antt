use Rattle.std.proofs.Common.{arith}
use Rattle.bank.proofs.Halts.{halted_more}
use Rattle.bank.proofs.making_cap.halt_each.Goals as goal

pub loop-k-preserved : goal.loop-k-preserved
loop-k-preserved g c =
    halted_more (g.B.Bank.skills c.args.below.now) c.loop-k.k _ _ c.halt.result (omega (arith, c.width-k-end.ensures)) c.loop-k.invariant c.halt.ensures.answer c.halt.ensures.after
