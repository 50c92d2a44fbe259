use Rattle.std.proofs.Common.{◌≡◌, [], ◌-◌}
use Rattle.sitting.specs.Turns.{stage, visited}
use Rattle.sitting.specs.declared.turn.Turn.TheVariants.{Enter as Entering}
use Rattle.sitting.proofs.executive.Executive.take_turns.Given as goal

-- the turns that are left give what all of them give
abbrev pub invariant-loop : goal.invariant-loop
invariant-loop g l =
    visited (1024 - l.counter) l.turn (stage l.self l.stack.items (g.B.Bank.skills l.bank) (g.C.Board.entries l.counts, g.A.Board.entries l.abilities) l.trace)
    ≡ visited 1024 (Entering 0) (stage l.fn.self [] (g.B.Bank.skills l.fn.bank) (g.C.Board.entries l.fn.counts, g.A.Board.entries l.fn.abilities) l.fn.trace)
