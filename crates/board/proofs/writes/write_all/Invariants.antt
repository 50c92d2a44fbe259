use Rattle.std.proofs.Common.{◌≡◌, take, length}
use Rattle.board.specs.Writes.{all_written, refusals}
use Rattle.board.proofs.writes.write_all.Given as goal

-- the board and the count are what the writes so far make of the board as it was
abbrev pub invariant-loop-key : goal.invariant-loop-key
invariant-loop-key g l =
    let start = g.B.Board.entries l.initial.board in
    let done = take l.key-index l.writes in
    record {
      board : g.B.Board.entries l.board ≡ all_written start done;
      refused : l.refused ≡ refusals start done;
      size : length (g.B.Board.entries l.board) ≡ length start;
    }
