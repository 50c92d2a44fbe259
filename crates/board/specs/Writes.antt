-- A list of writes given to a board, each a key and an entry.
use Rattle.std.specs.Prelude.{ℕ, List, Option, count_by, fold}
use Rattle.std.specs.Result.{is_err}
use Rattle.board.specs.Meaning.{answer, written}

-- what the writes leave, in their order
abbrev pub all_written : {E : Type 0} → List (Option E) → List (ℕ × E) → List (Option E)
all_written l ws = fold (λ m w. written m w.0 w.1) l ws

-- how many of them are refused: no write changes the size, so the board as it was tells of each
abbrev pub refusals : {E : Type 0} → List (Option E) → List (ℕ × E) → ℕ
refusals l ws = count_by (λ w. is_err (answer l w.0)) ws
