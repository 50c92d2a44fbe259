-- What a board means, a list of optional entries as long as its size, and what a call makes of it.
use Rattle.std.specs.Prelude.{ℕ, cond, List, length, Some, None, Ok, Err, Option, Result, nat_lt, slice_index_or, slice_set}
use Rattle.board.specs.declared.board_fault.BoardFault.{BoardFault}
use Rattle.board.specs.declared.board_fault.BoardFault.TheVariants.{Beyond}

-- what a key holds: a key at or beyond the size is absent
abbrev pub at : {E : Type 0} → List (Option E) → ℕ → Option E
at l k = slice_index_or l k None

-- what a write answers
abbrev pub answer : {E : Type 0} → List (Option E) → ℕ → Result Unit BoardFault
answer l k = cond (nat_lt k (length l)) (Ok tt) (Err Beyond)

-- what a write leaves: that key is set and no other, and a refusal changes nothing
abbrev pub written : {E : Type 0} → List (Option E) → ℕ → E → List (Option E)
written l k e = cond (nat_lt k (length l)) (slice_set l k (Some e)) l
