-- Entering a share on a key, and a key's entry held to a threshold. `making` is what a first share
-- makes, `taking` what an entry that takes one becomes (absent where it is full), and `meeting`
-- what meets: those of the kind of entry.
use Rattle.std.specs.Prelude.{ℕ, Bool, false, cond, List, length, Some, None, Ok, Err, Option, Result, nat_lt}
use Rattle.board.specs.declared.entering.Entered.{Entered}
use Rattle.board.specs.declared.entering.Entered.TheVariants.{Made, Taken, Full}
use Rattle.board.specs.declared.board_fault.BoardFault.{BoardFault}
use Rattle.board.specs.declared.board_fault.BoardFault.TheVariants.{Beyond}
use Rattle.board.specs.Meaning.{at, written}

-- the entry that a share makes of what a key holds; absent where that is full
abbrev pub offered : {E S : Type 0} → (S → E) → (E → S → Option E) → Option E → S → Option E
offered making taking None s = Some (making s)
offered making taking (Some e) s = taking e s

abbrev pub taken_or_full : {E : Type 0} → Option E → Entered
taken_or_full None = Full
taken_or_full (Some e) = Taken

-- how entering goes on what a key holds
abbrev pub outcome : {E S : Type 0} → (E → S → Option E) → Option E → S → Entered
outcome taking None s = Made
outcome taking (Some e) s = taken_or_full (taking e s)

-- a board with what a key is to hold, unchanged where that is absent
abbrev pub put : {E : Type 0} → List (Option E) → ℕ → Option E → List (Option E)
put l k None = l
put l k (Some e) = written l k e

-- what entering answers: a key at or beyond the size is refused
abbrev pub entering : {E S : Type 0} → (E → S → Option E) → List (Option E) → ℕ → S → Result Entered BoardFault
entering taking l k s = cond (nat_lt k (length l)) (Ok (outcome taking (at l k) s)) (Err Beyond)

-- what entering leaves
abbrev pub entered : {E S : Type 0} → (S → E) → (E → S → Option E) → List (Option E) → ℕ → S → List (Option E)
entered making taking l k s = put l k (offered making taking (at l k) s)

-- an absent entry meets nothing
abbrev pub held_to : {E T : Type 0} → (E → T → Bool) → Option E → T → Bool
held_to meeting None t = false
held_to meeting (Some e) t = meeting e t
