-- What boards promise of writes and of marks.
use Rattle.std.specs.Prelude.{◌≡◌, ℕ, ◌+◌, ◌≤◌, true, List, length, replicate, ◌+ℤ◌, Some, None, Option, Result, MatchResult, ◌≢◌}
use Rattle.entry.specs.declared.parts.Ability.{Ability}
use Rattle.entry.specs.Kinds.{Count}
use Rattle.entry.specs.Kinds.{Mark}
use Rattle.entry.specs.declared.parts.Weighed.{Weighed}
use Rattle.entry.specs.Abilities.{gain}
use Rattle.entry.specs.Ranges.{is_count}
use Rattle.board.specs.declared.board_fault.BoardFault.{BoardFault}
use Rattle.board.specs.declared.board_fault.BoardFault.TheVariants.{Beyond}
use Rattle.board.specs.Faults.{TooLarge}
use Rattle.board.specs.Meaning.{at}
use Rattle.board.specs.Writes.{all_written}

-- two boards that began equal (one, two) and were given the same writes: they refused the same
-- number (r, s) and read the same at every key (one', two')
abbrev pub Alike : {E : Type 0} (one two one' two' : List (Option E)) (r s : ℕ) → Type 0
Alike one two one' two' r s = one ≡ two → (r ≡ s) × ((k : ℕ) → at one' k ≡ at two' k)

-- cells and pairs of a size, given the same writes, read the same at a key, which is what the writes
-- leave there; a size above 32 is refused
abbrev pub ReadAlike : {E : Type 0} (size : ℕ) (writes : List (ℕ × E)) (k : ℕ) → Result (Option E × Option E) BoardFault → Type 0
ReadAlike size writes k r =
    MatchResult r
    (λ read. (read.0 ≡ read.1) × (read.0 ≡ at (all_written (replicate size None) writes) k))
    (TooLarge size)

-- every key but k reads as before, and the size is as before
abbrev pub OnlyAt : {E : Type 0} (k : ℕ) (before after : List (Option E)) → Type 0
OnlyAt k before after =
    (length after ≡ length before) × ((j : ℕ) → (j ≢ k) → at after j ≡ at before j)

-- a write that is answered sets its key, and one that is refused changes nothing
abbrev pub Sets : {E : Type 0} (k : ℕ) (e : E) (before after : List (Option E)) → Result Unit BoardFault → Type 0
Sets k e before after r =
    MatchResult r (λ _. at after k ≡ Some e) (λ fault. (fault ≡ Beyond) × (after ≡ before))

-- a share entered on an entry that is not full for it makes of the entry what it takes
abbrev pub Grows : {E S : Type 0} (taking : E → S → Option E) (k : ℕ) (s : S) (before after : List (Option E)) → Type 0
Grows {E} taking k s before after =
    (e d : E) → at before k ≡ Some e → taking e s ≡ Some d → at after k ≡ Some d

-- a mark entered on a count that is not full adds exactly it
abbrev pub CountGrows : (k : ℕ) (m : Mark) (before after : List (Option Count)) → Type 0
CountGrows k m before after =
    (c : Count) →
    at before k ≡ Some c → is_count (c.value +ℤ m.value) ≡ true → (d : Count) × (at after k ≡ Some d) × (d.value ≡ c.value +ℤ m.value)

-- a weighed mark entered on an ability that is not full adds exactly mark × weight over the weight
abbrev pub AbilityGrows : (k : ℕ) (s : Weighed) (before after : List (Option Ability)) → Type 0
AbilityGrows k s before after =
    (a : Ability) →
    at before k ≡ Some a →
    a.weight + s.weight.value ≤ 1000000 →
    (b : Ability) × (at after k ≡ Some b) × (b.marks ≡ a.marks +ℤ gain s) × (b.weight ≡ a.weight + s.weight.value)
