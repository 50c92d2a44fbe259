-- Counts: what meets a threshold, what a mark adds, and what the first mark makes.
use Rattle.std.specs.Prelude.{Bool, ℤ, ◌+ℤ◌, Option, int_le}
use Rattle.std.proofs.Common.{arith}
use Rattle.std.proofs.lemmas.Int.{ints}
use Rattle.entry.specs.declared.parts.CountThreshold.{CountThreshold}
use Rattle.entry.specs.Kinds.{Count, Mark, whole_of}

-- a count meets a threshold that is at most the count
abbrev pub count_meets : Count → CountThreshold → Bool
count_meets c t = int_le t.least.value c.value

-- the count of a number, absent where the number is out of range
abbrev pub count_of : ℤ → Option Count
count_of = whole_of 1000000

-- a count and a mark are added; absent where the count is full for the mark
abbrev pub count_takes : Count → Mark → Option Count
count_takes c m = count_of (c.value +ℤ m.value)

-- the first mark is the count
unfoldable pub count_makes : Mark → Count
count_makes m = record { value = m.value; low = omega (arith, ints); high = omega (arith, ints) }
