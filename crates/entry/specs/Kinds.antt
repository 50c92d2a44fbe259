-- The whole numbers of each range, by the names of their kinds, and how a number makes one.
use Rattle.std.specs.Prelude.{ℕ, T, ℤ, pos, neg_ℤ, Option, int_le}
use Rattle.std.specs.Int.Signed.{le_z_yes}
use Rattle.entry.specs.declared.parts.Whole.{Whole}
use Rattle.entry.specs.Holding.{where_true, front, back}
use Rattle.entry.specs.Ranges.{within}

abbrev pub Mark : Type 0
Mark = Whole 100

abbrev pub Count : Type 0
Count = Whole 1000000

-- the whole number of a number in range
unfoldable pub whole_in : (most : ℕ) (z : ℤ) → T (within most z) → Whole most
whole_in most z t =
    record {
      value = z;
      low = le_z_yes (front (int_le (neg_ℤ (pos most)) z) (int_le z (pos most)) t);
      high = le_z_yes (back (int_le (neg_ℤ (pos most)) z) (int_le z (pos most)) t);
    }

-- the whole number of a number, absent where the number is out of range
abbrev pub whole_of : (most : ℕ) → ℤ → Option (Whole most)
whole_of most z = where_true (within most z) (whole_in most z)
