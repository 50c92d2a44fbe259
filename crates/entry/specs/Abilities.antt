-- Abilities: what meets a threshold, what a weighed mark adds, and what the first one makes.
use Rattle.std.specs.Prelude.{ℕ, ◌+◌, ◌*◌, Bool, T, ℤ, pos, ◌+ℤ◌, ◌*ℤ◌, neg_ℤ, Option, int_le, nat_le}
use Rattle.std.proofs.Common.{arith, lit≤}
use Rattle.std.specs.Int.Signed.{le_z_yes}
use Rattle.entry.specs.declared.parts.Ability.{Ability}
use Rattle.entry.specs.declared.parts.AbilityThreshold.{AbilityThreshold}
use Rattle.entry.specs.declared.parts.Weighed.{Weighed}
use Rattle.entry.specs.Holding.{where_true, front, back}
use Rattle.entry.specs.Products.{product_low, product_high}
use Rattle.entry.specs.Ranges.{is_ability, is_ability_weight, is_ability_marks}

-- marks over weight meets P over Q where marks × Q is at least P × weight
abbrev pub ability_meets : Ability → AbilityThreshold → Bool
ability_meets a t = int_le (t.least.value *ℤ pos a.weight) (a.marks *ℤ pos t.over.value)

-- the ability m over w, both in range
unfoldable pub ability_in : (m : ℤ) (w : ℕ) → T (is_ability m w) → Ability
ability_in m w t =
    record {
      marks = m;
      weight = w;
      above = lit≤ (front (nat_le 1 w) (nat_le w 1000000) (front (is_ability_weight w) (is_ability_marks m w) t));
      within = lit≤ (back (nat_le 1 w) (nat_le w 1000000) (front (is_ability_weight w) (is_ability_marks m w) t));
      low = le_z_yes (front (int_le (neg_ℤ (pos (100 * w))) m) (int_le m (pos (100 * w))) (back (is_ability_weight w) (is_ability_marks m w) t));
      high = le_z_yes (back (int_le (neg_ℤ (pos (100 * w))) m) (int_le m (pos (100 * w))) (back (is_ability_weight w) (is_ability_marks m w) t));
    }

-- the ability m over w, absent where one of them is out of range
abbrev pub ability_of : ℤ → ℕ → Option Ability
ability_of m w = where_true (is_ability m w) (ability_in m w)

-- what a weighed mark adds to the marks
abbrev pub gain : Weighed → ℤ
gain s = s.mark.value *ℤ pos s.weight.value

-- the mark × the weight is added to the marks and the weight to the weight; absent where the
-- ability is full for them
abbrev pub ability_takes : Ability → Weighed → Option Ability
ability_takes a s = ability_of (a.marks +ℤ gain s) (a.weight + s.weight.value)

-- the first weighed mark is the ability: the mark × the weight over the weight
unfoldable pub ability_makes : Weighed → Ability
ability_makes s =
    record {
      marks = gain s;
      weight = s.weight.value;
      above = s.weight.least;
      within = omega arith;
      low = product_low s.mark.value s.weight.value s.mark.low;
      high = product_high s.mark.value s.weight.value s.mark.high;
    }
