-- The ranges of entries and their parts, as tests.
use Rattle.std.specs.Prelude.{ℕ, ◌*◌, Bool, ◌&&◌, ℤ, pos, neg_ℤ, int_le, nat_le}

-- at most so much on either side of zero
abbrev pub within : ℕ → ℤ → Bool
within most z = int_le (neg_ℤ (pos most)) z && int_le z (pos most)

abbrev pub weighs : ℕ → Bool
weighs w = nat_le 1 w && nat_le w 100

abbrev pub count_threshold : ℤ → Bool
count_threshold = within 1000000

abbrev pub ability_threshold : ℤ → ℕ → Bool
ability_threshold p q = within 10000 p && weighs q

abbrev pub is_count : ℤ → Bool
is_count = within 1000000

abbrev pub is_ability_weight : ℕ → Bool
is_ability_weight w = nat_le 1 w && nat_le w 1000000

abbrev pub is_ability_marks : ℤ → ℕ → Bool
is_ability_marks m w = within (100 * w) m

abbrev pub is_ability : ℤ → ℕ → Bool
is_ability m w = is_ability_weight w && is_ability_marks m w
