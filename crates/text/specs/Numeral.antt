-- Numbers as they are written: base ten, no leading zero, a minus only before a number above zero.
use Rattle.std.specs.Prelude.{◌≡◌, ℕ, zero, suc, ◌+◌, ◌-◌, ◌*◌, min, Bool, cond, ◌&&◌, List, [], ◌∷◌, map, ℤ, pos, negsuc, Some, None, Option, ◌==◌, ◌≢◌, int_le, nat_le}
use Rattle.std.specs.Option.{option_map}
use Rattle.std.specs.Int.Digits.{digits_of}

-- The digits of a number, most significant first: `0` for zero.
unfoldable pub natural : ℕ → List ℕ
natural zero = 48 ∷ []
natural (suc n) = map (λ d. 48 + d) (digits_of 10 (suc n))

-- The one text of a whole number.
unfoldable pub numeral : ℤ → List ℕ
numeral (pos n) = natural n
numeral (negsuc n) = 45 ∷ natural (suc n)

-- A hundred million, beyond every range that a format has.
abbrev pub most : ℕ
most = 100000000

-- A number as the machine holds it: exact up to a hundred million on either side of zero, and that far beyond.
unfoldable pub kept : ℤ → ℤ
kept (pos n) = pos (min n most)
kept (negsuc n) = negsuc (min n (most - 1))

-- Whether a number lies from lo to hi.
abbrev pub within : ℤ → ℤ → ℤ → Bool
within lo hi z = int_le lo z && int_le z hi

-- What bytes are read as: none where they are no number's numeral, else the number of which they are, as it is held.
abbrev pub ReadAs : List ℕ → Option ℤ → Type 0
ReadAs bytes None = (z : ℤ) → bytes ≢ numeral z
ReadAs bytes (Some n) = (z : ℤ) × (bytes ≡ numeral z) × (n ≡ kept z)

-- Whether a byte is a digit.
abbrev pub digit : ℕ → Bool
digit c = nat_le 48 c && nat_le c 57

-- The number that digits write after those of v, which were read before them.
unfoldable pub reads : ℕ → List ℕ → Option ℕ
reads v [] = Some v
reads v (c ∷ cs) = cond (digit c) (reads (v * 10 + (c - 48)) cs) None

-- The number above zero that digits write, the first of them not 0.
unfoldable pub above : List ℕ → Option ℕ
above [] = None
above (c ∷ cs) = cond (nat_le 49 c && nat_le c 57) (reads (c - 48) cs) None

-- As `reads`, held to a hundred million at each digit.
unfoldable pub reads_kept : ℕ → List ℕ → Option ℕ
reads_kept v [] = Some v
reads_kept v (c ∷ cs) = cond (digit c) (reads_kept (min (v * 10 + (c - 48)) most) cs) None

-- The number below zero of this size.
unfoldable pub below : Option ℕ → Option ℤ
below None = None
below (Some zero) = None
below (Some (suc n)) = Some (negsuc n)

-- Zero, where nothing follows its digit.
abbrev pub alone : List ℕ → Option ℤ
alone [] = Some (pos 0)
alone (x ∷ xs) = None

-- The number that a numeral writes, read from the left.
unfoldable pub valued : List ℕ → Option ℤ
valued [] = None
valued (c ∷ cs) = cond (c == 45) (below (above cs)) (cond (c == 48) (alone cs) (option_map pos (above (c ∷ cs))))
