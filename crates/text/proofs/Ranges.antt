-- Holding a number within a hundred million puts it into no range, and out of none.
use Rattle.std.proofs.Common.{◌≡◌, ◌-◌, ◌<◌, ◌≤◌, min, Bool, true, false, ◌⊎◌, ℤ, pos, negsuc, int_le, int_lt, ◌&&◌, ◌<ℤ◌, sym, ap, ◌∙◌, inl, inr, ⊎_elim, arith}
use Rattle.std.proofs.lemmas.Int.{ints}
use Rattle.std.proofs.lemmas.Bool.{cases_lt, and_left, and_right, and_parts, both_ways}
use Rattle.text.specs.Numeral.{kept, most, within}

-- a test does not come out both ways
pub true_not_false : {Y : Type 0} (b : Bool) → b ≡ true → b ≡ false → Y
true_not_false b p q = absurd (both_ways b q p)

-- a number is held as it is, or it is past the range both ways
past : (lo hi z : ℤ) → negsuc (most - 1) <ℤ lo → hi <ℤ pos most → (kept z ≡ z) ⊎ ((within lo hi z ≡ false) × (within lo hi (kept z) ≡ false))
unfolding kept
past lo hi (pos n) l h =
    ⊎_elim
    (λ (small : n < most). let e : min n most ≡ n = omega arith in inl (ap pos e))
    (λ (big : most ≤ n).
    let a : int_le (pos n) hi ≡ false = grind (arith, ints) in
    let b : int_le (pos (min n most)) hi ≡ false = grind (arith, ints) in
    inr (and_right _ _ a, and_right _ _ b))
    (cases_lt n most)
past lo hi (negsuc n) l h =
    ⊎_elim
    (λ (small : n < most - 1). let e : min n (most - 1) ≡ n = omega arith in inl (ap negsuc e))
    (λ (big : most - 1 ≤ n).
    let a : int_le lo (negsuc n) ≡ false = grind (arith, ints) in
    let b : int_le lo (negsuc (min n (most - 1))) ≡ false = grind (arith, ints) in
    inr (and_left _ _ a, and_left _ _ b))
    (cases_lt n (most - 1))

-- a range inside a hundred million on either side of zero
abbrev pub narrow : ℤ → ℤ → Bool
narrow lo hi = int_lt (negsuc (most - 1)) lo && int_lt hi (pos most)

inside : (lo hi z : ℤ) → narrow lo hi ≡ true → (kept z ≡ z) ⊎ ((within lo hi z ≡ false) × (within lo hi (kept z) ≡ false))
inside lo hi z n =
    let p = and_parts (int_lt (negsuc (most - 1)) lo) (int_lt hi (pos most)) n in
    past lo hi z (grind (arith, ints, p.0)) (grind (arith, ints, p.1))

-- a range holds of a number as it holds of the number held
pub within_kept : (lo hi z : ℤ) → narrow lo hi ≡ true → within lo hi (kept z) ≡ within lo hi z
within_kept lo hi z n = ⊎_elim (λ e. ap (within lo hi) e) (λ e. e.1 ∙ sym e.0) (inside lo hi z n)

-- a number in a range is held as it is
pub same_kept : (lo hi z : ℤ) → narrow lo hi ≡ true → within lo hi z ≡ true → kept z ≡ z
same_kept lo hi z n t = ⊎_elim (λ e. e) (λ e. true_not_false _ t e.0) (inside lo hi z n)
