-- A mark times a weight is at most 100 times the weight, on either side of zero.
use Rattle.std.specs.Prelude.{ℕ, suc, ◌*◌, ◌≤◌, ℤ, pos, negsuc, ◌*ℤ◌, neg_ℤ, ◌≤ℤ◌}
use Rattle.std.proofs.Common.{mul-le-mul_right, arith}
use Rattle.std.proofs.lemmas.Int.{ints}

pub product_high : (m : ℤ) (w : ℕ) → m ≤ℤ pos 100 → (m *ℤ pos w) ≤ℤ pos (100 * w)
product_high (pos a) w h =
    let few : a ≤ 100 = omega (arith, ints) in
    let more : a * w ≤ 100 * w = mul-le-mul_right w few in
    omega (arith, ints)
product_high (negsuc a) w h = omega (arith, ints)

pub product_low : (m : ℤ) (w : ℕ) → negsuc 99 ≤ℤ m → neg_ℤ (pos (100 * w)) ≤ℤ (m *ℤ pos w)
product_low (pos a) w h = omega (arith, ints)
product_low (negsuc a) w h =
    let few : suc a ≤ 100 = omega (arith, ints) in
    let more : suc a * w ≤ 100 * w = mul-le-mul_right w few in
    omega (arith, ints)
