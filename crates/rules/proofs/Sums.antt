-- Sums over the numbers below n.
use Rattle.std.proofs.Common.{◌≡◌, ℕ, zero, suc, ◌+◌, ◌*◌, ◌<◌, ◌≤◌, eqb, sym, refl, ap, ◌∙◌, mul-zero, mul-add, arith}
use Rattle.std.proofs.lemmas.Bool.Decides.{nat_tests}
use Rattle.rules.specs.Lines.{one}

abbrev pub sum_below : (ℕ → ℕ) → ℕ → ℕ
sum_below f zero = 0
sum_below f (suc n) = f n + sum_below f n

pub sum_le : (f g : ℕ → ℕ) → ((k : ℕ) → f k ≤ g k) → (n : ℕ) → sum_below f n ≤ sum_below g n
sum_le f g h zero = omega arith
sum_le f g h (suc n) = let a = h n in let b = sum_le f g h n in omega arith

pub sum_add : (f g : ℕ → ℕ) (n : ℕ) → sum_below (λ k. f k + g k) n ≡ sum_below f n + sum_below g n
sum_add f g zero = refl
sum_add f g (suc n) = let h = sum_add f g n in omega arith

pub sum_times : (r : ℕ) (f : ℕ → ℕ) (n : ℕ) → sum_below (λ k. r * f k) n ≡ r * sum_below f n
sum_times r f zero = sym (mul-zero r)
sum_times r f (suc n) = ap (λ (c : ℕ). r * f n + c) (sum_times r f n) ∙ sym (mul-add r (f n) (sum_below f n))

no_hit : (j n : ℕ) → n ≤ j → sum_below (λ k. one (eqb j k)) n ≡ 0
no_hit j zero h = refl
no_hit j (suc n) h = grind (arith, nat_tests, no_hit j n)

pub at_most_one_hit : (j n : ℕ) → sum_below (λ k. one (eqb j k)) n ≤ 1
at_most_one_hit j zero = omega arith
at_most_one_hit j (suc n) = grind (arith, nat_tests, at_most_one_hit j n, no_hit j n)

pub one_hit : (j n : ℕ) → j < n → sum_below (λ k. one (eqb j k)) n ≡ 1
one_hit j zero h = absurd (omega arith)
one_hit j (suc n) h = grind (arith, nat_tests, one_hit j n, no_hit j n)
