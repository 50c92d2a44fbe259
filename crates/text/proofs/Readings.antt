-- The reading of numerals, by places of the text.
use Rattle.std.proofs.Common.{true, false, ◌<ℤ◌, ◌≤ℤ◌, neg_ℤ, IfSome, ◌≡◌, ℕ, zero, suc, ◌+◌, ◌-◌, ◌*◌, ◌<◌, ◌≤◌, min, cond, eqb, List, [], ◌∷◌, length, get_or, drop, pos, Some, None, Option, sym, refl, ap, arith}
use Rattle.std.proofs.lemmas.List.{at_drop_more, at_drop_all}
use Rattle.std.proofs.lemmas.Int.{ints}
use Rattle.std.proofs.lemmas.Bool.Decides.{nat_tests}
use Rattle.std.specs.Bool.{then_some}
use Rattle.std.specs.Option.{option_map}
use Rattle.text.specs.Numeral.{digit, above, below, valued, reads_kept, most, kept}

-- one digit more is read
pub kept_more : (v i : ℕ) (s : List ℕ) → i < length s → reads_kept v (drop i s) ≡ cond (digit (get_or s i 0)) (reads_kept (min (v * 10 + (get_or s i 0 - 48)) most) (drop (i + 1) s)) None
unfolding reads_kept
kept_more v i s h = at_drop_more (reads_kept v) s i 0 h

-- no digit is left
pub kept_end : (v i : ℕ) (s : List ℕ) → length s ≤ i → reads_kept v (drop i s) ≡ Some v
unfolding reads_kept
kept_end v i s h = at_drop_all (reads_kept v) s i h

-- a number is held by its size
pub kept_below : (o : Option ℕ) → option_map kept (below o) ≡ below (option_map (λ n. min n most) o)
unfolding kept below
kept_below None = refl
kept_below (Some zero) = refl
kept_below (Some (suc n)) = let e : min (suc n) most ≡ suc (min n (most - 1)) = omega arith in ap (λ m. below (Some m)) (sym e)

pub kept_pos : (o : Option ℕ) → option_map kept (option_map pos o) ≡ option_map pos (option_map (λ n. min n most) o)
unfolding kept
kept_pos None = refl
kept_pos (Some n) = refl

-- a numeral by its first byte: a minus, a zero alone, or neither
pub at_minus : (s : List ℕ) → 0 < length s → get_or s 0 0 ≡ 45 → option_map kept (valued s) ≡ below (option_map (λ n. min n most) (above (drop 1 s)))
unfolding valued
at_minus [] h e = absurd (omega arith)
at_minus (c ∷ cs) h e = let t : eqb c 45 ≡ true = grind (arith, nat_tests) in rw t (kept_below (above cs))

pub at_nought : (s : List ℕ) → 0 < length s → get_or s 0 0 ≡ 48 → option_map kept (valued s) ≡ then_some (eqb (length (drop 1 s)) 0) (pos 0)
unfolding valued kept
at_nought [] h e = absurd (omega arith)
at_nought (c ∷ []) h e = let f : eqb c 45 ≡ false = grind (arith, nat_tests) in let t : eqb c 48 ≡ true = grind (arith, nat_tests) in rw (f, t) refl
at_nought (c ∷ d ∷ cs) h e =
    let f : eqb c 45 ≡ false = grind (arith, nat_tests) in
    let t : eqb c 48 ≡ true = grind (arith, nat_tests) in
    let g : eqb (suc (length cs)) 0 ≡ false = grind (arith, nat_tests) in
    rw (f, t, g) refl

pub at_other : (s : List ℕ) → (0 < length s → get_or s 0 0 ≡ 45 → ⊥) → (0 < length s → get_or s 0 0 ≡ 48 → ⊥) → option_map kept (valued s) ≡ option_map pos (option_map (λ n. min n most) (above s))
unfolding valued above
at_other [] m z = refl
at_other (c ∷ cs) m z =
    let f : eqb c 45 ≡ false = grind (arith, nat_tests, m (omega arith)) in
    let g : eqb c 48 ≡ false = grind (arith, nat_tests, z (omega arith)) in
    rw (f, g) (kept_pos (above (c ∷ cs)))

-- a number above zero is turned below it
pub turned : (o : Option ℕ) → IfSome (option_map pos o) (λ n. (pos 0 <ℤ n) × (n ≤ℤ pos most)) → option_map (λ z. neg_ℤ z) (option_map pos o) ≡ below o
unfolding below
turned None h = refl
turned (Some zero) h = absurd (omega (arith, ints, h.0))
turned (Some (suc n)) h = refl
