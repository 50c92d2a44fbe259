-- A mark is the one mark of its number.
use Rattle.std.proofs.Common.{◌≡◌, ℕ, true, T, ℤ, Some, refl, arith}
use Rattle.std.proofs.lemmas.Int.{ints}
use Rattle.entry.specs.Kinds.{Mark, whole_in}
use Rattle.entry.specs.Ranges.{within}
use Rattle.entry.proofs.Holding.{where_holds}
use Rattle.entry.proofs.Same.{same_whole}
use Rattle.rules.specs.Leaves.{mark_of}

whole_in_is : (m : ℕ) (z : ℤ) (t : T (within m z)) → (whole_in m z t).value ≡ z
unfolding whole_in
whole_in_is m z t = refl

pub mark_there : (m : Mark) → mark_of m.value ≡ Some m
mark_there m =
    let h : within 100 m.value ≡ true = grind (arith, ints) in
    where_holds (within 100 m.value) (whole_in 100 m.value) m h (λ t. same_whole (whole_in 100 m.value t) m (whole_in_is 100 m.value t))
