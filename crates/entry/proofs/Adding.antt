-- What taking a mark leaves, from what numbers make an entry.
use Rattle.std.proofs.Common.{◌≡◌, ◌+◌, ◌≤◌, true, false, ◌+ℤ◌, Some, None, Option, sym, refl, ⊎_elim, arith}
use Rattle.std.proofs.lemmas.Int.{ints}
use Rattle.std.proofs.lemmas.Bool.{both_ways, cases_lt}
use Rattle.entry.specs.Kinds.{Count, Mark, whole_in}
use Rattle.entry.specs.declared.parts.Ability.{Ability}
use Rattle.entry.specs.declared.parts.Weighed.{Weighed}
use Rattle.entry.specs.Abilities.{ability_in, ability_takes, gain}
use Rattle.entry.specs.Counts.{count_takes}
use Rattle.entry.specs.Laws.{CountAdds, AbilityAdds}
use Rattle.entry.specs.Products.{product_low, product_high}
use Rattle.entry.specs.Ranges.{is_ability, is_count}
use Rattle.entry.proofs.Holding.{where_none, where_there}
use Rattle.entry.proofs.Making.{ability_is, ability_there, ability_values, count_value}

pub count_adds : (c : Count) (m : Mark) (r : Option Count) → r ≡ count_takes c m → CountAdds c m r
count_adds c m None e = where_none (is_count (c.value +ℤ m.value)) (whole_in 1000000 (c.value +ℤ m.value)) (sym e)
count_adds c m (Some d) e = count_value (c.value +ℤ m.value) d (sym e)

-- the marks stay in range as long as the weight does
abbrev stays : (a : Ability) (s : Weighed) → a.weight + s.weight.value ≤ 1000000 → Ability
stays a s h =
    let low = product_low s.mark.value s.weight.value s.mark.low in
    let high = product_high s.mark.value s.weight.value s.mark.high in
    record {
      marks = a.marks +ℤ gain s;
      weight = a.weight + s.weight.value;
      above = omega arith;
      within = h;
      low = omega (arith, ints);
      high = omega (arith, ints);
    }

pub ability_adds : (a : Ability) (s : Weighed) (r : Option Ability) → r ≡ ability_takes a s → AbilityAdds a s r
ability_adds a s None e =
    let m = a.marks +ℤ gain s in
    let w = a.weight + s.weight.value in
    let out : is_ability m w ≡ false = where_none (is_ability m w) (ability_in m w) (sym e) in
    ⊎_elim (λ more. more) (λ within. absurd (both_ways (is_ability m w) out (ability_is (stays a s within))))
    (cases_lt 1000000 w)
ability_adds a s (Some b) e =
    ability_values (a.marks +ℤ gain s) (a.weight + s.weight.value) b (sym e)

-- one that is not full takes the mark
pub count_grows : (c : Count) (m : Mark) → is_count (c.value +ℤ m.value) ≡ true → (d : Count) × (count_takes c m ≡ Some d) × (d.value ≡ c.value +ℤ m.value)
count_grows c m h =
    let z = c.value +ℤ m.value in
    let there = where_there (is_count z) (whole_in 1000000 z) h in
    (there.0, there.1, count_value z there.0 there.1)

pub ability_grows : (a : Ability) (s : Weighed) → a.weight + s.weight.value ≤ 1000000 → (b : Ability) × (ability_takes a s ≡ Some b) × (b.marks ≡ a.marks +ℤ gain s) × (b.weight ≡ a.weight + s.weight.value)
ability_grows a s h =
    (stays a s h, ability_there (a.marks +ℤ gain s) (a.weight + s.weight.value) (stays a s h) refl refl, refl, refl)
