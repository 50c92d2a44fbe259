-- What taking a mark leaves, number by number.
use Rattle.std.specs.Prelude.{◌≡◌, ◌+◌, ◌<◌, false, ◌+ℤ◌, Option, MatchOption}
use Rattle.entry.specs.Kinds.{Count, Mark}
use Rattle.entry.specs.declared.parts.Ability.{Ability}
use Rattle.entry.specs.declared.parts.Weighed.{Weighed}
use Rattle.entry.specs.Abilities.{gain}
use Rattle.entry.specs.Ranges.{is_count}

-- a count that is not full for a mark grows by exactly the mark, and it is full only where the
-- sum is no count
abbrev pub CountAdds : Count → Mark → Option Count → Type 0
CountAdds c m r =
    MatchOption r (is_count (c.value +ℤ m.value) ≡ false) (λ d. d.value ≡ c.value +ℤ m.value)

-- an ability that is not full for a weighed mark grows by exactly mark × weight over the weight,
-- and it is full only where the weights pass 1,000,000
abbrev pub AbilityAdds : Ability → Weighed → Option Ability → Type 0
AbilityAdds a s r =
    MatchOption r (1000000 < a.weight + s.weight.value)
    (λ b. (b.marks ≡ a.marks +ℤ gain s) × (b.weight ≡ a.weight + s.weight.value))
