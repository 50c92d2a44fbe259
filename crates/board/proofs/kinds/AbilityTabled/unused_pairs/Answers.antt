use Rattle.std.proofs.Common.{ap, rules, replicate}
use Rattle.entry.proofs.Same.{same_ability}
use Rattle.entry.specs.Abilities.{ability_in}
use Rattle.entry.specs.declared.parts.Ability.{Ability}
use Rattle.board.specs.declared.pair.Pair.{Pair}
use Rattle.board.proofs.kinds.AbilityTabled.unused_pairs.Goals as goal

abbrev empty : Ability → Pair Ability
empty held = record { key = 0; held = held }

pub returns : goal.returns
unfolding ability_in
returns c = ap (λ h. replicate 32 (empty h)) (same_ability c.unwrap-held.result _ (search rules) (search rules))
