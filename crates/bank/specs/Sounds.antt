-- Skills read from a table are sound where each is.
use Rattle.std.specs.Prelude.{ℕ, zero, suc, List, [], ◌∷◌, map, slice_index_or}
use Rattle.std.proofs.Common.{rules}
use Rattle.bank.specs.Skills.{Skill, Sound, SoundTake, no_skill}
use Rattle.bank.specs.Timing.{take_of, timed_skill}
use Rattle.bank.specs.declared.parts.Take.{Take as StoredTake}
use Rattle.bank.specs.declared.parts.FirstTake.{FirstTake}

pub no_skill_sound : Sound no_skill
no_skill_sound = (λ _. search rules, search rules)

pub map_sound : {A : Type 0} (f : A → Skill) → ((a : A) → Sound (f a)) → (l : List A) (k : ℕ) → Sound (slice_index_or (map f l) k no_skill)
map_sound f h [] k = no_skill_sound
map_sound f h (a ∷ l) zero = h a
map_sound f h (a ∷ l) (suc k) = map_sound f h l k

pub stored_sound : (t : StoredTake) → SoundTake (take_of t)
stored_sound t = (t.few, t.low, t.high)

pub timed_sound : (s : FirstTake) → Sound (timed_skill s)
timed_sound s = (λ _. stored_sound s.take, s.within)
