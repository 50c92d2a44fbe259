-- What a recorded bank means is sound.
use Rattle.std.specs.Prelude.{ℕ, zero, suc, List, [], ◌∷◌, drop, ◌==◌}
use Rattle.std.proofs.lemmas.Bool.{cond_both}
use Rattle.bank.specs.Skills.{Take, Sound, SoundTake, front}
use Rattle.bank.specs.declared.parts.GivenTake.{GivenTake}
use Rattle.bank.specs.declared.parts.RecordedSkill.{RecordedSkill}
use Rattle.bank.specs.Recording.{given_takes, recorded_skill}
use Rattle.bank.specs.Sounds.{no_skill_sound, stored_sound}
use Rattle.bank.specs.Timing.{take_of}

abbrev AllSound : (ℕ → Take) → Type 0
AllSound f = (n : ℕ) → SoundTake (f n)

front_sound : (t : Take) (f : ℕ → Take) → SoundTake t → AllSound f → AllSound (front t f)
front_sound t f h g zero = h
front_sound t f h g (suc n) = g n

given_sound : (k : ℕ) (rows : List GivenTake) → AllSound (given_takes k rows)
given_sound k [] = no_skill_sound.0
given_sound k (t ∷ rows) =
    cond_both (t.skill == k) _ _ AllSound
    (λ _. front_sound (take_of t.take) (given_takes k rows) (stored_sound t.take) (given_sound k rows))
    (λ _. given_sound k rows)

pub recorded_sound : (rows : List GivenTake) (s : RecordedSkill) → Sound (recorded_skill rows s)
recorded_sound rows s = (front_sound (take_of s.first.take) _ (stored_sound s.first.take) (given_sound s.skill (drop s.next rows)), s.first.within)
