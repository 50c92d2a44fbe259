-- What a recorded bank means.
use Rattle.std.specs.Prelude.{◌≡◌, ℕ, ◌<◌, Bool, cond, ◌&&◌, List, [], ◌∷◌, map, length, drop, None, ◌==◌, nat_le, nat_lt, slice_index_or}
use Rattle.std.specs.List.{list_all}
use Rattle.bank.specs.Skills.{Skill, Take, front, no_take, no_skill}
use Rattle.bank.specs.Timing.{take_of}
use Rattle.bank.specs.declared.parts.GivenTake.{GivenTake}
use Rattle.bank.specs.declared.parts.RecordedSkill.{RecordedSkill}
use Rattle.bank.specs.declared.parts.Recorded.{Recorded}

-- the takes given for skill k, in order, then 0 runs and fail for ever
abbrev pub given_takes : ℕ → List GivenTake → ℕ → Take
given_takes k [] = λ _. no_take
given_takes k (t ∷ rows) = cond (t.skill == k) (front (take_of t.take) (given_takes k rows)) (given_takes k rows)

-- skill k idle, with the takes given for it
abbrev pub given_skill : List GivenTake → ℕ → Skill
given_skill rows k = record { takes = given_takes k rows; given = None }

-- a skill by its first take and the rows from `next` on
abbrev pub recorded_skill : List GivenTake → RecordedSkill → Skill
recorded_skill rows s = record { takes = front (take_of s.first.take) (given_takes s.skill (drop s.next rows)); given = s.first.given }

-- the rows of a bank
abbrev pub rows_of : Recorded → List GivenTake
rows_of b = b.rows.items

-- the skills of a bank, over its rows
abbrev pub recorded_skills : Recorded → List Skill
recorded_skills b = map (recorded_skill (rows_of b)) b.table.items

-- this many skills, each idle with the takes given for it
abbrev pub Holds : ℕ → List GivenTake → List Skill → Type 0
Holds width rows l = (length l ≡ width) × ((k : ℕ) → k < width → slice_index_or l k no_skill ≡ given_skill rows k)

-- every take is given for a skill below the width
abbrev pub all_below : ℕ → List GivenTake → Bool
all_below width rows = list_all (λ t. nat_lt t.skill width) rows

-- at most 64 skills and 1,024 takes, each for one of the skills
abbrev pub recordable : ℕ → List GivenTake → Bool
recordable width rows = nat_le width 64 && (nat_le (length rows) 1024 && all_below width rows)
