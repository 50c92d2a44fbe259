-- What a timed bank means.
use Rattle.std.specs.Prelude.{◌≡◌, List, map, None, Result}
use Rattle.bank.specs.Skills.{Skill, Take, left_by}
use Rattle.bank.specs.declared.bank_fault.BankFault.{BankFault}
use Rattle.bank.specs.declared.parts.Take.{Take as StoredTake}
use Rattle.bank.specs.declared.parts.Timing.{Timing}
use Rattle.bank.specs.declared.parts.FirstTake.{FirstTake}
use Rattle.bank.specs.declared.parts.Timed.{Timed}

-- a take as it is stored
abbrev pub take_of : StoredTake → Take
take_of t = record { runs = t.runs; ending = t.ending }

-- a skill that repeats its first take
abbrev pub timed_skill : FirstTake → Skill
timed_skill s = record { takes = λ _. take_of s.take; given = s.given }

-- a call on a skill in its first take, old before it and new after it: it answered r, as `reply`
-- has it, left what `step` makes of the skill, or the skill as it was where it refused, and the same
-- take
pub record Called {A : Type 0} (reply : Skill → Result A BankFault) (step : Skill → Skill) (r : Result A BankFault) (old new : FirstTake) : Type 0 where
  pub answer : r ≡ reply (timed_skill old)
  pub after : timed_skill new ≡ left_by step r (timed_skill old)
  pub same : new.take ≡ old.take

-- an idle skill that repeats one take
abbrev pub timing_skill : Timing → Skill
timing_skill t = record { takes = λ _. take_of t.take; given = None }

-- the skills of a bank
abbrev pub timed_skills : Timed → List Skill
timed_skills b = map timed_skill b.table.items
