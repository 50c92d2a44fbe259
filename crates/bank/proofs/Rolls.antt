-- Calls on a recorded bank, from its table: theorems of it that no function needs, since the calls go
-- by `Slots`.
use Rattle.std.proofs.Common.{◌≡◌, ℕ, ◌<◌, ◌≤◌, map, length, get_or, set, Err, Result, sym, ap, ◌∙◌, arith}
use Rattle.std.proofs.lemmas.List.{get_or-map, length-map, map-set}
use Rattle.bank.specs.declared.bank_fault.BankFault.{BankFault}
use Rattle.bank.specs.declared.bank_fault.BankFault.TheVariants.{Beyond}
use Rattle.bank.specs.declared.parts.Recorded.{Recorded}
use Rattle.bank.specs.declared.parts.RecordedSkill.{RecordedSkill}
use Rattle.bank.specs.Skills.{Skill, asked, no_skill}
use Rattle.bank.specs.Recording.{recorded_skill, recorded_skills, rows_of}
use Rattle.bank.proofs.Calls.{asked_in, asked_out}

module _ (b : Recorded) (k : ℕ) where
  abbrev read : RecordedSkill → Skill
  read = recorded_skill (rows_of b)

  abbrev width : ℕ
  width = length b.table.items

  pub recorded_width : length (recorded_skills b) ≡ width
  recorded_width = length-map b.table.items read

  pub recorded_at : (d : RecordedSkill) → k < width → get_or (recorded_skills b) k no_skill ≡ read (get_or b.table.items k d)
  recorded_at d h = get_or-map read b.table.items k d no_skill h

  pub recorded_out : {A : Type 0} (f : Skill → Result A BankFault) → width ≤ k → Err Beyond ≡ asked f (recorded_skills b) k
  recorded_out f h = sym (asked_out f (recorded_skills b) k (omega (arith, recorded_width)))

  pub recorded_in : {A : Type 0} (f : Skill → Result A BankFault) (r : Result A BankFault) (d : RecordedSkill) → k < width → f (read (get_or b.table.items k d)) ≡ r → r ≡ asked f (recorded_skills b) k
  recorded_in f r d h e = sym e ∙ ap f (sym (recorded_at d h)) ∙ sym (asked_in f (recorded_skills b) k (omega (arith, recorded_width)))

  pub recorded_set : (F : Skill → Skill) (d x : RecordedSkill) → k < width → F (read (get_or b.table.items k d)) ≡ read x
      → map read (set b.table.items k x) ≡ set (recorded_skills b) k (F (get_or (recorded_skills b) k no_skill))
  recorded_set F d x h e = map-set read b.table.items k x ∙ ap (set (recorded_skills b) k) (sym e ∙ ap F (sym (recorded_at d h)))
