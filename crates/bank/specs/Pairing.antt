-- What a pair of banks means.
use Rattle.std.specs.Prelude.{ℕ, ◌-◌, cond, List, ◌++◌, Some, None, Option, nat_lt}
use Rattle.bank.specs.Skills.{Skill}

-- the skills of the second after those of the first
abbrev pub paired : List Skill → List Skill → List Skill
paired first second = first ++ second

-- the number of skill k in the second bank, or none where the first, with n skills, has it
abbrev pub in_second : ℕ → ℕ → Option ℕ
in_second n k = cond (nat_lt k n) None (Some (k - n))
