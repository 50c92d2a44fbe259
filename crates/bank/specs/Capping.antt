-- What a cap over a bank means.
use Rattle.std.specs.Prelude.{ℕ, suc, ◌+◌, ◌-◌, cond, List, [], ◌∷◌, Some, None, Option, nat_lt}
use Rattle.bank.specs.Skills.{Skill, Take, front, runs_now, struck}
use Rattle.bank.specs.declared.kinds.Ending.{Ending}
use Rattle.bank.specs.declared.kinds.Ending.TheVariants.{Fail}

-- a longer take becomes one of just that many runs and fail
abbrev pub capped_take : ℕ → Take → Take
capped_take limit t = cond (nat_lt limit t.runs) (record { runs = limit; ending = Fail }) t

-- the take that a skill is in, with own runs given and left to come below
abbrev pub capped_first : ℕ → ℕ → ℕ → Ending → Take
capped_first limit own left e = cond (nat_lt (limit - own) left) (record { runs = own + (limit - own); ending = Fail }) (record { runs = own + left; ending = e })

-- a skill under a cap, by the runs given below
abbrev pub capped_at : ℕ → ℕ → Option ℕ → Skill → Skill
capped_at limit own None s = record { takes = λ n. capped_take limit (s.takes n); given = None }
capped_at limit own (Some g) s = record {
  takes = front (capped_first limit own ((s.takes 0).runs - g) (s.takes 0).ending) (λ n. capped_take limit (s.takes (suc n)));
  given = Some own;
}

-- a skill under a cap with own runs given
abbrev pub capped : ℕ → ℕ → Skill → Skill
capped limit own s = capped_at limit own s.given s

-- the skills under a cap, each with its own runs given
abbrev pub capped_skills : ℕ → List ℕ → List Skill → List Skill
capped_skills limit owns [] = []
capped_skills limit [] (s ∷ l) = capped limit 0 s ∷ capped_skills limit [] l
capped_skills limit (o ∷ owns) (s ∷ l) = capped limit o s ∷ capped_skills limit owns l

-- each take shortened
abbrev pub shortened : ℕ → Skill → Skill
shortened limit s = record { takes = λ n. capped_take limit (s.takes n); given = s.given }

-- a skill halted where it runs
abbrev pub halted : Skill → Skill
halted s = cond (runs_now s) (struck s) s
