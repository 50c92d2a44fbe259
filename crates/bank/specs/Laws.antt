-- What pairs and caps promise of the banks below.
use Rattle.std.specs.Prelude.{◌≡◌, ℕ, false, List, ◌++◌, map, length, ◌≢◌, slice_index_or}
use Rattle.bank.specs.Skills.{Skill, no_skill, runs_now}
use Rattle.bank.specs.Capping.{halted, shortened}

-- no skill runs
abbrev pub AllIdle : List Skill → Type 0
AllIdle l = (k : ℕ) → runs_now (slice_index_or l k no_skill) ≡ false

-- the width and every skill but k are as before
abbrev pub OnlyAt : (k : ℕ) (before after : List Skill) → Type 0
OnlyAt k before after =
    (length after ≡ length before) × ((j : ℕ) → (j ≢ k) → slice_index_or after j no_skill ≡ slice_index_or before j no_skill)

-- a pair means the two meanings one after the other
abbrev pub OneAfterOther : (pair first second : List Skill) → Type 0
OneAfterOther pair first second = pair ≡ first ++ second

-- a cap means what is below, halted, with each take shortened
abbrev pub Shortens : (limit : ℕ) (cap below : List Skill) → Type 0
Shortens limit cap below =
    (cap ≡ map (shortened limit) (map halted below)) × (AllIdle below → cap ≡ map (shortened limit) below)

-- a cap of 60,000 means what is below, halted, and changes no take
abbrev pub ChangesNoTake : (cap below : List Skill) → Type 0
ChangesNoTake cap below = (cap ≡ map halted below) × (AllIdle below → cap ≡ below)
