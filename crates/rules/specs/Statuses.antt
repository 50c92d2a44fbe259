-- Statuses, each with its number, and what `not` makes of them.
use Rattle.std.specs.Prelude.{ℕ, Bool, true, false}
use Rattle.rules.specs.declared.status.Status.{Status}
use Rattle.rules.specs.declared.status.Status.TheVariants.{Run, Pass, Fail}

abbrev pub number : Status → ℕ
number Run = 0
number Pass = 1
number Fail = 2

-- pass and fail exchanged
abbrev pub exchanged : Status → Status
exchanged Run = Run
exchanged Pass = Fail
exchanged Fail = Pass

abbrev pub is_run : Status → Bool
is_run Run = true
is_run Pass = false
is_run Fail = false

-- a condition passes or fails
abbrev pub verdict_of : Bool → Status
verdict_of true = Pass
verdict_of false = Fail
