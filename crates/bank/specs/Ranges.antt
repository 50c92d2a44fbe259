-- The ranges of runs, marks and runs given.
use Rattle.std.specs.Prelude.{◌≡◌, ℕ, Bool, ◌&&◌, ℤ, pos, negsuc, Some, None, Option, int_le, nat_le}
use Rattle.bank.specs.declared.kinds.Ending.{Ending}
use Rattle.bank.specs.declared.kinds.Ending.TheVariants.{Fail, Pass}

-- the mark of an ending, 0 where it fails
abbrev pub mark_of : Ending → ℤ
mark_of Fail = pos 0
mark_of (Pass m) = m

-- an ending that passes
abbrev pub Passes : Ending → Type 0
Passes e = e ≡ Pass (mark_of e)

-- the runs given, 0 where the skill is idle
abbrev pub given_runs : Option ℕ → ℕ
given_runs None = 0
given_runs (Some g) = g

-- runs and a mark within their ranges, as a test
abbrev pub in_range : ℕ → ℤ → Bool
in_range n m = nat_le n 60000 && (int_le (negsuc 99) m && int_le m (pos 100))
