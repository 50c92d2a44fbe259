-- The running front that an executive's ledger tells.
use Rattle.std.specs.Prelude.{ℕ, List, map}
use Rattle.std.specs.List.{filter}
use Rattle.rules.specs.Leaves.{Users}
use Rattle.sitting.specs.Desks.{state_of, is_running}
use Rattle.sitting.specs.Ruled.{named}
use Rattle.sitting.specs.declared.ledger.Ledger.{Ledger}
use Rattle.sitting.specs.declared.executive.Executive.{Executive}

-- the named skills whose leaf runs, in tree order
abbrev pub running : Users → Ledger → List ℕ
running us l = filter (λ k. is_running (state_of l k)) (map (λ u. u.0) us)

abbrev pub front_of : Executive → List ℕ
front_of e = running (named e) e.ledger
