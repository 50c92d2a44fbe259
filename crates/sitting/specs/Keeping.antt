-- What an executive keeps between the calls of an open sitting.
use Rattle.std.specs.Prelude.{◌≡◌, ℕ, ◌+◌, Bool, length, Option}
use Rattle.mission.specs.Missions.{meaning}
use Rattle.rules.specs.Live.{Live}
use Rattle.rules.specs.Missions.{plan}
use Rattle.rules.specs.Stands.{Stands, Quiet}
use Rattle.rules.specs.Bare.{bare}
use Rattle.sitting.specs.Agreeing.{Named, Holds, LeafFits}
use Rattle.sitting.specs.Desks.{state_of, is_running}
use Rattle.sitting.specs.Reviving.{live_of}
use Rattle.sitting.specs.Ruled.{named}
use Rattle.sitting.specs.Seats.{Seated}
use Rattle.sitting.specs.declared.executive.Executive.{Executive}

-- skill k stands at one place of a live tree, and runs only if it may run there
pub record Placed (k : ℕ) (x : Live) (runs : Bool) : Type 0 where
  pub free : Bool
  pub stands : Stands k free x
  pub quiet : Quiet free runs

-- what an executive remembers is a live tree of its mission, in which each named skill has its place; a
-- running skill holds its device
pub record Kept (e : Executive) : Type 0 where
  pub tree : bare (live_of e) ≡ (plan e.mission).tree
  pub seated : Seated e (LeafFits (named e) (meaning e.mission).counts (meaning e.mission).abilities) (live_of e)
  pub holds : Holds (named e) e.ledger
  pub states : length e.ledger.states ≡ 64
  pub placed : (k : ℕ) (d : Option ℕ) → Named (named e) k d → Placed k (live_of e) (is_running (state_of e.ledger k))

-- one more tick
abbrev pub ticking : Executive → Executive
ticking e = record e { ledger = record e.ledger { tick = e.ledger.tick + 1 } }
