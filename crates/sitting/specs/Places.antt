-- The place that a sitting stands at, as the rules have it, and what it keeps between its calls.
use Rattle.std.specs.Prelude.{◌≡◌, ℕ, Bool, true, false}
use Rattle.rules.specs.Sittings.{Sitting, Place, shut, held}
use Rattle.sitting.specs.Keeping.{Kept}
use Rattle.sitting.specs.Opened.{sitting_of, Roomy, Timely}
use Rattle.sitting.specs.declared.executive.Executive.{Executive}

-- what stands at a place
pub record Seat : Type 0 where
  pub is_open : Bool
  pub executive : Executive
  pub number : ℕ
  pub length : ℕ

abbrev pub held_if : Bool → Sitting → Place
held_if true o = held o
held_if false o = shut

abbrev pub place_of : Seat → Place
place_of s = held_if s.is_open (sitting_of s.executive s.number s.length)

-- what an executive remembers is a live tree of its mission; while a sitting is open the lines are free
-- that its close writes; and each tick has a line of its own
pub record Keeps (s : Seat) : Type 0 where
  pub kept : Kept s.executive
  pub room : s.is_open ≡ true → Roomy s.length s.executive
  pub timely : Timely s.executive
