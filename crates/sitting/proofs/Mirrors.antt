-- A world of the rules beside the bench and the boards that a sitting works on.
use Rattle.std.proofs.Common.{◌≡◌, ℕ, Ok, Option}
use Rattle.entry.specs.declared.parts.CountThreshold.{CountThreshold}
use Rattle.entry.specs.declared.parts.AbilityThreshold.{AbilityThreshold}
use Rattle.entry.specs.Abilities.{ability_meets}
use Rattle.entry.specs.Counts.{count_meets}
use Rattle.board.specs.Entering.{held_to}
use Rattle.board.specs.Meaning.{at}
use Rattle.mission.specs.declared.node.Target.{Target}
use Rattle.mission.specs.Trees.{Leaf, skill, count, ability}
use Rattle.rules.specs.Statuses.{verdict_of}
use Rattle.rules.specs.Visiting.{Actions}
use Rattle.sitting.specs.Acts.{visit_skill, stop_skill}
use Rattle.sitting.specs.Desks.{Bench, Boards}

module _ (A : Actions) (R : A.World → Bench → Boards → Type 0) where
  -- a skill leaf is visited in both
  pub record Polled (k : ℕ) (device : Option ℕ) (target : Target) (w : A.World) (b : Bench) (t : Boards) : Type 0 where
    pub bench : Bench
    pub boards : Boards
    pub does : visit_skill k device target b t ≡ (Ok (A.visit_leaf (skill k device target) w).0, bench, boards)
    pub holds : R (A.visit_leaf (skill k device target) w).1 bench boards

  -- and stopped
  pub record Stopped (k : ℕ) (device : Option ℕ) (target : Target) (w : A.World) (b : Bench) (t : Boards) : Type 0 where
    pub bench : Bench
    pub does : stop_skill k b ≡ (Ok tt, bench)
    pub holds : R (A.stop_leaf (skill k device target) w) bench t

  -- the leaves with P stop alike in both
  pub record StopsAlike (P : Leaf → Type 0) : Type 0 where
    pub skills : (k : ℕ) (device : Option ℕ) (target : Target) (w : A.World) (b : Bench) (t : Boards) → P (skill k device target) → R w b t → Stopped k device target w b t
    pub counts : (key : ℕ) (least : CountThreshold) (w : A.World) → A.stop_leaf (count key least) w ≡ w
    pub abilities : (key : ℕ) (least : AbilityThreshold) (w : A.World) → A.stop_leaf (ability key least) w ≡ w

  -- and are visited alike
  pub record Mirrors (P : Leaf → Type 0) : Type 0 where
    pub skills : (k : ℕ) (device : Option ℕ) (target : Target) (w : A.World) (b : Bench) (t : Boards) → P (skill k device target) → R w b t → Polled k device target w b t
    pub counts : (key : ℕ) (least : CountThreshold) (w : A.World) (b : Bench) (t : Boards) → P (count key least) → R w b t →
        A.visit_leaf (count key least) w ≡ (verdict_of (held_to count_meets (at t.0 key) least), w)
    pub abilities : (key : ℕ) (least : AbilityThreshold) (w : A.World) (b : Bench) (t : Boards) → P (ability key least) → R w b t →
        A.visit_leaf (ability key least) w ≡ (verdict_of (held_to ability_meets (at t.1 key) least), w)
    pub stops : StopsAlike P
