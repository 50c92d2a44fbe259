-- A visit and a halt of the root, as the rules have them.
use Rattle.std.specs.Prelude.{◌≡◌, ℕ, List, [], length, Ok, Result}
use Rattle.bank.specs.Skills.{Skill}
use Rattle.rules.specs.declared.line.Line.{Line}
use Rattle.rules.specs.declared.sitting_fault.SittingFault.{SittingFault}
use Rattle.rules.specs.declared.status.Status.{Status}
use Rattle.rules.specs.Leaves.{World, Users, users, in_tick}
use Rattle.rules.specs.Live.{Live, cleared}
use Rattle.rules.specs.Missions.{plan}
use Rattle.rules.specs.Visiting.{gives, visit, halt}
use Rattle.rules.specs.Bare.{bare}
use Rattle.sitting.specs.Agreeing.{Holds, SameSizes, Agrees, Works, LeafFits}
use Rattle.sitting.specs.Desks.{Bench, bench, Boards}
use Rattle.sitting.specs.Entering.{entered_in, Rising}
use Rattle.sitting.specs.Seats.{Seated}
use Rattle.sitting.specs.Turns.{stage, visited}
use Rattle.sitting.specs.declared.executive.Executive.{Executive}
use Rattle.sitting.specs.declared.frame.Frame.{Frame}
use Rattle.sitting.specs.declared.turn.Turn.TheVariants.{Enter}

-- the named skills of a sitting's mission
abbrev pub named : Executive → Users
named s = users (plan s.mission).tree

-- how a world of the rules agrees with what a sitting was lent, by the named skills
abbrev pub Agreement : Type 1
Agreement = Users → World → Bench → Boards → Type 0

-- the sitting remembers this live tree of its mission, and what it was lent agrees with this world
pub record Sits (R : Agreement) (s : Executive) (x : Live) (w : World) (bank : List Skill) (boards : Boards) (rows : List Line) : Type 0 where
  pub tree : bare x ≡ (plan s.mission).tree
  pub seated : Seated s (LeafFits (named s) (length w.counts) (length w.abilities)) x
  pub agrees : R (named s) w (bench bank rows s.ledger) boards

-- the mission and its tables stay
pub record SameMission (s z : Executive) : Type 0 where
  pub mission : z.mission ≡ s.mission
  pub ends : z.ends ≡ s.ends

-- a visit gives what the rules give: the status, what is remembered, and the world
pub record Visited (t : ℕ) (R : Agreement) (s : Executive) (x : Live) (w : World) (r : Result Status SittingFault) (z : Executive) (bank : List Skill) (boards : Boards) (rows : List Line) : Type 0 where
  pub status : Status
  pub world : World
  pub front : List ℕ
  pub live : Live
  pub gives_this : visit (in_tick (named s) t) x w ≡ gives status world front live
  pub answer : r ≡ Ok status
  pub sits : Sits R z live world bank boards rows
  pub same : SameMission s z
  pub sizes : SameSizes w world

abbrev pub VisitsByTheRules : Executive → List Skill → Boards → List Line → Result Status SittingFault → Executive → List Skill → Boards → List Line → Type 0
VisitsByTheRules s bank boards rows r z bank_after boards_after rows_after =
    (t : ℕ) (base : List Line) (x : Live) (w : World) → Sits (λ us. Works us t base) s x w bank boards rows →
    Visited t (λ us. Works us t base) s x w r z bank_after boards_after rows_after

-- In one visit each node is entered at most once, in preorder: the visit leaves what its turns leave, and the
-- places that these turns enter rise.
pub record EntersOnce (s : Executive) (bank : List Skill) (boards : Boards) (rows : List Line) (r : Result Status SittingFault) (z : Executive) (bank_after : List Skill) (boards_after : Boards) (rows_after : List Line) : Type 0 where
  pub stack : List Frame
  pub turns : (r, stage z stack bank_after boards_after rows_after) ≡ visited 1024 (Enter 0) (stage s [] bank boards rows)
  pub rising : (t : ℕ) (base : List Line) (x : Live) (w : World) → Sits (λ us. Works us t base) s x w bank boards rows → Rising 0 (entered_in 1024 (Enter 0) (stage s [] bank boards rows))

-- a halt of the root leaves what the rules leave
pub record Halted (t : ℕ) (R : Agreement) (s : Executive) (x : Live) (w : World) (r : Result Unit SittingFault) (z : Executive) (bank : List Skill) (boards : Boards) (rows : List Line) : Type 0 where
  pub answer : r ≡ Ok tt
  pub sits : Sits R z (cleared x) (halt (in_tick (named s) t) x w) bank boards rows
  pub same : SameMission s z
  pub sizes : SameSizes w (halt (in_tick (named s) t) x w)

abbrev pub HaltsByTheRules : (ℕ → List Line → Agreement) → Executive → List Skill → List Line → Result Unit SittingFault → Executive → List Skill → List Line → Type 0
HaltsByTheRules R s bank rows r z bank_after rows_after =
    (t : ℕ) (base : List Line) (x : Live) (w : World) (boards : Boards) → Sits (R t base) s x w bank boards rows →
    Halted t (R t base) s x w r z bank_after boards rows_after

-- what a halt asks, alone and with what visits need of the holders, and what a visit asks
abbrev pub agreeing : ℕ → List Line → Agreement
agreeing t base us = Agrees us t base

abbrev pub holding : ℕ → List Line → Agreement
holding t base us w b s = Agrees us t base w b s × Holds us b.ledger

abbrev pub working : ℕ → List Line → Agreement
working t base us = Works us t base
