-- The halting walk over a range of places: memory is cleared and running skills are halted, in order.
use Rattle.std.specs.Prelude.{ℕ, zero, suc, ◌+◌, ◌-◌, List, Ok, Err, Result}
use Rattle.bank.specs.Skills.{Skill}
use Rattle.mission.specs.Missions.{meaning}
use Rattle.mission.specs.Places.{node_at}
use Rattle.mission.specs.declared.node.Node.{Node}
use Rattle.mission.specs.declared.node.Node.TheVariants.{Group, Par, Not, Loop, Skill as ASkill, Count, Ability}
use Rattle.rules.specs.declared.line.Line.{Line}
use Rattle.rules.specs.declared.sitting_fault.SittingFault.{SittingFault}
use Rattle.sitting.specs.Acts.{stop_skill}
use Rattle.sitting.specs.Desks.{Bench, bench}
use Rattle.sitting.specs.Tables.{with_memory}
use Rattle.sitting.specs.declared.memory.Memory.TheVariants.{Nothing}
use Rattle.sitting.specs.declared.executive.Executive.{Executive}

-- a sitting with the bank and the trace that it was lent
pub record Desk : Type 0 where
  pub sitting : Executive
  pub bank : List Skill
  pub rows : List Line

abbrev pub desk : Executive → List Skill → List Line → Desk
desk s bank rows = record { sitting = s; bank = bank; rows = rows }

abbrev pub bench_of : Desk → Bench
bench_of d = bench d.bank d.rows d.sitting.ledger

abbrev pub on_bench : Desk → Bench → Desk
on_bench d b = desk (record d.sitting { ledger = b.ledger }) b.bank b.rows

abbrev pub remembering : Desk → ℕ → Desk
remembering d i = desk (with_memory d.sitting i Nothing) d.bank d.rows

abbrev pub Halted : Type 0
Halted = Result Unit SittingFault × Desk

abbrev pub bench_halted : Desk → Result Unit SittingFault × Bench → Halted
bench_halted d r = (r.0, on_bench d r.1)

abbrev pub halt_node : Node → Desk → Halted
halt_node (ASkill k device target) d = bench_halted d (stop_skill k (bench_of d))
halt_node (Group kind kids) d = (Ok tt, d)
halt_node (Par kids need) d = (Ok tt, d)
halt_node Not d = (Ok tt, d)
halt_node (Loop kind times) d = (Ok tt, d)
halt_node (Count key least) d = (Ok tt, d)
halt_node (Ability key least) d = (Ok tt, d)

abbrev pub halt_at : ℕ → Desk → Halted
halt_at i d = halt_node (node_at (meaning d.sitting.mission).nodes i) (remembering d i)

-- what follows a walk, unless a fault ended it
abbrev pub go_on : Halted → (Desk → Halted) → Halted
go_on (Ok u, d) f = f d
go_on (Err fault, d) f = (Err fault, d)

-- n places from i on
unfoldable pub halt_places : ℕ → ℕ → Desk → Halted
halt_places zero i d = (Ok tt, d)
halt_places (suc n) i d = go_on (halt_at i d) (halt_places n (i + 1))

abbrev pub halt_range : ℕ → ℕ → Desk → Halted
halt_range from to d = halt_places (to - from) from d
