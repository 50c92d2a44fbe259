-- What the tree reader keeps, and what it answers.
use Rattle.std.specs.Prelude.{◌≡◌, ℕ, ◌+◌, ◌<◌, ◌≤◌, List, ◌++◌, drop, replicate, Ok, Err, Result}
use Rattle.mission.specs.declared.breach.Breach.{Breach}
use Rattle.mission.specs.declared.tree_fault.TreeFault.{TreeFault}
use Rattle.mission.specs.declared.tree_fault.TreeFault.TheVariants.{Line, Node as AtNode}
use Rattle.mission.specs.declared.node.Node.{Node}
use Rattle.mission.specs.Lawful.{Shape, Breaks, First, number}
use Rattle.mission.specs.Places.{places}

-- node i breaks no law
abbrev pub Unbroken : Shape → ℕ → Type 0
Unbroken m i = (b : Breach) → Breaks m b i → ⊥

-- a node is judged: it breaks no law, or this is the lowest number that it breaks
abbrev pub Judged : Shape → ℕ → Result (Unit {0}) Breach → Type 0
Judged m i (Ok u) = Unbroken m i
Judged m i (Err b) = Breaks m b i × ((c : Breach) → number c < number b → Breaks m c i → ⊥)

-- the next `kids` open places are at this level
pub record Next (ns : List Node) (at kids level : ℕ) : Type 0 where
  pub first : places ns at ≡ replicate kids level ++ drop kids (places ns at)

-- the nodes from `at` to `end` fill the next `kids` open places
pub record Filled (ns : List Node) (at kids end : ℕ) : Type 0 where
  pub on : at ≤ end
  pub left : places ns end ≡ drop kids (places ns at)

-- a refusal of the tree layer is the first breach, with the line of its node: the nodes begin on line 5
abbrev pub Refused : Shape → TreeFault → Type 0
Refused m (Line f) = ⊥
Refused m (AtNode b line) = (i : ℕ) × (line ≡ i + 5) × First m b i
