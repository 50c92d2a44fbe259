-- Where the tree reader stands in its outline, and what it has read since.
use Rattle.std.specs.Prelude.{◌≡◌, ℕ, Result, MatchResult}
use Rattle.mission.specs.declared.node.Node.{Node}
use Rattle.mission.specs.declared.tree.Reader.{Reader}
use Rattle.mission.specs.declared.tree_fault.TreeFault.{TreeFault}
use Rattle.mission.specs.Judging.{Next, Filled, Refused}
use Rattle.mission.specs.Lawful.{Shape}
use Rattle.mission.specs.Places.{node_at}
use Rattle.mission.specs.Shapes.{shape}

-- what its outline means
abbrev pub outlined : Reader → Shape
outlined r = shape r.outline.now

-- the node that it comes to
abbrev pub next_node : Reader → Node
next_node r = node_at (shape r.outline.now).nodes r.at

-- the next `kids` open places are at this level
abbrev pub Opens : Reader → ℕ → ℕ → Type 0
Opens r kids level = Next (shape r.outline.now).nodes r.at kids level

-- it has read on in the same outline: the nodes that it has read since fill the next `kids` open places, or the
-- outline is refused
pub record Reads (r : Reader) (kids : ℕ) (s : Reader) (result : Result (Unit {0}) TreeFault) : Type 0 where
  pub outline : s.outline.now ≡ r.outline.now
  pub outcome : MatchResult result (λ _. Filled (outlined r).nodes r.at kids s.at) (λ e. Refused (outlined r) e)
