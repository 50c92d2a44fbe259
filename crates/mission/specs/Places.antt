-- Open places: a mission begins with one at level 1; each node takes the first open place, and opens one for each of
-- its children, a level below.
use Rattle.std.specs.Prelude.{ℕ, zero, suc, List, [], ◌∷◌, ◌++◌, replicate, slice_index_or}
use Rattle.mission.specs.declared.node.Node.{Node}
use Rattle.mission.specs.declared.node.Node.TheVariants.{Not}
use Rattle.mission.specs.Nodes.{arity}

-- node i, from 0
abbrev pub node_at : List Node → ℕ → Node
node_at ns i = slice_index_or ns i Not

-- the open places after a node, by their levels, the next to be taken first
abbrev pub taken : List ℕ → Node → List ℕ
taken [] n = []
taken (l ∷ ls) n = replicate (arity n) (suc l) ++ ls

-- the open places when i nodes stand
unfoldable pub places : List Node → ℕ → List ℕ
places ns zero = 1 ∷ []
places ns (suc i) = taken (places ns i) (node_at ns i)
