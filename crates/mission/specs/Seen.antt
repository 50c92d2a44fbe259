-- Which skills the first nodes name, as a row of 64 answers.
use Rattle.std.specs.Prelude.{ℕ, zero, suc, Bool, true, false, List, replicate, Some, None, Option, slice_index_or, slice_set}
use Rattle.mission.specs.declared.node.Node.{Node}
use Rattle.mission.specs.Nodes.{skill_of}
use Rattle.mission.specs.Places.{node_at}

abbrev pub noted : List Bool → Option ℕ → List Bool
noted row None = row
noted row (Some k) = slice_set row k true

-- the row after i nodes
unfoldable pub row : List Node → ℕ → List Bool
row ns zero = replicate 64 false
row ns (suc i) = noted (row ns i) (skill_of (node_at ns i))

-- does the row have this skill
abbrev pub noted_in : List Bool → Option ℕ → Bool
noted_in seen None = false
noted_in seen (Some k) = slice_index_or seen k false
