-- How many skill leaves a mission has.
use Rattle.std.specs.Prelude.{ℕ, List, count_by}
use Rattle.std.specs.Option.{is_some}
use Rattle.mission.specs.declared.node.Node.{Node}
use Rattle.mission.specs.Nodes.{skill_of}

abbrev pub skill_count : List Node → ℕ
skill_count ns = count_by (λ n. is_some (skill_of n)) ns
