-- What a call checks of the named skills, as it is asked of each node.
use Rattle.std.specs.Prelude.{ℕ, Bool, false, List, Some, None, Option}
use Rattle.std.specs.List.{list_any}
use Rattle.mission.specs.Nodes.{skill_of}
use Rattle.mission.specs.declared.node.Node.{Node}

-- a test of the skill that a node names
abbrev pub of_named : (ℕ → Bool) → Option ℕ → Bool
of_named p None = false
of_named p (Some k) = p k

abbrev pub any_named : (ℕ → Bool) → List Node → Bool
any_named p ns = list_any (λ n. of_named p (skill_of n)) ns
