-- A mission as a sitting sees it: its declared numbers and its tree.
use Rattle.std.specs.Prelude.{◌≡◌, ℕ, ◌+◌, length, Option, ◌==◌}
use Rattle.std.specs.Option.{unwrap_or}
use Rattle.mission.specs.declared.mission.Mission.{Mission}
use Rattle.mission.specs.declared.node.GroupKind.TheVariants.{Seq}
use Rattle.mission.specs.Lawful.{Shape}
use Rattle.mission.specs.Missions.{meaning}
use Rattle.mission.specs.Trees.{Leaf, skill, count, ability, Tree, leaf, group, par, neg, again, Trees, nil, cons, tree_of}
use Rattle.rules.specs.Leaves.{users}
use Rattle.rules.specs.Lines.{one}
use Rattle.rules.specs.Regrouping.{Chain}

pub record Plan : Type 0 where
  pub counts : ℕ
  pub abilities : ℕ
  pub tree : Tree

-- the nodes of a mission always make a tree
abbrev pub made : Option Tree → Tree
made o = unwrap_or o (group Seq nil)

abbrev pub plan_of : Shape → Plan
plan_of m = record { counts = m.counts; abilities = m.abilities; tree = made (tree_of m.nodes) }

abbrev pub plan : Mission → Plan
plan m = plan_of (meaning m)

-- how many skill leaves it has
abbrev pub skills : Plan → ℕ
skills p = length (users p.tree)

-- how often a tree names skill k
abbrev pub leaf_names : ℕ → Leaf → ℕ
leaf_names k (skill j device target) = one (j == k)
leaf_names k (count key least) = 0
leaf_names k (ability key least) = 0

abbrev mutual
  pub names : Tree → ℕ → ℕ
  names (leaf l) k = leaf_names k l
  names (group kind ts) k = names_all ts k
  names (par need ts) k = names_all ts k
  names (neg t) k = names t k
  names (again kind times t) k = names t k

  pub names_all : Trees → ℕ → ℕ
  names_all nil k = 0
  names_all (cons t ts) k = names t k + names_all ts k

-- two missions joined by regrouping
pub record Joined (p q : Plan) : Type 0 where
  pub counts : q.counts ≡ p.counts
  pub abilities : q.abilities ≡ p.abilities
  pub chain : Chain p.tree q.tree
