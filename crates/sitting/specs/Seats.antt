-- A sitting that remembers a live tree: the tree stands in its tables.
use Rattle.std.specs.Prelude.{◌≡◌, ℕ, suc, ◌+◌, ◌<◌, ◌≤◌, List, length, slice_index_or}
use Rattle.mission.specs.Missions.{meaning}
use Rattle.mission.specs.Places.{node_at}
use Rattle.mission.specs.Trees.{Leaf, leaf_node}
use Rattle.mission.specs.declared.node.Node.{Node}
use Rattle.mission.specs.declared.node.Node.TheVariants.{Group, Par, Not, Loop}
use Rattle.rules.specs.Live.{Live, live_leaf, live_group, live_par, live_not, live_loop, Kids, no_kids, kid}
use Rattle.rules.specs.Visiting.{size}
use Rattle.rules.specs.Bare.{kind_of, loop_of}
use Rattle.sitting.specs.Cells.{marks, group_cell, results_cell, loop_cell}
use Rattle.sitting.specs.Tidy.{Tidy}
use Rattle.sitting.specs.Zipper.{nodes, nodes_in, depth}
use Rattle.sitting.specs.declared.memory.Memory.{Memory}
use Rattle.sitting.specs.declared.memory.Memory.TheVariants.{Nothing}
use Rattle.sitting.specs.declared.executive.Executive.{Executive}

abbrev pub cell_at : List Memory → ℕ → Memory
cell_at ms k = slice_index_or ms k Nothing

module _ (s : Executive) where
  -- at place i stands this node, which ends before place e, and remembers m
  pub record At (ms : List Memory) (i : ℕ) (n : Node) (e : ℕ) (m : Memory) : Type 0 where
    pub room : i < 256
    pub within : e ≤ 256
    pub node : node_at (meaning s.mission).nodes i ≡ n
    pub ends : slice_index_or s.ends i 0 ≡ e
    pub cell : cell_at ms i ≡ m

module _ (s : Executive) (P : Leaf → Type 0) where
  -- a live tree stands from place i on; each of its leaves has P, and its pars and loops are within bounds
  abbrev mutual
    pub Laid : List Memory → ℕ → Live → Type 0
    Laid ms i (live_leaf l) = At s ms i (leaf_node l) (i + 1) Nothing × P l
    Laid ms i (live_group p m ks) = At s ms i (Group (kind_of p m) (size ks)) (i + suc (nodes_in ks)) (group_cell m ks) × LaidIn ms (suc i) ks
    Laid ms i (live_par n ks) = At s ms i (Par (size ks) n) (i + suc (nodes_in ks)) (results_cell (marks ks)) × (size ks ≤ 32) × LaidIn ms (suc i) ks
    Laid ms i (live_not x) = At s ms i Not (i + suc (nodes x)) Nothing × Laid ms (suc i) x
    Laid ms i (live_loop p times n x) = At s ms i (Loop (loop_of p) times) (i + suc (nodes x)) (loop_cell n) × (times ≤ 60000) × (n ≤ 60000) × Laid ms (suc i) x

    pub LaidIn : List Memory → ℕ → Kids → Type 0
    LaidIn ms i no_kids = Unit {0}
    LaidIn ms i (kid r x ks) = Laid ms i x × LaidIn ms (i + nodes x) ks

  -- the whole of it, from place 0 on
  pub record Seated (x : Live) : Type 0 where
    pub tidy : Tidy x
    pub shallow : depth x ≤ 16
    pub laid : Laid s.memories 0 x
    pub long : length s.memories ≡ 256
