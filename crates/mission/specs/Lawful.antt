-- What makes a mission's nodes a lawful tree: the conditions of refusals 3 to 7, node by node.
use Rattle.std.specs.Prelude.{◌≡◌, ℕ, suc, ◌<◌, ◌≤◌, ◌⊎◌, List, [], ◌∷◌, length, Some, ◌≢◌}
use Rattle.mission.specs.declared.node.Node.{Node}
use Rattle.mission.specs.declared.node.Node.TheVariants.{Group, Par, Not, Loop, Skill, Count, Ability}
use Rattle.mission.specs.declared.node.Target.{Target}
use Rattle.mission.specs.declared.node.Target.TheVariants.{Nowhere, Count as CountKey, Ability as AbilityKey}
use Rattle.mission.specs.declared.breach.Breach.{Breach}
use Rattle.mission.specs.declared.breach.Breach.TheVariants.{Place, Level, Twice, Key, Need}
use Rattle.mission.specs.Nodes.{skill_of}
use Rattle.mission.specs.Places.{node_at, places}

-- a mission by its two declared numbers and its nodes in preorder
pub record Shape : Type 0 where
  pub counts : ℕ
  pub abilities : ℕ
  pub nodes : List Node

-- each breach of the law has its number among the refusals
abbrev pub number : Breach → ℕ
number Place = 3
number Level = 4
number Twice = 5
number Key = 6
number Need = 7

-- the node finds no open place, or it is the last and places stay open
abbrev pub Unplaced : List Node → ℕ → Type 0
Unplaced ns i = (places ns i ≡ []) ⊎ ((suc i ≡ length ns) × (places ns (suc i) ≢ []))

-- the node's level is beyond 16
abbrev pub Deep : List Node → ℕ → Type 0
Deep ns i = (l : ℕ) × (ls : List ℕ) × (places ns i ≡ l ∷ ls) × (16 < l)

-- the node's skill was named by an earlier node
abbrev pub Again : List Node → ℕ → Type 0
Again ns i = (j : ℕ) × (k : ℕ) × (j < i) × (skill_of (node_at ns j) ≡ Some k) × (skill_of (node_at ns i) ≡ Some k)

-- the key of a target is not below its declared number
abbrev pub TargetBeyond : Shape → Target → Type 0
TargetBeyond m Nowhere = ⊥
TargetBeyond m (CountKey key) = m.counts ≤ key
TargetBeyond m (AbilityKey key weight) = m.abilities ≤ key

-- a key is not below its declared number
abbrev pub Beyond : Shape → Node → Type 0
Beyond m (Group kind kids) = ⊥
Beyond m (Par kids need) = ⊥
Beyond m Not = ⊥
Beyond m (Loop kind times) = ⊥
Beyond m (Skill skill device target) = TargetBeyond m target
Beyond m (Count key least) = m.counts ≤ key
Beyond m (Ability key least) = m.abilities ≤ key

-- a par needs more children than it has
abbrev pub Overneeds : Node → Type 0
Overneeds (Group kind kids) = ⊥
Overneeds (Par kids need) = kids < need
Overneeds Not = ⊥
Overneeds (Loop kind times) = ⊥
Overneeds (Skill skill device target) = ⊥
Overneeds (Count key least) = ⊥
Overneeds (Ability key least) = ⊥

-- node i breaks the law in this way
abbrev pub Breaks : Shape → Breach → ℕ → Type 0
Breaks m Place i = Unplaced m.nodes i
Breaks m Level i = Deep m.nodes i
Breaks m Twice i = Again m.nodes i
Breaks m Key i = Beyond m (node_at m.nodes i)
Breaks m Need i = Overneeds (node_at m.nodes i)

-- a breach at a node comes before another
abbrev pub Before : Breach → ℕ → Breach → ℕ → Type 0
Before c j b i = (j < i) ⊎ ((j ≡ i) × (number c < number b))

-- a lawful tree: no node breaks the law
abbrev pub Lawful : Shape → Type 0
Lawful m = (b : Breach) (i : ℕ) → i < length m.nodes → Breaks m b i → ⊥

-- the first breach: lowest node first, on one node lowest number first
abbrev pub First : Shape → Breach → ℕ → Type 0
First m b i = (i < length m.nodes) × Breaks m b i × ((c : Breach) (j : ℕ) → Before c j b i → Breaks m c j → ⊥)

-- no node before node i breaks the law
abbrev pub Sound : Shape → ℕ → Type 0
Sound m i = (b : Breach) (j : ℕ) → j < i → Breaks m b j → ⊥
