-- Missions as trees: what nodes in preorder mean.
use Rattle.std.specs.Prelude.{◌≡◌, ℕ, zero, suc, ◌<◌, List, [], ◌∷◌, ◌++◌, Some, None, Option}
use Rattle.std.specs.Option.{option_map}
use Rattle.text.specs.Fields.{then}
use Rattle.entry.specs.declared.parts.CountThreshold.{CountThreshold}
use Rattle.entry.specs.declared.parts.AbilityThreshold.{AbilityThreshold}
use Rattle.mission.specs.declared.node.GroupKind.{GroupKind}
use Rattle.mission.specs.declared.node.LoopKind.{LoopKind}
use Rattle.mission.specs.declared.node.Target.{Target}
use Rattle.mission.specs.declared.node.Node.{Node}
use Rattle.mission.specs.declared.node.Node.TheVariants.{Group, Par, Not, Loop, Skill, Count, Ability}

-- a leaf: a skill with its device and where its mark goes, or a condition on a count or an ability
pub data Leaf : Type 0 where
  skill : ℕ → Option ℕ → Target → Leaf
  count : ℕ → CountThreshold → Leaf
  ability : ℕ → AbilityThreshold → Leaf

mutual
  pub data Tree : Type 0 where
    leaf : Leaf → Tree
    group : GroupKind → Trees → Tree
    par : ℕ → Trees → Tree
    neg : Tree → Tree
    again : LoopKind → ℕ → Tree → Tree

  pub data Trees : Type 0 where
    nil : Trees
    cons : Tree → Trees → Trees

-- how many trees
abbrev pub width : Trees → ℕ
width nil = 0
width (cons t ts) = suc (width ts)

abbrev pub leaf_node : Leaf → Node
leaf_node (skill k device target) = Skill k device target
leaf_node (count key least) = Count key least
leaf_node (ability key least) = Ability key least

-- the nodes of a tree in preorder
abbrev mutual
  pub flatten : Tree → List Node
  flatten (leaf l) = leaf_node l ∷ []
  flatten (group kind ts) = Group kind (width ts) ∷ flattens ts
  flatten (par need ts) = Par (width ts) need ∷ flattens ts
  flatten (neg t) = Not ∷ flatten t
  flatten (again kind times t) = Loop kind times ∷ flatten t

  pub flattens : Trees → List Node
  flattens nil = []
  flattens (cons t ts) = flatten t ++ flattens ts

-- every group and par has a child
abbrev mutual
  pub Populated : Tree → Type 0
  Populated (leaf l) = Unit {0}
  Populated (group kind ts) = (0 < width ts) × AllPopulated ts
  Populated (par need ts) = (0 < width ts) × AllPopulated ts
  Populated (neg t) = Populated t
  Populated (again kind times t) = Populated t

  pub AllPopulated : Trees → Type 0
  AllPopulated nil = Unit {0}
  AllPopulated (cons t ts) = Populated t × AllPopulated ts

-- the first n trees, and the others
abbrev pub split : ℕ → Trees → Option (Trees × Trees)
split zero ts = Some (nil, ts)
split (suc n) nil = None
split (suc n) (cons t ts) = option_map (λ p. (cons t p.0, p.1)) (split n ts)

abbrev pub on_first : (Tree → Tree) → Trees → Option Trees
on_first f nil = None
on_first f (cons t ts) = Some (cons (f t) ts)

-- a node takes its children from the trees that follow it
abbrev pub plant : Node → Trees → Option Trees
plant (Group kind kids) ts = option_map (λ p. cons (group kind p.0) p.1) (split kids ts)
plant (Par kids need) ts = option_map (λ p. cons (par need p.0) p.1) (split kids ts)
plant Not ts = on_first neg ts
plant (Loop kind times) ts = on_first (again kind times) ts
plant (Skill k device target) ts = Some (cons (leaf (skill k device target)) ts)
plant (Count key least) ts = Some (cons (leaf (count key least)) ts)
plant (Ability key least) ts = Some (cons (leaf (ability key least)) ts)

-- the trees that nodes in preorder make, read from the last
abbrev pub grown : List Node → Option Trees
grown [] = Some nil
grown (n ∷ ns) = then (grown ns) (plant n)

abbrev pub only : Trees → Option Tree
only nil = None
only (cons t nil) = Some t
only (cons t (cons u us)) = None

-- the one tree that nodes in preorder make
abbrev pub tree_of : List Node → Option Tree
tree_of ns = then (grown ns) only

-- nodes that mean one tree, each of whose groups has a child
pub record Means (ns : List Node) : Type 0 where
  pub tree : Tree
  pub read : tree_of ns ≡ Some tree
  pub written : flatten tree ≡ ns
  pub populated : Populated tree

-- flattening and reading back are inverse
pub record Inverse : Type 0 where
  pub back : (t : Tree) → tree_of (flatten t) ≡ Some t
  pub forth : (ns : List Node) (t : Tree) → tree_of ns ≡ Some t → flatten t ≡ ns
