-- A lawful mission names each skill at most once.
use Rattle.std.proofs.Common.{◌≡◌, ℕ, suc, ◌+◌, ◌<◌, ◌≤◌, Bool, true, false, eqb, List, [], ◌∷◌, ◌++◌, length, Some, None, Option, sym, refl, ap, ◌∙◌, arith, eqb-true}
use Rattle.mission.specs.declared.breach.Breach.TheVariants.{Twice}
use Rattle.mission.specs.declared.mission.Mission.{Mission}
use Rattle.mission.specs.declared.node.Node.{Node}
use Rattle.mission.specs.Lawful.{Shape, Lawful}
use Rattle.mission.specs.Missions.{meaning}
use Rattle.mission.specs.Nodes.{skill_of}
use Rattle.mission.specs.Places.{node_at}
use Rattle.mission.specs.Shapes.{shape}
use Rattle.mission.specs.Trees.{Leaf, skill, count, ability, Tree, leaf, group, par, neg, again, Trees, nil, cons, leaf_node, flatten, flattens, Means}
use Rattle.mission.proofs.Growing.{means}
use Rattle.mission.proofs.Runs.{shape_long}
use Rattle.rules.specs.Lines.{one}
use Rattle.rules.specs.Missions.{made, plan, leaf_names, names, names_all}

-- how many nodes name skill k

abbrev is_skill : ℕ → Option ℕ → Bool
is_skill k None = false
is_skill k (Some j) = eqb j k

abbrev naming : ℕ → List Node → ℕ
naming k [] = 0
naming k (n ∷ ns) = one (is_skill k (skill_of n)) + naming k ns

naming_append : (k : ℕ) (ns ms : List Node) → naming k (ns ++ ms) ≡ naming k ns + naming k ms
naming_append k [] ms = omega arith
naming_append k (n ∷ ns) ms = let h = naming_append k ns ms in omega arith

leaf_naming : (k : ℕ) (l : Leaf) → naming k (leaf_node l ∷ []) ≡ leaf_names k l
leaf_naming k (skill j d t) = omega arith
leaf_naming k (count key least) = refl
leaf_naming k (ability key least) = refl

mutual
  tree_naming : (k : ℕ) (t : Tree) → naming k (flatten t) ≡ names t k
  tree_naming k (leaf l) = leaf_naming k l
  tree_naming k (group kind ts) = let h = trees_naming k ts in omega arith
  tree_naming k (par need ts) = let h = trees_naming k ts in omega arith
  tree_naming k (neg t) = let h = tree_naming k t in omega arith
  tree_naming k (again kind times t) = let h = tree_naming k t in omega arith

  trees_naming : (k : ℕ) (ts : Trees) → naming k (flattens ts) ≡ names_all ts k
  trees_naming k nil = refl
  trees_naming k (cons t ts) =
      let a = naming_append k (flatten t) (flattens ts) in
      let b = tree_naming k t in
      let c = trees_naming k ts in
      omega arith

-- where they stand

abbrev NamesAt : ℕ → List Node → ℕ → Type 0
NamesAt k ns i = (i < length ns) × (skill_of (node_at ns i) ≡ Some k)

its_skill : (k : ℕ) (o : Option ℕ) → is_skill k o ≡ true → o ≡ Some k
its_skill k None e = absurd cc
its_skill k (Some j) e = ap Some (eqb-true j k e)

one_place : (k : ℕ) (ns : List Node) → 1 ≤ naming k ns → (i : ℕ) × NamesAt k ns i
one_place k [] h = absurd (omega arith)
one_place k (n ∷ ns) h = go (is_skill k (skill_of n)) refl h (one_place k ns)
  where
    go : (b : Bool) → is_skill k (skill_of n) ≡ b → 1 ≤ one b + naming k ns → (1 ≤ naming k ns → (i : ℕ) × NamesAt k ns i) → (i : ℕ) × NamesAt k (n ∷ ns) i
    go true e i r = (0, (omega arith, its_skill k (skill_of n) e))
    go false e i r = let q = r (omega arith) in (suc q.0, (omega arith, q.1.1))

two_places : (k : ℕ) (ns : List Node) → 2 ≤ naming k ns → (j : ℕ) × (i : ℕ) × (j < i) × NamesAt k ns j × NamesAt k ns i
two_places k [] h = absurd (omega arith)
two_places k (n ∷ ns) h = go (is_skill k (skill_of n)) refl h (two_places k ns)
  where
    go : (b : Bool) → is_skill k (skill_of n) ≡ b → 2 ≤ one b + naming k ns →
        (2 ≤ naming k ns → (j : ℕ) × (i : ℕ) × (j < i) × NamesAt k ns j × NamesAt k ns i) → (j : ℕ) × (i : ℕ) × (j < i) × NamesAt k (n ∷ ns) j × NamesAt k (n ∷ ns) i
    go true e h r =
        let q = one_place k ns (omega arith) in
        (0, suc q.0, omega arith, (omega arith, its_skill k (skill_of n) e), (omega arith, q.1.1))
    go false e h r =
        let q = r (omega arith) in
        (suc q.0, suc q.1, omega arith, (omega arith, q.3.1), (omega arith, q.4.1))

never_twice : (m : Shape) → Lawful m → (k : ℕ) → 2 ≤ naming k m.nodes → ⊥
never_twice m law k h =
    let q = two_places k m.nodes h in
    law Twice q.1 q.4.0 (q.0, k, q.2, q.3.1, q.4.1)

-- the tree of a mission
pub meant : (m : Mission) → Means (meaning m).nodes
meant m =
    let o = m.outline in
    let l = shape_long o in
    let s = o.declared.some in
    means (shape o) m.lawful (omega arith) o.in_range

pub planted : (m : Mission) → (plan m).tree ≡ (meant m).tree
planted m = ap made (meant m).read

pub once : (m : Mission) (k : ℕ) → names (plan m).tree k ≤ 1
once m k =
    let t = (meant m).tree in
    let e : naming k (meaning m).nodes ≡ names t k = ap (naming k) (sym (meant m).written) ∙ tree_naming k t in
    let twice : 2 ≤ names t k → ⊥ = λ h. never_twice (meaning m) m.lawful k (rw e h) in
    let q : names t k ≤ 1 = omega arith in
    rw (planted m) q
