-- What a mission's nodes give its leaves: each named skill once, its numbers in range, and its key below the
-- declared number.
use Rattle.std.proofs.Common.{◌≡◌, int_le, ℕ, zero, suc, ◌+◌, ◌<◌, ◌≤◌, true, false, ◌&&◌, eqb, ltb, List, [], ◌∷◌, ◌++◌, length, pos, Some, None, Option, inl, inr, ⊎_elim, sym, refl, ap, ◌∙◌, subst, arith}
use Rattle.std.proofs.lemmas.Bool.{and_parts, or_parts, eq-eqb, ltb-false, cases_lt}
use Rattle.std.proofs.lemmas.Int.{ints}
use Rattle.std.specs.Option.{option_map}
use Rattle.mission.specs.declared.breach.Breach.TheVariants.{Key}
use Rattle.mission.specs.declared.mission.Mission.{Mission}
use Rattle.mission.specs.declared.node.Node.{Node}
use Rattle.mission.specs.declared.node.Node.TheVariants.{Group, Par, Not, Loop, Skill, Count, Ability}
use Rattle.mission.specs.declared.node.Target.{Target}
use Rattle.mission.specs.declared.node.Target.TheVariants.{Nowhere, Count as CountKey, Ability as AbilityKey}
use Rattle.mission.specs.Lawful.{Shape, Lawful, Beyond, TargetBeyond}
use Rattle.mission.specs.Lines.{ranged, raw, raw_target, device_ranged, target_ranged, all_ranged}
use Rattle.mission.specs.Missions.{meaning}
use Rattle.mission.specs.Places.{node_at}
use Rattle.mission.specs.Trees.{Leaf, skill, count, ability, Tree, leaf, group, par, neg, again, Trees, nil, cons, leaf_node, flatten, flattens}
use Rattle.rules.specs.Leaves.{World, Users, user_of, users_of, users_of_all, users}
use Rattle.rules.specs.Lines.{one}
use Rattle.rules.specs.Missions.{plan, leaf_names, names, names_all}
use Rattle.rules.specs.Sittings.{too_small}
use Rattle.rules.proofs.Distinct.{meant, planted, once}
use Rattle.sitting.specs.Agreeing.{Named, Once, Ranged, KeyBelow, LeafFits, EveryLeaf, EveryLeafIn}

-- named skills are those of the nodes

abbrev node_user : Node → Users → Users
node_user (Group kind kids) us = us
node_user (Par kids need) us = us
node_user Not us = us
node_user (Loop kind times) us = us
node_user (Skill k device target) us = (k, device) ∷ us
node_user (Count key least) us = us
node_user (Ability key least) us = us

abbrev node_users : List Node → Users → Users
node_users [] us = us
node_users (n ∷ ns) us = node_user n (node_users ns us)

users_append : (ns ms : List Node) (us : Users) → node_users (ns ++ ms) us ≡ node_users ns (node_users ms us)
users_append [] ms us = refl
users_append (n ∷ ns) ms us = ap (node_user n) (users_append ns ms us)

leaf_users : (l : Leaf) (us : Users) → node_users (leaf_node l ∷ []) us ≡ user_of l us
leaf_users (skill k device target) us = refl
leaf_users (count key least) us = refl
leaf_users (ability key least) us = refl

mutual
  tree_users : (t : Tree) (us : Users) → node_users (flatten t) us ≡ users_of t us
  tree_users (leaf l) us = leaf_users l us
  tree_users (group kind ts) us = trees_users ts us
  tree_users (par need ts) us = trees_users ts us
  tree_users (neg t) us = tree_users t us
  tree_users (again kind times t) us = tree_users t us

  trees_users : (ts : Trees) (us : Users) → node_users (flattens ts) us ≡ users_of_all ts us
  trees_users nil us = refl
  trees_users (cons t ts) us = users_append (flatten t) (flattens ts) us ∙ tree_users t (node_users (flattens ts) us) ∙ ap (users_of t) (trees_users ts us)

-- by nodes

-- the named skills of some nodes have what each node gives its own
module _ (Q : ℕ → Option ℕ → Type 0) where
  abbrev Gives : Node → Type 0
  Gives n = (k : ℕ) (d : Option ℕ) (target : Target) → n ≡ Skill k d target → Q k d

  node_gives : (n : Node) (us : Users) → Gives n → ((k : ℕ) (d : Option ℕ) → Named us k d → Q k d) → (k : ℕ) (d : Option ℕ) → Named (node_user n us) k d → Q k d
  node_gives (Group kind kids) us g h = h
  node_gives (Par kids need) us g h = h
  node_gives Not us g h = h
  node_gives (Loop kind times) us g h = h
  node_gives (Skill j e target) us g h = λ k d n. ⊎_elim (λ q. rw (sym q.0, sym q.1) (g j e target refl)) (λ m. h k d m) n
  node_gives (Count key least) us g h = h
  node_gives (Ability key least) us g h = h

-- a named skill of later nodes is one of all
kept_user : (n : Node) (us : Users) (k : ℕ) (d : Option ℕ) → Named us k d → Named (node_user n us) k d
kept_user (Group kind kids) us k d m = m
kept_user (Par kids need) us k d m = m
kept_user Not us k d m = m
kept_user (Loop kind times) us k d m = m
kept_user (Skill j e target) us k d m = inr m
kept_user (Count key least) us k d m = m
kept_user (Ability key least) us k d m = m

own_user : (n : Node) (us : Users) (k : ℕ) (d : Option ℕ) (target : Target) → n ≡ Skill k d target → Named (node_user n us) k d
own_user n us k d target e = rw e (inl (refl, refl))

user_at : (ns : List Node) (i k : ℕ) (d : Option ℕ) (target : Target) → i < length ns → node_at ns i ≡ Skill k d target → Named (node_users ns []) k d
user_at [] i k d target h e = absurd (omega arith)
user_at (n ∷ ns) zero k d target h e = own_user n (node_users ns []) k d target e
user_at (n ∷ ns) (suc i) k d target h e = kept_user n (node_users ns []) k d (user_at ns i k d target (omega arith) e)

-- ranges

range_below : (top k : ℕ) → (int_le (pos 0) (pos k) && int_le (pos k) (pos top)) ≡ true → k < suc top
range_below top k h = let q = (and_parts (int_le (pos 0) (pos k)) (int_le (pos k) (pos top)) h).1 in grind (arith, ints)

abbrev InRange : ℕ → Option ℕ → Type 0
InRange k d = (k < 64) × ((e : ℕ) → d ≡ Some e → e < 32)

device_below : (d : Option ℕ) → device_ranged (option_map pos d) ≡ true → (e : ℕ) → d ≡ Some e → e < 32
device_below None h e q = absurd cc
device_below (Some c) h e q = let y : c ≡ e = cc in let z = range_below 31 c h in omega arith

node_in_range : (n : Node) → ranged (raw n) ≡ true → Gives InRange n
node_in_range n h k d target e =
    let q : ranged (raw (Skill k d target)) ≡ true = rw e at h in
    let p = and_parts (int_le (pos 0) (pos k) && int_le (pos k) (pos 63)) (device_ranged (option_map pos d) && target_ranged (raw_target target)) q in
    let r = and_parts (device_ranged (option_map pos d)) (target_ranged (raw_target target)) p.1 in
    (range_below 63 k p.0, device_below d r.0)

nodes_in_range : (ns : List Node) → all_ranged ns ≡ true → (k : ℕ) (d : Option ℕ) → Named (node_users ns []) k d → InRange k d
nodes_in_range [] h k d n = absurd n
nodes_in_range (x ∷ xs) h k d n =
    let p = and_parts (ranged (raw x)) (all_ranged xs) h in
    node_gives InRange x (node_users xs []) (node_in_range x p.0) (nodes_in_range xs p.1) k d n

-- keys

key_below : (m : Shape) (target : Target) → (TargetBeyond m target → ⊥) → KeyBelow m.counts m.abilities target
key_below m Nowhere h = tt
key_below m (CountKey key) h = ⊎_elim (λ q. q) (λ q. absurd (h q)) (cases_lt key m.counts)
key_below m (AbilityKey key weight) h = ⊎_elim (λ q. q) (λ q. absurd (h q)) (cases_lt key m.abilities)

pub key_wider : (c a d b : ℕ) (target : Target) → c ≤ d → a ≤ b → KeyBelow c a target → KeyBelow d b target
key_wider c a d b Nowhere i j h = tt
key_wider c a d b (CountKey key) i j h = omega arith
key_wider c a d b (AbilityKey key weight) i j h = omega arith

pub node_key : (m : Shape) → Lawful m → (i k : ℕ) (d : Option ℕ) (target : Target) → i < length m.nodes → node_at m.nodes i ≡ Skill k d target → KeyBelow m.counts m.abilities target
node_key m law i k d target h e = key_below m target (λ b. law Key i h (subst (Beyond m) (sym e) b))

-- names, once

abbrev counted : ℕ → Users → ℕ
counted k [] = 0
counted k (u ∷ us) = one (eqb u.0 k) + counted k us

named_counts : (us : Users) (k : ℕ) (d : Option ℕ) → Named us k d → 1 ≤ counted k us
named_counts [] k d n = absurd n
named_counts (u ∷ us) k d (inl q) = let e : one (eqb u.0 k) ≡ 1 = ap one (eq-eqb u.0 k q.0) in omega arith
named_counts (u ∷ us) k d (inr n) = let h = named_counts us k d n in omega arith

one_device : (us : Users) (k : ℕ) (d e : Option ℕ) → counted k us ≤ 1 → Named us k d → Named us k e → d ≡ e
one_device [] k d e h m n = absurd n
one_device (u ∷ us) k d e h (inl p) (inl q) = sym p.1 ∙ q.1
one_device (u ∷ us) k d e h (inl p) (inr n) = let c = named_counts us k e n in let r : one (eqb u.0 k) ≡ 1 = ap one (eq-eqb u.0 k p.0) in absurd (omega arith)
one_device (u ∷ us) k d e h (inr m) (inl q) = let c = named_counts us k d m in let r : one (eqb u.0 k) ≡ 1 = ap one (eq-eqb u.0 k q.0) in absurd (omega arith)
one_device (u ∷ us) k d e h (inr m) (inr n) = one_device us k d e (omega arith) m n

leaf_counted : (k : ℕ) (l : Leaf) (us : Users) → counted k (user_of l us) ≡ leaf_names k l + counted k us
leaf_counted k (skill j d target) us = refl
leaf_counted k (count key least) us = omega arith
leaf_counted k (ability key least) us = omega arith

mutual
  tree_counted : (k : ℕ) (t : Tree) (us : Users) → counted k (users_of t us) ≡ names t k + counted k us
  tree_counted k (leaf l) us = leaf_counted k l us
  tree_counted k (group kind ts) us = trees_counted k ts us
  tree_counted k (par need ts) us = trees_counted k ts us
  tree_counted k (neg t) us = tree_counted k t us
  tree_counted k (again kind times t) us = tree_counted k t us

  trees_counted : (k : ℕ) (ts : Trees) (us : Users) → counted k (users_of_all ts us) ≡ names_all ts k + counted k us
  trees_counted k nil us = omega arith
  trees_counted k (cons t ts) us =
      let a = tree_counted k t (users_of_all ts us) in
      let b = trees_counted k ts us in
      omega arith

pub named_once : (t : Tree) (k : ℕ) (d : Option ℕ) → Named (users t) k d → names t k ≤ 1 → names t k ≡ 1
named_once t k d n h =
    let a = tree_counted k t [] in
    let b = named_counts (users t) k d n in
    omega arith

pub tree_once : (t : Tree) → ((k : ℕ) → names t k ≤ 1) → Once (users t)
tree_once t h = record { device = λ k d e m n. one_device (users t) k d e (let a = tree_counted k t [] in let b = h k in omega arith) m n }

-- a mission

pub mission_once : (m : Mission) → Once (users (plan m).tree)
mission_once m = tree_once (plan m).tree (once m)

mission_users : (m : Mission) → node_users (meaning m).nodes [] ≡ users (plan m).tree
mission_users m = ap (λ (ns : List Node). node_users ns []) (sym (meant m).written) ∙ tree_users (meant m).tree [] ∙ ap users (sym (planted m))

pub mission_ranged : (m : Mission) → Ranged (users (plan m).tree)
mission_ranged m =
    let h : (k : ℕ) (d : Option ℕ) → Named (node_users (meaning m).nodes []) k d → InRange k d = nodes_in_range (meaning m).nodes m.outline.in_range in
    let g : (k : ℕ) (d : Option ℕ) → Named (users (plan m).tree) k d → InRange k d = rw (mission_users m) at h in
    record { skills = λ k d n. (g k d n).0; devices = λ k d n. (g k (Some d) n).1 d refl }

-- a skill at a node is named with its device
pub mission_named : (m : Mission) (i k : ℕ) (d : Option ℕ) (target : Target) → i < length (meaning m).nodes → node_at (meaning m).nodes i ≡ Skill k d target → Named (users (plan m).tree) k d
mission_named m i k d target h e = subst (λ (us : Users). Named us k d) (mission_users m) (user_at (meaning m).nodes i k d target h e)

-- boards that are not too small
pub large_counts : (m : Mission) (w : World) → too_small (plan m) w ≡ false → ((meaning m).counts ≤ length w.counts) × ((meaning m).abilities ≤ length w.abilities)
large_counts m w e =
    let p = or_parts (ltb (length w.counts) (meaning m).counts) (ltb (length w.abilities) (meaning m).abilities) e in
    (ltb-false (length w.counts) (meaning m).counts p.0, ltb-false (length w.abilities) (meaning m).abilities p.1)

-- so a skill at a node has its key below the boards' sizes
pub mission_key : (m : Mission) (w : World) → too_small (plan m) w ≡ false → (i k : ℕ) (d : Option ℕ) (target : Target) → i < length (meaning m).nodes → node_at (meaning m).nodes i ≡ Skill k d target →
    KeyBelow (length w.counts) (length w.abilities) target
mission_key m w small i k d target h e =
    let q = large_counts m w small in
    key_wider (meaning m).counts (meaning m).abilities (length w.counts) (length w.abilities) target q.0 q.1 (node_key (meaning m) m.lawful i k d target h e)

-- every leaf of its tree

abbrev EveryNode : (Node → Type 0) → List Node → Type 0
EveryNode P [] = Unit {0}
EveryNode P (n ∷ ns) = P n × EveryNode P ns

every_node : (P : Node → Type 0) (ns : List Node) → ((i : ℕ) → i < length ns → P (node_at ns i)) → EveryNode P ns
every_node P [] h = tt
every_node P (n ∷ ns) h = (h 0 (omega arith), every_node P ns (λ i b. h (suc i) (omega arith)))

every_parts : (P : Node → Type 0) (ns ms : List Node) → EveryNode P (ns ++ ms) → EveryNode P ns × EveryNode P ms
every_parts P [] ms h = (tt, h)
every_parts P (n ∷ ns) ms h = let q = every_parts P ns ms h.1 in ((h.0, q.0), q.1)

module _ (P : Node → Type 0) (Q : Leaf → Type 0) (of_node : (l : Leaf) → P (leaf_node l) → Q l) where
  mutual
    every_leaf : (t : Tree) → EveryNode P (flatten t) → EveryLeaf Q t
    every_leaf (leaf l) h = of_node l h.0
    every_leaf (group kind ts) h = every_leaf_in ts h.1
    every_leaf (par need ts) h = every_leaf_in ts h.1
    every_leaf (neg t) h = every_leaf t h.1
    every_leaf (again kind times t) h = every_leaf t h.1

    every_leaf_in : (ts : Trees) → EveryNode P (flattens ts) → EveryLeafIn Q ts
    every_leaf_in nil h = tt
    every_leaf_in (cons t ts) h = let q = every_parts P (flatten t) (flattens ts) h in (every_leaf t q.0, every_leaf_in ts q.1)

abbrev NodeFits : Users → ℕ → ℕ → Node → Type 0
NodeFits us c a (Group kind kids) = Unit {0}
NodeFits us c a (Par kids need) = Unit {0}
NodeFits us c a Not = Unit {0}
NodeFits us c a (Loop kind times) = Unit {0}
NodeFits us c a (Skill k d target) = Named us k d × KeyBelow c a target
NodeFits us c a (Count key least) = Unit {0}
NodeFits us c a (Ability key least) = Unit {0}

node_fits : (us : Users) (c a : ℕ) (n : Node) → ((k : ℕ) (d : Option ℕ) (target : Target) → n ≡ Skill k d target → Named us k d × KeyBelow c a target) → NodeFits us c a n
node_fits us c a (Group kind kids) h = tt
node_fits us c a (Par kids need) h = tt
node_fits us c a Not h = tt
node_fits us c a (Loop kind times) h = tt
node_fits us c a (Skill k d target) h = h k d target refl
node_fits us c a (Count key least) h = tt
node_fits us c a (Ability key least) h = tt

leaf_fits : (us : Users) (c a : ℕ) (l : Leaf) → NodeFits us c a (leaf_node l) → LeafFits us c a l
leaf_fits us c a (skill k d target) h = h
leaf_fits us c a (count key least) h = tt
leaf_fits us c a (ability key least) h = tt

pub mission_fits : (m : Mission) (w : World) → too_small (plan m) w ≡ false → EveryLeaf (LeafFits (users (plan m).tree) (length w.counts) (length w.abilities)) (plan m).tree
mission_fits m w small =
    let us = users (plan m).tree in
    let c = length w.counts in
    let a = length w.abilities in
    let ns = (meaning m).nodes in
    let all : EveryNode (NodeFits us c a) ns =
    every_node (NodeFits us c a) ns
    (λ i b. node_fits us c a (node_at ns i) (λ k d target e. (mission_named m i k d target b e, mission_key m w small i k d target b e))) in
    let made : EveryLeaf (LeafFits us c a) (meant m).tree =
    every_leaf (NodeFits us c a) (LeafFits us c a) (leaf_fits us c a) (meant m).tree (subst (EveryNode (NodeFits us c a)) (sym (meant m).written) all) in
    subst (EveryLeaf (LeafFits us c a)) (sym (planted m)) made
