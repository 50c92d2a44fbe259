-- A mission's live tree has at most 16 levels, and a node for each node of the mission.
use Rattle.std.proofs.Common.{◌≡◌, ℕ, zero, suc, ◌+◌, ◌<◌, ◌≤◌, max, List, [], ◌∷◌, ◌++◌, length, drop, sym, refl, ap, ◌∙◌, ap₂, zero-add, add-one, append_assoc, append-nil, length-append, arith}
use Rattle.std.proofs.lemmas.List.{drop-drop}
use Rattle.mission.specs.declared.mission.Mission.{Mission}
use Rattle.mission.specs.declared.node.Node.{Node}
use Rattle.mission.specs.declared.node.Node.TheVariants.{Group, Par, Not, Loop}
use Rattle.mission.specs.Judging.{Next, Filled}
use Rattle.mission.specs.Lawful.{Shape, Lawful}
use Rattle.mission.specs.Missions.{meaning}
use Rattle.mission.specs.Nodes.{arity}
use Rattle.mission.specs.Places.{node_at, places}
use Rattle.mission.specs.Trees.{Leaf, skill, count, ability, Tree, leaf, group, par, neg, again, Trees, nil, cons, width, leaf_node, flatten, flattens}
use Rattle.mission.proofs.Runs.{children_next, node_filled, run_next, root, level_small}
use Rattle.rules.specs.Live.{Live, live_leaf, live_group, live_par, live_not, live_loop, Kids, no_kids, kid, fresh, fresh_kids}
use Rattle.rules.specs.Missions.{plan}
use Rattle.rules.proofs.Distinct.{meant, planted}
use Rattle.rules.proofs.Shapes.{bare, bare_kids}
use Rattle.sitting.specs.Zipper.{nodes, nodes_in, depth, depth_in}

-- both are those of the tree, whatever the memory

mutual
  pub nodes_bare : (x : Live) → nodes x ≡ length (flatten (bare x))
  nodes_bare (live_leaf l) = refl
  nodes_bare (live_group p m ks) = ap suc (nodes_bare_in ks)
  nodes_bare (live_par n ks) = ap suc (nodes_bare_in ks)
  nodes_bare (live_not x) = ap suc (nodes_bare x)
  nodes_bare (live_loop p times n x) = ap suc (nodes_bare x)

  nodes_bare_in : (ks : Kids) → nodes_in ks ≡ length (flattens (bare_kids ks))
  nodes_bare_in no_kids = refl
  nodes_bare_in (kid r x ks) =
      let a = nodes_bare x in
      let b = nodes_bare_in ks in
      let c = length-append (flatten (bare x)) (flattens (bare_kids ks)) in
      omega arith

mutual
  pub depth_bare : (x : Live) → depth (fresh (bare x)) ≡ depth x
  depth_bare (live_leaf l) = refl
  depth_bare (live_group p m ks) = ap suc (depth_bare_in ks)
  depth_bare (live_par n ks) = ap suc (depth_bare_in ks)
  depth_bare (live_not x) = ap suc (depth_bare x)
  depth_bare (live_loop p times n x) = ap suc (depth_bare x)

  depth_bare_in : (ks : Kids) → depth_in (fresh_kids (bare_kids ks)) ≡ depth_in ks
  depth_bare_in no_kids = refl
  depth_bare_in (kid r x ks) = ap₂ max (depth_bare x) (depth_bare_in ks)

-- the nodes of a lawful mission take places down to level 16

at_node : (ns : List Node) (i : ℕ) (n : Node) (more : List Node) → drop i ns ≡ n ∷ more → (i < length ns) × (node_at ns i ≡ n) × (drop (suc i) ns ≡ more)
at_node [] zero n more e = absurd (cc)
at_node [] (suc i) n more e = absurd (cc)
at_node (x ∷ xs) zero n more e = (omega arith, cc, cc)
at_node (x ∷ xs) (suc i) n more e = let r = at_node xs i n more e in (let l = r.0 in omega arith, r.1, r.2)

leaf_arity : (l : Leaf) → 0 ≡ arity (leaf_node l)
leaf_arity (skill k device target) = refl
leaf_arity (count key least) = refl
leaf_arity (ability key least) = refl

none_filled : (ns : List Node) (i : ℕ) → Filled ns i 0 i
none_filled ns i = record { on = omega arith; left = refl }

-- a run with one node more
run_more : (ns : List Node) {i done at end : ℕ} → Filled ns i done at → Filled ns at 1 end → Filled ns i (done + 1) end
run_more ns {i} {done} {at} {end} f g =
    let a = f.on in
    let b = g.on in
    record { on = omega arith; left = g.left ∙ ap (drop 1) f.left ∙ drop-drop 1 done (places ns i) }

module _ (m : Shape) (law : Lawful m) where
  here : (i level : ℕ) → Next m.nodes i 1 level → i < length m.nodes → level ≤ 16
  here i level next h = level_small m next (λ b. law b i h)

  -- a node above its children
  above : (n : Node) (kids i end level deep : ℕ) (more : List Node) (X : Type 0) → kids ≡ arity n → Next m.nodes i 1 level → drop i m.nodes ≡ n ∷ more →
      (Next m.nodes (i + 1) kids (level + 1) → level ≤ 16 → drop (i + 1) m.nodes ≡ more → ((level + 1) + deep ≤ 17) × Filled m.nodes (i + 1) kids end × X) →
      (level + suc deep ≤ 17) × Filled m.nodes i 1 end × X
  above n kids i end level deep more X j next d children =
      let a = at_node m.nodes i n more d in
      let k : kids ≡ arity (node_at m.nodes i) = j ∙ ap arity (sym a.1) in
      let r = children (children_next m.nodes next k) (here i level next a.0) (rw add-one a.2) in
      (let b = r.0 in omega arith, node_filled m.nodes next k r.1, r.2)

  mutual
    tree_shallow : (t : Tree) (i end level : ℕ) (more : List Node) → end ≡ i + length (flatten t) → Next m.nodes i 1 level → drop i m.nodes ≡ flatten t ++ more →
        (level + depth (fresh t) ≤ 17) × Filled m.nodes i 1 end × (drop end m.nodes ≡ more)
    tree_shallow (leaf l) i end level more e next d =
        let a = at_node m.nodes i (leaf_node l) more d in
        let h = here i level next a.0 in
        let q : end ≡ i + 1 = omega arith in
        let s : end ≡ suc i = omega arith in
        (omega arith, rw q (node_filled m.nodes next (leaf_arity l ∙ ap arity (sym a.1)) (none_filled m.nodes (i + 1))), rw s a.2)
    tree_shallow (group kind ts) i end level more e next d =
        above (Group kind (width ts)) (width ts) i end level (depth_in (fresh_kids ts)) (flattens ts ++ more) (drop end m.nodes ≡ more) refl next d
        (λ b l f. trees_shallow ts (i + 1) (width ts) 0 (level + 1) (i + 1) end more (zero-add (width ts)) (omega arith) (omega arith) b (none_filled m.nodes (i + 1)) f)
    tree_shallow (par need ts) i end level more e next d =
        above (Par (width ts) need) (width ts) i end level (depth_in (fresh_kids ts)) (flattens ts ++ more) (drop end m.nodes ≡ more) refl next d
        (λ b l f. trees_shallow ts (i + 1) (width ts) 0 (level + 1) (i + 1) end more (zero-add (width ts)) (omega arith) (omega arith) b (none_filled m.nodes (i + 1)) f)
    tree_shallow (neg t) i end level more e next d =
        above Not 1 i end level (depth (fresh t)) (flatten t ++ more) (drop end m.nodes ≡ more) refl next d
        (λ b l f. tree_shallow t (i + 1) end (level + 1) more (omega arith) b f)
    tree_shallow (again kind times t) i end level more e next d =
        above (Loop kind times) 1 i end level (depth (fresh t)) (flatten t ++ more) (drop end m.nodes ≡ more) refl next d
        (λ b l f. tree_shallow t (i + 1) end (level + 1) more (omega arith) b f)

    trees_shallow : (ts : Trees) (i kids done level at end : ℕ) (more : List Node) → done + width ts ≡ kids → end ≡ at + length (flattens ts) → level ≤ 17 →
        Next m.nodes i kids level → Filled m.nodes i done at → drop at m.nodes ≡ flattens ts ++ more →
        (level + depth_in (fresh_kids ts) ≤ 17) × Filled m.nodes i kids end × (drop end m.nodes ≡ more)
    trees_shallow nil i kids done level at end more q e l next f d =
        let same : end ≡ at = omega arith in
        let all : kids ≡ done = omega arith in
        (omega arith, rw (same, all) f, rw same d)
    trees_shallow (cons t ts) i kids done level at end more q e l next f d =
        let one = tree_shallow t at (at + length (flatten t)) level (flattens ts ++ more) refl (run_next m.nodes next f (omega arith)) (d ∙ append_assoc (flatten t) (flattens ts) more) in
        let c = length-append (flatten t) (flattens ts) in
        let others = trees_shallow ts i kids (done + 1) level (at + length (flatten t)) end more (omega arith) (omega arith) l next (run_more m.nodes f one.1) one.2 in
        (let a = one.0 in let b = others.0 in omega arith, others.1, others.2)

  pub lawful_shallow : (t : Tree) → flatten t ≡ m.nodes → depth (fresh t) ≤ 16
  lawful_shallow t e =
      let r = tree_shallow t 0 (length (flatten t)) 1 [] (omega arith) (root m.nodes) (sym e ∙ sym (append-nil (flatten t))) in
      let b = r.0 in
      omega arith

pub plan_depth : (m : Mission) → depth (fresh (plan m).tree) ≤ 16
plan_depth m = rw (planted m) (lawful_shallow (meaning m) m.lawful (meant m).tree (meant m).written)

pub plan_nodes : (m : Mission) → length (flatten (plan m).tree) ≡ length (meaning m).nodes
plan_nodes m = rw (planted m) (ap length (meant m).written)

-- a live tree of the mission

pub live_depth : (m : Mission) (x : Live) → bare x ≡ (plan m).tree → depth x ≤ 16
live_depth m x e =
    let a = depth_bare x in
    let b = plan_depth m in
    let c : depth (fresh (bare x)) ≡ depth (fresh (plan m).tree) = ap (λ (t : Tree). depth (fresh t)) e in
    omega arith

pub live_nodes : (m : Mission) (x : Live) → bare x ≡ (plan m).tree → nodes x ≡ length (meaning m).nodes
live_nodes m x e = nodes_bare x ∙ ap (λ (t : Tree). length (flatten t)) e ∙ plan_nodes m
