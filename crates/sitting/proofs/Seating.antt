-- A sitting made for a mission is seated on its tree with no memory.
use Rattle.std.proofs.Common.{◌≡◌, int_le, ℕ, suc, ◌+◌, ◌-◌, ◌≤◌, true, ◌&&◌, List, [], ◌∷◌, ◌++◌, length, take, drop, replicate, pos, sym, refl, ap, ◌∙◌, append-nil, arith}
use Rattle.std.proofs.lemmas.Bool.{and_parts}
use Rattle.std.proofs.lemmas.Int.{ints}
use Rattle.std.proofs.lemmas.List.{length-take, take-append-drop, length-replicate, replicate-append-replicate}
use Rattle.mission.specs.declared.mission.Mission.{Mission}
use Rattle.mission.specs.declared.node.Node.{Node}
use Rattle.mission.specs.declared.node.Node.TheVariants.{Group, Par, Not, Loop}
use Rattle.mission.specs.Lines.{ranged, raw, all_ranged}
use Rattle.mission.specs.Missions.{meaning}
use Rattle.mission.specs.Trees.{Leaf, Tree, leaf, group, par, neg, again, Trees, nil, cons, width, flatten, flattens}
use Rattle.rules.specs.Live.{fresh, fresh_kids}
use Rattle.rules.specs.Missions.{plan}
use Rattle.rules.specs.Visiting.{size}
use Rattle.rules.proofs.Distinct.{meant, planted}
use Rattle.rules.proofs.Shapes.{bare, bare_fresh}
use Rattle.sitting.specs.Agreeing.{EveryLeaf, EveryLeafIn}
use Rattle.sitting.specs.Ends.{ends}
use Rattle.sitting.specs.Zipper.{nodes}
use Rattle.sitting.specs.declared.memory.Memory.{Memory}
use Rattle.sitting.specs.declared.memory.Memory.TheVariants.{Nothing}
use Rattle.sitting.specs.declared.executive.Executive.{Executive}
use Rattle.sitting.proofs.Levels.{live_depth, live_nodes}
use Rattle.sitting.proofs.Seated.{Fine, AllFine, cells_fresh, Seated, seated}
use Rattle.sitting.proofs.Tidying.{fresh_tidy}

ranged_append : (ns ms : List Node) → all_ranged (ns ++ ms) ≡ true → (all_ranged ns ≡ true) × (all_ranged ms ≡ true)
ranged_append [] ms h = (refl, h)
ranged_append (n ∷ ns) ms h =
    let p = and_parts (ranged (raw n)) (all_ranged (ns ++ ms)) h in
    let q = ranged_append ns ms p.1 in
    (rw (p.0, q.0) refl, q.1)

at_most : (low top k : ℕ) → (int_le (pos low) (pos k) && int_le (pos k) (pos top)) ≡ true → k ≤ top
at_most low top k h = let q = (and_parts (int_le (pos low) (pos k)) (int_le (pos k) (pos top)) h).1 in grind (arith, ints)

size_fresh : (ts : Trees) → size (fresh_kids ts) ≡ width ts
size_fresh nil = refl
size_fresh (cons t ts) = ap suc (size_fresh ts)

module _ (P : Leaf → Type 0) where
  mutual
    fine_fresh : (t : Tree) → all_ranged (flatten t) ≡ true → EveryLeaf P t → Fine P (fresh t)
    fine_fresh (leaf l) h e = e
    fine_fresh (group kind ts) h e = all_fine_fresh ts (and_parts (ranged (raw (Group kind (width ts)))) (all_ranged (flattens ts)) h).1 e
    fine_fresh (par need ts) h e =
        let p = and_parts (ranged (raw (Par (width ts) need))) (all_ranged (flattens ts)) h in
        let q = and_parts (int_le (pos 1) (pos (width ts)) && int_le (pos (width ts)) (pos 32)) (int_le (pos 1) (pos need) && int_le (pos need) (pos 32)) p.0 in
        let s = size_fresh ts in
        let m = at_most 1 32 (width ts) q.0 in
        (omega arith, all_fine_fresh ts p.1 e)
    fine_fresh (neg t) h e = fine_fresh t (and_parts (ranged (raw Not)) (all_ranged (flatten t)) h).1 e
    fine_fresh (again kind times t) h e =
        let p = and_parts (ranged (raw (Loop kind times))) (all_ranged (flatten t)) h in
        (at_most 1 60000 times p.0, omega arith, fine_fresh t p.1 e)

    all_fine_fresh : (ts : Trees) → all_ranged (flattens ts) ≡ true → EveryLeafIn P ts → AllFine P (fresh_kids ts)
    all_fine_fresh nil h e = tt
    all_fine_fresh (cons t ts) h e = let p = ranged_append (flatten t) (flattens ts) h in (fine_fresh t p.0 e.0, all_fine_fresh ts p.1 e.1)

pub plan_written : (m : Mission) → flatten (plan m).tree ≡ (meaning m).nodes
plan_written m = ap flatten (planted m) ∙ (meant m).written

mission_size : (m : Mission) → length (meaning m).nodes ≤ 256
mission_size m =
    let o = m.outline in
    let f = o.declared.fits in
    let l = length-take o.declared.nodes o.nodes in
    omega arith

-- the tables that a sitting begins with
pub seated_new : (P : Leaf → Type 0) (m : Mission) (s : Executive) → s.mission ≡ m → take (length (meaning m).nodes) s.ends ≡ ends (plan m).tree 0 → s.memories ≡ replicate 256 Nothing →
    EveryLeaf P (plan m).tree → Seated s P (fresh (plan m).tree)
seated_new P m s e a c p =
    let t = (plan m).tree in
    let b = bare_fresh t in
    let n : nodes (fresh t) ≡ length (meaning m).nodes = live_nodes m (fresh t) b in
    let z = mission_size m in
    let k = length (meaning m).nodes in
    let u : nodes (fresh t) + (256 - k) ≡ 256 = omega arith in
    seated s P (fresh t) [] (drop k s.ends) (replicate (256 - k) Nothing) (fresh_tidy t) (live_depth m (fresh t) b) (omega arith)
    (fine_fresh P t (ap all_ranged (plan_written m) ∙ m.outline.in_range) p)
    (ap (λ (o : Mission). (meaning o).nodes) e ∙ sym (plan_written m) ∙ ap flatten (sym b) ∙ sym (append-nil (flatten (bare (fresh t)))))
    (sym (take-append-drop k s.ends) ∙ ap (λ (es : List ℕ). es ++ drop k s.ends) (a ∙ ap (λ (r : Tree). ends r 0) (sym b)))
    (c ∙ ap (λ j. replicate j Nothing) (sym u) ∙ sym (replicate-append-replicate (nodes (fresh t)) (256 - k) Nothing) ∙ ap (λ (cs : List Memory). cs ++ replicate (256 - k) Nothing) (sym (cells_fresh t)))
    (ap length c ∙ length-replicate 256 Nothing)
