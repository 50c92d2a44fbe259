-- The halting walk over the places of a tree halts the tree.
use Rattle.std.proofs.Common.{◌≡◌, ℕ, suc, ◌+◌, ◌-◌, Bool, true, false, List, length, Ok, sym, refl, ap, ap₂, ◌∙◌, set, subst, arith}
use Rattle.mission.specs.Missions.{meaning}
use Rattle.mission.specs.Places.{node_at}
use Rattle.mission.specs.Trees.{Leaf, skill, count, ability}
use Rattle.mission.specs.declared.node.Node.{Node}
use Rattle.mission.specs.declared.node.Node.TheVariants.{Group, Par}
use Rattle.rules.specs.Live.{Live, live_leaf, live_group, live_par, live_not, live_loop, Kids, no_kids, kid, cleared, cleared_kids}
use Rattle.rules.specs.Visiting.{size, Actions, halt, halt_kids}
use Rattle.rules.proofs.Shapes.{kind_of}
use Rattle.sitting.specs.Cells.{marks, any_ended, group_cell, results_cell}
use Rattle.sitting.specs.Desks.{Bench, Boards}
use Rattle.sitting.specs.Halting.{Desk, desk, Halted, halt_node, go_on, halt_places, halt_range}
use Rattle.sitting.specs.Zipper.{nodes, nodes_in}
use Rattle.sitting.specs.declared.memory.Memory.{Memory}
use Rattle.sitting.specs.declared.memory.Memory.TheVariants.{Nothing}
use Rattle.sitting.specs.declared.executive.Executive.{Executive}
use Rattle.sitting.proofs.Laid.{Away, away_none, away_wider, away_both, away_set, alike_before, alike_behind, At, at_alike, at_set, at_same, Laid, LaidIn, laid_alike, laid_in_alike}
use Rattle.sitting.proofs.Mirrors.{StopsAlike}

-- clearing keeps the shape, and leaves nothing remembered

mutual
  pub nodes_cleared : (x : Live) → nodes (cleared x) ≡ nodes x
  nodes_cleared (live_leaf l) = refl
  nodes_cleared (live_group p m ks) = ap suc (nodes_cleared_in ks)
  nodes_cleared (live_par n ks) = ap suc (nodes_cleared_in ks)
  nodes_cleared (live_not x) = ap suc (nodes_cleared x)
  nodes_cleared (live_loop p times n x) = ap suc (nodes_cleared x)

  pub nodes_cleared_in : (ks : Kids) → nodes_in (cleared_kids ks) ≡ nodes_in ks
  nodes_cleared_in no_kids = refl
  nodes_cleared_in (kid r x ks) = ap₂ (λ (a b : ℕ). a + b) (nodes_cleared x) (nodes_cleared_in ks)

pub size_cleared : (ks : Kids) → size (cleared_kids ks) ≡ size ks
size_cleared no_kids = refl
size_cleared (kid r x ks) = ap suc (size_cleared ks)

pub group_cell_cleared : (m : Bool) (ks : Kids) → group_cell m (cleared_kids ks) ≡ Nothing
group_cell_cleared true no_kids = refl
group_cell_cleared true (kid r x ks) = refl
group_cell_cleared false ks = refl

none_ended : (ks : Kids) → any_ended (marks (cleared_kids ks)) ≡ false
none_ended no_kids = refl
none_ended (kid r x ks) = none_ended ks

pub results_cell_cleared : (ks : Kids) → results_cell (marks (cleared_kids ks)) ≡ Nothing
results_cell_cleared ks = rw (none_ended ks) refl

module _ (s : Executive) where
  -- the sitting with this memory, at this bench
  abbrev pub at_desk : List Memory → Bench → Desk
  at_desk ms b = desk (record s { memories = ms; ledger = b.ledger }) b.bank b.rows

  abbrev node_here : ℕ → Node
  node_here i = node_at (meaning s.mission).nodes i

  place_halted : (n i : ℕ) (ms : List Memory) (b c : Bench) (N : Node) → node_here i ≡ N → halt_node N (at_desk (set ms i Nothing) b) ≡ (Ok tt, at_desk (set ms i Nothing) c) →
      halt_places (suc n) i (at_desk ms b) ≡ halt_places n (suc i) (at_desk (set ms i Nothing) c)
  unfolding halt_places
  place_halted n i ms b c N e h =
      let one : i + 1 ≡ suc i = omega arith in
      ap (λ (r : Halted). go_on r (halt_places n (i + 1))) (ap (λ (o : Node). halt_node o (at_desk (set ms i Nothing) b)) e ∙ h)
      ∙ ap (λ j. halt_places n j (at_desk (set ms i Nothing) c)) one

module _ (s : Executive) (A : Actions) (R : A.World → Bench → Boards → Type 0) (P : Leaf → Type 0) (M : StopsAlike A R P) where
  -- a walk over n places from i on: afterwards the memory has Q, and the world is v
  pub record Halting (ms : List Memory) (b : Bench) (t : Boards) (i n : ℕ) (Q : List Memory → Type 0) (v : A.World) : Type 0 where
    pub after : List Memory
    pub bench : Bench
    pub walks : (m more j : ℕ) → m ≡ n + more → j ≡ i + n → halt_places m i (at_desk s ms b) ≡ halt_places more j (at_desk s after bench)
    pub laid : Q after
    pub away : Away ms after i (i + n)
    pub holds : R v bench t

  -- one place, and then those below
  above_halted : (ms : List Memory) (b c : Bench) (t : Boards) (i n e : ℕ) (N : Node) (m : Memory) (Q Z : List Memory → Type 0) (v : A.World) →
      length ms ≡ 256 → At s ms i N e m → halt_node N (at_desk s (set ms i Nothing) b) ≡ (Ok tt, at_desk s (set ms i Nothing) c) →
      Halting (set ms i Nothing) c t (suc i) n Q v → ((ls : List Memory) → Q ls → At s ls i N e Nothing → Z ls) → Halting ms b t i (suc n) Z v
  above_halted ms b c t i n e N m Q Z v long a h below z = record {
    after = below.after;
    bench = below.bench;
    walks = λ (k more j : ℕ) (p : k ≡ suc n + more) (q : j ≡ i + suc n).
        let r : k ≡ suc (n + more) = omega arith in
        ap (λ o. halt_places o i (at_desk s ms b)) r ∙ place_halted s (n + more) i ms b c N a.node h ∙ below.walks (n + more) more j refl (omega arith);
    laid = z below.after below.laid (at_alike s (set ms i Nothing) below.after i N e Nothing (at_set s ms i N e m Nothing long a) (below.away.before i (omega arith)));
    away = away_both ms (set ms i Nothing) below.after i (i + suc n) (away_wider _ _ _ _ _ _ (away_set ms i Nothing) (omega arith) (omega arith)) (away_wider _ _ _ _ _ _ below.away (omega arith) (omega arith));
    holds = below.holds;
  }

  nothing_halted : (ms : List Memory) (b : Bench) (t : Boards) (i : ℕ) (Q : List Memory → Type 0) (v : A.World) → Q ms → R v b t → Halting ms b t i 0 Q v
  nothing_halted ms b t i Q v q r = record {
    after = ms;
    bench = b;
    walks = λ (k more j : ℕ) (p : k ≡ 0 + more) (e : j ≡ i + 0).
        let d : k ≡ more = omega arith in
        let f : i ≡ j = omega arith in
        ap₂ (λ (o l : ℕ). halt_places o l (at_desk s ms b)) d f;
    laid = q;
    away = away_none ms i (i + 0);
    holds = r;
  }

  leaf_halted : (ms : List Memory) (b : Bench) (t : Boards) (i : ℕ) (l : Leaf) (w : A.World) → length ms ≡ 256 → Laid s P ms i (live_leaf l) → R w b t →
      Halting ms b t i 1 (λ ls. Laid s P ls i (live_leaf l)) (A.stop_leaf l w)
  leaf_halted ms b t i (skill k device target) w long h r =
      let d = M.skills k device target w b t h.1 r in
      above_halted ms b d.bench t i 0 (i + 1) _ Nothing (λ ls. Unit {0}) (λ ls. Laid s P ls i (live_leaf (skill k device target))) (A.stop_leaf (skill k device target) w) long h.0
      (rw (d.does) refl)
      (nothing_halted _ d.bench t (suc i) (λ ls. Unit {0}) _ tt d.holds) (λ ls q a. (a, h.1))
  leaf_halted ms b t i (count key least) w long h r =
      above_halted ms b b t i 0 (i + 1) _ Nothing (λ ls. Unit {0}) (λ ls. Laid s P ls i (live_leaf (count key least))) (A.stop_leaf (count key least) w) long h.0 refl
      (nothing_halted _ b t (suc i) (λ ls. Unit {0}) _ tt (subst (λ (v : A.World). R v b t) (sym (M.counts key least w)) r)) (λ ls q a. (a, h.1))
  leaf_halted ms b t i (ability key least) w long h r =
      above_halted ms b b t i 0 (i + 1) _ Nothing (λ ls. Unit {0}) (λ ls. Laid s P ls i (live_leaf (ability key least))) (A.stop_leaf (ability key least) w) long h.0 refl
      (nothing_halted _ b t (suc i) (λ ls. Unit {0}) _ tt (subst (λ (v : A.World). R v b t) (sym (M.abilities key least w)) r)) (λ ls q a. (a, h.1))

  -- a walk and then another
  both_halted : (ms : List Memory) (b : Bench) (t : Boards) (i n o : ℕ) (Q S Z : List Memory → Type 0) (v u : A.World) (one : Halting ms b t i n Q v) →
      Halting one.after one.bench t (i + n) o S u → ((ls ks : List Memory) → Q ls → S ks → Away ls ks (i + n) ((i + n) + o) → Z ks) → Halting ms b t i (n + o) Z u
  both_halted ms b t i n o Q S Z v u one two z = record {
    after = two.after;
    bench = two.bench;
    walks = λ (k more j : ℕ) (p : k ≡ (n + o) + more) (q : j ≡ i + (n + o)).
        one.walks k (o + more) (i + n) (omega arith) refl ∙ two.walks (o + more) more j refl (omega arith);
    laid = z one.after two.after one.laid two.laid two.away;
    away = away_both ms one.after two.after i (i + (n + o)) (away_wider _ _ _ _ _ _ one.away (omega arith) (omega arith)) (away_wider _ _ _ _ _ _ two.away (omega arith) (omega arith));
    holds = two.holds;
  }

  mutual
    pub tree_halted : (ms : List Memory) (b : Bench) (t : Boards) (i : ℕ) (x : Live) (w : A.World) → length ms ≡ 256 → Laid s P ms i x → R w b t →
        Halting ms b t i (nodes x) (λ ls. Laid s P ls i (cleared x)) (halt A x w)
    tree_halted ms b t i (live_leaf l) w long h r = leaf_halted ms b t i l w long h r
    tree_halted ms b t i (live_group p m ks) w long h r =
        let a = nodes_cleared_in ks in
        above_halted ms b b t i (nodes_in ks) _ _ _ (λ ls. LaidIn s P ls (suc i) (cleared_kids ks)) _ _ long h.0 refl
        (row_halted (set ms i Nothing) b t (suc i) ks w ((away_set ms i Nothing).long ∙ long)
        (laid_in_alike s P ms (set ms i Nothing) (suc i) ks h.1 (alike_behind _ _ _ _ _ _ (away_set ms i Nothing) (omega arith))) r)
        (λ ls q o. (at_same s ls i _ _ _ _ _ _ o (ap (Group (kind_of p m)) (sym (size_cleared ks))) (omega arith) (sym (group_cell_cleared m ks)), q))
    tree_halted ms b t i (live_par n ks) w long h r =
        let a = nodes_cleared_in ks in
        let c = size_cleared ks in
        let d = h.1 in
        above_halted ms b b t i (nodes_in ks) _ _ _ (λ ls. LaidIn s P ls (suc i) (cleared_kids ks)) _ _ long h.0 refl
        (row_halted (set ms i Nothing) b t (suc i) ks w ((away_set ms i Nothing).long ∙ long)
        (laid_in_alike s P ms (set ms i Nothing) (suc i) ks h.2 (alike_behind _ _ _ _ _ _ (away_set ms i Nothing) (omega arith))) r)
        (λ ls q o. (at_same s ls i _ _ _ _ _ _ o (ap (λ k. Par k n) (sym (size_cleared ks))) (omega arith) (sym (results_cell_cleared ks)), omega arith, q))
    tree_halted ms b t i (live_not x) w long h r =
        let a = nodes_cleared x in
        above_halted ms b b t i (nodes x) _ _ _ (λ ls. Laid s P ls (suc i) (cleared x)) _ _ long h.0 refl
        (tree_halted (set ms i Nothing) b t (suc i) x w ((away_set ms i Nothing).long ∙ long)
        (laid_alike s P ms (set ms i Nothing) (suc i) x h.1 (alike_behind _ _ _ _ _ _ (away_set ms i Nothing) (omega arith))) r)
        (λ ls q o. (at_same s ls i _ _ _ _ _ _ o refl (omega arith) refl, q))
    tree_halted ms b t i (live_loop p times n x) w long h r =
        let a = nodes_cleared x in
        above_halted ms b b t i (nodes x) _ _ _ (λ ls. Laid s P ls (suc i) (cleared x)) _ _ long h.0 refl
        (tree_halted (set ms i Nothing) b t (suc i) x w ((away_set ms i Nothing).long ∙ long)
        (laid_alike s P ms (set ms i Nothing) (suc i) x h.3 (alike_behind _ _ _ _ _ _ (away_set ms i Nothing) (omega arith))) r)
        (λ ls q o. (at_same s ls i _ _ _ _ _ _ o refl (omega arith) refl, h.1, omega arith, q))

    pub row_halted : (ms : List Memory) (b : Bench) (t : Boards) (i : ℕ) (ks : Kids) (w : A.World) → length ms ≡ 256 → LaidIn s P ms i ks → R w b t →
        Halting ms b t i (nodes_in ks) (λ ls. LaidIn s P ls i (cleared_kids ks)) (halt_kids A ks w)
    row_halted ms b t i no_kids w long h r = nothing_halted ms b t i _ w tt r
    row_halted ms b t i (kid k x ks) w long h r =
        let one = tree_halted ms b t i x w long h.0 r in
        let e = nodes_cleared x in
        both_halted ms b t i (nodes x) (nodes_in ks) (λ ls. Laid s P ls i (cleared x)) (λ ls. LaidIn s P ls (i + nodes x) (cleared_kids ks)) _ _ _ one
        (row_halted one.after one.bench t (i + nodes x) ks (halt A x w) (one.away.long ∙ long) (laid_in_alike s P ms one.after (i + nodes x) ks h.1 (alike_behind _ _ _ _ _ _ one.away (omega arith))) one.holds)
        (λ ls ks' q z a. (laid_alike s P ls ks' i (cleared x) q (alike_before _ _ _ _ _ _ a (omega arith)), rw (nodes_cleared x) z))

  -- as one walk over a range
  pub range_halted : (ms : List Memory) (b : Bench) (t : Boards) (i n from to : ℕ) (Q : List Memory → Type 0) (v : A.World) (h : Halting ms b t i n Q v) → from ≡ i → to ≡ i + n →
      halt_range from to (at_desk s ms b) ≡ (Ok tt, at_desk s h.after h.bench)
  unfolding halt_places
  range_halted ms b t i n from to Q v h e f =
      let d : to - from ≡ n + 0 = omega arith in
      ap (λ k. halt_places (to - from) k (at_desk s ms b)) e ∙ h.walks (to - from) 0 to d f
