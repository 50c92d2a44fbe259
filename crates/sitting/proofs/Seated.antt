-- A sitting over a live tree of its mission: a visit of the root and a halt of the root, over the tables as by the rules.
use Rattle.std.proofs.Common.{◌≡◌, ℕ, zero, suc, ◌+◌, ◌<◌, ◌≤◌, Bool, true, false, List, [], ◌∷◌, ◌++◌, length, drop, replicate, Ok, sym, refl, ap, ap₂, ◌∙◌, get_or, append_assoc, length-append, subst, arith}
use Rattle.std.proofs.lemmas.List.{drop_more, replicate-append-replicate}
use Rattle.bank.specs.Skills.{Skill}
use Rattle.mission.specs.Missions.{meaning}
use Rattle.mission.specs.Trees.{Leaf, Tree, leaf, group, par, neg, again, Trees, nil, cons, width, leaf_node, flatten, flattens}
use Rattle.mission.specs.declared.node.Node.{Node}
use Rattle.mission.specs.declared.node.Node.TheVariants.{Group, Par, Not}
use Rattle.rules.specs.declared.line.Line.{Line}
use Rattle.rules.specs.declared.status.Status.{Status}
use Rattle.rules.specs.Live.{remembers, Live, live_leaf, live_group, live_par, live_not, live_loop, Kids, no_kids, kid, fresh, fresh_kids, cleared, cleared_kids}
use Rattle.rules.specs.Visiting.{gives, size, Actions, halt, visit}
use Rattle.rules.proofs.Shapes.{kind_of, bare, bare_kids}
use Rattle.sitting.specs.Cells.{marks, any_ended, group_cell, results_cell, cells, cells_in}
use Rattle.sitting.specs.Ends.{span, spans, ends, all_ends}
use Rattle.sitting.specs.Desks.{Bench, bench, Boards}
use Rattle.sitting.specs.Halting.{desk, halt_range}
pub use Rattle.sitting.specs.Seats.{Seated}
use Rattle.sitting.specs.Tidy.{Tidy}
use Rattle.sitting.specs.Turns.{stage, visited}
use Rattle.sitting.specs.Zipper.{nodes, nodes_in, depth, down}
use Rattle.sitting.specs.declared.ledger.Ledger.{Ledger}
use Rattle.sitting.specs.declared.memory.Memory.{Memory}
use Rattle.sitting.specs.declared.memory.Memory.TheVariants.{Nothing}
use Rattle.sitting.specs.declared.executive.Executive.{Executive}
use Rattle.sitting.specs.declared.turn.Turn.TheVariants.{Enter}
use Rattle.sitting.proofs.Depths.{depth_cleared}
use Rattle.sitting.proofs.Stepping.{laid_ends, laid_within}
use Rattle.sitting.proofs.Halted.{group_cell_cleared, results_cell_cleared, tree_halted, range_halted}
use Rattle.sitting.proofs.Laid.{At, at_same, Laid, LaidIn}
use Rattle.sitting.proofs.Mirrors.{StopsAlike, Mirrors}
use Rattle.sitting.proofs.Simulating.{runs}
use Rattle.sitting.proofs.Tidying.{cleared_tidy}
use Rattle.sitting.proofs.Zipping.{cost_nodes}

-- its leaves have P, its pars at most 32 children, and its loops count within bounds
module _ (P : Leaf → Type 0) where
  abbrev mutual
    pub Fine : Live → Type 0
    Fine (live_leaf l) = P l
    Fine (live_group p m ks) = AllFine ks
    Fine (live_par n ks) = (size ks ≤ 32) × AllFine ks
    Fine (live_not x) = Fine x
    Fine (live_loop p times n x) = (times ≤ 60000) × (n ≤ 60000) × Fine x

    pub AllFine : Kids → Type 0
    AllFine no_kids = Unit {0}
    AllFine (kid r x ks) = Fine x × AllFine ks

-- cells of cleared trees

mutual
  pub cells_length : (x : Live) → length (cells x) ≡ nodes x
  cells_length (live_leaf l) = refl
  cells_length (live_group p m ks) = ap suc (cells_length_in ks)
  cells_length (live_par n ks) = ap suc (cells_length_in ks)
  cells_length (live_not x) = ap suc (cells_length x)
  cells_length (live_loop p times n x) = ap suc (cells_length x)

  cells_length_in : (ks : Kids) → length (cells_in ks) ≡ nodes_in ks
  cells_length_in no_kids = refl
  cells_length_in (kid r x ks) = length-append (cells x) (cells_in ks) ∙ ap₂ (λ (a b : ℕ). a + b) (cells_length x) (cells_length_in ks)

mutual
  pub cells_cleared : (x : Live) → cells (cleared x) ≡ replicate (nodes x) Nothing
  cells_cleared (live_leaf l) = refl
  cells_cleared (live_group p m ks) = ap₂ (λ (c : Memory) (cs : List Memory). c ∷ cs) (group_cell_cleared m ks) (cells_cleared_in ks)
  cells_cleared (live_par n ks) = ap₂ (λ (c : Memory) (cs : List Memory). c ∷ cs) (results_cell_cleared ks) (cells_cleared_in ks)
  cells_cleared (live_not x) = ap (λ (cs : List Memory). Nothing ∷ cs) (cells_cleared x)
  cells_cleared (live_loop p times n x) = ap (λ (cs : List Memory). Nothing ∷ cs) (cells_cleared x)

  cells_cleared_in : (ks : Kids) → cells_in (cleared_kids ks) ≡ replicate (nodes_in ks) Nothing
  cells_cleared_in no_kids = refl
  cells_cleared_in (kid r x ks) =
      ap₂ (λ (c d : List Memory). c ++ d) (cells_cleared x) (cells_cleared_in ks) ∙ replicate-append-replicate (nodes x) (nodes_in ks) Nothing

fresh_group : (m : Bool) (ts : Trees) → group_cell m (fresh_kids ts) ≡ Nothing
fresh_group true nil = refl
fresh_group true (cons t ts) = refl
fresh_group false ts = refl

fresh_none : (ts : Trees) → any_ended (marks (fresh_kids ts)) ≡ false
fresh_none nil = refl
fresh_none (cons t ts) = fresh_none ts

fresh_results : (ts : Trees) → results_cell (marks (fresh_kids ts)) ≡ Nothing
fresh_results ts = rw (fresh_none ts) refl

mutual
  pub cells_fresh : (t : Tree) → cells (fresh t) ≡ replicate (nodes (fresh t)) Nothing
  cells_fresh (leaf l) = refl
  cells_fresh (group kind ts) = ap₂ (λ (c : Memory) (cs : List Memory). c ∷ cs) (fresh_group (remembers kind) ts) (cells_fresh_in ts)
  cells_fresh (par n ts) = ap₂ (λ (c : Memory) (cs : List Memory). c ∷ cs) (fresh_results ts) (cells_fresh_in ts)
  cells_fresh (neg t) = ap (λ (cs : List Memory). Nothing ∷ cs) (cells_fresh t)
  cells_fresh (again kind times t) = ap (λ (cs : List Memory). Nothing ∷ cs) (cells_fresh t)

  cells_fresh_in : (ts : Trees) → cells_in (fresh_kids ts) ≡ replicate (nodes_in (fresh_kids ts)) Nothing
  cells_fresh_in nil = refl
  cells_fresh_in (cons t ts) =
      ap₂ (λ (c d : List Memory). c ++ d) (cells_fresh t) (cells_fresh_in ts) ∙ replicate-append-replicate (nodes (fresh t)) (nodes_in (fresh_kids ts)) Nothing

-- from the tables as lists

first_at : {X : Type 0} (xs : List X) (i : ℕ) (y : X) (more : List X) (d : X) → drop i xs ≡ y ∷ more → (get_or xs i d ≡ y) × (drop (suc i) xs ≡ more)
first_at [] zero y more d e = absurd (cc)
first_at [] (suc i) y more d e = absurd (cc)
first_at (x ∷ xs) zero y more d e = (cc, cc)
first_at (x ∷ xs) (suc i) y more d e = first_at xs i y more d e

width_is : (ks : Kids) → width (bare_kids ks) ≡ size ks
width_is no_kids = refl
width_is (kid r x ks) = ap suc (width_is ks)

mutual
  pub span_is : (x : Live) → span (bare x) ≡ nodes x
  span_is (live_leaf l) = refl
  span_is (live_group p m ks) = ap suc (spans_are ks)
  span_is (live_par n ks) = ap suc (spans_are ks)
  span_is (live_not x) = ap suc (span_is x)
  span_is (live_loop p times n x) = ap suc (span_is x)

  spans_are : (ks : Kids) → spans (bare_kids ks) ≡ nodes_in ks
  spans_are no_kids = refl
  spans_are (kid r x ks) = ap₂ (λ (a b : ℕ). a + b) (span_is x) (spans_are ks)

module _ (s : Executive) where
  -- the tables from place i on
  pub record Fed (ms : List Memory) (i : ℕ) (N : List Node) (E : List ℕ) (C : List Memory) : Type 0 where
    pub kinds : drop i (meaning s.mission).nodes ≡ N
    pub ends : drop i s.ends ≡ E
    pub cells : drop i ms ≡ C

  fed_moved : (ms : List Memory) (i j : ℕ) (N : List Node) (E : List ℕ) (C : List Memory) → Fed ms i N E C → i ≡ j → Fed ms j N E C
  fed_moved ms i j N E C f e = subst (λ (k : ℕ). Fed ms k N E C) e f

  fed_same : (ms : List Memory) (i : ℕ) (N O : List Node) (E F : List ℕ) (C D : List Memory) → Fed ms i N E C → N ≡ O → E ≡ F → C ≡ D → Fed ms i O F D
  fed_same ms i N O E F C D f p q r = record { kinds = f.kinds ∙ p; ends = f.ends ∙ q; cells = f.cells ∙ r }

  fed_first : (ms : List Memory) (i : ℕ) (n : Node) (e : ℕ) (m : Memory) (N : List Node) (E : List ℕ) (C : List Memory) → Fed ms i (n ∷ N) (e ∷ E) (m ∷ C) → i < 256 → e ≤ 256 →
      At s ms i n e m × Fed ms (suc i) N E C
  fed_first ms i n e m N E C f r w =
      let a = first_at (meaning s.mission).nodes i n N Not f.kinds in
      let b = first_at s.ends i e E 0 f.ends in
      let c = first_at ms i m C Nothing f.cells in
      (record { room = r; within = w; node = a.0; ends = b.0; cell = c.0 }, record { kinds = a.1; ends = b.1; cells = c.1 })

module _ (s : Executive) (P : Leaf → Type 0) where
  -- a node, and the tables below it
  fed_node : (ms : List Memory) (i d : ℕ) (n : Node) (m : Memory) (N : List Node) (E : ℕ → List ℕ) (C : List Memory) (k : ℕ) → Fed s ms i (n ∷ N) (((i + 1) + d) ∷ E (i + 1)) (m ∷ C) → d ≡ k → i + suc k ≤ 256 →
      At s ms i n (i + suc k) m × Fed s ms (suc i) N (E (suc i)) C
  fed_node ms i d n m N E C k f e w =
      let j : i + 1 ≡ suc i = omega arith in
      let a = fed_first s ms i n ((i + 1) + d) m N (E (i + 1)) C f (omega arith) (omega arith) in
      (at_same s ms i _ _ _ _ _ _ a.0 refl (omega arith) refl, fed_same s ms (suc i) _ _ _ _ _ _ a.1 refl (ap E j) refl)

  mutual
    laid_from : (x : Live) (ms : List Memory) (i : ℕ) (N : List Node) (E : List ℕ) (C : List Memory) → Fed s ms i (flatten (bare x) ++ N) (ends (bare x) i ++ E) (cells x ++ C) → i + nodes x ≤ 256 →
        Fine P x → Laid s P ms i x × Fed s ms (i + nodes x) N E C
    laid_from (live_leaf l) ms i N E C f w h =
        let a = fed_first s ms i (leaf_node l) (i + 1) Nothing N E C f (omega arith) w in
        ((a.0, h), fed_moved s ms _ _ N E C a.1 (omega arith))
    laid_from (live_group p m ks) ms i N E C f w h =
        let a = fed_node ms i _ _ _ _ (λ j. all_ends (bare_kids ks) j ++ E) _ (nodes_in ks) f (spans_are ks) w in
        let k = laid_in_from ks ms (suc i) N E C a.1 (omega arith) h in
        ((subst (λ (j : ℕ). At s ms i (Group (kind_of p m) j) (i + suc (nodes_in ks)) (group_cell m ks)) (width_is ks) a.0, k.0), fed_moved s ms _ _ N E C k.1 (omega arith))
    laid_from (live_par n ks) ms i N E C f w h =
        let a = fed_node ms i _ _ _ _ (λ j. all_ends (bare_kids ks) j ++ E) _ (nodes_in ks) f (spans_are ks) w in
        let k = laid_in_from ks ms (suc i) N E C a.1 (omega arith) h.1 in
        ((subst (λ (j : ℕ). At s ms i (Par j n) (i + suc (nodes_in ks)) (results_cell (marks ks))) (width_is ks) a.0, h.0, k.0), fed_moved s ms _ _ N E C k.1 (omega arith))
    laid_from (live_not x) ms i N E C f w h =
        let a = fed_node ms i _ _ _ _ (λ j. ends (bare x) j ++ E) _ (nodes x) f (span_is x) w in
        let k = laid_from x ms (suc i) N E C a.1 (omega arith) h in
        ((a.0, k.0), fed_moved s ms _ _ N E C k.1 (omega arith))
    laid_from (live_loop p times n x) ms i N E C f w h =
        let a = fed_node ms i _ _ _ _ (λ j. ends (bare x) j ++ E) _ (nodes x) f (span_is x) w in
        let k = laid_from x ms (suc i) N E C a.1 (omega arith) h.2 in
        ((a.0, h.0, h.1, k.0), fed_moved s ms _ _ N E C k.1 (omega arith))

    laid_in_from : (ks : Kids) (ms : List Memory) (i : ℕ) (N : List Node) (E : List ℕ) (C : List Memory) →
        Fed s ms i (flattens (bare_kids ks) ++ N) (all_ends (bare_kids ks) i ++ E) (cells_in ks ++ C) → i + nodes_in ks ≤ 256 → AllFine P ks →
        LaidIn s P ms i ks × Fed s ms (i + nodes_in ks) N E C
    laid_in_from no_kids ms i N E C f w h = (tt, fed_moved s ms i (i + 0) N E C f (omega arith))
    laid_in_from (kid r x ks) ms i N E C f w h =
        let a = laid_from x ms i (flattens (bare_kids ks) ++ N) (all_ends (bare_kids ks) (i + span (bare x)) ++ E) (cells_in ks ++ C)
        (fed_same s ms i _ _ _ _ _ _ f (append_assoc (flatten (bare x)) (flattens (bare_kids ks)) N)
        (append_assoc (ends (bare x) i) (all_ends (bare_kids ks) (i + span (bare x))) E) (append_assoc (cells x) (cells_in ks) C))
        (omega arith) h.0 in
        let b = fed_same s ms (i + nodes x) _ _ _ _ _ _ a.1 refl (ap (λ j. all_ends (bare_kids ks) (i + j) ++ E) (span_is x)) refl in
        let k = laid_in_from ks ms (i + nodes x) N E C b (omega arith) h.1 in
        ((a.0, k.0), fed_moved s ms _ _ N E C k.1 (omega arith))

  one_cell : (ms : List Memory) (i n j : ℕ) (N : Node) (e : ℕ) (m : Memory) (cs : List Memory) → length ms ≡ 256 → At s ms i N e m → drop (suc i) ms ≡ cs ++ drop (suc i + n) ms → j ≡ suc i + n →
      drop i ms ≡ (m ∷ cs) ++ drop j ms
  one_cell ms i n j N e m cs long a h q =
      let r = a.room in
      let l : i < length ms = omega arith in
      let d : i + 1 ≡ suc i = omega arith in
      drop_more ms i Nothing l ∙ ap₂ (λ (c : Memory) (k : ℕ). c ∷ drop k ms) a.cell d ∙ ap (λ (k : List Memory). m ∷ k) (h ∙ ap (λ k. cs ++ drop k ms) (sym q))

  -- and back
  mutual
    cells_from : (x : Live) (ms : List Memory) (i : ℕ) → length ms ≡ 256 → Laid s P ms i x → drop i ms ≡ cells x ++ drop (i + nodes x) ms
    cells_from (live_leaf l) ms i long h = let e : suc i ≡ suc i + 0 = omega arith in one_cell ms i 0 (i + 1) _ _ _ [] long h.0 (ap (λ k. drop k ms) e) (omega arith)
    cells_from (live_group p m ks) ms i long h = one_cell ms i (nodes_in ks) _ _ _ _ (cells_in ks) long h.0 (cells_in_from ks ms (suc i) long h.1) (omega arith)
    cells_from (live_par n ks) ms i long h = one_cell ms i (nodes_in ks) _ _ _ _ (cells_in ks) long h.0 (cells_in_from ks ms (suc i) long h.2) (omega arith)
    cells_from (live_not x) ms i long h = one_cell ms i (nodes x) _ _ _ _ (cells x) long h.0 (cells_from x ms (suc i) long h.1) (omega arith)
    cells_from (live_loop p times n x) ms i long h = one_cell ms i (nodes x) _ _ _ _ (cells x) long h.0 (cells_from x ms (suc i) long h.3) (omega arith)

    cells_in_from : (ks : Kids) (ms : List Memory) (i : ℕ) → length ms ≡ 256 → LaidIn s P ms i ks → drop i ms ≡ cells_in ks ++ drop (i + nodes_in ks) ms
    cells_in_from no_kids ms i long h = let e : i ≡ i + 0 = omega arith in ap (λ n. drop n ms) e
    cells_in_from (kid r x ks) ms i long h =
        let e : (i + nodes x) + nodes_in ks ≡ i + (nodes x + nodes_in ks) = omega arith in
        cells_from x ms i long h.0
        ∙ ap (λ (cs : List Memory). cells x ++ cs) (cells_in_from ks ms (i + nodes x) long h.1 ∙ ap (λ n. cells_in ks ++ drop n ms) e)
        ∙ sym (append_assoc (cells x) (cells_in ks) (drop (i + (nodes x + nodes_in ks)) ms))

  -- another sitting over the same tables
  at_on : (ms ls : List Memory) (g : Ledger) (i : ℕ) (n : Node) (e : ℕ) (m : Memory) → At s ms i n e m → At (record s { memories = ls; ledger = g }) ms i n e m
  at_on ms ls g i n e m a = record { room = a.room; within = a.within; node = a.node; ends = a.ends; cell = a.cell }

  mutual
    pub laid_on : (x : Live) (ms ls : List Memory) (g : Ledger) (i : ℕ) → Laid s P ms i x → Laid (record s { memories = ls; ledger = g }) P ms i x
    laid_on (live_leaf l) ms ls g i h = (at_on ms ls g i _ _ _ h.0, h.1)
    laid_on (live_group p m ks) ms ls g i h = (at_on ms ls g i _ _ _ h.0, laid_in_on ks ms ls g (suc i) h.1)
    laid_on (live_par n ks) ms ls g i h = (at_on ms ls g i _ _ _ h.0, h.1, laid_in_on ks ms ls g (suc i) h.2)
    laid_on (live_not x) ms ls g i h = (at_on ms ls g i _ _ _ h.0, laid_on x ms ls g (suc i) h.1)
    laid_on (live_loop p times n x) ms ls g i h = (at_on ms ls g i _ _ _ h.0, h.1, h.2, laid_on x ms ls g (suc i) h.3)

    laid_in_on : (ks : Kids) (ms ls : List Memory) (g : Ledger) (i : ℕ) → LaidIn s P ms i ks → LaidIn (record s { memories = ls; ledger = g }) P ms i ks
    laid_in_on no_kids ms ls g i h = tt
    laid_in_on (kid r x ks) ms ls g i h = (laid_on x ms ls g i h.0, laid_in_on ks ms ls g (i + nodes x) h.1)

  pub seated : (x : Live) (N : List Node) (E : List ℕ) (C : List Memory) → Tidy x → depth x ≤ 16 → nodes x ≤ 256 → Fine P x →
      (meaning s.mission).nodes ≡ flatten (bare x) ++ N → s.ends ≡ ends (bare x) 0 ++ E → s.memories ≡ cells x ++ C → length s.memories ≡ 256 → Seated s P x
  seated x N E C t d n f p q r l = record {
    tidy = t;
    shallow = d;
    laid = (laid_from x s.memories 0 N E C (record { kinds = p; ends = q; cells = r }) (omega arith) f).0;
    long = l;
  }

-- the sitting with this memory and this ledger
abbrev pub sat : Executive → List Memory → Ledger → Executive
sat s ms l = record s { memories = ms; ledger = l }

module _ (s : Executive) (A : Actions) (R : A.World → Bench → Boards → Type 0) (P : Leaf → Type 0) where
  -- what a visit of the root does
  pub record Visits (x : Live) (w : A.World) (bank : List Skill) (boards : Boards) (rows : List Line) : Type 0 where
    pub status : Status
    pub world : A.World
    pub front : List ℕ
    pub tree : Live
    pub is : visit A x w ≡ gives status world front tree
    pub memories : List Memory
    pub ledger : Ledger
    pub bank_after : List Skill
    pub boards_after : Boards
    pub rows_after : List Line
    pub does : visited 1024 (Enter 0) (stage s [] bank boards rows) ≡ (Ok status, stage (sat s memories ledger) [] bank_after boards_after rows_after)
    pub seated : Seated (sat s memories ledger) P tree
    pub same_nodes : nodes tree ≡ nodes x
    pub holds : R world (bench bank_after rows_after ledger) boards_after

  -- what a halt of the root does
  pub record Halts (x : Live) (w : A.World) (bank : List Skill) (boards : Boards) (rows : List Line) : Type 0 where
    pub memories : List Memory
    pub ledger : Ledger
    pub bank_after : List Skill
    pub rows_after : List Line
    pub does : halt_range 0 (nodes x) (desk s bank rows) ≡ (Ok tt, desk (sat s memories ledger) bank_after rows_after)
    pub seated : Seated (sat s memories ledger) P (cleared x)
    pub holds : R (halt A x w) (bench bank_after rows_after ledger) boards

  module _ (M : Mirrors A R P) where
    pub visits : (x : Live) (w : A.World) (bank : List Skill) (boards : Boards) (rows : List Line) → Seated s P x → R w (bench bank rows s.ledger) boards → Visits x w bank boards rows
    visits x w bank boards rows h r =
        let n = laid_within s A R P s.memories 0 x h.laid in
        let c = cost_nodes x in
        let d = h.shallow in
        let f = runs s A R P M 1024 (down x w []) (Enter 0) s.memories [] (bench bank rows s.ledger) boards (omega arith) (h.tidy, tt) (omega arith, tt)
        (refl, h.laid, tt, record { stack = refl; world = r; long = h.long }) in
        let p = laid_ends s A R P s.memories 0 x h.laid in
        let q = laid_ends s A R P f.memories 0 f.tree f.laid in
        record {
          status = f.status;
          world = f.world;
          front = f.front;
          tree = f.tree;
          is = f.is;
          memories = f.memories;
          ledger = f.bench.ledger;
          bank_after = f.bench.bank;
          boards_after = f.boards;
          rows_after = f.bench.rows;
          does = f.visits;
          seated = record { tidy = f.tidy; shallow = f.shallow; laid = laid_on s P f.tree f.memories f.memories f.bench.ledger 0 f.laid; long = f.long };
          same_nodes = omega arith;
          holds = f.holds;
        }

  module _ (M : StopsAlike A R P) where
    pub halts : (x : Live) (w : A.World) (bank : List Skill) (boards : Boards) (rows : List Line) → Seated s P x → R w (bench bank rows s.ledger) boards → Halts x w bank boards rows
    halts x w bank boards rows h r =
        let y = tree_halted s A R P M s.memories (bench bank rows s.ledger) boards 0 x w h.long h.laid r in
        let d = depth_cleared x in
        let k = h.shallow in
        record {
          memories = y.after;
          ledger = y.bench.ledger;
          bank_after = y.bench.bank;
          rows_after = y.bench.rows;
          does = range_halted s A R P M s.memories (bench bank rows s.ledger) boards 0 (nodes x) 0 (nodes x) _ _ y refl (omega arith);
          seated = record { tidy = cleared_tidy x; shallow = omega arith; laid = laid_on s P (cleared x) y.after y.after y.bench.ledger 0 y.laid; long = y.away.long ∙ h.long };
          holds = y.holds;
        }
