-- What a turn of a sitting shows of a configuration of the machine.
use Rattle.std.proofs.Common.{◌≡◌, ℕ, zero, suc, ◌+◌, ◌-◌, ◌<◌, ◌≤◌, List, [], ◌∷◌, ◌++◌, length, take, Some, Ok, sym, refl, ap, ◌∙◌, length-append, arith}
use Rattle.std.specs.Prelude.{slice_get}
use Rattle.std.proofs.lemmas.Bool.{lt-ltb}
use Rattle.std.proofs.lemmas.List.{take_at}
use Rattle.mission.specs.Missions.{meaning}
use Rattle.mission.specs.Places.{node_at}
use Rattle.mission.specs.Trees.{Leaf}
use Rattle.mission.specs.declared.node.Node.{Node}
use Rattle.mission.specs.declared.node.Node.TheVariants.{Group, Par}
use Rattle.rules.specs.declared.status.Status.{Status}
use Rattle.rules.specs.Visiting.{size, Actions}
use Rattle.rules.proofs.Shapes.{kind_of}
use Rattle.sitting.specs.Cells.{marks, results_cell}
use Rattle.sitting.specs.Desks.{Bench, Boards}
use Rattle.sitting.specs.Tables.{beyond}
use Rattle.sitting.specs.Turns.{Stage, stage, frame, descend, popped, answered, turned}
use Rattle.sitting.specs.Zipper.{Frame, in_group, in_par, in_not, in_loop, Config, down, look_group, look_par, up, nodes, nodes_in}
use Rattle.sitting.specs.declared.frame.Frame.{Frame as Spot}
use Rattle.sitting.specs.declared.memory.Memory.{Memory}
use Rattle.sitting.specs.declared.executive.Executive.{Executive}
use Rattle.sitting.specs.declared.turn.Turn.{Turn}
use Rattle.sitting.specs.declared.turn.Turn.TheVariants.{Enter, Look, Answer}
use Rattle.sitting.proofs.Laid.{place, past_cell, At, Laid, LaidIn, Held}

-- the last of a stack is this, and what is below it has Q
pub record Pushed (S : List Spot) (f : Spot) (Q : List Spot → Type 0) : Type 0 where
  pub below : List Spot
  pub top : S ≡ below ++ f ∷ []
  pub rest : Q below

-- the frames, the innermost last; the number of a child counts in a par alone
abbrev pub Stacked : List Spot → List Frame → Type 0
Stacked S [] = S ≡ []
Stacked S (in_group p m bs ks ∷ K) = (n : ℕ) × Pushed S (frame (place K) (suc (place K) + nodes_in bs) n) (λ T. Stacked T K)
Stacked S (in_par n bs g ks ∷ K) = Pushed S (frame (place K) (suc (place K) + nodes_in bs) (size bs)) (λ T. Stacked T K)
Stacked S (in_not ∷ K) = (n : ℕ) × Pushed S (frame (place K) (suc (place K)) n) (λ T. Stacked T K)
Stacked S (in_loop p times c ∷ K) = (n : ℕ) × Pushed S (frame (place K) (suc (place K)) n) (λ T. Stacked T K)

pushed_length : (S : List Spot) (f : Spot) (Q : List Spot → Type 0) (p : Pushed S f Q) → length S ≡ suc (length p.below)
pushed_length S f Q p = ap length p.top ∙ length-append p.below (f ∷ []) ∙ omega arith

pub stacked_length : (S : List Spot) (K : List Frame) → Stacked S K → length S ≡ length K
stacked_length S [] h = ap length h
stacked_length S (in_group p m bs ks ∷ K) h = pushed_length S _ _ h.1 ∙ ap suc (stacked_length (h.1).below K (h.1).rest)
stacked_length S (in_par n bs g ks ∷ K) h = pushed_length S _ _ h ∙ ap suc (stacked_length h.below K h.rest)
stacked_length S (in_not ∷ K) h = pushed_length S _ _ h.1 ∙ ap suc (stacked_length (h.1).below K (h.1).rest)
stacked_length S (in_loop p times c ∷ K) h = pushed_length S _ _ h.1 ∙ ap suc (stacked_length (h.1).below K (h.1).rest)

last_is : (T : List Spot) (f : Spot) (n : ℕ) → n ≡ length T → slice_get (T ++ f ∷ []) n ≡ Some f
last_is [] f zero e = refl
last_is [] f (suc n) e = absurd (omega arith)
last_is (x ∷ T) f zero e = absurd (omega arith)
last_is (x ∷ T) f (suc n) e = last_is T f n (omega arith)

pub beyond_is : (i n : ℕ) → i + n ≤ 65535 → beyond i n ≡ i + n
beyond_is i n h = omega arith

module _ (s : Executive) where
  abbrev pub here : ℕ → Node
  here i = node_at (meaning s.mission).nodes i

  -- the sitting in a visit, with this memory and these frames, at this bench
  abbrev pub staged : List Memory → List Spot → Bench → Boards → Stage
  staged ms S b o = stage (record s { memories = ms; ledger = b.ledger }) S b.bank o b.rows

  -- an answer is heard by the node of the innermost frame
  pub heard : (ms : List Memory) (S : List Spot) (b : Bench) (o : Boards) (a : Status) (f : Spot) (Q : List Spot → Type 0) (p : Pushed S f Q) →
      turned (Answer a) (staged ms S b o) ≡ answered (here f.node) f a (staged ms p.below b o)
  heard ms S b o a f Q p =
      let n = pushed_length S f Q p in
      let e : length S - 1 ≡ length p.below = omega arith in
      let l : slice_get S (length S - 1) ≡ Some f = ap (λ (T : List Spot). slice_get T (length S - 1)) p.top ∙ last_is p.below f (length S - 1) e in
      let q : popped S ≡ p.below = ap (λ (T : List Spot). take (length S - 1) T) p.top ∙ take_at p.below (f ∷ []) (length S - 1) (sym e) in
      rw (l, q) refl

  -- a child is entered
  pub descends : (ms : List Memory) (S : List Spot) (b : Bench) (o : Boards) (K : List Frame) (f : Spot) → Stacked S K → length K < 16 →
      descend f (staged ms S b o) ≡ (Ok (Enter f.child), staged ms (S ++ f ∷ []) b o)
  descends ms S b o K f h l =
      let n = stacked_length S K h in
      let e : length S < 16 = omega arith in
      rw (lt-ltb (length S) 16 e) refl

module _ (s : Executive) (A : Actions) (R : A.World → Bench → Boards → Type 0) (P : Leaf → Type 0) where
  -- what is round a configuration
  pub record Around (ms : List Memory) (S : List Spot) (b : Bench) (o : Boards) (K : List Frame) (w : A.World) : Type 0 where
    pub stack : Stacked S K
    pub world : R w b o
    pub long : length ms ≡ 256

  abbrev pub Shown : Config A.World → Turn → List Memory → List Spot → Bench → Boards → Type 0
  Shown (down x w K) t ms S b o = (t ≡ Enter (place K)) × Laid s P ms (place K) x × Held s P ms (nodes x) K × Around ms S b o K w
  Shown (look_group p m bs ks w K) t ms S b o =
      (n : ℕ)
      × (t ≡ Look (frame (place K) (suc (place K) + nodes_in bs) n))
      × At s ms (place K) (Group (kind_of p m) (size bs + size ks)) (place K + suc (nodes_in bs + nodes_in ks)) (past_cell m bs)
      × LaidIn s P ms (suc (place K)) bs
      × LaidIn s P ms (suc (place K) + nodes_in bs) ks
      × Held s P ms (suc (nodes_in bs + nodes_in ks)) K
      × Around ms S b o K w
  Shown (look_par n bs g ks w K) t ms S b o =
      (t ≡ Look (frame (place K) (suc (place K) + nodes_in bs) (size bs)))
      × At s ms (place K) (Par (size bs + size ks) n) (place K + suc (nodes_in bs + nodes_in ks)) (results_cell (marks bs ++ marks ks))
      × (size bs + size ks ≤ 32)
      × LaidIn s P ms (suc (place K)) bs
      × LaidIn s P ms (suc (place K) + nodes_in bs) ks
      × Held s P ms (suc (nodes_in bs + nodes_in ks)) K
      × Around ms S b o K w
  Shown (up a w f x K) t ms S b o = (t ≡ Answer a) × Laid s P ms (place K) x × Held s P ms (nodes x) K × Around ms S b o K w

  -- one turn leads to what shows c
  pub record Follows (c : Config A.World) (t : Turn) (ms : List Memory) (S : List Spot) (b : Bench) (o : Boards) : Type 0 where
    pub turn : Turn
    pub memories : List Memory
    pub spots : List Spot
    pub bench : Bench
    pub boards : Boards
    pub turns : turned t (staged s ms S b o) ≡ (Ok turn, staged s memories spots bench boards)
    pub shown : Shown c turn memories spots bench boards

  pub follows_at : (c : Config A.World) (t u : Turn) (ms : List Memory) (S : List Spot) (b : Bench) (o : Boards) → t ≡ u → Follows c u ms S b o → Follows c t ms S b o
  follows_at c t u ms S b o e f = record {
    turn = f.turn;
    memories = f.memories;
    spots = f.spots;
    bench = f.bench;
    boards = f.boards;
    turns = ap (λ v. turned v (staged s ms S b o)) e ∙ f.turns;
    shown = f.shown;
  }
