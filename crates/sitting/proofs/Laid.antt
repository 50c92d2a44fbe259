-- Where a live tree stands in the tables of a sitting.
use Rattle.std.proofs.Common.{◌≡◌, ℕ, suc, ◌+◌, ◌<◌, ◌≤◌, Bool, true, false, List, [], ◌∷◌, ◌++◌, length, refl, ◌∙◌, arith}
use Rattle.std.proofs.Common.{set, length-set}
use Rattle.std.proofs.lemmas.List.{get_or-set_same, get_or-set_other}
use Rattle.mission.specs.Trees.{Leaf}
use Rattle.mission.specs.declared.node.Node.{Node}
use Rattle.mission.specs.declared.node.Node.TheVariants.{Group, Par, Not, Loop}
use Rattle.rules.specs.Live.{pending, Live, live_leaf, live_group, live_par, live_not, live_loop, Kids, no_kids, kid}
use Rattle.rules.specs.Visiting.{size}
use Rattle.rules.proofs.Shapes.{kind_of, loop_of}
use Rattle.sitting.specs.Cells.{marks, ahead_cell, results_cell, loop_cell}
pub use Rattle.sitting.specs.Seats.{cell_at, At, Laid, LaidIn}
use Rattle.sitting.specs.Zipper.{Frame, in_group, in_par, in_not, in_loop, nodes, nodes_in}
use Rattle.sitting.specs.declared.memory.Memory.{Memory}
use Rattle.sitting.specs.declared.memory.Memory.TheVariants.{Nothing}
use Rattle.sitting.specs.declared.executive.Executive.{Executive}

-- two memories are one but for the places from lo on and before hi
pub record Away (ms ls : List Memory) (lo hi : ℕ) : Type 0 where
  pub before : (k : ℕ) → k < lo → cell_at ls k ≡ cell_at ms k
  pub behind : (k : ℕ) → hi ≤ k → cell_at ls k ≡ cell_at ms k
  pub long : length ls ≡ length ms

-- they are one there
pub record Alike (ms ls : List Memory) (lo hi : ℕ) : Type 0 where
  pub same : (k : ℕ) → lo ≤ k → k < hi → cell_at ls k ≡ cell_at ms k

pub away_none : (ms : List Memory) (lo hi : ℕ) → Away ms ms lo hi
away_none ms lo hi = record { before = λ k h. refl; behind = λ k h. refl; long = refl }

pub away_wider : (ms ls : List Memory) (lo hi from to : ℕ) → Away ms ls lo hi → from ≤ lo → hi ≤ to → Away ms ls from to
away_wider ms ls lo hi from to a h i = record { before = λ k l. a.before k (omega arith); behind = λ k l. a.behind k (omega arith); long = a.long }

pub away_both : (ms ls ks : List Memory) (lo hi : ℕ) → Away ms ls lo hi → Away ls ks lo hi → Away ms ks lo hi
away_both ms ls ks lo hi a b =
    record { before = λ k h. b.before k h ∙ a.before k h; behind = λ k h. b.behind k h ∙ a.behind k h; long = b.long ∙ a.long }

pub alike_before : (ms ls : List Memory) (lo hi from to : ℕ) → Away ms ls lo hi → to ≤ lo → Alike ms ls from to
alike_before ms ls lo hi from to a h = record { same = λ k i j. a.before k (omega arith) }

pub alike_behind : (ms ls : List Memory) (lo hi from to : ℕ) → Away ms ls lo hi → hi ≤ from → Alike ms ls from to
alike_behind ms ls lo hi from to a h = record { same = λ k i j. a.behind k (omega arith) }

alike_part : (ms ls : List Memory) (lo hi from to : ℕ) → Alike ms ls lo hi → lo ≤ from → to ≤ hi → Alike ms ls from to
alike_part ms ls lo hi from to a h i = record { same = λ k j l. a.same k (omega arith) (omega arith) }

-- one cell is written
pub away_set : (ms : List Memory) (i : ℕ) (m : Memory) → Away ms (set ms i m) i (suc i)
away_set ms i m =
    record {
      before = λ k h. get_or-set_other ms i k m Nothing (λ e. omega arith);
      behind = λ k h. get_or-set_other ms i k m Nothing (λ e. omega arith);
      long = length-set ms i m;
    }

-- where the innermost of these frames has its child
abbrev pub place : List Frame → ℕ
place [] = 0
place (in_group p m bs ks ∷ K) = suc (place K) + nodes_in bs
place (in_par n bs g ks ∷ K) = suc (place K) + nodes_in bs
place (in_not ∷ K) = suc (place K)
place (in_loop p times n ∷ K) = suc (place K)

-- a group all of whose children so far are behind it
abbrev pub past_cell : Bool → Kids → Memory
past_cell true bs = ahead_cell bs
past_cell false bs = Nothing

module _ (s : Executive) where
  pub at_alike : (ms ls : List Memory) (i : ℕ) (n : Node) (e : ℕ) (m : Memory) → At s ms i n e m → cell_at ls i ≡ cell_at ms i → At s ls i n e m
  at_alike ms ls i n e m a h = record { room = a.room; within = a.within; node = a.node; ends = a.ends; cell = h ∙ a.cell }

  pub at_set : (ms : List Memory) (i : ℕ) (n : Node) (e : ℕ) (m l : Memory) → length ms ≡ 256 → At s ms i n e m → At s (set ms i l) i n e l
  at_set ms i n e m l h a =
      let r : i < length ms = (let b = a.room in omega arith) in
      record { room = a.room; within = a.within; node = a.node; ends = a.ends; cell = get_or-set_same ms i l Nothing r }

  pub at_same : (ms : List Memory) (i : ℕ) (n o : Node) (e f : ℕ) (m l : Memory) → At s ms i n e m → n ≡ o → e ≡ f → m ≡ l → At s ms i o f l
  at_same ms i n o e f m l a p q r = record { room = a.room; within = (let w = a.within in omega arith); node = a.node ∙ p; ends = a.ends ∙ q; cell = a.cell ∙ r }

module _ (s : Executive) (P : Leaf → Type 0) where
  -- the frames stand where their nodes do, round a child of h nodes; what a group is past is all before that child
  abbrev pub Held : List Memory → ℕ → List Frame → Type 0
  Held ms h [] = Unit {0}
  Held ms h (in_group p m bs ks ∷ K) =
      At s ms (place K) (Group (kind_of p m) (size bs + suc (size ks))) (place K + suc (nodes_in bs + (h + nodes_in ks))) (past_cell m bs)
      × LaidIn s P ms (suc (place K)) bs
      × LaidIn s P ms ((suc (place K) + nodes_in bs) + h) ks
      × Held ms (suc (nodes_in bs + (h + nodes_in ks))) K
  Held ms h (in_par n bs g ks ∷ K) =
      At s ms (place K) (Par (size bs + suc (size ks)) n) (place K + suc (nodes_in bs + (h + nodes_in ks))) (results_cell (marks bs ++ (pending ∷ marks ks)))
      × (size bs + suc (size ks) ≤ 32)
      × LaidIn s P ms (suc (place K)) bs
      × LaidIn s P ms ((suc (place K) + nodes_in bs) + h) ks
      × Held ms (suc (nodes_in bs + (h + nodes_in ks))) K
  Held ms h (in_not ∷ K) = At s ms (place K) Not (place K + suc h) Nothing × Held ms (suc h) K
  Held ms h (in_loop p times n ∷ K) = At s ms (place K) (Loop (loop_of p) times) (place K + suc h) (loop_cell n) × (times ≤ 60000) × (n ≤ 60000) × Held ms (suc h) K

  mutual
    pub laid_alike : (ms ls : List Memory) (i : ℕ) (x : Live) → Laid s P ms i x → Alike ms ls i (i + nodes x) → Laid s P ls i x
    laid_alike ms ls i (live_leaf l) h a = (at_alike s ms ls i _ _ _ h.0 (a.same i (omega arith) (omega arith)), h.1)
    laid_alike ms ls i (live_group p m ks) h a =
        (at_alike s ms ls i _ _ _ h.0 (a.same i (omega arith) (omega arith)), laid_in_alike ms ls (suc i) ks h.1 (alike_part ms ls i _ (suc i) _ a (omega arith) (omega arith)))
    laid_alike ms ls i (live_par n ks) h a =
        (at_alike s ms ls i _ _ _ h.0 (a.same i (omega arith) (omega arith)), h.1, laid_in_alike ms ls (suc i) ks h.2 (alike_part ms ls i _ (suc i) _ a (omega arith) (omega arith)))
    laid_alike ms ls i (live_not x) h a =
        (at_alike s ms ls i _ _ _ h.0 (a.same i (omega arith) (omega arith)), laid_alike ms ls (suc i) x h.1 (alike_part ms ls i _ (suc i) _ a (omega arith) (omega arith)))
    laid_alike ms ls i (live_loop p times n x) h a =
        (at_alike s ms ls i _ _ _ h.0 (a.same i (omega arith) (omega arith)), h.1, h.2, laid_alike ms ls (suc i) x h.3 (alike_part ms ls i _ (suc i) _ a (omega arith) (omega arith)))

    pub laid_in_alike : (ms ls : List Memory) (i : ℕ) (ks : Kids) → LaidIn s P ms i ks → Alike ms ls i (i + nodes_in ks) → LaidIn s P ls i ks
    laid_in_alike ms ls i no_kids h a = tt
    laid_in_alike ms ls i (kid r x ks) h a =
        (laid_alike ms ls i x h.0 (alike_part ms ls i _ i _ a (omega arith) (omega arith)), laid_in_alike ms ls (i + nodes x) ks h.1 (alike_part ms ls i _ _ _ a (omega arith) (omega arith)))

  -- what is written at the child leaves the frames as they are
  pub held_away : (ms ls : List Memory) (h : ℕ) (K : List Frame) → Held ms h K → Away ms ls (place K) (place K + h) → Held ls h K
  held_away ms ls h [] d a = tt
  held_away ms ls h (in_group p m bs ks ∷ K) d a = (
    at_alike s ms ls (place K) _ _ _ d.0 (a.before (place K) (omega arith)),
    laid_in_alike ms ls (suc (place K)) bs d.1 (alike_before ms ls _ _ _ _ a (omega arith)),
    laid_in_alike ms ls ((suc (place K) + nodes_in bs) + h) ks d.2 (alike_behind ms ls _ _ _ _ a (omega arith)),
    held_away ms ls (suc (nodes_in bs + (h + nodes_in ks))) K d.3 (away_wider ms ls _ _ _ _ a (omega arith) (omega arith)),
  )
  held_away ms ls h (in_par n bs g ks ∷ K) d a = (
    at_alike s ms ls (place K) _ _ _ d.0 (a.before (place K) (omega arith)),
    d.1,
    laid_in_alike ms ls (suc (place K)) bs d.2 (alike_before ms ls _ _ _ _ a (omega arith)),
    laid_in_alike ms ls ((suc (place K) + nodes_in bs) + h) ks d.3 (alike_behind ms ls _ _ _ _ a (omega arith)),
    held_away ms ls (suc (nodes_in bs + (h + nodes_in ks))) K d.4 (away_wider ms ls _ _ _ _ a (omega arith) (omega arith)),
  )
  held_away ms ls h (in_not ∷ K) d a =
      (at_alike s ms ls (place K) _ _ _ d.0 (a.before (place K) (omega arith)), held_away ms ls (suc h) K d.1 (away_wider ms ls _ _ _ _ a (omega arith) (omega arith)))
  held_away ms ls h (in_loop p times n ∷ K) d a =
      (at_alike s ms ls (place K) _ _ _ d.0 (a.before (place K) (omega arith)), d.1, d.2, held_away ms ls (suc h) K d.3 (away_wider ms ls _ _ _ _ a (omega arith) (omega arith)))
