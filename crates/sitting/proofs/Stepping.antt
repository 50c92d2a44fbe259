-- One turn over the tables follows one step of the machine: leaves, groups, not and loops.
use Rattle.std.proofs.Common.{◌≡◌, ℕ, suc, ◌+◌, ◌-◌, ◌<◌, ◌≤◌, min, Bool, true, false, ltb, cond, List, [], ◌∷◌, ◌++◌, length, Ok, sym, refl, ap, ◌∙◌, set, subst, get_or, arith}
use Rattle.std.proofs.lemmas.Bool.{ltb-true, eq-eqb, ne_eqb}
use Rattle.mission.specs.Trees.{Leaf, skill, count, ability}
use Rattle.mission.specs.declared.node.Node.{Node}
use Rattle.mission.specs.declared.node.Node.TheVariants.{Group, Loop}
use Rattle.rules.specs.declared.status.Status.{Status}
use Rattle.rules.specs.declared.status.Status.TheVariants.{Run, Pass, Fail}
use Rattle.rules.specs.Live.{Polarity, on_pass, on_fail, Kept, pending, Live, live_leaf, live_group, live_par, live_not, live_loop, Kids, kid, cleared_kids}
use Rattle.rules.specs.Statuses.{exchanged}
use Rattle.rules.specs.Visiting.{gives, leaf_visit, moves_on, moved, behind, later, group_end, loop_end, loop_step, count_or_end, size, Actions, halt_kids, halt_later}
use Rattle.rules.proofs.Shapes.{kind_of, loop_of}
use Rattle.sitting.specs.Cells.{group_cell, loop_cell}
use Rattle.sitting.specs.Desks.{Bench, Boards}
use Rattle.sitting.specs.Tables.{beyond, memory_at, ahead_of, count_of}
use Rattle.sitting.specs.Turns.{Stage, frame, remembering, next, entered, descend, skill_entered, looked, answered, is_last, goes_past, ends_with, then_ends, later_halted, group_answered, counted, as_step, turned}
use Rattle.sitting.specs.Tidy.{Even, TidyGroup}
use Rattle.sitting.specs.Zipper.{Frame, in_group, in_not, in_loop, snoc, onto, passed_by, rest, down, look_group, up, raise, back_in_group, nodes, nodes_in}
use Rattle.sitting.specs.declared.frame.Frame.{Frame as Spot}
use Rattle.sitting.specs.declared.memory.Memory.{Memory}
use Rattle.sitting.specs.declared.memory.Memory.TheVariants.{Nothing, Child, Count as Counted}
use Rattle.sitting.specs.declared.executive.Executive.{Executive}
use Rattle.sitting.specs.declared.turn.Turn.{Turn}
use Rattle.sitting.specs.declared.turn.Turn.TheVariants.{Enter, Look, Answer}
use Rattle.sitting.proofs.Halted.{nodes_cleared_in, size_cleared, row_halted, range_halted}
use Rattle.sitting.proofs.Laid.{away_set, away_wider, alike_before, alike_behind, place, past_cell, At, at_alike, at_set, at_same, Laid, LaidIn, laid_alike, laid_in_alike, Held, held_away}
use Rattle.sitting.proofs.Mirrors.{StopsAlike, Mirrors}
use Rattle.sitting.proofs.Rows.{has_node, size_onto, size_snoc, nodes_onto, nodes_snoc, size_parts, nodes_parts, size_forgotten, nodes_forgotten, forgotten_cell, snoc_cell, cell_here, cell_all, cell_entered, entered_at, count_is}
use Rattle.sitting.proofs.Rows.{laid_in_moved, laid_onto, laid_snoc, laid_parts, laid_forgotten}
use Rattle.sitting.proofs.Showing.{beyond_is, staged, heard, descends, Around, Follows}

-- a node has what its kind says
group_turn : (p : Polarity) (m : Bool) (f : Spot) (a : Status) (g : Stage) →
    group_answered (kind_of p m) f a g
    ≡ cond (moves_on p a) (Ok (Look (next g.sitting f)), goes_past m f g) (then_ends (later_halted m f g) f.node a g)
group_turn on_pass true f a g = refl
group_turn on_pass false f a g = refl
group_turn on_fail true f a g = refl
group_turn on_fail false f a g = refl

group_look : (p : Polarity) (m : Bool) (k : ℕ) (f : Spot) (g : Stage) →
    looked (Group (kind_of p m) k) f g ≡ cond (is_last g.sitting f) (Ok (Answer (moved p)), remembering f.node Nothing g) (descend f g)
group_look on_pass true k f g = refl
group_look on_pass false k f g = refl
group_look on_fail true k f g = refl
group_look on_fail false k f g = refl

loop_turn : (p : Polarity) (times : ℕ) (f : Spot) (a : Status) (g : Stage) →
    answered (Loop (loop_of p) times) f a g ≡ cond (moves_on p a) (as_step (counted (loop_of p) times f.node g)) (Ok (Answer a), ends_with a f.node g)
loop_turn on_pass times f a g = refl
loop_turn on_fail times f a g = refl

loop_counted : (p : Polarity) (times i : ℕ) (g : Stage) (n : ℕ) → min (count_of (memory_at g.sitting i) + 1) 65535 ≡ n →
    counted (loop_of p) times i g ≡ cond (ltb n times) (Answer Run, remembering i (Counted n) g) (Answer (moved p), remembering i Nothing g)
loop_counted on_pass times i g n e = rw e refl
loop_counted on_fail times i g n e = rw e refl

module _ (s : Executive) (A : Actions) (R : A.World → Bench → Boards → Type 0) (P : Leaf → Type 0) where
  -- the end of a laid tree
  pub laid_ends : (ms : List Memory) (i : ℕ) (x : Live) → Laid s P ms i x → get_or s.ends i 0 ≡ i + nodes x
  laid_ends ms i (live_leaf l) h = h.0.ends
  laid_ends ms i (live_group p m ks) h = h.0.ends
  laid_ends ms i (live_par n ks) h = h.0.ends
  laid_ends ms i (live_not x) h = h.0.ends
  laid_ends ms i (live_loop p times n x) h = h.0.ends

  pub laid_within : (ms : List Memory) (i : ℕ) (x : Live) → Laid s P ms i x → i + nodes x ≤ 256
  laid_within ms i (live_leaf l) h = h.0.within
  laid_within ms i (live_group p m ks) h = h.0.within
  laid_within ms i (live_par n ks) h = h.0.within
  laid_within ms i (live_not x) h = h.0.within
  laid_within ms i (live_loop p times n x) h = h.0.within

  pub around_at : (ms ls : List Memory) (S : List Spot) (b c : Bench) (o : Boards) (K : List Frame) (w v : A.World) →
      Around s A R P ms S b o K w → R v c o → length ls ≡ length ms → Around s A R P ls S c o K v
  around_at ms ls S b c o K w v a r l = record { stack = a.stack; world = r; long = l ∙ a.long }

  -- leaves

  module _ (M : Mirrors A R P) where
    pub leaf_follows : (l : Leaf) (w : A.World) (K : List Frame) (ms : List Memory) (S : List Spot) (b : Bench) (o : Boards) →
        Laid s P ms (place K) (live_leaf l) → Held s P ms 1 K → Around s A R P ms S b o K w →
        Follows s A R P (raise (leaf_visit l (A.visit_leaf l w)) K) (Enter (place K)) ms S b o
    leaf_follows (skill k device target) w K ms S b o h d a =
        let q = M.skills k device target w b o h.1 a.world in
        record {
          turn = Answer (A.visit_leaf (skill k device target) w).0;
          memories = ms;
          spots = S;
          bench = q.bench;
          boards = q.boards;
          turns = ap (λ (N : Node). entered N (place K) (staged s ms S b o)) h.0.node ∙ ap (λ r. skill_entered r (staged s ms S b o)) q.does;
          shown = (refl, h, d, record { stack = a.stack; world = q.holds; long = a.long });
        }
    leaf_follows (count key least) w K ms S b o h d a =
        let q = M.counts key least w b o h.1 a.world in
        record {
          turn = Answer (A.visit_leaf (count key least) w).0;
          memories = ms;
          spots = S;
          bench = b;
          boards = o;
          turns = ap (λ (N : Node). entered N (place K) (staged s ms S b o)) h.0.node ∙ ap (λ (r : Status × A.World). (Ok (Answer r.0), staged s ms S b o)) (sym q);
          shown = (refl, h, d, record { stack = a.stack; world = subst (λ (r : Status × A.World). R r.1 b o) (sym q) a.world; long = a.long });
        }
    leaf_follows (ability key least) w K ms S b o h d a =
        let q = M.abilities key least w b o h.1 a.world in
        record {
          turn = Answer (A.visit_leaf (ability key least) w).0;
          memories = ms;
          spots = S;
          bench = b;
          boards = o;
          turns = ap (λ (N : Node). entered N (place K) (staged s ms S b o)) h.0.node ∙ ap (λ (r : Status × A.World). (Ok (Answer r.0), staged s ms S b o)) (sym q);
          shown = (refl, h, d, record { stack = a.stack; world = subst (λ (r : Status × A.World). R r.1 b o) (sym q) a.world; long = a.long });
        }

  -- not and loops, on the way down

  pub not_follows : (x : Live) (w : A.World) (K : List Frame) (ms : List Memory) (S : List Spot) (b : Bench) (o : Boards) → length K < 16 →
      Laid s P ms (place K) (live_not x) → Held s P ms (suc (nodes x)) K → Around s A R P ms S b o K w →
      Follows s A R P (down x w (in_not ∷ K)) (Enter (place K)) ms S b o
  not_follows x w K ms S b o l h d a =
      let r = h.0.room in
      let e : beyond (place K) 1 ≡ suc (place K) = beyond_is (place K) 1 (omega arith) ∙ omega arith in
      let f = frame (place K) (suc (place K)) 0 in
      record {
        turn = Enter (suc (place K));
        memories = ms;
        spots = S ++ f ∷ [];
        bench = b;
        boards = o;
        turns = ap (λ (N : Node). entered N (place K) (staged s ms S b o)) h.0.node ∙ ap (λ k. descend (frame (place K) k 0) (staged s ms S b o)) e ∙ descends s ms S b o K f a.stack l;
        shown = (refl, h.1, (h.0, d), record { stack = (0, record { below = S; top = refl; rest = a.stack }); world = a.world; long = a.long });
      }

  pub loop_follows : (p : Polarity) (times n : ℕ) (x : Live) (w : A.World) (K : List Frame) (ms : List Memory) (S : List Spot) (b : Bench) (o : Boards) → length K < 16 →
      Laid s P ms (place K) (live_loop p times n x) → Held s P ms (suc (nodes x)) K → Around s A R P ms S b o K w →
      Follows s A R P (down x w (in_loop p times n ∷ K)) (Enter (place K)) ms S b o
  loop_follows p times n x w K ms S b o l h d a =
      let r = h.0.room in
      let e : beyond (place K) 1 ≡ suc (place K) = beyond_is (place K) 1 (omega arith) ∙ omega arith in
      let f = frame (place K) (suc (place K)) 0 in
      record {
        turn = Enter (suc (place K));
        memories = ms;
        spots = S ++ f ∷ [];
        bench = b;
        boards = o;
        turns = ap (λ (N : Node). entered N (place K) (staged s ms S b o)) h.0.node ∙ ap (λ k. descend (frame (place K) k 0) (staged s ms S b o)) e ∙ descends s ms S b o K f a.stack l;
        shown = (refl, h.3, (h.0, h.1, h.2, d), record { stack = (0, record { below = S; top = refl; rest = a.stack }); world = a.world; long = a.long });
      }

  -- a group is entered

  pub group_follows : (p : Polarity) (m : Bool) (ks : Kids) (w : A.World) (K : List Frame) (ms : List Memory) (S : List Spot) (b : Bench) (o : Boards) → TidyGroup p m ks →
      Laid s P ms (place K) (live_group p m ks) → Held s P ms (suc (nodes_in ks)) K → Around s A R P ms S b o K w →
      Follows s A R P (look_group p m (passed_by (behind p m) ks) (rest ks) w K) (Enter (place K)) ms S b o
  group_follows p m ks w K ms S b o t h d a =
      let i = place K in
      let bs = passed_by (behind p m) ks in
      let r = h.0.room in
      let v = h.0.within in
      let np = nodes_parts (behind p m) ks in
      let sp = size_parts (behind p m) ks in
      let lp = laid_parts s P ms (suc i) (behind p m) ks h.1 in
      let c : ahead_of (memory_at (record s { memories = ms; ledger = b.ledger }) i) ≡ nodes_in bs = ap ahead_of h.0.cell ∙ entered_at p m ks t in
      let e : beyond (beyond i 1) (nodes_in bs) ≡ suc i + nodes_in bs = omega arith in
      record {
        turn = Look (frame i (suc i + nodes_in bs) 0);
        memories = ms;
        spots = S;
        bench = b;
        boards = o;
        turns =
            ap (λ (N : Node). entered N i (staged s ms S b o)) h.0.node
            ∙ ap (λ k. (Ok (Look (frame i (beyond (beyond i 1) k) 0)), staged s ms S b o)) c
            ∙ ap (λ k. (Ok (Look (frame i k 0)), staged s ms S b o)) e;
        shown = (
          0,
          refl,
          at_same s ms i _ _ _ _ _ _ h.0 (ap (Group (kind_of p m)) (sym sp)) (omega arith) (cell_entered p m ks t),
          lp.0,
          lp.1,
          subst (λ (n : ℕ). Held s P ms (suc n) K) (sym np) d,
          a,
        );
      }

  -- a group ends or runs on, with this row

  group_ended : (p : Polarity) (m : Bool) (a : Status) (f : List ℕ) (ks : Kids) (w : A.World) (K : List Frame) (t : Turn) (ms ls : List Memory) (S T : List Spot) (b c : Bench) (o : Boards) →
      turned t (staged s ms S b o) ≡ (Ok (Answer a), ends_with a (place K) (staged s ls T c o)) →
      At s ls (place K) (Group (kind_of p m) (size ks)) (place K + suc (nodes_in ks)) (group_cell m ks) → LaidIn s P ls (suc (place K)) ks → Held s P ls (suc (nodes_in ks)) K →
      Around s A R P ls T c o K w → Follows s A R P (raise (group_end p m (gives a w f ks)) K) t ms S b o
  group_ended p m Run f ks w K t ms ls S T b c o e h l d a = record {
    turn = Answer Run;
    memories = ls;
    spots = T;
    bench = c;
    boards = o;
    turns = e;
    shown = (refl, (h, l), d, a);
  }
  group_ended p m Pass f ks w K t ms ls S T b c o e h l d a =
      let i = place K in
      let y = away_set ls i Nothing in
      let n = nodes_forgotten ks in
      record {
        turn = Answer Pass;
        memories = set ls i Nothing;
        spots = T;
        bench = c;
        boards = o;
        turns = e;
        shown = (
          refl,
          (
            at_same s _ i _ _ _ _ _ _ (at_set s ls i _ _ _ Nothing a.long h) (ap (Group (kind_of p m)) (sym (size_forgotten ks))) (omega arith) (sym (forgotten_cell m ks)),
            laid_forgotten s P _ (suc i) ks (laid_in_alike s P ls _ (suc i) ks l (alike_behind _ _ _ _ _ _ y (omega arith))),
          ),
          subst (λ (k : ℕ). Held s P (set ls i Nothing) (suc k) K) (sym n) (held_away s P ls _ _ K d (away_wider _ _ _ _ _ _ y (omega arith) (omega arith))),
          around_at ls _ T c c o K w w a a.world y.long,
        );
      }
  group_ended p m Fail f ks w K t ms ls S T b c o e h l d a =
      let i = place K in
      let y = away_set ls i Nothing in
      let n = nodes_forgotten ks in
      record {
        turn = Answer Fail;
        memories = set ls i Nothing;
        spots = T;
        bench = c;
        boards = o;
        turns = e;
        shown = (
          refl,
          (
            at_same s _ i _ _ _ _ _ _ (at_set s ls i _ _ _ Nothing a.long h) (ap (Group (kind_of p m)) (sym (size_forgotten ks))) (omega arith) (sym (forgotten_cell m ks)),
            laid_forgotten s P _ (suc i) ks (laid_in_alike s P ls _ (suc i) ks l (alike_behind _ _ _ _ _ _ y (omega arith))),
          ),
          subst (λ (k : ℕ). Held s P (set ls i Nothing) (suc k) K) (sym n) (held_away s P ls _ _ K d (away_wider _ _ _ _ _ _ y (omega arith) (omega arith))),
          around_at ls _ T c c o K w w a a.world y.long,
        );
      }

  -- a group looks at its next child

  moved_ends : (p : Polarity) (i : ℕ) (g : Stage) → remembering i Nothing g ≡ ends_with (moved p) i g
  moved_ends on_pass i g = refl
  moved_ends on_fail i g = refl

  pub look_last : (p : Polarity) (m : Bool) (bs : Kids) (w : A.World) (K : List Frame) (n : ℕ) (ms : List Memory) (S : List Spot) (b : Bench) (o : Boards) → Even (behind p m) bs →
      At s ms (place K) (Group (kind_of p m) (size bs + 0)) (place K + suc (nodes_in bs + 0)) (past_cell m bs) → LaidIn s P ms (suc (place K)) bs →
      Held s P ms (suc (nodes_in bs + 0)) K → Around s A R P ms S b o K w →
      Follows s A R P (raise (group_end p m (gives (moved p) w [] bs)) K) (Look (frame (place K) (suc (place K) + nodes_in bs) n)) ms S b o
  look_last p m bs w K n ms S b o t h l d a =
      let i = place K in
      let f = frame i (suc i + nodes_in bs) n in
      let g = staged s ms S b o in
      let v = h.ends in
      let q : is_last g.sitting f ≡ true = eq-eqb (suc i + nodes_in bs) (get_or s.ends i 0) (omega arith) in
      let z : nodes_in bs + 0 ≡ nodes_in bs = omega arith in
      let y : size bs + 0 ≡ size bs = omega arith in
      group_ended p m (moved p) [] bs w K (Look f) ms ms S S b b o
      (ap (λ (N : Node). looked N f g) h.node
      ∙ group_look p m (size bs + 0) f g
      ∙ ap (λ (c : Bool). cond c (Ok (Answer (moved p)), remembering i Nothing g) (descend f g)) q
      ∙ ap (λ (k : Stage). (Ok (Answer (moved p)), k)) (moved_ends p i g))
      (at_same s ms i _ _ _ _ _ _ h (ap (Group (kind_of p m)) y) (omega arith) (cell_all p m bs t))
      l
      (subst (λ (k : ℕ). Held s P ms (suc k) K) z d)
      a

  pub look_next : (p : Polarity) (m : Bool) (bs : Kids) (x : Live) (ks : Kids) (w : A.World) (K : List Frame) (n : ℕ) (ms : List Memory) (S : List Spot) (b : Bench) (o : Boards) → length K < 16 →
      At s ms (place K) (Group (kind_of p m) (size bs + suc (size ks))) (place K + suc (nodes_in bs + (nodes x + nodes_in ks))) (past_cell m bs) → LaidIn s P ms (suc (place K)) bs →
      LaidIn s P ms (suc (place K) + nodes_in bs) (kid pending x ks) →
      Held s P ms (suc (nodes_in bs + (nodes x + nodes_in ks))) K → Around s A R P ms S b o K w →
      Follows s A R P (down x w (in_group p m bs ks ∷ K)) (Look (frame (place K) (suc (place K) + nodes_in bs) n)) ms S b o
  look_next p m bs x ks w K n ms S b o t h l k d a =
      let i = place K in
      let f = frame i (suc i + nodes_in bs) n in
      let g = staged s ms S b o in
      let v = h.ends in
      let u = has_node x in
      let q : is_last g.sitting f ≡ false = ne_eqb (suc i + nodes_in bs) (get_or s.ends i 0) (λ e. omega arith) in
      record {
        turn = Enter (suc i + nodes_in bs);
        memories = ms;
        spots = S ++ f ∷ [];
        bench = b;
        boards = o;
        turns =
            ap (λ (N : Node). looked N f g) h.node
            ∙ group_look p m (size bs + suc (size ks)) f g
            ∙ ap (λ (c : Bool). cond c (Ok (Answer (moved p)), remembering i Nothing g) (descend f g)) q
            ∙ descends s ms S b o K f a.stack t;
        shown = (refl, k.0, (h, l, k.1, d), record { stack = (n, record { below = S; top = refl; rest = a.stack }); world = a.world; long = a.long });
      }

  -- a node hears its child

  pub not_heard : (a : Status) (w : A.World) (f : List ℕ) (x : Live) (K : List Frame) (ms : List Memory) (S : List Spot) (b : Bench) (o : Boards) →
      Laid s P ms (suc (place K)) x → Held s P ms (nodes x) (in_not ∷ K) → Around s A R P ms S b o (in_not ∷ K) w →
      Follows s A R P (up (exchanged a) w f (live_not x) K) (Answer a) ms S b o
  not_heard a w f x K ms S b o h d r =
      let p = (r.stack).1 in
      record {
        turn = Answer (exchanged a);
        memories = ms;
        spots = p.below;
        bench = b;
        boards = o;
        turns = heard s ms S b o a _ _ p ∙ ap (λ (N : Node). answered N (frame (place K) (suc (place K)) (r.stack).0) a (staged s ms p.below b o)) d.0.node;
        shown = (refl, (d.0, h), d.1, record { stack = p.rest; world = r.world; long = r.long });
      }

  loop_ends : (p : Polarity) (times n : ℕ) (a : Status) (f : List ℕ) (x : Live) (w : A.World) (K : List Frame) (t : Turn) (ms : List Memory) (S T : List Spot) (b : Bench) (o : Boards) →
      turned t (staged s ms S b o) ≡ (Ok (Answer a), ends_with a (place K) (staged s ms T b o)) →
      At s ms (place K) (Loop (loop_of p) times) (place K + suc (nodes x)) (loop_cell n) → times ≤ 60000 → n ≤ 60000 → Laid s P ms (suc (place K)) x → Held s P ms (suc (nodes x)) K →
      Around s A R P ms T b o K w → Follows s A R P (raise (loop_step false p times n a w f x) K) t ms S b o
  loop_ends p times n Run f x w K t ms S T b o e h u v l d a = record {
    turn = Answer Run;
    memories = ms;
    spots = T;
    bench = b;
    boards = o;
    turns = e;
    shown = (refl, (h, u, v, l), d, a);
  }
  loop_ends p times n Pass f x w K t ms S T b o e h u v l d a =
      let i = place K in
      let y = away_set ms i Nothing in
      record {
        turn = Answer Pass;
        memories = set ms i Nothing;
        spots = T;
        bench = b;
        boards = o;
        turns = e;
        shown = (
          refl,
          (at_set s ms i _ _ _ Nothing a.long h, u, omega arith, laid_alike s P ms _ (suc i) x l (alike_behind _ _ _ _ _ _ y (omega arith))),
          held_away s P ms _ _ K d (away_wider _ _ _ _ _ _ y (omega arith) (omega arith)),
          around_at ms _ T b b o K w w a a.world y.long,
        );
      }
  loop_ends p times n Fail f x w K t ms S T b o e h u v l d a =
      let i = place K in
      let y = away_set ms i Nothing in
      record {
        turn = Answer Fail;
        memories = set ms i Nothing;
        spots = T;
        bench = b;
        boards = o;
        turns = e;
        shown = (
          refl,
          (at_set s ms i _ _ _ Nothing a.long h, u, omega arith, laid_alike s P ms _ (suc i) x l (alike_behind _ _ _ _ _ _ y (omega arith))),
          held_away s P ms _ _ K d (away_wider _ _ _ _ _ _ y (omega arith) (omega arith)),
          around_at ms _ T b b o K w w a a.world y.long,
        );
      }

  loop_counts_on : (c : Bool) (p : Polarity) (times n : ℕ) (x : Live) (w : A.World) (K : List Frame) (t : Turn) (ms : List Memory) (S T : List Spot) (b : Bench) (o : Boards) →
      ltb (suc n) times ≡ c →
      turned t (staged s ms S b o) ≡ cond c (Ok (Answer Run), remembering (place K) (Counted (suc n)) (staged s ms T b o)) (Ok (Answer (moved p)), remembering (place K) Nothing (staged s ms T b o)) →
      At s ms (place K) (Loop (loop_of p) times) (place K + suc (nodes x)) (loop_cell n) → times ≤ 60000 → n ≤ 60000 → Laid s P ms (suc (place K)) x → Held s P ms (suc (nodes x)) K →
      Around s A R P ms T b o K w → Follows s A R P (raise (count_or_end c p times n w x) K) t ms S b o
  loop_counts_on true p times n x w K t ms S T b o q e h u v l d a =
      let i = place K in
      let y = away_set ms i (Counted (suc n)) in
      let z = ltb-true (suc n) times q in
      record {
        turn = Answer Run;
        memories = set ms i (Counted (suc n));
        spots = T;
        bench = b;
        boards = o;
        turns = e;
        shown = (
          refl,
          (at_set s ms i _ _ _ (Counted (suc n)) a.long h, u, omega arith, laid_alike s P ms _ (suc i) x l (alike_behind _ _ _ _ _ _ y (omega arith))),
          held_away s P ms _ _ K d (away_wider _ _ _ _ _ _ y (omega arith) (omega arith)),
          around_at ms _ T b b o K w w a a.world y.long,
        );
      }
  loop_counts_on false p times n x w K t ms S T b o q e h u v l d a =
      let i = place K in
      let y = away_set ms i Nothing in
      record {
        turn = Answer (moved p);
        memories = set ms i Nothing;
        spots = T;
        bench = b;
        boards = o;
        turns = e;
        shown = (
          refl,
          (at_set s ms i _ _ _ Nothing a.long h, u, omega arith, laid_alike s P ms _ (suc i) x l (alike_behind _ _ _ _ _ _ y (omega arith))),
          held_away s P ms _ _ K d (away_wider _ _ _ _ _ _ y (omega arith) (omega arith)),
          around_at ms _ T b b o K w w a a.world y.long,
        );
      }

  as_one : (c : Bool) (x y : Turn) (g k : Stage) → as_step (cond c (x, g) (y, k)) ≡ cond c (Ok x, g) (Ok y, k)
  as_one true x y g k = refl
  as_one false x y g k = refl

  loop_heard_at : (c : Bool) (p : Polarity) (times n : ℕ) (a : Status) (w : A.World) (f : List ℕ) (x : Live) (K : List Frame) (ms : List Memory) (S : List Spot) (b : Bench) (o : Boards) →
      moves_on p a ≡ c → Laid s P ms (suc (place K)) x → Held s P ms (nodes x) (in_loop p times n ∷ K) → Around s A R P ms S b o (in_loop p times n ∷ K) w →
      Follows s A R P (raise (loop_step c p times n a w f x) K) (Answer a) ms S b o
  loop_heard_at true p times n a w f x K ms S b o c h d r =
      let i = place K in
      let q = (r.stack).1 in
      let g = staged s ms q.below b o in
      let v = d.2 in
      let k : count_of (memory_at g.sitting i) ≡ n = ap count_of d.0.cell ∙ count_is n in
      let l : min (count_of (memory_at g.sitting i) + 1) 65535 ≡ suc n = omega arith in
      loop_counts_on (ltb (suc n) times) p times n x w K (Answer a) ms S q.below b o refl
      (heard s ms S b o a _ _ q
      ∙ ap (λ (N : Node). answered N (frame i (suc i) (r.stack).0) a g) d.0.node
      ∙ loop_turn p times (frame i (suc i) (r.stack).0) a g
      ∙ ap (λ (z : Bool). cond z (as_step (counted (loop_of p) times i g)) (Ok (Answer a), ends_with a i g)) c
      ∙ ap as_step (loop_counted p times i g (suc n) l)
      ∙ as_one (ltb (suc n) times) (Answer Run) (Answer (moved p)) (remembering i (Counted (suc n)) g) (remembering i Nothing g))
      d.0 d.1 d.2 h d.3 (record { stack = q.rest; world = r.world; long = r.long })
  loop_heard_at false p times n a w f x K ms S b o c h d r =
      let i = place K in
      let q = (r.stack).1 in
      let g = staged s ms q.below b o in
      loop_ends p times n a f x w K (Answer a) ms S q.below b o
      (heard s ms S b o a _ _ q
      ∙ ap (λ (N : Node). answered N (frame i (suc i) (r.stack).0) a g) d.0.node
      ∙ loop_turn p times (frame i (suc i) (r.stack).0) a g
      ∙ ap (λ (z : Bool). cond z (as_step (counted (loop_of p) times i g)) (Ok (Answer a), ends_with a i g)) c)
      d.0 d.1 d.2 h d.3 (record { stack = q.rest; world = r.world; long = r.long })

  pub loop_heard : (p : Polarity) (times n : ℕ) (a : Status) (w : A.World) (f : List ℕ) (x : Live) (K : List Frame) (ms : List Memory) (S : List Spot) (b : Bench) (o : Boards) →
      Laid s P ms (suc (place K)) x → Held s P ms (nodes x) (in_loop p times n ∷ K) → Around s A R P ms S b o (in_loop p times n ∷ K) w →
      Follows s A R P (raise (loop_end p times n (gives a w f x)) K) (Answer a) ms S b o
  loop_heard p times n a w f x K ms S b o h d r = loop_heard_at (moves_on p a) p times n a w f x K ms S b o refl h d r

  -- a group goes on

  group_on : (p : Polarity) (m : Bool) (r : Kept) (bs : Kids) (x : Live) (ks : Kids) (w : A.World) (K : List Frame) (c n : ℕ) (t : Turn) (ms ls : List Memory) (S T : List Spot) (b : Bench) (o : Boards) →
      turned t (staged s ms S b o) ≡ (Ok (Look (frame (place K) c n)), staged s ls T b o) → c ≡ (suc (place K) + nodes_in bs) + nodes x →
      At s ls (place K) (Group (kind_of p m) (size bs + suc (size ks))) (place K + suc (nodes_in bs + (nodes x + nodes_in ks))) (past_cell m (snoc bs r x)) →
      LaidIn s P ls (suc (place K)) bs → Laid s P ls (suc (place K) + nodes_in bs) x → LaidIn s P ls ((suc (place K) + nodes_in bs) + nodes x) ks →
      Held s P ls (suc (nodes_in bs + (nodes x + nodes_in ks))) K → Around s A R P ls T b o K w →
      Follows s A R P (look_group p m (snoc bs r x) ks w K) t ms S b o
  group_on p m r bs x ks w K c n t ms ls S T b o e f h l q k d a =
      let i = place K in
      let y = nodes_snoc bs r x in
      let z = size_snoc bs r x in
      let u : size bs + suc (size ks) ≡ size (snoc bs r x) + size ks = omega arith in
      let v : nodes_in bs + (nodes x + nodes_in ks) ≡ nodes_in (snoc bs r x) + nodes_in ks = omega arith in
      record {
        turn = Look (frame i (suc i + nodes_in (snoc bs r x)) n);
        memories = ls;
        spots = T;
        bench = b;
        boards = o;
        turns = e ∙ ap (λ j. (Ok (Look (frame i j n)), staged s ls T b o)) (omega arith);
        shown = (
          n,
          refl,
          at_same s ls i _ _ _ _ _ _ h (ap (Group (kind_of p m)) u) (omega arith) refl,
          laid_snoc s P ls (suc i) bs r x l q,
          laid_in_moved s P ls _ _ ks k (omega arith),
          subst (λ (j : ℕ). Held s P ls (suc j) K) v d,
          a,
        );
      }

  group_heard_on : (m : Bool) (p : Polarity) (bs ks : Kids) (a : Status) (w : A.World) (x : Live) (K : List Frame) (ms : List Memory) (S : List Spot) (b : Bench) (o : Boards) →
      moves_on p a ≡ true → Laid s P ms (suc (place K) + nodes_in bs) x → Held s P ms (nodes x) (in_group p m bs ks ∷ K) → Around s A R P ms S b o (in_group p m bs ks ∷ K) w →
      Follows s A R P (look_group p m (snoc bs (behind p m) x) ks w K) (Answer a) ms S b o
  group_heard_on true p bs ks a w x K ms S b o c h d r =
      let i = place K in
      let j = suc i + nodes_in bs in
      let q = (r.stack).1 in
      let f = frame i j (r.stack).0 in
      let g = staged s ms q.below b o in
      let e = laid_ends ms j x h in
      let n : (get_or s.ends j 0 - i) - 1 ≡ nodes_in bs + nodes x = omega arith in
      let cell = Child ((get_or s.ends j 0 - i) - 1) in
      let y = away_set ms i cell in
      group_on p true (behind p true) bs x ks w K (get_or s.ends j 0) (min ((r.stack).0 + 1) 255) (Answer a) ms (set ms i cell) S q.below b o
      (heard s ms S b o a _ _ q
      ∙ ap (λ (N : Node). answered N f a g) d.0.node
      ∙ group_turn p true f a g
      ∙ ap (λ (z : Bool). cond z (Ok (Look (next g.sitting f)), goes_past true f g) (then_ends (later_halted true f g) i a g)) c)
      e
      (at_same s _ i _ _ _ _ _ _ (at_set s ms i _ _ _ cell r.long d.0) refl refl (ap Child n ∙ sym (snoc_cell bs (behind p true) x)))
      (laid_in_alike s P ms _ (suc i) bs d.1 (alike_behind _ _ _ _ _ _ y (omega arith)))
      (laid_alike s P ms _ j x h (alike_behind _ _ _ _ _ _ y (omega arith)))
      (laid_in_alike s P ms _ (j + nodes x) ks d.2 (alike_behind _ _ _ _ _ _ y (omega arith)))
      (held_away s P ms _ _ K d.3 (away_wider _ _ _ _ _ _ y (omega arith) (omega arith)))
      (record { stack = q.rest; world = r.world; long = y.long ∙ r.long })
  group_heard_on false p bs ks a w x K ms S b o c h d r =
      let i = place K in
      let j = suc i + nodes_in bs in
      let q = (r.stack).1 in
      let f = frame i j (r.stack).0 in
      let g = staged s ms q.below b o in
      let e = laid_ends ms j x h in
      group_on p false (behind p false) bs x ks w K (get_or s.ends j 0) (min ((r.stack).0 + 1) 255) (Answer a) ms ms S q.below b o
      (heard s ms S b o a _ _ q
      ∙ ap (λ (N : Node). answered N f a g) d.0.node
      ∙ group_turn p false f a g
      ∙ ap (λ (z : Bool). cond z (Ok (Look (next g.sitting f)), goes_past false f g) (then_ends (later_halted false f g) i a g)) c)
      e d.0 d.1 h d.2 d.3 (record { stack = q.rest; world = r.world; long = r.long })

  -- a group stops

  group_stops : (p : Polarity) (m : Bool) (bs : Kids) (x : Live) (ks : Kids) (a : Status) (f : List ℕ) (w : A.World) (K : List Frame) (t : Turn) (ms ls : List Memory) (S T : List Spot) (b c : Bench) (o : Boards) →
      Even (behind p m) bs →
      turned t (staged s ms S b o) ≡ (Ok (Answer a), ends_with a (place K) (staged s ls T c o)) →
      At s ls (place K) (Group (kind_of p m) (size bs + suc (size ks))) (place K + suc (nodes_in bs + (nodes x + nodes_in ks))) (past_cell m bs) →
      LaidIn s P ls (suc (place K)) bs → Laid s P ls (suc (place K) + nodes_in bs) x → LaidIn s P ls ((suc (place K) + nodes_in bs) + nodes x) ks →
      Held s P ls (suc (nodes_in bs + (nodes x + nodes_in ks))) K → Around s A R P ls T c o K w →
      Follows s A R P (raise (group_end p m (gives a w f (onto bs (kid pending x ks)))) K) t ms S b o
  group_stops p m bs x ks a f w K t ms ls S T b c o v e h l q k d r =
      let i = place K in
      let y = nodes_onto bs (kid pending x ks) in
      let z = size_onto bs (kid pending x ks) in
      group_ended p m a f (onto bs (kid pending x ks)) w K t ms ls S T b c o e
      (at_same s ls i _ _ _ _ _ _ h (ap (Group (kind_of p m)) (sym z)) (omega arith) (cell_here p m bs x ks v))
      (laid_onto s P ls (suc i) bs (kid pending x ks) l (q, k))
      (subst (λ (j : ℕ). Held s P ls (suc j) K) (sym y) d)
      r

  module _ (M : StopsAlike A R P) where
    group_heard_last : (m : Bool) (p : Polarity) (bs ks : Kids) (a : Status) (w : A.World) (fs : List ℕ) (x : Live) (K : List Frame) (ms : List Memory) (S : List Spot) (b : Bench) (o : Boards) →
        moves_on p a ≡ false → Even (behind p m) bs → Laid s P ms (suc (place K) + nodes_in bs) x → Held s P ms (nodes x) (in_group p m bs ks ∷ K) →
        Around s A R P ms S b o (in_group p m bs ks ∷ K) w →
        Follows s A R P (raise (group_end p m (gives a (halt_later A m ks w) fs (onto bs (kid pending x (later m ks))))) K) (Answer a) ms S b o
    group_heard_last true p bs ks a w fs x K ms S b o c v h d r =
        let i = place K in
        let j = suc i + nodes_in bs in
        let q = (r.stack).1 in
        let f = frame i j (r.stack).0 in
        let g = staged s ms q.below b o in
        group_stops p true bs x ks a fs w K (Answer a) ms ms S q.below b b o v
        (heard s ms S b o a _ _ q
        ∙ ap (λ (N : Node). answered N f a g) d.0.node
        ∙ group_turn p true f a g
        ∙ ap (λ (z : Bool). cond z (Ok (Look (next g.sitting f)), goes_past true f g) (then_ends (later_halted true f g) i a g)) c)
        d.0 d.1 h d.2 d.3 (record { stack = q.rest; world = r.world; long = r.long })
    group_heard_last false p bs ks a w fs x K ms S b o c v h d r =
        let i = place K in
        let j = suc i + nodes_in bs in
        let q = (r.stack).1 in
        let f = frame i j (r.stack).0 in
        let g = staged s ms q.below b o in
        let y = row_halted s A R P M ms b o (j + nodes x) ks w r.long d.2 r.world in
        let e = laid_ends ms j x h in
        let u = d.0.ends in
        let nc = nodes_cleared_in ks in
        let sc = size_cleared ks in
        let sz : size bs + suc (size ks) ≡ size bs + suc (size (cleared_kids ks)) = omega arith in
        let nz : nodes_in bs + (nodes x + nodes_in ks) ≡ nodes_in bs + (nodes x + nodes_in (cleared_kids ks)) = omega arith in
        let stop = range_halted s A R P M ms b o (j + nodes x) (nodes_in ks) (get_or s.ends j 0) (get_or s.ends i 0) _ _ y e (omega arith) in
        group_stops p false bs x (cleared_kids ks) a fs (halt_kids A ks w) K (Answer a) ms y.after S q.below b y.bench o v
        (heard s ms S b o a _ _ q
        ∙ ap (λ (N : Node). answered N f a g) d.0.node
        ∙ group_turn p false f a g
        ∙ ap (λ (z : Bool). cond z (Ok (Look (next g.sitting f)), goes_past false f g) (then_ends (later_halted false f g) i a g)) c
        ∙ ap (λ z. then_ends z i a g) stop)
        (at_same s _ i _ _ _ _ _ _ (at_alike s ms y.after i _ _ _ d.0 (y.away.before i (omega arith))) (ap (Group (kind_of p false)) sz) (omega arith) refl)
        (laid_in_alike s P ms y.after (suc i) bs d.1 (alike_before _ _ _ _ _ _ y.away (omega arith)))
        (laid_alike s P ms y.after j x h (alike_before _ _ _ _ _ _ y.away (omega arith)))
        y.laid
        (subst (λ (k : ℕ). Held s P y.after (suc k) K) nz (held_away s P ms y.after _ K d.3 (away_wider _ _ _ _ _ _ y.away (omega arith) (omega arith))))
        (record { stack = q.rest; world = y.holds; long = y.away.long ∙ r.long })

    pub group_heard : (c : Bool) (p : Polarity) (m : Bool) (bs ks : Kids) (a : Status) (w : A.World) (f : List ℕ) (x : Live) (K : List Frame) (ms : List Memory) (S : List Spot) (b : Bench) (o : Boards) →
        moves_on p a ≡ c → Even (behind p m) bs → Laid s P ms (suc (place K) + nodes_in bs) x → Held s P ms (nodes x) (in_group p m bs ks ∷ K) →
        Around s A R P ms S b o (in_group p m bs ks ∷ K) w → Follows s A R P (back_in_group A c p m bs ks a w f x K) (Answer a) ms S b o
    group_heard true p m bs ks a w f x K ms S b o c v h d r = group_heard_on m p bs ks a w x K ms S b o c h d r
    group_heard false p m bs ks a w f x K ms S b o c v h d r = group_heard_last m p bs ks a w f x K ms S b o c v h d r
