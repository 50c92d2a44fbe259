-- One turn over the tables follows one step of the machine: pars.
use Rattle.std.proofs.Common.{◌≡◌, ℕ, suc, ◌+◌, ◌<◌, ◌≤◌, min, Bool, true, false, cond, List, [], ◌∷◌, ◌++◌, length, Ok, sym, refl, ap, ap₂, ◌∙◌, set, subst, get_or, append_assoc, append-nil, length-append, arith}
use Rattle.std.proofs.lemmas.Bool.{eq-eqb, ne_eqb}
use Rattle.mission.specs.Trees.{Leaf}
use Rattle.mission.specs.declared.node.Node.{Node}
use Rattle.mission.specs.declared.node.Node.TheVariants.{Par}
use Rattle.rules.specs.declared.status.Status.{Status}
use Rattle.rules.specs.declared.status.Status.TheVariants.{Run, Pass, Fail}
use Rattle.rules.specs.Live.{Kept, pending, ended, Live, live_par, Kids, no_kids, kid, cleared}
use Rattle.rules.specs.Visiting.{gives, kept_as, passes, fails, verdict, after_par, par_end, size, Actions, halt, halt_pending, par_decided}
use Rattle.sitting.specs.Cells.{marks, any_ended, masks, results_cell}
use Rattle.sitting.specs.Desks.{Bench, Boards}
use Rattle.sitting.specs.Halting.{Desk, Halted, go_on}
use Rattle.sitting.specs.Tables.{beyond, results_of}
use Rattle.sitting.specs.Turns.{frame, next, entered, descend, looked, answered, is_last, keeping, has_result, kept, open_halted, halt_open, then_answers, par_ends, par_verdict, turned}
use Rattle.sitting.specs.Zipper.{Frame, in_par, snoc, down, look_par, up, raise, nodes, nodes_in}
use Rattle.sitting.specs.declared.frame.Frame.{Frame as Spot}
use Rattle.sitting.specs.declared.memory.Memory.{Memory}
use Rattle.sitting.specs.declared.memory.Memory.TheVariants.{Nothing, Results as KeptResults}
use Rattle.sitting.specs.declared.memory.Results.{Results}
use Rattle.sitting.specs.declared.executive.Executive.{Executive}
use Rattle.sitting.specs.declared.turn.Turn.{Turn}
use Rattle.sitting.specs.declared.turn.Turn.TheVariants.{Enter, Look, Answer}
use Rattle.sitting.proofs.Halted.{nodes_cleared, at_desk, tree_halted, range_halted}
use Rattle.sitting.proofs.Laid.{Away, away_none, away_set, away_wider, away_both, alike_before, alike_behind, place, cell_at, At, at_alike, at_set, at_same, Laid, LaidIn, laid_alike, laid_in_alike, Held, held_away}
use Rattle.sitting.proofs.Masks.{is_ended, results_are, verdict_is, has_is, pass_kept, fail_kept}
use Rattle.sitting.proofs.Mirrors.{StopsAlike}
use Rattle.sitting.proofs.Rows.{has_node, size_snoc, nodes_snoc, marks_snoc, laid_in_moved, laid_snoc}
use Rattle.sitting.proofs.Showing.{Pushed, Stacked, staged, heard, descends, Around, Follows}
use Rattle.sitting.proofs.Stepping.{laid_ends}

size_marks : (ks : Kids) → size ks ≡ length (marks ks)
size_marks no_kids = refl
size_marks (kid r x ks) = ap suc (size_marks ks)

size_after : (ks : Kids) → size (after_par ks) ≡ size ks
size_after no_kids = refl
size_after (kid pending x ks) = ap suc (size_after ks)
size_after (kid (ended b) x ks) = ap suc (size_after ks)

pub nodes_after : (ks : Kids) → nodes_in (after_par ks) ≡ nodes_in ks
nodes_after no_kids = refl
nodes_after (kid pending x ks) = ap₂ (λ (a b : ℕ). a + b) (nodes_cleared x) (nodes_after ks)
nodes_after (kid (ended b) x ks) = ap (λ n. nodes x + n) (nodes_after ks)

none_after : (ks : Kids) → any_ended (marks (after_par ks)) ≡ false
none_after no_kids = refl
none_after (kid pending x ks) = none_after ks
none_after (kid (ended b) x ks) = none_after ks

cell_after : (ks : Kids) → results_cell (marks (after_par ks)) ≡ Nothing
cell_after ks = rw (none_after ks) refl

module _ (s : Executive) (A : Actions) (R : A.World → Bench → Boards → Type 0) (P : Leaf → Type 0) where
  -- the children without a result are halted: so many, from number j at place i on
  record Opening (ms : List Memory) (b : Bench) (o : Boards) (many j i n : ℕ) (r : Results) (Q : List Memory → Type 0) (v : A.World) : Type 0 where
    after : List Memory
    bench : Bench
    walks : halt_open many j i r (at_desk s ms b) ≡ (Ok tt, at_desk s after bench)
    laid : Q after
    away : Away ms after i (i + n)
    holds : R v bench o

  module _ (M : StopsAlike A R P) where
    open_next : (many j i e : ℕ) (r : Results) (ms ls : List Memory) (b c : Bench) (z : Halted) → open_halted (has_result r j) i (at_desk s ms b) ≡ (Ok tt, at_desk s ls c) →
        get_or s.ends i 0 ≡ e → halt_open many (suc j) e r (at_desk s ls c) ≡ z → halt_open (suc many) j i r (at_desk s ms b) ≡ z
    unfolding halt_open
    open_next many j i e r ms ls b c z h f q =
        let y : j + 1 ≡ suc j = omega arith in
        ap (λ (k : Halted). go_on k (halt_open many (j + 1) (get_or s.ends i 0) r)) h
        ∙ ap₂ (λ (k l : ℕ). halt_open many k l r (at_desk s ls c)) y f
        ∙ q

    open_none : (j i : ℕ) (r : Results) (d : Desk) → halt_open 0 j i r d ≡ (Ok tt, d)
    unfolding halt_open
    open_none j i r d = refl

    row_opened : (ks : Kids) (zs rs : List Kept) (j i : ℕ) (ms : List Memory) (b : Bench) (o : Boards) (w : A.World) → rs ≡ zs ++ marks ks → j ≡ length zs → j + size ks ≤ 32 →
        length ms ≡ 256 → LaidIn s P ms i ks → R w b o → Opening ms b o (size ks) j i (nodes_in ks) (masks rs) (λ ls. LaidIn s P ls i (after_par ks)) (halt_pending A ks w)
    row_opened no_kids zs rs j i ms b o w e f l long h r = record {
      after = ms;
      bench = b;
      walks = open_none j i (masks rs) (at_desk s ms b);
      laid = tt;
      away = away_none ms i (i + 0);
      holds = r;
    }
    row_opened (kid pending x ks) zs rs j i ms b o w e f l long h r =
        let one = tree_halted s A R P M ms b o i x w long h.0 r in
        let g = laid_ends s A R P ms i x h.0 in
        let q = range_halted s A R P M ms b o i (nodes x) i (get_or s.ends i 0) _ _ one refl g in
        let t : has_result (masks rs) j ≡ false = ap (λ (ks : List Kept). has_result (masks ks) j) e ∙ has_is zs pending (marks ks) j f (omega arith) in
        let m : length (zs ++ pending ∷ []) ≡ length zs + 1 = length-append zs (pending ∷ []) in
        let two = row_opened ks (zs ++ pending ∷ []) rs (suc j) (i + nodes x) one.after one.bench o (halt A x w) (e ∙ sym (append_assoc zs (pending ∷ []) (marks ks))) (omega arith) (omega arith)
        (one.away.long ∙ long) (laid_in_alike s P ms one.after (i + nodes x) ks h.1 (alike_behind _ _ _ _ _ _ one.away (omega arith))) one.holds in
        record {
          after = two.after;
          bench = two.bench;
          walks = open_next (size ks) j i (i + nodes x) (masks rs) ms one.after b one.bench _ (ap (λ c. open_halted c i (at_desk s ms b)) t ∙ q) g two.walks;
          laid = (
            laid_alike s P one.after two.after i (cleared x) one.laid (let y = nodes_cleared x in alike_before _ _ _ _ _ _ two.away (omega arith)),
            rw (nodes_cleared x) two.laid,
          );
          away = away_both ms one.after two.after i (i + (nodes x + nodes_in ks)) (away_wider _ _ _ _ _ _ one.away (omega arith) (omega arith)) (away_wider _ _ _ _ _ _ two.away (omega arith) (omega arith));
          holds = two.holds;
        }
    row_opened (kid (ended c) x ks) zs rs j i ms b o w e f l long h r =
        let g = laid_ends s A R P ms i x h.0 in
        let t : has_result (masks rs) j ≡ true = ap (λ (ks : List Kept). has_result (masks ks) j) e ∙ has_is zs (ended c) (marks ks) j f (omega arith) in
        let m : length (zs ++ ended c ∷ []) ≡ length zs + 1 = length-append zs (ended c ∷ []) in
        let two = row_opened ks (zs ++ ended c ∷ []) rs (suc j) (i + nodes x) ms b o w (e ∙ sym (append_assoc zs (ended c ∷ []) (marks ks))) (omega arith) (omega arith) long h.1 r in
        record {
          after = two.after;
          bench = two.bench;
          walks = open_next (size ks) j i (i + nodes x) (masks rs) ms ms b b _ (ap (λ c. open_halted c i (at_desk s ms b)) t) g two.walks;
          laid = (laid_alike s P ms two.after i x h.0 (alike_before _ _ _ _ _ _ two.away (omega arith)), two.laid);
          away = away_wider _ _ _ _ _ _ two.away (omega arith) (omega arith);
          holds = two.holds;
        }

    -- a par with all its children seen

    par_stops : (n : ℕ) (a : Status) (bs : Kids) (w : A.World) (K : List Frame) (t : Turn) (ms : List Memory) (S : List Spot) (b : Bench) (o : Boards) →
        turned t (staged s ms S b o) ≡ then_answers (halt_open (size bs) 0 (beyond (place K) 1) (results_of (cell_at ms (place K))) (at_desk s ms b)) (place K) a (staged s ms S b o) →
        At s ms (place K) (Par (size bs) n) (place K + suc (nodes_in bs)) (results_cell (marks bs)) → size bs ≤ 32 → LaidIn s P ms (suc (place K)) bs → Held s P ms (suc (nodes_in bs)) K →
        Around s A R P ms S b o K w → Follows s A R P (up a (halt_pending A bs w) [] (live_par n (after_par bs)) K) t ms S b o
    par_stops n a bs w K t ms S b o e h v l d r =
        let i = place K in
        let u = h.room in
        let y = row_opened bs [] (marks bs) 0 (suc i) ms b o w refl refl (omega arith) r.long l r.world in
        let ls = set y.after i Nothing in
        let q : beyond i 1 ≡ suc i = omega arith in
        let k : results_of (cell_at ms i) ≡ masks (marks bs) = ap results_of h.cell ∙ results_are (marks bs) in
        let z = away_set y.after i Nothing in
        let na = nodes_after bs in
        let sa = size_after bs in
        record {
          turn = Answer a;
          memories = ls;
          spots = S;
          bench = y.bench;
          boards = o;
          turns =
              e
              ∙ ap₂ (λ (c : ℕ) (m : Results). then_answers (halt_open (size bs) 0 c m (at_desk s ms b)) i a (staged s ms S b o)) q k
              ∙ ap (λ (c : Halted). then_answers c i a (staged s ms S b o)) y.walks;
          shown = (
            refl,
            (
              at_same s ls i _ _ _ _ _ _ (at_set s y.after i _ _ _ Nothing (y.away.long ∙ r.long) (at_alike s ms y.after i _ _ _ h (y.away.before i (omega arith))))
                  (ap (λ c. Par c n) (sym sa)) (omega arith) (sym (cell_after bs)),
              omega arith,
              laid_in_alike s P y.after ls (suc i) (after_par bs) y.laid (alike_behind _ _ _ _ _ _ z (omega arith)),
            ),
            subst (λ (c : ℕ). Held s P ls (suc c) K) (sym na)
                (held_away s P y.after ls _ K (held_away s P ms y.after _ K d (away_wider _ _ _ _ _ _ y.away (omega arith) (omega arith))) (away_wider _ _ _ _ _ _ z (omega arith) (omega arith))),
            record { stack = r.stack; world = y.holds; long = z.long ∙ y.away.long ∙ r.long },
          );
        }

    par_ended : (a : Status) (n : ℕ) (g : List ℕ) (bs : Kids) (w : A.World) (K : List Frame) (t : Turn) (ms : List Memory) (S : List Spot) (b : Bench) (o : Boards) →
        turned t (staged s ms S b o) ≡ par_ends a (size bs) (place K) (staged s ms S b o) →
        At s ms (place K) (Par (size bs) n) (place K + suc (nodes_in bs)) (results_cell (marks bs)) → size bs ≤ 32 → LaidIn s P ms (suc (place K)) bs → Held s P ms (suc (nodes_in bs)) K →
        Around s A R P ms S b o K w → Follows s A R P (raise (par_end n a w (halt_pending A bs) g bs) K) t ms S b o
    par_ended Run n g bs w K t ms S b o e h v l d r = record {
      turn = Answer Run;
      memories = ms;
      spots = S;
      bench = b;
      boards = o;
      turns = e;
      shown = (refl, (h, v, l), d, r);
    }
    par_ended Pass n g bs w K t ms S b o e h v l d r = par_stops n Pass bs w K t ms S b o e h v l d r
    par_ended Fail n g bs w K t ms S b o e h v l d r = par_stops n Fail bs w K t ms S b o e h v l d r

    pub par_last : (n : ℕ) (bs : Kids) (g : List ℕ) (w : A.World) (K : List Frame) (ms : List Memory) (S : List Spot) (b : Bench) (o : Boards) →
        At s ms (place K) (Par (size bs + 0) n) (place K + suc (nodes_in bs + 0)) (results_cell (marks bs ++ [])) → size bs + 0 ≤ 32 → LaidIn s P ms (suc (place K)) bs →
        Held s P ms (suc (nodes_in bs + 0)) K → Around s A R P ms S b o K w →
        Follows s A R P (raise (par_decided A n (gives Run w g bs)) K) (Look (frame (place K) (suc (place K) + nodes_in bs) (size bs))) ms S b o
    par_last n bs g w K ms S b o h v l d r =
        let i = place K in
        let f = frame i (suc i + nodes_in bs) (size bs) in
        let k = staged s ms S b o in
        let u = h.ends in
        let q : is_last k.sitting f ≡ true = eq-eqb (suc i + nodes_in bs) (get_or s.ends i 0) (omega arith) in
        let z : nodes_in bs + 0 ≡ nodes_in bs = omega arith in
        let y : size bs + 0 ≡ size bs = omega arith in
        let c = results_of (cell_at ms i) in
        let m : c ≡ masks (marks bs) = ap results_of h.cell ∙ results_are (marks bs ++ []) ∙ ap masks (append-nil (marks bs)) in
        par_ended (verdict n (size bs) (passes bs) (fails bs)) n g bs w K (Look f) ms S b o
        (ap (λ (N : Node). looked N f k) (h.node ∙ ap (λ j. Par j n) y)
        ∙ ap (λ (j : Bool). cond j (par_ends (par_verdict (size bs) n c) (size bs) i k) (cond (has_result c (size bs)) (Ok (Look (next k.sitting f)), k) (descend f k))) q
        ∙ ap (λ (j : Status). par_ends j (size bs) i k) (ap (par_verdict (size bs) n) m ∙ verdict_is n bs))
        (at_same s ms i _ _ _ _ _ _ h (ap (λ j. Par j n) y) (omega arith) (ap results_cell (append-nil (marks bs))))
        (omega arith)
        l
        (subst (λ (j : ℕ). Held s P ms (suc j) K) z d)
        r

  -- a par is entered

  pub par_follows : (n : ℕ) (ks : Kids) (w : A.World) (K : List Frame) (ms : List Memory) (S : List Spot) (b : Bench) (o : Boards) →
      Laid s P ms (place K) (live_par n ks) → Held s P ms (suc (nodes_in ks)) K → Around s A R P ms S b o K w →
      Follows s A R P (look_par n no_kids [] ks w K) (Enter (place K)) ms S b o
  par_follows n ks w K ms S b o h d a =
      let i = place K in
      let r = h.0.room in
      let v = h.1 in
      let e : beyond i 1 ≡ suc i + 0 = omega arith in
      let z : nodes_in ks ≡ 0 + nodes_in ks = omega arith in
      let y : size ks ≡ 0 + size ks = omega arith in
      record {
        turn = Look (frame i (suc i + 0) 0);
        memories = ms;
        spots = S;
        bench = b;
        boards = o;
        turns = ap (λ (N : Node). entered N i (staged s ms S b o)) h.0.node ∙ ap (λ c. (Ok (Look (frame i c 0)), staged s ms S b o)) e;
        shown = (
          refl,
          at_same s ms i _ _ _ _ _ _ h.0 (ap (λ j. Par j n) y) (omega arith) refl,
          omega arith,
          tt,
          laid_in_moved s P ms _ _ ks h.2 (omega arith),
          subst (λ (c : ℕ). Held s P ms (suc c) K) z d,
          a,
        );
      }

  -- a par goes on to its next child

  par_on : (n : ℕ) (r : Kept) (bs : Kids) (g : List ℕ) (x : Live) (ks : Kids) (w : A.World) (K : List Frame) (c : ℕ) (t : Turn) (ms ls : List Memory) (S T : List Spot) (b : Bench) (o : Boards) →
      turned t (staged s ms S b o) ≡ (Ok (Look (frame (place K) c (min (size bs + 1) 255))), staged s ls T b o) → c ≡ (suc (place K) + nodes_in bs) + nodes x →
      At s ls (place K) (Par (size bs + suc (size ks)) n) (place K + suc (nodes_in bs + (nodes x + nodes_in ks))) (results_cell (marks bs ++ (r ∷ marks ks))) →
      size bs + suc (size ks) ≤ 32 →
      LaidIn s P ls (suc (place K)) bs → Laid s P ls (suc (place K) + nodes_in bs) x → LaidIn s P ls ((suc (place K) + nodes_in bs) + nodes x) ks →
      Held s P ls (suc (nodes_in bs + (nodes x + nodes_in ks))) K → Around s A R P ls T b o K w →
      Follows s A R P (look_par n (snoc bs r x) g ks w K) t ms S b o
  par_on n r bs g x ks w K c t ms ls S T b o e f h m l q k d a =
      let i = place K in
      let y = nodes_snoc bs r x in
      let z = size_snoc bs r x in
      let u : size bs + suc (size ks) ≡ size (snoc bs r x) + size ks = omega arith in
      let v : nodes_in bs + (nodes x + nodes_in ks) ≡ nodes_in (snoc bs r x) + nodes_in ks = omega arith in
      let p : c ≡ suc i + nodes_in (snoc bs r x) = omega arith in
      let j : min (size bs + 1) 255 ≡ size (snoc bs r x) = omega arith in
      record {
        turn = Look (frame i (suc i + nodes_in (snoc bs r x)) (size (snoc bs r x)));
        memories = ls;
        spots = T;
        bench = b;
        boards = o;
        turns = e ∙ ap₂ (λ (c k : ℕ). (Ok (Look (frame i c k)), staged s ls T b o)) p j;
        shown = (
          refl,
          at_same s ls i _ _ _ _ _ _ h (ap (λ c. Par c n) u) (omega arith) (ap results_cell (sym (marks_snoc bs r x (marks ks)))),
          omega arith,
          laid_snoc s P ls (suc i) bs r x l q,
          laid_in_moved s P ls _ _ ks k (omega arith),
          subst (λ (j : ℕ). Held s P ls (suc j) K) v d,
          a,
        );
      }

  par_turn : (n : ℕ) (r : Kept) (bs : Kids) (x : Live) (ks : Kids) (K : List Frame) (ms : List Memory) (S : List Spot) (b : Bench) (o : Boards) →
      At s ms (place K) (Par (size bs + suc (size ks)) n) (place K + suc (nodes_in bs + (nodes x + nodes_in ks))) (results_cell (marks bs ++ (r ∷ marks ks))) →
      size bs + suc (size ks) ≤ 32 →
      turned (Look (frame (place K) (suc (place K) + nodes_in bs) (size bs))) (staged s ms S b o)
      ≡ cond (is_ended r) (Ok (Look (next s (frame (place K) (suc (place K) + nodes_in bs) (size bs)))), staged s ms S b o)
      (descend (frame (place K) (suc (place K) + nodes_in bs) (size bs)) (staged s ms S b o))
  par_turn n r bs x ks K ms S b o h v =
      let i = place K in
      let f = frame i (suc i + nodes_in bs) (size bs) in
      let k = staged s ms S b o in
      let c = results_of (cell_at ms i) in
      let u = h.ends in
      let y = has_node x in
      let q : is_last k.sitting f ≡ false = ne_eqb (suc i + nodes_in bs) (get_or s.ends i 0) (λ e. omega arith) in
      let m : c ≡ masks (marks bs ++ (r ∷ marks ks)) = ap results_of h.cell ∙ results_are (marks bs ++ (r ∷ marks ks)) in
      let kids = size bs + suc (size ks) in
      ap (λ (N : Node). looked N f k) h.node
      ∙ ap (λ (j : Bool). cond j (par_ends (par_verdict kids n c) kids i k) (cond (has_result c (size bs)) (Ok (Look (next k.sitting f)), k) (descend f k))) q
      ∙ ap (λ (j : Bool). cond j (Ok (Look (next k.sitting f)), k) (descend f k))
      (ap (λ (z : Results). has_result z (size bs)) m ∙ has_is (marks bs) r (marks ks) (size bs) (size_marks bs) (omega arith))

  pub par_look : (n : ℕ) (bs : Kids) (g : List ℕ) (x : Live) (ks : Kids) (w : A.World) (K : List Frame) (ms : List Memory) (S : List Spot) (b : Bench) (o : Boards) → length K < 16 →
      At s ms (place K) (Par (size bs + suc (size ks)) n) (place K + suc (nodes_in bs + (nodes x + nodes_in ks))) (results_cell (marks bs ++ (pending ∷ marks ks))) →
      size bs + suc (size ks) ≤ 32 →
      LaidIn s P ms (suc (place K)) bs → LaidIn s P ms (suc (place K) + nodes_in bs) (kid pending x ks) →
      Held s P ms (suc (nodes_in bs + (nodes x + nodes_in ks))) K → Around s A R P ms S b o K w →
      Follows s A R P (down x w (in_par n bs g ks ∷ K)) (Look (frame (place K) (suc (place K) + nodes_in bs) (size bs))) ms S b o
  par_look n bs g x ks w K ms S b o t h v l k d a =
      let i = place K in
      let f = frame i (suc i + nodes_in bs) (size bs) in
      record {
        turn = Enter (suc i + nodes_in bs);
        memories = ms;
        spots = S ++ f ∷ [];
        bench = b;
        boards = o;
        turns = par_turn n pending bs x ks K ms S b o h v ∙ descends s ms S b o K f a.stack t;
        shown = (refl, k.0, (h, v, l, k.1, d), record { stack = record { below = S; top = refl; rest = a.stack }; world = a.world; long = a.long });
      }

  pub par_pass : (n : ℕ) (c : Bool) (bs : Kids) (g : List ℕ) (x : Live) (ks : Kids) (w : A.World) (K : List Frame) (ms : List Memory) (S : List Spot) (b : Bench) (o : Boards) →
      At s ms (place K) (Par (size bs + suc (size ks)) n) (place K + suc (nodes_in bs + (nodes x + nodes_in ks))) (results_cell (marks bs ++ (ended c ∷ marks ks))) →
      size bs + suc (size ks) ≤ 32 →
      LaidIn s P ms (suc (place K)) bs → LaidIn s P ms (suc (place K) + nodes_in bs) (kid (ended c) x ks) →
      Held s P ms (suc (nodes_in bs + (nodes x + nodes_in ks))) K → Around s A R P ms S b o K w →
      Follows s A R P (look_par n (snoc bs (ended c) x) g ks w K) (Look (frame (place K) (suc (place K) + nodes_in bs) (size bs))) ms S b o
  par_pass n c bs g x ks w K ms S b o h v l k d a =
      let i = place K in
      let j = suc i + nodes_in bs in
      par_on n (ended c) bs g x ks w K (get_or s.ends j 0) (Look (frame i j (size bs))) ms ms S S b o
      (par_turn n (ended c) bs x ks K ms S b o h v) (laid_ends s A R P ms j x k.0) h v l k.0 k.1 d a

  -- a par hears its child

  par_hears : (n : ℕ) (a : Status) (bs : Kids) (x : Live) (ks : Kids) (K : List Frame) (ms : List Memory) (S : List Spot) (b : Bench) (o : Boards) (Q : List Spot → Type 0)
      (q : Pushed S (frame (place K) (suc (place K) + nodes_in bs) (size bs)) Q) →
      At s ms (place K) (Par (size bs + suc (size ks)) n) (place K + suc (nodes_in bs + (nodes x + nodes_in ks))) (results_cell (marks bs ++ (pending ∷ marks ks))) →
      turned (Answer a) (staged s ms S b o)
      ≡ (Ok (Look (frame (place K) (get_or s.ends (suc (place K) + nodes_in bs) 0) (min (size bs + 1) 255))), keeping a (frame (place K) (suc (place K) + nodes_in bs) (size bs)) (staged s ms q.below b o))
  par_hears n a bs x ks K ms S b o Q q h =
      heard s ms S b o a _ _ q ∙ ap (λ (N : Node). answered N (frame (place K) (suc (place K) + nodes_in bs) (size bs)) a (staged s ms q.below b o)) h.node

  par_keeps : (n : ℕ) (c : Bool) (m : Memory) (bs : Kids) (g : List ℕ) (x : Live) (ks : Kids) (w : A.World) (K : List Frame) (t : Turn) (ms : List Memory) (S T : List Spot) (b : Bench) (o : Boards) →
      turned t (staged s ms S b o) ≡ (Ok (Look (frame (place K) (get_or s.ends (suc (place K) + nodes_in bs) 0) (min (size bs + 1) 255))), staged s (set ms (place K) m) T b o) →
      m ≡ results_cell (marks bs ++ (ended c ∷ marks ks)) →
      Laid s P ms (suc (place K) + nodes_in bs) x → Held s P ms (nodes x) (in_par n bs g ks ∷ K) → Stacked T K → R w b o → length ms ≡ 256 → (f : List ℕ) →
      Follows s A R P (look_par n (snoc bs (ended c) x) f ks w K) t ms S b o
  par_keeps n c m bs g x ks w K t ms S T b o e u h d k r long f =
      let i = place K in
      let j = suc i + nodes_in bs in
      let y = away_set ms i m in
      par_on n (ended c) bs f x ks w K (get_or s.ends j 0) t ms (set ms i m) S T b o e (laid_ends s A R P ms j x h)
      (at_same s _ i _ _ _ _ _ _ (at_set s ms i _ _ _ m long d.0) refl refl u)
      d.1
      (laid_in_alike s P ms _ (suc i) bs d.2 (alike_behind _ _ _ _ _ _ y (omega arith)))
      (laid_alike s P ms _ j x h (alike_behind _ _ _ _ _ _ y (omega arith)))
      (laid_in_alike s P ms _ (j + nodes x) ks d.3 (alike_behind _ _ _ _ _ _ y (omega arith)))
      (held_away s P ms _ _ K d.4 (away_wider _ _ _ _ _ _ y (omega arith) (omega arith)))
      (record { stack = k; world = r; long = y.long ∙ long })

  pub par_heard : (a : Status) (n : ℕ) (bs : Kids) (g : List ℕ) (ks : Kids) (w : A.World) (f : List ℕ) (x : Live) (K : List Frame) (ms : List Memory) (S : List Spot) (b : Bench) (o : Boards) →
      Laid s P ms (suc (place K) + nodes_in bs) x → Held s P ms (nodes x) (in_par n bs g ks ∷ K) → Around s A R P ms S b o (in_par n bs g ks ∷ K) w →
      Follows s A R P (look_par n (snoc bs (kept_as a) x) (g ++ f) ks w K) (Answer a) ms S b o
  par_heard Run n bs g ks w f x K ms S b o h d r =
      let i = place K in
      let j = suc i + nodes_in bs in
      let q = r.stack in
      par_on n pending bs (g ++ f) x ks w K (get_or s.ends j 0) (Answer Run) ms ms S q.below b o
      (par_hears n Run bs x ks K ms S b o _ q d.0) (laid_ends s A R P ms j x h) d.0 d.1 d.2 h d.3 d.4 (record { stack = q.rest; world = r.world; long = r.long })
  par_heard Pass n bs g ks w f x K ms S b o h d r =
      let i = place K in
      let q = r.stack in
      let v = d.1 in
      par_keeps n true (KeptResults (kept (results_of (cell_at ms i)) (size bs) Pass)) bs g x ks w K (Answer Pass) ms S q.below b o
      (par_hears n Pass bs x ks K ms S b o _ q d.0)
      (ap (λ (c : Memory). KeptResults (kept (results_of c) (size bs) Pass)) d.0.cell ∙ pass_kept (marks bs) (marks ks) (size bs) (size_marks bs) (omega arith))
      h d q.rest r.world r.long (g ++ f)
  par_heard Fail n bs g ks w f x K ms S b o h d r =
      let i = place K in
      let q = r.stack in
      let v = d.1 in
      par_keeps n false (KeptResults (kept (results_of (cell_at ms i)) (size bs) Fail)) bs g x ks w K (Answer Fail) ms S q.below b o
      (par_hears n Fail bs x ks K ms S b o _ q d.0)
      (ap (λ (c : Memory). KeptResults (kept (results_of c) (size bs) Fail)) d.0.cell ∙ fail_kept (marks bs) (marks ks) (size bs) (size_marks bs) (omega arith))
      h d q.rest r.world r.long (g ++ f)
