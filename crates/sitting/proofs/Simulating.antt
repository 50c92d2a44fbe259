-- The turns over the tables follow the machine, from the root's entry to its answer.
use Rattle.std.proofs.Common.{◌≡◌, ℕ, zero, suc, ◌<◌, ◌≤◌, Bool, true, false, List, [], ◌∷◌, ◌++◌, length, None, Ok, Option, sym, refl, ap, ◌∙◌, arith}
use Rattle.mission.specs.Trees.{Leaf}
use Rattle.rules.specs.declared.status.Status.{Status}
use Rattle.rules.specs.Live.{pending, ended, Live, live_leaf, live_group, live_par, live_not, live_loop, no_kids, kid}
use Rattle.rules.specs.Visiting.{Visit, gives, moves_on, Actions}
use Rattle.sitting.specs.Desks.{Bench, Boards}
use Rattle.sitting.specs.Tidy.{Tidy, TidyConfig}
use Rattle.sitting.specs.Turns.{Stage, turned, root_answer, outcome, Visited, then_visited, unless_answered, visited}
use Rattle.sitting.specs.Zipper.{in_group, in_par, in_not, in_loop, Config, down, look_group, look_par, up, is_end, step, depth}
use Rattle.sitting.specs.declared.frame.Frame.{Frame as Spot}
use Rattle.sitting.specs.declared.memory.Memory.{Memory}
use Rattle.sitting.specs.declared.executive.Executive.{Executive}
use Rattle.sitting.specs.declared.turn.Turn.{Turn}
use Rattle.sitting.specs.declared.turn.Turn.TheVariants.{Answer}
use Rattle.sitting.proofs.Depths.{Fits, step_fits, fits_below}
use Rattle.sitting.proofs.Stepping.{leaf_follows, not_follows, loop_follows, group_follows, look_last, look_next, not_heard, loop_heard, group_heard}
use Rattle.sitting.proofs.Laid.{Laid}
use Rattle.sitting.proofs.Mirrors.{Mirrors}
use Rattle.sitting.proofs.ParStepping.{par_follows, par_last, par_look, par_pass, par_heard}
use Rattle.sitting.proofs.Showing.{Pushed, staged, Shown, Follows, follows_at}
use Rattle.sitting.proofs.Tidying.{step_tidy}
use Rattle.sitting.proofs.Zipping.{meaning, step_keeps, step_falls, weight}

not_root : (T : List Spot) (f : Spot) (a : Status) → root_answer (T ++ f ∷ []) a ≡ None
not_root [] f a = refl
not_root (g ∷ T) f a = refl

pushed_on : (S : List Spot) (f : Spot) (Q : List Spot → Type 0) (a : Status) → Pushed S f Q → root_answer S a ≡ None
pushed_on S f Q a p = ap (λ (T : List Spot). root_answer T a) p.top ∙ not_root p.below f a

module _ (s : Executive) (A : Actions) (R : A.World → Bench → Boards → Type 0) (P : Leaf → Type 0) (M : Mirrors A R P) where
  -- one turn follows one step
  pub follows : (c : Config A.World) (t : Turn) (ms : List Memory) (S : List Spot) (b : Bench) (o : Boards) →
      TidyConfig c → Fits 16 c → is_end c ≡ false → Shown s A R P c t ms S b o → Follows s A R P (step A c) t ms S b o
  follows (down (live_leaf l) w K) t ms S b o ti fi e h = follows_at s A R P _ t _ ms S b o h.0 (leaf_follows s A R P M l w K ms S b o h.1 h.2 h.3)
  follows (down (live_group p m ks) w K) t ms S b o ti fi e h = follows_at s A R P _ t _ ms S b o h.0 (group_follows s A R P p m ks w K ms S b o ti.0 h.1 h.2 h.3)
  follows (down (live_par n ks) w K) t ms S b o ti fi e h = follows_at s A R P _ t _ ms S b o h.0 (par_follows s A R P n ks w K ms S b o h.1 h.2 h.3)
  follows (down (live_not x) w K) t ms S b o ti fi e h =
      follows_at s A R P _ t _ ms S b o h.0 (not_follows s A R P x w K ms S b o (fits_below A 16 (down (live_not x) w K) fi) h.1 h.2 h.3)
  follows (down (live_loop p times n x) w K) t ms S b o ti fi e h =
      follows_at s A R P _ t _ ms S b o h.0 (loop_follows s A R P p times n x w K ms S b o (fits_below A 16 (down (live_loop p times n x) w K) fi) h.1 h.2 h.3)
  follows (look_group p m bs no_kids w K) t ms S b o ti fi e h =
      follows_at s A R P _ t _ ms S b o h.1 (look_last s A R P p m bs w K h.0 ms S b o ti.0 h.2 h.3 h.5 h.6)
  follows (look_group p m bs (kid pending x ks) w K) t ms S b o ti fi e h =
      follows_at s A R P _ t _ ms S b o h.1 (look_next s A R P p m bs x ks w K h.0 ms S b o (fits_below A 16 (look_group p m bs (kid pending x ks) w K) fi) h.2 h.3 h.4 h.5 h.6)
  follows (look_group p m bs (kid (ended c) x ks) w K) t ms S b o ti fi e h = let q = ti.1.0 in absurd (cc)
  follows (look_par n bs g no_kids w K) t ms S b o ti fi e h =
      follows_at s A R P _ t _ ms S b o h.0 (par_last s A R P M.stops n bs g w K ms S b o h.1 h.2 h.3 h.5 h.6)
  follows (look_par n bs g (kid pending x ks) w K) t ms S b o ti fi e h =
      follows_at s A R P _ t _ ms S b o h.0 (par_look s A R P n bs g x ks w K ms S b o (fits_below A 16 (look_par n bs g (kid pending x ks) w K) fi) h.1 h.2 h.3 h.4 h.5 h.6)
  follows (look_par n bs g (kid (ended c) x ks) w K) t ms S b o ti fi e h =
      follows_at s A R P _ t _ ms S b o h.0 (par_pass s A R P n c bs g x ks w K ms S b o h.1 h.2 h.3 h.4 h.5 h.6)
  follows (up a w f x []) t ms S b o ti fi e h = absurd (cc)
  follows (up a w f x (in_group p m bs ks ∷ K)) t ms S b o ti fi e h =
      follows_at s A R P _ t _ ms S b o h.0 (group_heard s A R P M.stops (moves_on p a) p m bs ks a w f x K ms S b o refl ti.1.0.0 h.1 h.2 h.3)
  follows (up a w f x (in_par n bs g ks ∷ K)) t ms S b o ti fi e h =
      follows_at s A R P _ t _ ms S b o h.0 (par_heard s A R P a n bs g ks w f x K ms S b o h.1 h.2 h.3)
  follows (up a w f x (in_not ∷ K)) t ms S b o ti fi e h = follows_at s A R P _ t _ ms S b o h.0 (not_heard s A R P a w f x K ms S b o h.1 h.2 h.3)
  follows (up a w f x (in_loop p times n ∷ K)) t ms S b o ti fi e h = follows_at s A R P _ t _ ms S b o h.0 (loop_heard s A R P p times n a w f x K ms S b o h.1 h.2 h.3)

  -- before the end the root has not answered
  pub not_over : (c : Config A.World) (t : Turn) (ms : List Memory) (S : List Spot) (b : Bench) (o : Boards) → is_end c ≡ false → Shown s A R P c t ms S b o → outcome t S ≡ None
  not_over (down x w K) t ms S b o e h = ap (λ u. outcome u S) h.0
  not_over (look_group p m bs ks w K) t ms S b o e h = ap (λ u. outcome u S) h.1
  not_over (look_par n bs g ks w K) t ms S b o e h = ap (λ u. outcome u S) h.0
  not_over (up a w f x []) t ms S b o e h = absurd (cc)
  not_over (up a w f x (in_group p m bs ks ∷ K)) t ms S b o e h = ap (λ u. outcome u S) h.0 ∙ pushed_on S _ _ a (h.3.stack).1
  not_over (up a w f x (in_par n bs g ks ∷ K)) t ms S b o e h = ap (λ u. outcome u S) h.0 ∙ pushed_on S _ _ a h.3.stack
  not_over (up a w f x (in_not ∷ K)) t ms S b o e h = ap (λ u. outcome u S) h.0 ∙ pushed_on S _ _ a (h.3.stack).1
  not_over (up a w f x (in_loop p times n ∷ K)) t ms S b o e h = ap (λ u. outcome u S) h.0 ∙ pushed_on S _ _ a (h.3.stack).1

  -- the turns end with the root's answer, as this visit does
  pub record Finished (v : Visit A.World Live) (n : ℕ) (t : Turn) (ms : List Memory) (S : List Spot) (b : Bench) (o : Boards) : Type 0 where
    pub status : Status
    pub world : A.World
    pub front : List ℕ
    pub tree : Live
    pub memories : List Memory
    pub bench : Bench
    pub boards : Boards
    pub is : v ≡ gives status world front tree
    pub visits : visited n t (staged s ms S b o) ≡ (Ok status, staged s memories [] bench boards)
    pub laid : Laid s P memories 0 tree
    pub tidy : Tidy tree
    pub shallow : depth tree ≤ 16
    pub holds : R world bench boards
    pub long : length memories ≡ 256

  turn_visits : (n : ℕ) (t u : Turn) (g k : Stage) (z : Visited) → outcome t g.stack ≡ None → turned t g ≡ (Ok u, k) → visited n u k ≡ z → visited (suc n) t g ≡ z
  unfolding visited
  turn_visits n t u g k z e f q =
      ap (λ (a : Option Status). unless_answered a g (then_visited (turned t g) (visited n))) e ∙ ap (λ r. then_visited r (visited n)) f ∙ q

  over_visits : (n : ℕ) (a : Status) (g : Stage) → g.stack ≡ [] → visited (suc n) (Answer a) g ≡ (Ok a, g)
  unfolding visited
  over_visits n a g e = ap (λ (K : List Spot). unless_answered (root_answer K a) g (then_visited (turned (Answer a) g) (visited n))) e

  finished : (c : Config A.World) (n : ℕ) (t : Turn) (ms : List Memory) (S : List Spot) (b : Bench) (o : Boards) → is_end c ≡ true →
      TidyConfig c → Fits 16 c → Shown s A R P c t ms S b o → Finished (meaning A c) (suc n) t ms S b o
  finished (down x w K) n t ms S b o e ti fi h = absurd (cc)
  finished (look_group p m bs ks w K) n t ms S b o e ti fi h = absurd (cc)
  finished (look_par i bs g ks w K) n t ms S b o e ti fi h = absurd (cc)
  finished (up a w f x (F ∷ K)) n t ms S b o e ti fi h = absurd (cc)
  finished (up a w f x []) n t ms S b o e ti fi h = record {
    status = a;
    world = w;
    front = f;
    tree = x;
    memories = ms;
    bench = b;
    boards = o;
    is = refl;
    visits =
        ap (λ u. visited (suc n) u (staged s ms S b o)) h.0
        ∙ over_visits n a (staged s ms S b o) h.3.stack
        ∙ ap (λ (T : List Spot). (Ok a, staged s ms T b o)) h.3.stack;
    laid = h.1;
    tidy = ti.0;
    shallow = (let d = fi.0 in omega arith);
    holds = h.3.world;
    long = h.3.long;
  }

  pub runs : (n : ℕ) (c : Config A.World) (t : Turn) (ms : List Memory) (S : List Spot) (b : Bench) (o : Boards) → weight c < n →
      TidyConfig c → Fits 16 c → Shown s A R P c t ms S b o → Finished (meaning A c) n t ms S b o
  runs zero c t ms S b o l ti fi h = absurd (omega arith)
  runs (suc n) c t ms S b o l ti fi h = go (is_end c) refl (λ u ls T d p. runs n (step A c) u ls T d p)
    where
      go : (q : Bool) → is_end c ≡ q →
          ((u : Turn) (ls : List Memory) (T : List Spot) (d : Bench) (p : Boards) → weight (step A c) < n → TidyConfig (step A c) → Fits 16 (step A c) → Shown s A R P (step A c) u ls T d p →
          Finished (meaning A (step A c)) n u ls T d p) →
          Finished (meaning A c) (suc n) t ms S b o
      go true e ih = finished c n t ms S b o e ti fi h
      go false e ih =
          let f = follows c t ms S b o ti fi e h in
          let k = step_falls A c e in
          let r = ih f.turn f.memories f.spots f.bench f.boards (omega arith) (step_tidy A c ti) (step_fits A 16 c fi) f.shown in
          record {
            status = r.status;
            world = r.world;
            front = r.front;
            tree = r.tree;
            memories = r.memories;
            bench = r.bench;
            boards = r.boards;
            is = sym (step_keeps A c) ∙ r.is;
            visits = turn_visits n t f.turn (staged s ms S b o) (staged s f.memories f.spots f.bench f.boards) _ (not_over c t ms S b o e h) f.turns r.visits;
            laid = r.laid;
            tidy = r.tidy;
            shallow = r.shallow;
            holds = r.holds;
            long = r.long;
          }
