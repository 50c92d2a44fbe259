-- The places that a visit enters rise: no step of the machine goes back, and an entry goes on by one at least.
use Rattle.std.proofs.Common.{◌≡◌, ℕ, zero, suc, ◌+◌, ◌≤◌, Bool, true, false, List, [], ◌∷◌, ◌++◌, None, Ok, Option, sym, refl, ap, ◌∙◌, subst, arith}
use Rattle.std.specs.Prelude.{nat_lt}
use Rattle.mission.specs.Trees.{Leaf}
use Rattle.rules.specs.declared.status.Status.{Status}
use Rattle.rules.specs.declared.status.Status.TheVariants.{Run, Pass, Fail}
use Rattle.rules.specs.Live.{Polarity, pending, ended, Live, live_leaf, live_group, live_par, live_not, live_loop, Kids, no_kids, kid}
use Rattle.rules.specs.Visiting.{Visit, gives, leaf_visit, moves_on, moved, kept_as, behind, later, size, passes, fails, verdict, group_end, par_end, count_or_end, loop_step, loop_end, Actions, halt_later, halt_pending, par_decided}
use Rattle.sitting.specs.Desks.{Bench, Boards}
use Rattle.sitting.specs.Entering.{enters, then_entered, until_answered, entered_in, Rising}
use Rattle.sitting.specs.Tidy.{TidyConfig}
use Rattle.sitting.specs.Turns.{Stage, turned, root_answer, outcome}
use Rattle.sitting.specs.Zipper.{Frame, in_group, in_par, in_not, in_loop, onto, Config, down, look_group, look_par, up, raise, is_end, back_in_group, step, nodes, nodes_in}
use Rattle.sitting.specs.declared.frame.Frame.{Frame as Spot}
use Rattle.sitting.specs.declared.memory.Memory.{Memory}
use Rattle.sitting.specs.declared.executive.Executive.{Executive}
use Rattle.sitting.specs.declared.turn.Turn.{Turn}
use Rattle.sitting.specs.declared.turn.Turn.TheVariants.{Answer}
use Rattle.sitting.proofs.Depths.{Fits, step_fits}
use Rattle.sitting.proofs.Laid.{place}
use Rattle.sitting.proofs.Mirrors.{Mirrors}
use Rattle.sitting.proofs.ParStepping.{nodes_after}
use Rattle.sitting.proofs.Rows.{nodes_onto, nodes_snoc, nodes_forgotten}
use Rattle.sitting.proofs.Showing.{staged, Shown}
use Rattle.sitting.proofs.Simulating.{follows, not_over}
use Rattle.sitting.proofs.Tidying.{step_tidy}

-- all places before this one are done with
abbrev pub position : {W : Type 0} → Config W → ℕ
position (down x w K) = place K
position (look_group p m bs ks w K) = suc (place K) + nodes_in bs
position (look_par n bs g ks w K) = suc (place K) + nodes_in bs
position (up a w f x K) = place K + nodes x

-- the place that a step enters, if it enters one
abbrev pub entry : {W : Type 0} → Config W → List ℕ
entry (down x w K) = place K ∷ []
entry (look_group p m bs ks w K) = []
entry (look_par n bs g ks w K) = []
entry (up a w f x K) = []

rising_from : (i j : ℕ) (places : List ℕ) → i ≤ j → Rising j places → Rising i places
rising_from i j [] l h = tt
rising_from i j (k ∷ places) l h = (let a = h.0 in omega arith, h.1)

-- the nodes of what a visit gives
abbrev given : {W : Type 0} → Visit W Live → ℕ
given (gives a w f x) = nodes x

raised_at : {W : Type 0} (o : Visit W Live) (K : List Frame) → position (raise o K) ≡ place K + given o
raised_at (gives a w f x) K = refl

group_given : {W : Type 0} (p : Polarity) (m : Bool) (a : Status) (w : W) (f : List ℕ) (ks : Kids) → given (group_end p m (gives a w f ks)) ≡ suc (nodes_in ks)
group_given p m Run w f ks = refl
group_given p m Pass w f ks = ap suc (nodes_forgotten ks)
group_given p m Fail w f ks = ap suc (nodes_forgotten ks)

par_given : {W : Type 0} (n : ℕ) (a : Status) (w : W) (h : W → W) (f : List ℕ) (ks : Kids) → given (par_end n a w h f ks) ≡ suc (nodes_in ks)
par_given n Run w h f ks = refl
par_given n Pass w h f ks = ap suc (nodes_after ks)
par_given n Fail w h f ks = ap suc (nodes_after ks)

count_given : {W : Type 0} (b : Bool) (p : Polarity) (times n : ℕ) (w : W) (x : Live) → given (count_or_end b p times n w x) ≡ suc (nodes x)
count_given true p times n w x = refl
count_given false p times n w x = refl

loop_given : {W : Type 0} (b : Bool) (p : Polarity) (times n : ℕ) (a : Status) (w : W) (f : List ℕ) (x : Live) → given (loop_step b p times n a w f x) ≡ suc (nodes x)
loop_given true p times n a w f x = count_given (nat_lt (suc n) times) p times n w x
loop_given false p times n Run w f x = refl
loop_given false p times n Pass w f x = refl
loop_given false p times n Fail w f x = refl

module _ (A : Actions) where
  back_at : (b : Bool) (p : Polarity) (m : Bool) (bs ks : Kids) (a : Status) (w : A.World) (f : List ℕ) (x : Live) (K : List Frame) →
      (suc (place K) + nodes_in bs) + nodes x ≤ position (back_in_group A b p m bs ks a w f x K)
  back_at true p m bs ks a w f x K = let e = nodes_snoc bs (behind p m) x in omega arith
  back_at false p m bs ks a w f x K =
      let e = raised_at (group_end p m (gives a (halt_later A m ks w) f (onto bs (kid pending x (later m ks))))) K in
      let g = group_given p m a (halt_later A m ks w) f (onto bs (kid pending x (later m ks))) in
      let o = nodes_onto bs (kid pending x (later m ks)) in
      omega arith

  par_at : (n : ℕ) (bs : Kids) (g : List ℕ) (w : A.World) (K : List Frame) → position (raise (par_decided A n (gives Run w g bs)) K) ≡ suc (place K) + nodes_in bs
  par_at n bs g w K =
      let e = raised_at (par_decided A n (gives Run w g bs)) K in
      let d = par_given n (verdict n (size bs) (passes bs) (fails bs)) w (halt_pending A bs) g bs in
      omega arith

  -- what the steps after one enter, and what it enters
  rises : (c : Config A.World) (places : List ℕ) → is_end c ≡ false → Rising (position (step A c)) places → Rising (position c) (entry c ++ places)
  rises (down (live_leaf l) w K) places e h = let i = raised_at (leaf_visit l (A.visit_leaf l w)) K in (omega arith, rising_from _ _ places (omega arith) h)
  rises (down (live_group p m ks) w K) places e h = (omega arith, rising_from _ _ places (omega arith) h)
  rises (down (live_par n ks) w K) places e h = (omega arith, rising_from _ _ places (omega arith) h)
  rises (down (live_not x) w K) places e h = (omega arith, h)
  rises (down (live_loop p times n x) w K) places e h = (omega arith, h)
  rises (look_group p m bs no_kids w K) places e h =
      let i = raised_at (group_end p m (gives (moved p) w [] bs)) K in
      let g = group_given p m (moved p) w [] bs in
      rising_from _ _ places (omega arith) h
  rises (look_group p m bs (kid pending x ks) w K) places e h = h
  rises (look_group p m bs (kid (ended b) x ks) w K) places e h = let i = nodes_snoc bs (behind p m) x in rising_from _ _ places (omega arith) h
  rises (look_par n bs g no_kids w K) places e h = let i = par_at n bs g w K in rising_from _ _ places (omega arith) h
  rises (look_par n bs g (kid pending x ks) w K) places e h = h
  rises (look_par n bs g (kid (ended b) x ks) w K) places e h = let i = nodes_snoc bs (ended b) x in rising_from _ _ places (omega arith) h
  rises (up a w f x []) places e h = absurd (cc)
  rises (up a w f x (in_group p m bs ks ∷ K)) places e h = rising_from _ _ places (back_at (moves_on p a) p m bs ks a w f x K) h
  rises (up a w f x (in_par n bs g ks ∷ K)) places e h = let i = nodes_snoc bs (kept_as a) x in rising_from _ _ places (omega arith) h
  rises (up a w f x (in_not ∷ K)) places e h = rising_from _ _ places (omega arith) h
  rises (up a w f x (in_loop p times n ∷ K)) places e h =
      let i = raised_at (loop_end p times n (gives a w f x)) K in
      let d = loop_given (moves_on p a) p times n a w f x in
      rising_from _ _ places (omega arith) h

none_entered : (t : Turn) (g : Stage) → entered_in zero t g ≡ []
unfolding entered_in
none_entered t g = refl

turn_enters : (n : ℕ) (t u : Turn) (g k : Stage) → outcome t g.stack ≡ None → turned t g ≡ (Ok u, k) → entered_in (suc n) t g ≡ enters t ++ entered_in n u k
unfolding entered_in
turn_enters n t u g k e f =
    ap (λ (a : Option Status). until_answered a (enters t ++ then_entered (turned t g) (entered_in n))) e ∙ ap (λ r. enters t ++ then_entered r (entered_in n)) f

over_enters : (n : ℕ) (a : Status) (g : Stage) → g.stack ≡ [] → entered_in (suc n) (Answer a) g ≡ []
unfolding entered_in
over_enters n a g e = ap (λ (K : List Spot). until_answered (root_answer K a) (then_entered (turned (Answer a) g) (entered_in n))) e

module _ (s : Executive) (A : Actions) (R : A.World → Bench → Boards → Type 0) (P : Leaf → Type 0) where
  -- a turn enters what the step enters
  shown_enters : (c : Config A.World) (t : Turn) (ms : List Memory) (S : List Spot) (b : Bench) (o : Boards) → Shown s A R P c t ms S b o → enters t ≡ entry c
  shown_enters (down x w K) t ms S b o h = ap enters h.0
  shown_enters (look_group p m bs ks w K) t ms S b o h = ap enters h.1
  shown_enters (look_par n bs g ks w K) t ms S b o h = ap enters h.0
  shown_enters (up a w f x K) t ms S b o h = ap enters h.0

  over : (c : Config A.World) (n : ℕ) (t : Turn) (ms : List Memory) (S : List Spot) (b : Bench) (o : Boards) → is_end c ≡ true → Shown s A R P c t ms S b o → entered_in (suc n) t (staged s ms S b o) ≡ []
  over (down x w K) n t ms S b o e h = absurd (cc)
  over (look_group p m bs ks w K) n t ms S b o e h = absurd (cc)
  over (look_par i bs g ks w K) n t ms S b o e h = absurd (cc)
  over (up a w f x (F ∷ K)) n t ms S b o e h = absurd (cc)
  over (up a w f x []) n t ms S b o e h = ap (λ u. entered_in (suc n) u (staged s ms S b o)) h.0 ∙ over_enters n a (staged s ms S b o) h.3.stack

  module _ (M : Mirrors A R P) where
    pub enters_rising : (n : ℕ) (c : Config A.World) (t : Turn) (ms : List Memory) (S : List Spot) (b : Bench) (o : Boards) → TidyConfig c → Fits 16 c → Shown s A R P c t ms S b o →
        Rising (position c) (entered_in n t (staged s ms S b o))
    enters_rising zero c t ms S b o ti fi h = subst (Rising (position c)) (sym (none_entered t (staged s ms S b o))) tt
    enters_rising (suc n) c t ms S b o ti fi h = go (is_end c) refl (λ u ls T d p. enters_rising n (step A c) u ls T d p)
      where
        go : (q : Bool) → is_end c ≡ q →
            ((u : Turn) (ls : List Memory) (T : List Spot) (d : Bench) (p : Boards) → TidyConfig (step A c) → Fits 16 (step A c) → Shown s A R P (step A c) u ls T d p →
            Rising (position (step A c)) (entered_in n u (staged s ls T d p))) →
            Rising (position c) (entered_in (suc n) t (staged s ms S b o))
        go true e ih = subst (Rising (position c)) (sym (over c n t ms S b o e h)) tt
        go false e ih =
            let f = follows s A R P M c t ms S b o ti fi e h in
            let g = staged s f.memories f.spots f.bench f.boards in
            let r = ih f.turn f.memories f.spots f.bench f.boards (step_tidy A c ti) (step_fits A 16 c fi) f.shown in
            let q = turn_enters n t f.turn (staged s ms S b o) g (not_over s A R P M c t ms S b o e h) f.turns ∙ ap (λ (is : List ℕ). is ++ entered_in n f.turn g) (shown_enters c t ms S b o h) in
            subst (Rising (position c)) (sym q) (rises A c (entered_in n f.turn g) e r)
