-- A node that does not run has an empty front; so a group of one child is visited as the child is.
use Rattle.std.proofs.Common.{◌≡◌, ℕ, suc, Bool, true, false, ltb, List, [], ◌∷◌, refl}
use Rattle.mission.specs.Trees.{Leaf, skill, count, ability}
use Rattle.rules.specs.declared.status.Status.{Status}
use Rattle.rules.specs.declared.status.Status.TheVariants.{Run, Pass, Fail}
use Rattle.rules.specs.Live.{Polarity, on_pass, on_fail, Live, live_leaf, live_group, live_par, live_not, live_loop, Kids, no_kids, forgotten}
use Rattle.rules.specs.Visiting.{Visit, gives, leaf_visit, moves_on, moved, later, group_step, group_end, size, passes, fails, verdict, after_par, par_end, not_end, count_or_end, loop_step, loop_end, Actions, halt_pending, par_decided, visit, visit_group, visit_par}
use Rattle.rules.proofs.Related.{Related, only_kid, Same, same}

pub data Ends {W : Type 0} : Visit W Live → Type 0 where
  ends_run : (w : W) (f : List ℕ) (x : Live) → Ends (gives Run w f x)
  ends_pass : (w : W) (x : Live) → Ends (gives Pass w [] x)
  ends_fail : (w : W) (x : Live) → Ends (gives Fail w [] x)

ends_group : {W : Type 0} (p : Polarity) (m : Bool) (o : Visit W Kids) → Ends (group_end p m o)
ends_group p m (gives Run w f ks) = ends_run w f (live_group p m ks)
ends_group p m (gives Pass w f ks) = ends_pass w (live_group p m (forgotten ks))
ends_group p m (gives Fail w f ks) = ends_fail w (live_group p m (forgotten ks))

ends_not : {W : Type 0} {o : Visit W Live} → Ends o → Ends (not_end o)
ends_not (ends_run w f x) = ends_run w f (live_not x)
ends_not (ends_pass w x) = ends_fail w (live_not x)
ends_not (ends_fail w x) = ends_pass w (live_not x)

ends_par : {W : Type 0} (need : ℕ) (a : Status) (w : W) (H : W → W) (f : List ℕ) (ks : Kids) → Ends (par_end need a w H f ks)
ends_par need Run w H f ks = ends_run w f (live_par need ks)
ends_par need Pass w H f ks = ends_pass (H w) (live_par need (after_par ks))
ends_par need Fail w H f ks = ends_fail (H w) (live_par need (after_par ks))

ends_count : {W : Type 0} (b : Bool) (p : Polarity) (times n : ℕ) (w : W) (x : Live) → Ends (count_or_end b p times n w x)
ends_count true p times n w x = ends_run w [] (live_loop p times (suc n) x)
ends_count false on_pass times n w x = ends_pass w (live_loop on_pass times 0 x)
ends_count false on_fail times n w x = ends_fail w (live_loop on_fail times 0 x)

ends_loop_step : {W : Type 0} (b : Bool) (p : Polarity) (times n : ℕ) (a : Status) (w : W) (f : List ℕ) (x : Live) → Ends (loop_step b p times n a w f x)
ends_loop_step true p times n a w f x = ends_count (ltb (suc n) times) p times n w x
ends_loop_step false p times n Run w f x = ends_run w f (live_loop p times n x)
ends_loop_step false p times n Pass w f x = ends_pass w (live_loop p times 0 x)
ends_loop_step false p times n Fail w f x = ends_fail w (live_loop p times 0 x)

ends_loop : {W : Type 0} (p : Polarity) (times n : ℕ) (o : Visit W Live) → Ends (loop_end p times n o)
ends_loop p times n (gives a w f x) = ends_loop_step (moves_on p a) p times n a w f x

ends_leaf : {W : Type 0} (l : Leaf) (a : Status) (w : W) → Ends (leaf_visit l (a, w))
ends_leaf (skill k d t) Run w = ends_run w (k ∷ []) (live_leaf (skill k d t))
ends_leaf (skill k d t) Pass w = ends_pass w (live_leaf (skill k d t))
ends_leaf (skill k d t) Fail w = ends_fail w (live_leaf (skill k d t))
ends_leaf (count k t) Run w = ends_run w [] (live_leaf (count k t))
ends_leaf (count k t) Pass w = ends_pass w (live_leaf (count k t))
ends_leaf (count k t) Fail w = ends_fail w (live_leaf (count k t))
ends_leaf (ability k t) Run w = ends_run w [] (live_leaf (ability k t))
ends_leaf (ability k t) Pass w = ends_pass w (live_leaf (ability k t))
ends_leaf (ability k t) Fail w = ends_fail w (live_leaf (ability k t))

module _ (A : Actions) where
  ends_decided : (need : ℕ) (o : Visit A.World Kids) → Ends (par_decided A need o)
  ends_decided need (gives a w f ks) = ends_par need (verdict need (size ks) (passes ks) (fails ks)) w (halt_pending A ks) f ks

  pub ends : (x : Live) (w : A.World) → Ends (visit A x w)
  ends (live_leaf l) w = ends_leaf l (A.visit_leaf l w).0 (A.visit_leaf l w).1
  ends (live_group p m ks) w = ends_group p m (visit_group A ks p m w)
  ends (live_par need ks) w = ends_decided need (visit_par A ks w)
  ends (live_not x) w = ends_not (ends x w)
  ends (live_loop p times n x) w = ends_loop p times n (visit A x w)

later_none : (m : Bool) → later m no_kids ≡ no_kids
later_none true = refl
later_none false = refl

pub only_kid_same : {W : Type 0} (p : Polarity) (m : Bool) {o : Visit W Live} (H : W → W) → ((w : W) → H w ≡ w) → Ends o →
    Same Related (group_end p m (group_step p m o (λ w. gives (moved p) w [] no_kids) H no_kids)) o
only_kid_same on_pass m H h (ends_run w f x) = rw (h w, later_none m) (same Run w f (only_kid on_pass m x))
only_kid_same on_pass m H h (ends_pass w x) = same Pass w [] (only_kid on_pass m x)
only_kid_same on_pass m H h (ends_fail w x) = rw (h w, later_none m) (same Fail w [] (only_kid on_pass m x))
only_kid_same on_fail m H h (ends_run w f x) = rw (h w, later_none m) (same Run w f (only_kid on_fail m x))
only_kid_same on_fail m H h (ends_pass w x) = rw (h w, later_none m) (same Pass w [] (only_kid on_fail m x))
only_kid_same on_fail m H h (ends_fail w x) = same Fail w [] (only_kid on_fail m x)
