-- `not` above a node is visited as its mirror with `not` above each child is.
use Rattle.std.proofs.Common.{◌≡◌, ℕ, suc, ◌+◌, ◌≤◌, Bool, true, false, not, ltb, List, [], refl, ap, ◌∙◌, arith}
use Rattle.std.proofs.lemmas.Bool.Decides.{nat_tests}
use Rattle.rules.specs.declared.status.Status.{Status}
use Rattle.rules.specs.declared.status.Status.TheVariants.{Run, Pass, Fail}
use Rattle.rules.specs.Lines.{one}
use Rattle.rules.specs.Live.{Polarity, on_pass, on_fail, Kept, pending, ended, Live, live_not, Kids, no_kids, kid, cleared, forgotten}
use Rattle.rules.specs.Statuses.{exchanged}
use Rattle.rules.specs.Visiting.{Visit, gives, moves_on, moved, kept_as, behind, later, in_front, go_on_or_stop, group_step, group_end, size, is_pass, is_fail, passes, fails, verdict, after_par, beside, par_step, par_end, not_end, count_or_end, loop_end}
use Rattle.rules.specs.Visiting.{Actions, halt_later, halt_pending, par_decided, visit, visit_group, visit_par}
use Rattle.rules.proofs.Related.{opposite, swapped, all_not, Related, not_group, not_loop, not_par, not_not, Same, same, cleared_all_not, forgotten_all_not}
use Rattle.rules.proofs.Halts.{later_halt_all_not, pending_halt_all_not}

-- groups

abbrev not_row : {W : Type 0} → Visit W Kids → Visit W Kids
not_row (gives a w f ks) = gives (exchanged a) w f (all_not ks)

later_all_not : (m : Bool) (ks : Kids) → later m (all_not ks) ≡ all_not (later m ks)
later_all_not true ks = refl
later_all_not false ks = cleared_all_not ks

moves_exchanged : (p : Polarity) (a : Status) → moves_on (opposite p) (exchanged a) ≡ moves_on p a
moves_exchanged p a = grind arith

behind_swapped : (p : Polarity) (m : Bool) → behind (opposite p) m ≡ swapped (behind p m)
behind_swapped on_pass true = refl
behind_swapped on_fail true = refl
behind_swapped p false = refl

front_not : {W : Type 0} (p : Polarity) (m : Bool) (x : Live) (o : Visit W Kids) →
    in_front (behind (opposite p) m) (live_not x) (not_row o) ≡ not_row (in_front (behind p m) x o)
front_not p m x (gives a w f ks) = ap (λ (r : Kept). gives (exchanged a) w f (kid r (live_not x) (all_not ks))) (behind_swapped p m)

step_not : {W : Type 0} (p : Polarity) (m : Bool) (o : Visit W Live) (K J : W → Visit W Kids) (H G : W → W) (ks : Kids) →
    ((w : W) → J w ≡ not_row (K w)) → ((w : W) → G w ≡ H w) →
    group_step (opposite p) m (not_end o) J G (all_not ks) ≡ not_row (group_step p m o K H ks)
step_not p m (gives a w f x) K J H G ks hJ hG = rw (moves_exchanged p a) (go (moves_on p a))
  where
    go : (b : Bool) → go_on_or_stop b (opposite p) m (exchanged a) w f (live_not x) J G (all_not ks) ≡ not_row (go_on_or_stop b p m a w f x K H ks)
    go true = ap (in_front (behind (opposite p) m) (live_not x)) (hJ w) ∙ front_not p m x (K w)
    go false = rw (hG w, later_all_not m ks) refl

pub not_group_end : {W : Type 0} (p : Polarity) (m : Bool) (o : Visit W Kids) → Same Related (not_end (group_end p m o)) (group_end (opposite p) m (not_row o))
not_group_end p m (gives Run w f ks) = same Run w f (not_group p m ks)
not_group_end p m (gives Pass w f ks) = rw (forgotten_all_not ks) (same Fail w [] (not_group p m (forgotten ks)))
not_group_end p m (gives Fail w f ks) = rw (forgotten_all_not ks) (same Pass w [] (not_group p m (forgotten ks)))

none_not : {W : Type 0} (p : Polarity) (w : W) → ◌≡◌ {A = Visit W Kids} (gives (moved (opposite p)) w [] no_kids) (not_row (gives (moved p) w [] no_kids))
none_not on_pass w = refl
none_not on_fail w = refl

-- loops

count_not : {W : Type 0} (b : Bool) (p : Polarity) (times n : ℕ) (w : W) (x : Live) →
    Same Related (not_end (count_or_end b p times n w x)) (count_or_end b (opposite p) times n w (live_not x))
count_not true p times n w x = same Run w [] (not_loop p times (suc n) x)
count_not false on_pass times n w x = same Fail w [] (not_loop on_pass times 0 x)
count_not false on_fail times n w x = same Pass w [] (not_loop on_fail times 0 x)

pub not_loop_end : {W : Type 0} (p : Polarity) (times n : ℕ) (o : Visit W Live) → Same Related (not_end (loop_end p times n o)) (loop_end (opposite p) times n (not_end o))
not_loop_end on_pass times n (gives Run w f x) = same Run w f (not_loop on_pass times n x)
not_loop_end on_pass times n (gives Pass w f x) = count_not (ltb (suc n) times) on_pass times n w x
not_loop_end on_pass times n (gives Fail w f x) = same Pass w [] (not_loop on_pass times 0 x)
not_loop_end on_fail times n (gives Run w f x) = same Run w f (not_loop on_fail times n x)
not_loop_end on_fail times n (gives Pass w f x) = same Fail w [] (not_loop on_fail times 0 x)
not_loop_end on_fail times n (gives Fail w f x) = count_not (ltb (suc n) times) on_fail times n w x

pub not_not_end : {W : Type 0} (o : Visit W Live) → Same Related (not_end (not_end o)) o
not_not_end (gives Run w f x) = same Run w f (not_not x)
not_not_end (gives Pass w f x) = same Pass w f (not_not x)
not_not_end (gives Fail w f x) = same Fail w f (not_not x)

-- par

abbrev not_each : {W : Type 0} → Visit W Kids → Visit W Kids
not_each (gives a w f ks) = gives a w f (all_not ks)

beside_not : {W : Type 0} (r : Kept) (f : List ℕ) (x : Live) (o : Visit W Kids) → beside (swapped r) f (live_not x) (not_each o) ≡ not_each (beside r f x o)
beside_not r f x (gives a w g ks) = refl

kept_exchanged : (a : Status) → kept_as (exchanged a) ≡ swapped (kept_as a)
kept_exchanged Run = refl
kept_exchanged Pass = refl
kept_exchanged Fail = refl

par_step_not : {W : Type 0} (o : Visit W Live) (K J : W → Visit W Kids) → ((w : W) → J w ≡ not_each (K w)) → par_step (not_end o) J ≡ not_each (par_step o K)
par_step_not (gives a w f x) K J h = rw (kept_exchanged a, h w) (beside_not (kept_as a) f x (K w))

pass_swapped : (r : Kept) → is_pass (swapped r) ≡ is_fail r
pass_swapped pending = refl
pass_swapped (ended b) = refl

fail_swapped : (r : Kept) → is_fail (swapped r) ≡ is_pass r
fail_swapped pending = refl
fail_swapped (ended true) = refl
fail_swapped (ended false) = refl

passes_all_not : (ks : Kids) → passes (all_not ks) ≡ fails ks
passes_all_not no_kids = refl
passes_all_not (kid r x ks) = rw (pass_swapped r, passes_all_not ks) refl

fails_all_not : (ks : Kids) → fails (all_not ks) ≡ passes ks
fails_all_not no_kids = refl
fails_all_not (kid r x ks) = rw (fail_swapped r, fails_all_not ks) refl

size_all_not : (ks : Kids) → size (all_not ks) ≡ size ks
size_all_not no_kids = refl
size_all_not (kid r x ks) = ap suc (size_all_not ks)

size_after_par : (ks : Kids) → size (after_par ks) ≡ size ks
size_after_par no_kids = refl
size_after_par (kid pending x ks) = ap suc (size_after_par ks)
size_after_par (kid (ended b) x ks) = ap suc (size_after_par ks)

after_par_all_not : (ks : Kids) → after_par (all_not ks) ≡ all_not (after_par ks)
after_par_all_not no_kids = refl
after_par_all_not (kid pending x ks) = ap (kid pending (live_not (cleared x))) (after_par_all_not ks)
after_par_all_not (kid (ended b) x ks) = ap (kid pending (live_not x)) (after_par_all_not ks)

at_most_one : (r : Kept) → one (is_pass r) + one (is_fail r) ≤ 1
at_most_one r = grind arith

pub results_within : (ks : Kids) → passes ks + fails ks ≤ size ks
results_within no_kids = omega arith
results_within (kid r x ks) = let h = results_within ks in let i = at_most_one r in omega arith

verdict_exchanged : (n o N P F : ℕ) → 1 ≤ n → 1 ≤ o → n + o ≡ suc N → P + F ≤ N → verdict o N F P ≡ exchanged (verdict n N P F)
verdict_exchanged n o N P F hn ho e h = grind (arith, nat_tests)

par_end_not : {W : Type 0} (n o : ℕ) (a : Status) (w : W) (H G : W → W) (f : List ℕ) (ks : Kids) →
    1 ≤ n → 1 ≤ o → n + o ≡ suc (size ks) → ((w : W) → G w ≡ H w) →
    Same Related (not_end (par_end n a w H f ks)) (par_end o (exchanged a) w G f (all_not ks))
par_end_not n o Run w H G f ks hn ho e hG = same Run w f (not_par n o ks hn ho e)
par_end_not n o Pass w H G f ks hn ho e hG =
    rw (hG w, after_par_all_not ks) (same Fail (H w) [] (not_par n o (after_par ks) hn ho (rw (size_after_par ks) e)))
par_end_not n o Fail w H G f ks hn ho e hG =
    rw (hG w, after_par_all_not ks) (same Pass (H w) [] (not_par n o (after_par ks) hn ho (rw (size_after_par ks) e)))

abbrev row_of : {W : Type 0} → Visit W Kids → Kids
row_of (gives a w f ks) = ks

size_beside : {W : Type 0} (r : Kept) (f : List ℕ) (x : Live) (o : Visit W Kids) → size (row_of (beside r f x o)) ≡ suc (size (row_of o))
size_beside r f x (gives a w g ks) = refl

size_par_step : {W : Type 0} (o : Visit W Live) (K : W → Visit W Kids) (N : ℕ) → ((w : W) → size (row_of (K w)) ≡ N) → size (row_of (par_step o K)) ≡ suc N
size_par_step (gives a w f x) K N h = size_beside (kept_as a) f x (K w) ∙ ap suc (h w)

module _ (A : Actions) where
  pub group_not : (ks : Kids) (p : Polarity) (m : Bool) (w : A.World) → visit_group A (all_not ks) (opposite p) m w ≡ not_row (visit_group A ks p m w)
  group_not no_kids p m w = none_not p w
  group_not (kid pending x ks) p m w =
      step_not p m (visit A x w) (visit_group A ks p m) (visit_group A (all_not ks) (opposite p) m) (halt_later A m ks) (halt_later A m (all_not ks)) ks
      (group_not ks p m) (later_halt_all_not A m ks)
  group_not (kid (ended b) x ks) p m w =
      ap (in_front (behind (opposite p) m) (live_not x)) (group_not ks p m w) ∙ front_not p m x (visit_group A ks p m w)

  pub par_not : (ks : Kids) (w : A.World) → visit_par A (all_not ks) w ≡ not_each (visit_par A ks w)
  par_not no_kids w = refl
  par_not (kid pending x ks) w = par_step_not (visit A x w) (visit_par A ks) (visit_par A (all_not ks)) (par_not ks)
  par_not (kid (ended b) x ks) w = ap (beside (ended (not b)) [] (live_not x)) (par_not ks w) ∙ beside_not (ended b) [] x (visit_par A ks w)

  pub size_visit_par : (ks : Kids) (w : A.World) → size (row_of (visit_par A ks w)) ≡ size ks
  size_visit_par no_kids w = refl
  size_visit_par (kid pending x ks) w = size_par_step (visit A x w) (visit_par A ks) (size ks) (size_visit_par ks)
  size_visit_par (kid (ended b) x ks) w = size_beside (ended b) [] x (visit_par A ks w) ∙ ap suc (size_visit_par ks w)

  pub not_par_decided : (n o : ℕ) (r : Visit A.World Kids) → 1 ≤ n → 1 ≤ o → n + o ≡ suc (size (row_of r)) →
      Same Related (not_end (par_decided A n r)) (par_decided A o (not_each r))
  not_par_decided n o (gives a w f ks) hn ho e =
      rw (size_all_not ks, passes_all_not ks, fails_all_not ks, verdict_exchanged n o (size ks) (passes ks) (fails ks) hn ho e (results_within ks))
      (par_end_not n o (verdict n (size ks) (passes ks) (fails ks)) w (halt_pending A ks) (halt_pending A (all_not ks)) f ks hn ho e (pending_halt_all_not A ks))
