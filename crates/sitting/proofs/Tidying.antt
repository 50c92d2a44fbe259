-- Fresh and cleared trees are tidy, and each step of the machine keeps a configuration tidy.
use Rattle.std.proofs.Common.{◌≡◌, ℕ, suc, Bool, true, false, ltb, List, [], ◌∷◌, sym, refl}
use Rattle.mission.specs.Trees.{Tree, leaf, group, par, neg, again, Trees, nil, cons}
use Rattle.rules.specs.declared.status.Status.{Status}
use Rattle.rules.specs.declared.status.Status.TheVariants.{Run, Pass, Fail}
use Rattle.rules.specs.Live.{Polarity, on_pass, on_fail, goes_on, remembers, Kept, pending, ended, Live, live_leaf, live_group, live_par, live_not, live_loop, Kids, no_kids, kid, fresh, fresh_kids, cleared, cleared_kids, forgotten}
use Rattle.rules.specs.Visiting.{Visit, gives, moves_on, moved, kept_as, behind, later, group_end, size, passes, fails, verdict, after_par, par_end, count_or_end, loop_step}
use Rattle.rules.specs.Visiting.{Actions, halt_later, halt_pending}
use Rattle.sitting.specs.Zipper.{Frame, in_group, in_par, in_not, in_loop, snoc, onto, leading, passed_by, rest, Config, down, look_group, look_par, up, raise, back_in_group, step}
use Rattle.sitting.specs.Tidy.{Tidy, AllTidy, Even, TidyGroup, TidyVisit, TidyStack, TidyConfig}

-- rows

pub even_all : (r : Kept) (ks : Kids) → Even r ks → AllTidy ks
even_all r no_kids h = tt
even_all r (kid s x ks) h = (h.1, even_all r ks h.2)

pub even_snoc : (r s : Kept) (ks : Kids) (x : Live) → Even r ks → s ≡ r → Tidy x → Even r (snoc ks s x)
even_snoc r s no_kids x h e t = (e, t, tt)
even_snoc r s (kid q y ks) x h e t = (h.0, h.1, even_snoc r s ks x h.2 e t)

pub even_onto : (r : Kept) (ks ls : Kids) → Even r ks → Even r ls → Even r (onto ks ls)
even_onto r no_kids ls h i = i
even_onto r (kid s x ks) ls h i = (h.0, h.1, even_onto r ks ls h.2 i)

pub all_snoc : (r : Kept) (ks : Kids) (x : Live) → AllTidy ks → Tidy x → AllTidy (snoc ks r x)
all_snoc r no_kids x h t = (t, tt)
all_snoc r (kid q y ks) x h t = (h.0, all_snoc r ks x h.1 t)

pub even_forgotten : (ks : Kids) → AllTidy ks → Even pending (forgotten ks)
even_forgotten no_kids h = tt
even_forgotten (kid r x ks) h = (refl, h.0, even_forgotten ks h.1)

-- a row of a group

pub even_group : (p : Polarity) (m : Bool) (ks : Kids) → Even pending ks → TidyGroup p m ks
even_group p m no_kids h = tt
even_group p m (kid pending x ks) h = (h.1, h.2)
even_group p m (kid (ended b) x ks) h = let e = h.0 in absurd (cc)

pub group_all : (p : Polarity) (m : Bool) (ks : Kids) → TidyGroup p m ks → AllTidy ks
group_all p m no_kids h = tt
group_all p m (kid pending x ks) h = (h.0, even_all pending ks h.1)
group_all p m (kid (ended b) x ks) h = (h.1, group_all p m ks h.2)

pub rest_even : (p : Polarity) (m : Bool) (ks : Kids) → TidyGroup p m ks → Even pending (rest ks)
rest_even p m no_kids h = tt
rest_even p m (kid pending x ks) h = (refl, h.0, h.1)
rest_even p m (kid (ended b) x ks) h = rest_even p m ks h.2

pub passed_even : (p : Polarity) (m : Bool) (ks : Kids) → TidyGroup p m ks → Even (behind p m) (passed_by (behind p m) ks)
passed_even p m no_kids h = tt
passed_even p m (kid pending x ks) h = tt
passed_even p m (kid (ended b) x ks) h = (refl, h.1, passed_even p m ks h.2)

-- what a group goes past stands as it is in a tidy one
pub passed_leading : (p : Polarity) (m : Bool) (ks : Kids) → TidyGroup p m ks → passed_by (behind p m) ks ≡ leading ks
passed_leading p m no_kids h = refl
passed_leading p m (kid pending x ks) h = refl
passed_leading p m (kid (ended b) x ks) h = rw (sym h.0, passed_leading p m ks h.2) refl

behind_row : (p : Polarity) (bs ks : Kids) → Even (behind p true) bs → Even pending ks → TidyGroup p true (onto bs ks)
behind_row p no_kids ks h i = even_group p true ks i
behind_row on_pass (kid pending x bs) ks h i = let e = h.0 in absurd (cc)
behind_row on_fail (kid pending x bs) ks h i = let e = h.0 in absurd (cc)
behind_row p (kid (ended b) x bs) ks h i = (h.0, h.1, behind_row p bs ks h.2 i)

pub group_row : (p : Polarity) (m : Bool) (bs ks : Kids) → Even (behind p m) bs → Even pending ks → TidyGroup p m (onto bs ks)
group_row p true bs ks h i = behind_row p bs ks h i
group_row p false bs ks h i = even_group p false (onto bs ks) (even_onto pending bs ks h i)

-- fresh and cleared trees

mutual
  pub fresh_tidy : (t : Tree) → Tidy (fresh t)
  fresh_tidy (leaf l) = tt
  fresh_tidy (group kind ts) = even_group (goes_on kind) (remembers kind) (fresh_kids ts) (fresh_even ts)
  fresh_tidy (par n ts) = even_all pending (fresh_kids ts) (fresh_even ts)
  fresh_tidy (neg t) = fresh_tidy t
  fresh_tidy (again kind times t) = fresh_tidy t

  fresh_even : (ts : Trees) → Even pending (fresh_kids ts)
  fresh_even nil = tt
  fresh_even (cons t ts) = (refl, fresh_tidy t, fresh_even ts)

mutual
  pub cleared_tidy : (x : Live) → Tidy (cleared x)
  cleared_tidy (live_leaf l) = tt
  cleared_tidy (live_group p m ks) = even_group p m (cleared_kids ks) (cleared_even ks)
  cleared_tidy (live_par n ks) = even_all pending (cleared_kids ks) (cleared_even ks)
  cleared_tidy (live_not x) = cleared_tidy x
  cleared_tidy (live_loop p times n x) = cleared_tidy x

  pub cleared_even : (ks : Kids) → Even pending (cleared_kids ks)
  cleared_even no_kids = tt
  cleared_even (kid r x ks) = (refl, cleared_tidy x, cleared_even ks)

pub later_even : (m : Bool) (ks : Kids) → Even pending ks → Even pending (later m ks)
later_even true ks h = h
later_even false ks h = cleared_even ks

pub after_par_tidy : (ks : Kids) → AllTidy ks → AllTidy (after_par ks)
after_par_tidy no_kids h = tt
after_par_tidy (kid pending x ks) h = (cleared_tidy x, after_par_tidy ks h.1)
after_par_tidy (kid (ended b) x ks) h = (h.0, after_par_tidy ks h.1)

-- ends of nodes

module _ (W : Type 0) where
  raise_tidy : (o : Visit W Live) (K : List Frame) → TidyVisit o → TidyStack K → TidyConfig (raise o K)
  raise_tidy (gives a w f x) K h s = (h, s)

  group_end_tidy : (p : Polarity) (m : Bool) (a : Status) (w : W) (f : List ℕ) (ks : Kids) → TidyGroup p m ks → TidyVisit (group_end p m (gives a w f ks))
  group_end_tidy p m Run w f ks h = h
  group_end_tidy p m Pass w f ks h = even_group p m (forgotten ks) (even_forgotten ks (group_all p m ks h))
  group_end_tidy p m Fail w f ks h = even_group p m (forgotten ks) (even_forgotten ks (group_all p m ks h))

  group_passed_tidy : (p : Polarity) (m : Bool) (w : W) (bs : Kids) → AllTidy bs → TidyVisit (group_end p m (gives (moved p) w [] bs))
  group_passed_tidy on_pass m w bs h = even_group on_pass m (forgotten bs) (even_forgotten bs h)
  group_passed_tidy on_fail m w bs h = even_group on_fail m (forgotten bs) (even_forgotten bs h)

  par_end_tidy : (n : ℕ) (a : Status) (w : W) (H : W → W) (f : List ℕ) (ks : Kids) → AllTidy ks → TidyVisit (par_end n a w H f ks)
  par_end_tidy n Run w H f ks h = h
  par_end_tidy n Pass w H f ks h = after_par_tidy ks h
  par_end_tidy n Fail w H f ks h = after_par_tidy ks h

  count_tidy : (b : Bool) (p : Polarity) (times n : ℕ) (w : W) (x : Live) → Tidy x → TidyVisit (count_or_end b p times n w x)
  count_tidy true p times n w x h = h
  count_tidy false p times n w x h = h

  loop_step_tidy : (b : Bool) (p : Polarity) (times n : ℕ) (a : Status) (w : W) (f : List ℕ) (x : Live) → Tidy x → TidyVisit (loop_step b p times n a w f x)
  loop_step_tidy true p times n a w f x h = count_tidy (ltb (suc n) times) p times n w x h
  loop_step_tidy false p times n Run w f x h = h
  loop_step_tidy false p times n Pass w f x h = h
  loop_step_tidy false p times n Fail w f x h = h

module _ (A : Actions) where
  back_tidy : (b : Bool) (p : Polarity) (m : Bool) (bs ks : Kids) (a : Status) (w : A.World) (f : List ℕ) (x : Live) (K : List Frame) →
      Tidy x → Even (behind p m) bs → Even pending ks → TidyStack K → TidyConfig (back_in_group A b p m bs ks a w f x K)
  back_tidy true p m bs ks a w f x K t h i s = (even_snoc (behind p m) (behind p m) bs x h refl t, i, s)
  back_tidy false p m bs ks a w f x K t h i s =
      raise_tidy A.World _ K
      (group_end_tidy A.World p m a (halt_later A m ks w) f (onto bs (kid pending x (later m ks))) (group_row p m bs (kid pending x (later m ks)) h (refl, t, later_even m ks i)))
      s

  -- a step of a tidy configuration is tidy
  pub step_tidy : (c : Config A.World) → TidyConfig c → TidyConfig (step A c)
  step_tidy (down (live_leaf l) w K) h = h
  step_tidy (down (live_group p m ks) w K) h = (passed_even p m ks h.0, rest_even p m ks h.0, h.1)
  step_tidy (down (live_par n ks) w K) h = (tt, h.0, h.1)
  step_tidy (down (live_not x) w K) h = (h.0, (tt, h.1))
  step_tidy (down (live_loop p times n x) w K) h = (h.0, (tt, h.1))
  step_tidy (look_group p m bs no_kids w K) h = raise_tidy A.World _ K (group_passed_tidy A.World p m w bs (even_all (behind p m) bs h.0)) h.2
  step_tidy (look_group p m bs (kid pending x ks) w K) h = (h.1.1, ((h.0, h.1.2), h.2))
  step_tidy (look_group p m bs (kid (ended b) x ks) w K) h = let e = h.1.0 in absurd (cc)
  step_tidy (look_par n bs g no_kids w K) h =
      raise_tidy A.World _ K (par_end_tidy A.World n (verdict n (size bs) (passes bs) (fails bs)) w (halt_pending A bs) g bs h.0) h.2
  step_tidy (look_par n bs g (kid pending x ks) w K) h = (h.1.0, ((h.0, h.1.1), h.2))
  step_tidy (look_par n bs g (kid (ended b) x ks) w K) h = (all_snoc (ended b) bs x h.0 h.1.0, h.1.1, h.2)
  step_tidy (up a w f x []) h = h
  step_tidy (up a w f x (in_group p m bs ks ∷ K)) h = back_tidy (moves_on p a) p m bs ks a w f x K h.0 h.1.0.0 h.1.0.1 h.1.1
  step_tidy (up a w f x (in_par n bs g ks ∷ K)) h = (all_snoc (kept_as a) bs x h.1.0.0 h.0, h.1.0.1, h.1.1)
  step_tidy (up a w f x (in_not ∷ K)) h = (h.0, h.1.1)
  step_tidy (up a w f x (in_loop p times n ∷ K)) h = raise_tidy A.World _ K (loop_step_tidy A.World (moves_on p a) p times n a w f x h.0) h.1.1
