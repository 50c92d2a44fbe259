-- A group inside a group of its kind is visited as its children in its place are.
use Rattle.std.proofs.Common.{◌≡◌, ℕ, Bool, true, false, List, [], refl, ap, ◌∙◌}
use Rattle.rules.specs.declared.status.Status.{Status}
use Rattle.rules.specs.declared.status.Status.TheVariants.{Run, Pass, Fail}
use Rattle.rules.specs.Live.{Polarity, on_pass, on_fail, Kept, pending, ended, Live, live_group, Kids, no_kids, kid, forgotten}
use Rattle.rules.specs.Visiting.{Visit, gives, moves_on, behind, later, in_front, go_on_or_stop, group_step, group_end, Actions, halt_later, visit, visit_group}
use Rattle.rules.proofs.Related.{joined, all_kept, Cold, cold_here, cold_there, Warm, warm_here, warm_behind, warm_past, warm_waits, Related, spliced, Same, same}
use Rattle.rules.proofs.Related.{cleared_joined, clear_cold, clear_warm, cold_warm, forgotten_joined, forgotten_all_kept, all_pending, forget_cold}
use Rattle.rules.proofs.Halts.{halt_warm, later_halt_joined, later_halt_cold}

-- what two spliced rows give: related with memory while the group runs, and without it when it ends
pub data Alike {W : Type 0} (p : Polarity) (m : Bool) : Visit W Kids → Visit W Kids → Type 0 where
  alike_run : (w : W) (f : List ℕ) {ks ls : Kids} → Warm p m ks ls → Alike p m (gives Run w f ks) (gives Run w f ls)
  alike_pass : (w : W) (f g : List ℕ) {ks ls : Kids} → Cold p m (forgotten ks) (forgotten ls) → Alike p m (gives Pass w f ks) (gives Pass w g ls)
  alike_fail : (w : W) (f g : List ℕ) {ks ls : Kids} → Cold p m (forgotten ks) (forgotten ls) → Alike p m (gives Fail w f ks) (gives Fail w g ls)

front_alike : {W : Type 0} (p : Polarity) (m : Bool) (x : Live) {o q : Visit W Kids} → Alike p m o q → Alike p m (in_front (behind p m) x o) (in_front (behind p m) x q)
front_alike p m x (alike_run w f h) = alike_run w f (warm_past x h)
front_alike p m x (alike_pass w f g c) = alike_pass w f g (cold_there x c)
front_alike p m x (alike_fail w f g c) = alike_fail w f g (cold_there x c)

pub end_alike : {W : Type 0} (p : Polarity) (m : Bool) {o q : Visit W Kids} → Alike p m o q → Same Related (group_end p m o) (group_end p m q)
end_alike p m (alike_run w f h) = same Run w f (spliced p m h)
end_alike p m (alike_pass w f g c) = same Pass w [] (spliced p m (cold_warm p m c))
end_alike p m (alike_fail w f g c) = same Fail w [] (spliced p m (cold_warm p m c))

-- a group that stops at a child: the later ones have no memory
stop_alike : {W : Type 0} (p : Polarity) (m : Bool) (a : Status) (v w : W) (f : List ℕ) (x : Live) {ks ls : Kids} →
    v ≡ w → Cold p m ks ls → Alike p m (gives a v f (kid pending x ks)) (gives a w f (kid pending x ls))
stop_alike p m Run v w f x e c = rw e (alike_run w f (warm_waits x c))
stop_alike p m Pass v w f x e c = rw e (alike_pass w f f (cold_there x (forget_cold p m c)))
stop_alike p m Fail v w f x e c = rw e (alike_fail w f f (cold_there x (forget_cold p m c)))

next_alike : {W : Type 0} (p : Polarity) (m : Bool) (b : Bool) (a : Status) (w : W) (f : List ℕ) (x : Live) (K K' : W → Visit W Kids) (H H' : W → W) (ks ls : Kids) →
    ((w : W) → Alike p m (K w) (K' w)) → ((w : W) → H w ≡ H' w) → Cold p m (later m ks) (later m ls) →
    Alike p m (go_on_or_stop b p m a w f x K H ks) (go_on_or_stop b p m a w f x K' H' ls)
next_alike p m true a w f x K K' H H' ks ls hK hH c = front_alike p m x (hK w)
next_alike p m false a w f x K K' H H' ks ls hK hH c = stop_alike p m a (H w) (H' w) f x (hH w) c

step_alike : {W : Type 0} (p : Polarity) (m : Bool) (o : Visit W Live) (K K' : W → Visit W Kids) (H H' : W → W) (ks ls : Kids) →
    ((w : W) → Alike p m (K w) (K' w)) → ((w : W) → H w ≡ H' w) → Cold p m (later m ks) (later m ls) →
    Alike p m (group_step p m o K H ks) (group_step p m o K' H' ls)
step_alike p m (gives a w f x) K K' H H' ks ls hK hH c = next_alike p m (moves_on p a) a w f x K K' H H' ks ls hK hH c

-- the visit of a row followed by another row

abbrev before : {W : Type 0} → Kids → Visit W Kids → Visit W Kids
before ys (gives a w f zs) = gives a w f (joined ys zs)

abbrev row_next : {W : Type 0} → Bool → Polarity → Bool → Status → W → List ℕ → Kids → (W → Visit W Kids) → (W → W) → Kids → Visit W Kids
row_next true p m a w f ys K H zs = before (all_kept (behind p m) ys) (K w)
row_next false p m a w f ys K H zs = gives a (H w) f (joined ys (later m zs))

abbrev row_step : {W : Type 0} → Polarity → Bool → Visit W Kids → (W → Visit W Kids) → (W → W) → Kids → Visit W Kids
row_step p m (gives a w f ys) K H zs = row_next (moves_on p a) p m a w f ys K H zs

before_none : {W : Type 0} (o : Visit W Kids) → o ≡ before no_kids o
before_none (gives a w f ks) = refl

front_before : {W : Type 0} (r : Kept) (x : Live) (ys : Kids) (o : Visit W Kids) → in_front r x (before ys o) ≡ before (kid r x ys) o
front_before r x ys (gives a w f ks) = refl

front_row_step : {W : Type 0} (p : Polarity) (m : Bool) (x : Live) (o : Visit W Kids) (K : W → Visit W Kids) (H : W → W) (zs : Kids) →
    in_front (behind p m) x (row_step p m o K H zs) ≡ row_step p m (in_front (behind p m) x o) K H zs
front_row_step p m x (gives a w f ys) K H zs = go (moves_on p a)
  where
    go : (b : Bool) → in_front (behind p m) x (row_next b p m a w f ys K H zs) ≡ row_next b p m a w f (kid (behind p m) x ys) K H zs
    go true = front_before (behind p m) x (all_kept (behind p m) ys) (K w)
    go false = refl

later_joined : (m : Bool) (ys zs : Kids) → later m (joined ys zs) ≡ joined (later m ys) (later m zs)
later_joined true ys zs = refl
later_joined false ys zs = cleared_joined ys zs

group_row_step : {W : Type 0} (p : Polarity) (m : Bool) (o : Visit W Live) (K J L : W → Visit W Kids) (H G F : W → W) (ys zs : Kids) →
    ((w : W) → J w ≡ row_step p m (L w) K H zs) → ((w : W) → G w ≡ H (F w)) →
    group_step p m o J G (joined ys zs) ≡ row_step p m (group_step p m o L F ys) K H zs
group_row_step p m (gives a w f x) K J L H G F ys zs hJ hG = go (moves_on p a) refl
  where
    go : (b : Bool) → moves_on p a ≡ b → go_on_or_stop b p m a w f x J G (joined ys zs) ≡ row_step p m (go_on_or_stop b p m a w f x L F ys) K H zs
    go true e = ap (in_front (behind p m) x) (hJ w) ∙ front_row_step p m x (L w) K H zs
    go false e = rw (e, hG w, later_joined m ys zs) refl

module _ (A : Actions) where
  visit_joined : (ys zs : Kids) (p : Polarity) (m : Bool) (w : A.World) →
      visit_group A (joined ys zs) p m w ≡ row_step p m (visit_group A ys p m w) (visit_group A zs p m) (halt_later A m zs) zs
  visit_joined no_kids zs on_pass m w = before_none (visit_group A zs on_pass m w)
  visit_joined no_kids zs on_fail m w = before_none (visit_group A zs on_fail m w)
  visit_joined (kid pending x ys) zs p m w =
      group_row_step p m (visit A x w) (visit_group A zs p m) (visit_group A (joined ys zs) p m) (visit_group A ys p m)
      (halt_later A m zs) (halt_later A m (joined ys zs)) (halt_later A m ys) ys zs (visit_joined ys zs p m) (later_halt_joined A m ys zs)
  visit_joined (kid (ended b) x ys) zs p m w =
      ap (in_front (behind p m) x) (visit_joined ys zs p m w) ∙ front_row_step p m x (visit_group A ys p m w) (visit_group A zs p m) (halt_later A m zs) zs

  -- a row that is behind is passed over
  skip_row : (b : Bool) (ys zs : Kids) (p : Polarity) → behind p true ≡ ended b → (w : A.World) →
      visit_group A (joined (all_kept (ended b) ys) zs) p true w ≡ before (all_kept (ended b) ys) (visit_group A zs p true w)
  skip_row b no_kids zs p e w = before_none (visit_group A zs p true w)
  skip_row b (kid r x ys) zs p e w =
      rw e (ap (in_front (ended b) x) (skip_row b ys zs p e w) ∙ front_before (ended b) x (all_kept (ended b) ys) (visit_group A zs p true w))

behind_alike : {W : Type 0} (p : Polarity) (m : Bool) (ys : Kids) (o : Visit W Kids) →
    Alike p m (in_front (behind p m) (live_group p m (forgotten ys)) o) (before (all_kept (behind p m) ys) o)
behind_alike p m ys (gives Run w f zs) = alike_run w f (warm_behind ys zs)
behind_alike p m ys (gives Pass w f zs) =
    alike_pass w f f (rw (forgotten_joined (all_kept (behind p m) ys) zs, forgotten_all_kept (behind p m) ys) (cold_here ys (forgotten zs)))
behind_alike p m ys (gives Fail w f zs) =
    alike_fail w f f (rw (forgotten_joined (all_kept (behind p m) ys) zs, forgotten_all_kept (behind p m) ys) (cold_here ys (forgotten zs)))

cold_end : (p : Polarity) (m : Bool) (ys zs : Kids) → Cold p m (kid pending (live_group p m (forgotten ys)) (forgotten zs)) (forgotten (joined ys zs))
cold_end p m ys zs = rw (forgotten_joined ys zs) (cold_here ys (forgotten zs))

-- the inner group is visited
inner_alike : {W : Type 0} (p : Polarity) (m : Bool) (o : Visit W Kids) (K : W → Visit W Kids) (H : W → W) (zs : Kids) →
    Alike p m (group_step p m (group_end p m o) K H zs) (row_step p m o K H zs)
inner_alike on_pass m (gives Run w f ys) K H zs = alike_run (H w) f (warm_here ys (later m zs))
inner_alike on_pass m (gives Pass w f ys) K H zs = behind_alike on_pass m ys (K w)
inner_alike on_pass m (gives Fail w f ys) K H zs = alike_fail (H w) [] f (cold_end on_pass m ys (later m zs))
inner_alike on_fail m (gives Run w f ys) K H zs = alike_run (H w) f (warm_here ys (later m zs))
inner_alike on_fail m (gives Pass w f ys) K H zs = alike_pass (H w) [] f (cold_end on_fail m ys (later m zs))
inner_alike on_fail m (gives Fail w f ys) K H zs = behind_alike on_fail m ys (K w)

later_cold : (p : Polarity) (m : Bool) {ks ls : Kids} → Cold p m ks ls → Cold p m (later m ks) (later m ls)
later_cold p true c = c
later_cold p false c = clear_cold p false c

module _ (A : Actions) where
  cold_visit : (p : Polarity) (m : Bool) {ks ls : Kids} → Cold p m ks ls → (w : A.World) → Alike p m (visit_group A ks p m w) (visit_group A ls p m w)
  cold_visit p m (cold_here ys zs) w =
      rw (visit_joined A (forgotten ys) zs p m w) (inner_alike p m (visit_group A (forgotten ys) p m w) (visit_group A zs p m) (halt_later A m zs) zs)
  cold_visit p m (cold_there x {ks = ks} {ls = ls} c) w =
      step_alike p m (visit A x w) (visit_group A ks p m) (visit_group A ls p m) (halt_later A m ks) (halt_later A m ls) ks ls
      (cold_visit p m c) (later_halt_cold A p m c) (later_cold p m c)

  pub warm_visit : (p : Polarity) (m : Bool) {ks ls : Kids} → Warm p m ks ls → (w : A.World) → Alike p m (visit_group A ks p m w) (visit_group A ls p m w)
  warm_visit p m (warm_here ys zs) w =
      rw (visit_joined A ys zs p m w) (inner_alike p m (visit_group A ys p m w) (visit_group A zs p m) (halt_later A m zs) zs)
  warm_visit on_pass true (warm_behind ys zs) w = rw (skip_row A true ys zs on_pass refl w) (behind_alike on_pass true ys (visit_group A zs on_pass true w))
  warm_visit on_fail true (warm_behind ys zs) w = rw (skip_row A false ys zs on_fail refl w) (behind_alike on_fail true ys (visit_group A zs on_fail true w))
  warm_visit p false (warm_behind ys zs) w = rw (all_pending ys) (cold_visit p false (cold_here ys zs) w)
  warm_visit on_pass true (warm_past x h) w = front_alike on_pass true x (warm_visit on_pass true h w)
  warm_visit on_fail true (warm_past x h) w = front_alike on_fail true x (warm_visit on_fail true h w)
  warm_visit p false (warm_past x {ks = ks} {ls = ls} h) w =
      step_alike p false (visit A x w) (visit_group A ks p false) (visit_group A ls p false) (halt_later A false ks) (halt_later A false ls) ks ls
      (warm_visit p false h) (halt_warm A p false h) (clear_warm p false h)
  warm_visit p m (warm_waits x {ks = ks} {ls = ls} c) w =
      step_alike p m (visit A x w) (visit_group A ks p m) (visit_group A ls p m) (halt_later A m ks) (halt_later A m ls) ks ls
      (cold_visit p m c) (later_halt_cold A p m c) (later_cold p m c)
