-- Halting related trees: the same leaves stop in the same order.
use Rattle.std.proofs.Common.{◌≡◌, Bool, true, false, sym, refl, ap, ◌∙◌}
use Rattle.rules.specs.Live.{Polarity, Kept, pending, ended, Live, Kids, no_kids, kid, forgotten}
use Rattle.rules.specs.Visiting.{behind, Actions, halt, halt_kids, halt_later, halt_pending}
use Rattle.rules.proofs.Related.{all_not, joined, all_kept, Cold, cold_here, cold_there, Warm, warm_here, warm_behind, warm_past, warm_waits}
use Rattle.rules.proofs.Related.{Related, not_group, not_loop, not_par, not_not, only_kid, spliced, below_group, below_par, below_not, below_loop, RelatedIn, at_kid, past_kid}

module _ (A : Actions) where
  pub halt_all_not : (ks : Kids) (w : A.World) → halt_kids A (all_not ks) w ≡ halt_kids A ks w
  halt_all_not no_kids w = refl
  halt_all_not (kid r x ks) w = halt_all_not ks (halt A x w)

  pub halt_joined : (ks ls : Kids) (w : A.World) → halt_kids A (joined ks ls) w ≡ halt_kids A ls (halt_kids A ks w)
  halt_joined no_kids ls w = refl
  halt_joined (kid r x ks) ls w = halt_joined ks ls (halt A x w)

  halt_all_kept : (r : Kept) (ks : Kids) (w : A.World) → halt_kids A (all_kept r ks) w ≡ halt_kids A ks w
  halt_all_kept r no_kids w = refl
  halt_all_kept r (kid s x ks) w = halt_all_kept r ks (halt A x w)

  halt_forgotten : (ks : Kids) (w : A.World) → halt_kids A (forgotten ks) w ≡ halt_kids A ks w
  halt_forgotten no_kids w = refl
  halt_forgotten (kid r x ks) w = halt_forgotten ks (halt A x w)

  pub halt_cold : (p : Polarity) (m : Bool) {ks ls : Kids} → Cold p m ks ls → (w : A.World) → halt_kids A ks w ≡ halt_kids A ls w
  halt_cold p m (cold_here ys zs) w = sym (halt_joined (forgotten ys) zs w)
  halt_cold p m (cold_there x c) w = halt_cold p m c (halt A x w)

  pub halt_warm : (p : Polarity) (m : Bool) {ks ls : Kids} → Warm p m ks ls → (w : A.World) → halt_kids A ks w ≡ halt_kids A ls w
  halt_warm p m (warm_here ys zs) w = sym (halt_joined ys zs w)
  halt_warm p m (warm_behind ys zs) w =
      ap (halt_kids A zs) (halt_forgotten ys w ∙ sym (halt_all_kept (behind p m) ys w)) ∙ sym (halt_joined (all_kept (behind p m) ys) zs w)
  halt_warm p m (warm_past x h) w = halt_warm p m h (halt A x w)
  halt_warm p m (warm_waits x c) w = halt_cold p m c (halt A x w)

  mutual
    pub halt_related : {x y : Live} → Related x y → (w : A.World) → halt A x w ≡ halt A y w
    halt_related (not_group p m ks) w = sym (halt_all_not ks w)
    halt_related (not_loop p times n x) w = refl
    halt_related (not_par need o ks h i e) w = sym (halt_all_not ks w)
    halt_related (not_not x) w = refl
    halt_related (only_kid p m x) w = refl
    halt_related (spliced p m s) w = halt_warm p m s w
    halt_related (below_group p m r) w = halt_related_in r w
    halt_related (below_par need r) w = halt_related_in r w
    halt_related (below_not r) w = halt_related r w
    halt_related (below_loop p times n r) w = halt_related r w

    pub halt_related_in : {ks ls : Kids} → RelatedIn ks ls → (w : A.World) → halt_kids A ks w ≡ halt_kids A ls w
    halt_related_in (at_kid r ks h) w = ap (halt_kids A ks) (halt_related h w)
    halt_related_in (past_kid r x h) w = halt_related_in h (halt A x w)

  pub later_halt_joined : (m : Bool) (ys zs : Kids) (w : A.World) → halt_later A m (joined ys zs) w ≡ halt_later A m zs (halt_later A m ys w)
  later_halt_joined true ys zs w = refl
  later_halt_joined false ys zs w = halt_joined ys zs w

  pub later_halt_cold : (p : Polarity) (m : Bool) {ks ls : Kids} → Cold p m ks ls → (w : A.World) → halt_later A m ks w ≡ halt_later A m ls w
  later_halt_cold p true c w = refl
  later_halt_cold p false c w = halt_cold p false c w

  pub later_halt_related : (m : Bool) {ks ls : Kids} → RelatedIn ks ls → (w : A.World) → halt_later A m ls w ≡ halt_later A m ks w
  later_halt_related true r w = refl
  later_halt_related false r w = sym (halt_related_in r w)

  pub later_halt_all_not : (m : Bool) (ks : Kids) (w : A.World) → halt_later A m (all_not ks) w ≡ halt_later A m ks w
  later_halt_all_not true ks w = refl
  later_halt_all_not false ks w = halt_all_not ks w

  pub later_halt_none : (m : Bool) (w : A.World) → halt_later A m no_kids w ≡ w
  later_halt_none true w = refl
  later_halt_none false w = refl

  pub pending_halt_all_not : (ks : Kids) (w : A.World) → halt_pending A (all_not ks) w ≡ halt_pending A ks w
  pending_halt_all_not no_kids w = refl
  pending_halt_all_not (kid pending x ks) w = pending_halt_all_not ks (halt A x w)
  pending_halt_all_not (kid (ended b) x ks) w = pending_halt_all_not ks w

  pub pending_halt_related : {ks ls : Kids} → RelatedIn ks ls → (w : A.World) → halt_pending A ls w ≡ halt_pending A ks w
  pending_halt_related (at_kid pending ks h) w = ap (halt_pending A ks) (sym (halt_related h w))
  pending_halt_related (at_kid (ended b) ks h) w = refl
  pending_halt_related (past_kid pending x h) w = pending_halt_related h (halt A x w)
  pending_halt_related (past_kid (ended b) x h) w = pending_halt_related h w
