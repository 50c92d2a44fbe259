-- One step of regrouping between live trees, and what clearing and forgetting make of it.
use Rattle.std.proofs.Common.{◌≡◌, ℕ, suc, ◌+◌, ◌≤◌, Bool, true, false, not, List, sym, refl, ap}
use Rattle.rules.specs.declared.status.Status.{Status}
use Rattle.rules.specs.Live.{Polarity, on_pass, on_fail, Kept, pending, ended, Live, live_group, live_par, live_not, live_loop, Kids, no_kids, kid, cleared, cleared_kids, forgotten}
use Rattle.rules.specs.Visiting.{Visit, gives, behind, later, size}

abbrev pub opposite : Polarity → Polarity
opposite on_pass = on_fail
opposite on_fail = on_pass

-- pass and fail exchanged
abbrev pub swapped : Kept → Kept
swapped pending = pending
swapped (ended b) = ended (not b)

-- `not` above each child
abbrev pub all_not : Kids → Kids
all_not no_kids = no_kids
all_not (kid r x ks) = kid (swapped r) (live_not x) (all_not ks)

abbrev pub joined : Kids → Kids → Kids
joined no_kids ls = ls
joined (kid r x ks) ls = kid r x (joined ks ls)

-- the same remembered of each child
abbrev pub all_kept : Kept → Kids → Kids
all_kept r no_kids = no_kids
all_kept r (kid s x ks) = kid r x (all_kept r ks)

-- a group inside a group of its kind, and its children in its place: nothing is remembered inside it, nor
-- of any child
pub data Cold (p : Polarity) (m : Bool) : Kids → Kids → Type 0 where
  cold_here : (ys zs : Kids) → Cold p m (kid pending (live_group p m (forgotten ys)) zs) (joined (forgotten ys) zs)
  cold_there : (x : Live) {ks ls : Kids} → Cold p m ks ls → Cold p m (kid pending x ks) (kid pending x ls)

-- the same with memory: the inner group is being visited, or is behind, or waits
pub data Warm (p : Polarity) (m : Bool) : Kids → Kids → Type 0 where
  warm_here : (ys zs : Kids) → Warm p m (kid pending (live_group p m ys) zs) (joined ys zs)
  warm_behind : (ys zs : Kids) → Warm p m (kid (behind p m) (live_group p m (forgotten ys)) zs) (joined (all_kept (behind p m) ys) zs)
  warm_past : (x : Live) {ks ls : Kids} → Warm p m ks ls → Warm p m (kid (behind p m) x ks) (kid (behind p m) x ls)
  warm_waits : (x : Live) {ks ls : Kids} → Cold p m ks ls → Warm p m (kid pending x ks) (kid pending x ls)

mutual
  pub data Related : Live → Live → Type 0 where
    not_group : (p : Polarity) (m : Bool) (ks : Kids) → Related (live_not (live_group p m ks)) (live_group (opposite p) m (all_not ks))
    not_loop : (p : Polarity) (times n : ℕ) (x : Live) → Related (live_not (live_loop p times n x)) (live_loop (opposite p) times n (live_not x))
    not_par : (need o : ℕ) (ks : Kids) → 1 ≤ need → 1 ≤ o → need + o ≡ suc (size ks) → Related (live_not (live_par need ks)) (live_par o (all_not ks))
    not_not : (x : Live) → Related (live_not (live_not x)) x
    only_kid : (p : Polarity) (m : Bool) (x : Live) → Related (live_group p m (kid pending x no_kids)) x
    spliced : (p : Polarity) (m : Bool) {ks ls : Kids} → Warm p m ks ls → Related (live_group p m ks) (live_group p m ls)
    below_group : (p : Polarity) (m : Bool) {ks ls : Kids} → RelatedIn ks ls → Related (live_group p m ks) (live_group p m ls)
    below_par : (need : ℕ) {ks ls : Kids} → RelatedIn ks ls → Related (live_par need ks) (live_par need ls)
    below_not : {x y : Live} → Related x y → Related (live_not x) (live_not y)
    below_loop : (p : Polarity) (times n : ℕ) {x y : Live} → Related x y → Related (live_loop p times n x) (live_loop p times n y)

  pub data RelatedIn : Kids → Kids → Type 0 where
    at_kid : (r : Kept) {x y : Live} (ks : Kids) → Related x y → RelatedIn (kid r x ks) (kid r y ks)
    past_kid : (r : Kept) (x : Live) {ks ls : Kids} → RelatedIn ks ls → RelatedIn (kid r x ks) (kid r x ls)

-- two visits with the same status, world and front, and related nodes after
pub data Same {W X : Type 0} (R : X → X → Type 0) : Visit W X → Visit W X → Type 0 where
  same : (a : Status) (w : W) (f : List ℕ) {x y : X} → R x y → Same R (gives a w f x) (gives a w f y)

-- rows cleared

pub cleared_all_not : (ks : Kids) → cleared_kids (all_not ks) ≡ all_not (cleared_kids ks)
cleared_all_not no_kids = refl
cleared_all_not (kid r x ks) = ap (kid pending (live_not (cleared x))) (cleared_all_not ks)

pub cleared_joined : (ks ls : Kids) → cleared_kids (joined ks ls) ≡ joined (cleared_kids ks) (cleared_kids ls)
cleared_joined no_kids ls = refl
cleared_joined (kid r x ks) ls = ap (kid pending (cleared x)) (cleared_joined ks ls)

pub cleared_all_kept : (r : Kept) (ks : Kids) → cleared_kids (all_kept r ks) ≡ cleared_kids ks
cleared_all_kept r no_kids = refl
cleared_all_kept r (kid s x ks) = ap (kid pending (cleared x)) (cleared_all_kept r ks)

pub cleared_forgotten : (ks : Kids) → cleared_kids (forgotten ks) ≡ cleared_kids ks
cleared_forgotten no_kids = refl
cleared_forgotten (kid r x ks) = ap (kid pending (cleared x)) (cleared_forgotten ks)

pub size_cleared : (ks : Kids) → size (cleared_kids ks) ≡ size ks
size_cleared no_kids = refl
size_cleared (kid r x ks) = ap suc (size_cleared ks)

pub forgotten_cleared : (ks : Kids) → forgotten (cleared_kids ks) ≡ cleared_kids ks
forgotten_cleared no_kids = refl
forgotten_cleared (kid r x ks) = ap (kid pending (cleared x)) (forgotten_cleared ks)

cold_cleared : (p : Polarity) (m : Bool) (ys zs : Kids) → Cold p m (kid pending (live_group p m (cleared_kids ys)) zs) (joined (cleared_kids ys) zs)
cold_cleared p m ys zs = rw (sym (forgotten_cleared ys)) (cold_here (cleared_kids ys) zs)

pub clear_cold : (p : Polarity) (m : Bool) {ks ls : Kids} → Cold p m ks ls → Cold p m (cleared_kids ks) (cleared_kids ls)
clear_cold p m (cold_here ys zs) = rw (cleared_joined (forgotten ys) zs, cleared_forgotten ys) (cold_cleared p m ys (cleared_kids zs))
clear_cold p m (cold_there x c) = cold_there (cleared x) (clear_cold p m c)

pub clear_warm : (p : Polarity) (m : Bool) {ks ls : Kids} → Warm p m ks ls → Cold p m (cleared_kids ks) (cleared_kids ls)
clear_warm p m (warm_here ys zs) = rw (cleared_joined ys zs) (cold_cleared p m ys (cleared_kids zs))
clear_warm p m (warm_behind ys zs) =
    rw (cleared_joined (all_kept (behind p m) ys) zs, cleared_all_kept (behind p m) ys, cleared_forgotten ys) (cold_cleared p m ys (cleared_kids zs))
clear_warm p m (warm_past x h) = cold_there (cleared x) (clear_warm p m h)
clear_warm p m (warm_waits x c) = cold_there (cleared x) (clear_cold p m c)

pub cold_warm : (p : Polarity) (m : Bool) {ks ls : Kids} → Cold p m ks ls → Warm p m ks ls
cold_warm p m (cold_here ys zs) = warm_here (forgotten ys) zs
cold_warm p m (cold_there x c) = warm_waits x c

mutual
  pub clear_related : {x y : Live} → Related x y → Related (cleared x) (cleared y)
  clear_related (not_group p m ks) = rw (cleared_all_not ks) (not_group p m (cleared_kids ks))
  clear_related (not_loop p times n x) = not_loop p times 0 (cleared x)
  clear_related (not_par need o ks h i e) = rw (cleared_all_not ks) (not_par need o (cleared_kids ks) h i (rw (size_cleared ks) e))
  clear_related (not_not x) = not_not (cleared x)
  clear_related (only_kid p m x) = only_kid p m (cleared x)
  clear_related (spliced p m s) = spliced p m (cold_warm p m (clear_warm p m s))
  clear_related (below_group p m r) = below_group p m (clear_related_in r)
  clear_related (below_par need r) = below_par need (clear_related_in r)
  clear_related (below_not r) = below_not (clear_related r)
  clear_related (below_loop p times n r) = below_loop p times 0 (clear_related r)

  pub clear_related_in : {ks ls : Kids} → RelatedIn ks ls → RelatedIn (cleared_kids ks) (cleared_kids ls)
  clear_related_in (at_kid r ks h) = at_kid pending (cleared_kids ks) (clear_related h)
  clear_related_in (past_kid r x h) = past_kid pending (cleared x) (clear_related_in h)

pub later_related : (m : Bool) {ks ls : Kids} → RelatedIn ks ls → RelatedIn (later m ks) (later m ls)
later_related true r = r
later_related false r = clear_related_in r

-- rows forgotten

pub forgotten_all_not : (ks : Kids) → forgotten (all_not ks) ≡ all_not (forgotten ks)
forgotten_all_not no_kids = refl
forgotten_all_not (kid r x ks) = ap (kid pending (live_not x)) (forgotten_all_not ks)

pub forgotten_joined : (ks ls : Kids) → forgotten (joined ks ls) ≡ joined (forgotten ks) (forgotten ls)
forgotten_joined no_kids ls = refl
forgotten_joined (kid r x ks) ls = ap (kid pending x) (forgotten_joined ks ls)

pub forgotten_all_kept : (r : Kept) (ks : Kids) → forgotten (all_kept r ks) ≡ forgotten ks
forgotten_all_kept r no_kids = refl
forgotten_all_kept r (kid s x ks) = ap (kid pending x) (forgotten_all_kept r ks)

pub forgotten_forgotten : (ks : Kids) → forgotten (forgotten ks) ≡ forgotten ks
forgotten_forgotten no_kids = refl
forgotten_forgotten (kid r x ks) = ap (kid pending x) (forgotten_forgotten ks)

pub all_pending : (ks : Kids) → all_kept pending ks ≡ forgotten ks
all_pending no_kids = refl
all_pending (kid r x ks) = ap (kid pending x) (all_pending ks)

pub forget_cold : (p : Polarity) (m : Bool) {ks ls : Kids} → Cold p m ks ls → Cold p m (forgotten ks) (forgotten ls)
forget_cold p m (cold_here ys zs) = rw (forgotten_joined (forgotten ys) zs, forgotten_forgotten ys) (cold_here ys (forgotten zs))
forget_cold p m (cold_there x c) = cold_there x (forget_cold p m c)

pub forget_related : {ks ls : Kids} → RelatedIn ks ls → RelatedIn (forgotten ks) (forgotten ls)
forget_related (at_kid r ks h) = at_kid pending (forgotten ks) h
forget_related (past_kid r x h) = past_kid pending x (forget_related h)
