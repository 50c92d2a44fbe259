-- The machine's stack is never as long as the tree is deep.
use Rattle.std.proofs.Common.{◌≡◌, ℕ, zero, suc, ◌+◌, ◌<◌, ◌≤◌, max, Bool, true, false, ltb, List, [], ◌∷◌, length, refl, ap, ap₂, arith}
use Rattle.rules.specs.declared.status.Status.{Status}
use Rattle.rules.specs.declared.status.Status.TheVariants.{Run, Pass, Fail}
use Rattle.rules.specs.Live.{Polarity, Kept, pending, ended, Live, live_leaf, live_group, live_par, live_not, live_loop, Kids, no_kids, kid, cleared, cleared_kids, forgotten}
use Rattle.rules.specs.Visiting.{Visit, gives, moves_on, moved, kept_as, behind, later, group_end, size, passes, fails, verdict, after_par, par_end, count_or_end, loop_step}
use Rattle.rules.specs.Visiting.{Actions, halt_later, halt_pending}
use Rattle.sitting.specs.Zipper.{Frame, in_group, in_par, in_not, in_loop, snoc, onto, passed_by, rest, Config, down, look_group, look_par, up, raise, back_in_group, step, steps, depth, depth_in, stack}

pub has_level : (x : Live) → 1 ≤ depth x
has_level (live_leaf l) = omega arith
has_level (live_group p m ks) = omega arith
has_level (live_par n ks) = omega arith
has_level (live_not x) = omega arith
has_level (live_loop p times n x) = omega arith

-- rows

depth_snoc : (r : Kept) (ks : Kids) (x : Live) → depth_in (snoc ks r x) ≡ max (depth_in ks) (depth x)
depth_snoc r no_kids x = omega arith
depth_snoc r (kid s y ks) x = let e = depth_snoc r ks x in omega arith

depth_onto : (ks ls : Kids) → depth_in (onto ks ls) ≡ max (depth_in ks) (depth_in ls)
depth_onto no_kids ls = omega arith
depth_onto (kid s y ks) ls = let e = depth_onto ks ls in omega arith

depth_rest : (ks : Kids) → depth_in (rest ks) ≤ depth_in ks
depth_rest no_kids = omega arith
depth_rest (kid pending x ks) = omega arith
depth_rest (kid (ended b) x ks) = let e = depth_rest ks in omega arith

depth_passed : (r : Kept) (ks : Kids) → depth_in (passed_by r ks) ≤ depth_in ks
depth_passed r no_kids = omega arith
depth_passed r (kid pending x ks) = omega arith
depth_passed r (kid (ended b) x ks) = let e = depth_passed r ks in omega arith

depth_forgotten : (ks : Kids) → depth_in (forgotten ks) ≡ depth_in ks
depth_forgotten no_kids = refl
depth_forgotten (kid r x ks) = ap (max (depth x)) (depth_forgotten ks)

mutual
  pub depth_cleared : (x : Live) → depth (cleared x) ≡ depth x
  depth_cleared (live_leaf l) = refl
  depth_cleared (live_group p m ks) = ap suc (depth_cleared_in ks)
  depth_cleared (live_par n ks) = ap suc (depth_cleared_in ks)
  depth_cleared (live_not x) = ap suc (depth_cleared x)
  depth_cleared (live_loop p times n x) = ap suc (depth_cleared x)

  depth_cleared_in : (ks : Kids) → depth_in (cleared_kids ks) ≡ depth_in ks
  depth_cleared_in no_kids = refl
  depth_cleared_in (kid r x ks) = ap₂ max (depth_cleared x) (depth_cleared_in ks)

depth_later : (m : Bool) (ks : Kids) → depth_in (later m ks) ≡ depth_in ks
depth_later true ks = refl
depth_later false ks = depth_cleared_in ks

depth_after_par : (ks : Kids) → depth_in (after_par ks) ≡ depth_in ks
depth_after_par no_kids = refl
depth_after_par (kid pending x ks) = ap₂ max (depth_cleared x) (depth_after_par ks)
depth_after_par (kid (ended b) x ks) = ap (max (depth x)) (depth_after_par ks)

-- how deep the children beside the one that is visited are
abbrev pub beside_depth : Frame → ℕ
beside_depth (in_group p m bs ks) = max (depth_in bs) (depth_in ks)
beside_depth (in_par n bs g ks) = max (depth_in bs) (depth_in ks)
beside_depth in_not = 0
beside_depth (in_loop p times n) = 0

-- each frame's node with its other children ends above level d
abbrev pub FitsStack : ℕ → List Frame → Type 0
FitsStack d [] = Unit {0}
FitsStack d (F ∷ K) = (length K + suc (beside_depth F) ≤ d) × FitsStack d K

abbrev pub focus_depth : {W : Type 0} → Config W → ℕ
focus_depth (down x w K) = depth x
focus_depth (look_group p m bs ks w K) = suc (max (depth_in bs) (depth_in ks))
focus_depth (look_par n bs g ks w K) = suc (max (depth_in bs) (depth_in ks))
focus_depth (up a w f x K) = depth x

abbrev pub Fits : {W : Type 0} → ℕ → Config W → Type 0
Fits d c = (length (stack c) + focus_depth c ≤ d) × FitsStack d (stack c)

-- a visit that gives a node of at most this depth
abbrev pub NoDeeper : {W : Type 0} → ℕ → Visit W Live → Type 0
NoDeeper d (gives a w f x) = depth x ≤ d

module _ (W : Type 0) where
  raise_fits : (d e : ℕ) (o : Visit W Live) (K : List Frame) → NoDeeper e o → length K + e ≤ d → FitsStack d K → Fits d (raise o K)
  raise_fits d e (gives a w f x) K h i s = (omega arith, s)

  group_end_deep : (p : Polarity) (m : Bool) (a : Status) (w : W) (f : List ℕ) (ks : Kids) → NoDeeper (suc (depth_in ks)) (group_end p m (gives a w f ks))
  group_end_deep p m Run w f ks = omega arith
  group_end_deep p m Pass w f ks = let e = depth_forgotten ks in omega arith
  group_end_deep p m Fail w f ks = let e = depth_forgotten ks in omega arith

  par_end_deep : (n : ℕ) (a : Status) (w : W) (H : W → W) (f : List ℕ) (ks : Kids) → NoDeeper (suc (depth_in ks)) (par_end n a w H f ks)
  par_end_deep n Run w H f ks = omega arith
  par_end_deep n Pass w H f ks = let e = depth_after_par ks in omega arith
  par_end_deep n Fail w H f ks = let e = depth_after_par ks in omega arith

  count_deep : (b : Bool) (p : Polarity) (times n : ℕ) (w : W) (x : Live) → NoDeeper (suc (depth x)) (count_or_end b p times n w x)
  count_deep true p times n w x = omega arith
  count_deep false p times n w x = omega arith

  loop_step_deep : (b : Bool) (p : Polarity) (times n : ℕ) (a : Status) (w : W) (f : List ℕ) (x : Live) → NoDeeper (suc (depth x)) (loop_step b p times n a w f x)
  loop_step_deep true p times n a w f x = count_deep (ltb (suc n) times) p times n w x
  loop_step_deep false p times n Run w f x = omega arith
  loop_step_deep false p times n Pass w f x = omega arith
  loop_step_deep false p times n Fail w f x = omega arith

module _ (A : Actions) where
  back_fits : (d : ℕ) (b : Bool) (p : Polarity) (m : Bool) (bs ks : Kids) (a : Status) (w : A.World) (f : List ℕ) (x : Live) (K : List Frame) →
      suc (length K) + depth x ≤ d → length K + suc (max (depth_in bs) (depth_in ks)) ≤ d → FitsStack d K → Fits d (back_in_group A b p m bs ks a w f x K)
  back_fits d true p m bs ks a w f x K h i s = let e = depth_snoc (behind p m) bs x in (omega arith, s)
  back_fits d false p m bs ks a w f x K h i s =
      let e = depth_onto bs (kid pending x (later m ks)) in
      let l = depth_later m ks in
      raise_fits A.World d (suc (depth_in (onto bs (kid pending x (later m ks))))) _ K
      (group_end_deep A.World p m a (halt_later A m ks w) f (onto bs (kid pending x (later m ks)))) (omega arith) s

  -- a step keeps within d levels
  pub step_fits : (d : ℕ) (c : Config A.World) → Fits d c → Fits d (step A c)
  step_fits d (down (live_leaf l) w K) h = h
  step_fits d (down (live_group p m ks) w K) h = let i = depth_rest ks in let j = depth_passed (behind p m) ks in (omega arith, h.1)
  step_fits d (down (live_par n ks) w K) h = (omega arith, h.1)
  step_fits d (down (live_not x) w K) h = (omega arith, (omega arith, h.1))
  step_fits d (down (live_loop p times n x) w K) h = (omega arith, (omega arith, h.1))
  step_fits d (look_group p m bs no_kids w K) h = raise_fits A.World d (suc (depth_in bs)) _ K (group_end_deep A.World p m (moved p) w [] bs) (omega arith) h.1
  step_fits d (look_group p m bs (kid pending x ks) w K) h = (omega arith, (omega arith, h.1))
  step_fits d (look_group p m bs (kid (ended b) x ks) w K) h = let e = depth_snoc (behind p m) bs x in (omega arith, h.1)
  step_fits d (look_par n bs g no_kids w K) h =
      raise_fits A.World d (suc (depth_in bs)) _ K (par_end_deep A.World n (verdict n (size bs) (passes bs) (fails bs)) w (halt_pending A bs) g bs) (omega arith) h.1
  step_fits d (look_par n bs g (kid pending x ks) w K) h = (omega arith, (omega arith, h.1))
  step_fits d (look_par n bs g (kid (ended b) x ks) w K) h = let e = depth_snoc (ended b) bs x in (omega arith, h.1)
  step_fits d (up a w f x []) h = h
  step_fits d (up a w f x (in_group p m bs ks ∷ K)) h = back_fits d (moves_on p a) p m bs ks a w f x K h.0 h.1.0 h.1.1
  step_fits d (up a w f x (in_par n bs g ks ∷ K)) h = let e = depth_snoc (kept_as a) bs x in (omega arith, h.1.1)
  step_fits d (up a w f x (in_not ∷ K)) h = (omega arith, h.1.1)
  step_fits d (up a w f x (in_loop p times n ∷ K)) h = raise_fits A.World d (suc (depth x)) _ K (loop_step_deep A.World (moves_on p a) p times n a w f x) (omega arith) h.1.1

  pub steps_fit : (d n : ℕ) (c : Config A.World) → Fits d c → Fits d (steps A n c)
  steps_fit d zero c h = h
  steps_fit d (suc n) c h = steps_fit d n (step A c) (step_fits d c h)

  has_focus : (c : Config A.World) → 1 ≤ focus_depth c
  has_focus (down x w K) = has_level x
  has_focus (look_group p m bs ks w K) = omega arith
  has_focus (look_par n bs g ks w K) = omega arith
  has_focus (up a w f x K) = has_level x

  -- the stack stays shorter than that
  pub fits_below : (d : ℕ) (c : Config A.World) → Fits d c → length (stack c) < d
  fits_below d c h = let i = has_focus c in omega arith

  pub start_fits : (x : Live) (w : A.World) → Fits (depth x) (down x w [])
  start_fits x w = (omega arith, tt)

  pub stack_below : (x : Live) (w : A.World) (n : ℕ) → length (stack (steps A n (down x w []))) < depth x
  stack_below x w n = fits_below (depth x) (steps A n (down x w [])) (steps_fit (depth x) n (down x w []) (start_fits x w))
