-- The visit of a live tree as a machine with a stack of frames, one step at a time.
use Rattle.std.specs.Prelude.{ℕ, zero, suc, ◌+◌, max, Bool, true, false, List, [], ◌∷◌, ◌++◌}
use Rattle.rules.specs.declared.status.Status.{Status}
use Rattle.rules.specs.declared.status.Status.TheVariants.{Run}
use Rattle.rules.specs.Live.{Polarity, Kept, pending, ended, Live, live_leaf, live_group, live_par, live_not, live_loop, Kids, no_kids, kid}
use Rattle.rules.specs.Statuses.{exchanged}
use Rattle.rules.specs.Visiting.{Visit, gives, leaf_visit, moves_on, moved, kept_as, behind, later, group_end, loop_end, Actions, halt_later, par_decided}

-- the frame of a node whose child is being visited: what the node is, the children before that child,
-- and those after; in a par also the running front so far
pub data Frame : Type 0 where
  in_group : Polarity → Bool → Kids → Kids → Frame
  in_par : ℕ → Kids → List ℕ → Kids → Frame
  in_not : Frame
  -- the times, and how many are counted
  in_loop : Polarity → ℕ → ℕ → Frame

-- one child more at the end of a row
abbrev pub snoc : Kids → Kept → Live → Kids
snoc no_kids r x = kid r x no_kids
snoc (kid s y ks) r x = kid s y (snoc ks r x)

-- one row before another
abbrev pub onto : Kids → Kids → Kids
onto no_kids ls = ls
onto (kid r x ks) ls = kid r x (onto ks ls)

-- the children before the first one of which nothing is remembered
abbrev pub leading : Kids → Kids
leading no_kids = no_kids
leading (kid pending x ks) = no_kids
leading (kid (ended b) x ks) = kid (ended b) x (leading ks)

-- the same, with this remembered of each
abbrev pub passed_by : Kept → Kids → Kids
passed_by r no_kids = no_kids
passed_by r (kid pending x ks) = no_kids
passed_by r (kid (ended b) x ks) = kid r x (passed_by r ks)

-- the others
abbrev pub rest : Kids → Kids
rest no_kids = no_kids
rest (kid pending x ks) = kid pending x ks
rest (kid (ended b) x ks) = rest ks

-- where the machine is: about to enter a node; at the next child of a group or of a par, with the children
-- before it and those from it on; or on the way up with the answer of a node
pub data Config (W : Type 0) : Type 0 where
  down : Live → W → List Frame → Config W
  look_group : Polarity → Bool → Kids → Kids → W → List Frame → Config W
  look_par : ℕ → Kids → List ℕ → Kids → W → List Frame → Config W
  up : Status → W → List ℕ → Live → List Frame → Config W

abbrev pub raise : {W : Type 0} → Visit W Live → List Frame → Config W
raise (gives a w f x) K = up a w f x K

-- an answer with no node above it
abbrev pub is_end : {W : Type 0} → Config W → Bool
is_end (down x w K) = false
is_end (look_group p m bs ks w K) = false
is_end (look_par n bs g ks w K) = false
is_end (up a w f x []) = true
is_end (up a w f x (F ∷ K)) = false

module _ (A : Actions) where
  -- back in a group: on to the next child, or to the group's end
  abbrev pub back_in_group : Bool → Polarity → Bool → Kids → Kids → Status → A.World → List ℕ → Live → List Frame → Config A.World
  back_in_group true p m bs ks a w f x K = look_group p m (snoc bs (behind p m) x) ks w K
  back_in_group false p m bs ks a w f x K = raise (group_end p m (gives a (halt_later A m ks w) f (onto bs (kid pending x (later m ks))))) K

  abbrev pub step : Config A.World → Config A.World
  step (down (live_leaf l) w K) = raise (leaf_visit l (A.visit_leaf l w)) K
  step (down (live_group p m ks) w K) = look_group p m (passed_by (behind p m) ks) (rest ks) w K
  step (down (live_par n ks) w K) = look_par n no_kids [] ks w K
  step (down (live_not x) w K) = down x w (in_not ∷ K)
  step (down (live_loop p times n x) w K) = down x w (in_loop p times n ∷ K)
  step (look_group p m bs no_kids w K) = raise (group_end p m (gives (moved p) w [] bs)) K
  step (look_group p m bs (kid pending x ks) w K) = down x w (in_group p m bs ks ∷ K)
  step (look_group p m bs (kid (ended b) x ks) w K) = look_group p m (snoc bs (behind p m) x) ks w K
  step (look_par n bs g no_kids w K) = raise (par_decided A n (gives Run w g bs)) K
  step (look_par n bs g (kid pending x ks) w K) = down x w (in_par n bs g ks ∷ K)
  step (look_par n bs g (kid (ended b) x ks) w K) = look_par n (snoc bs (ended b) x) g ks w K
  step (up a w f x []) = up a w f x []
  step (up a w f x (in_group p m bs ks ∷ K)) = back_in_group (moves_on p a) p m bs ks a w f x K
  step (up a w f x (in_par n bs g ks ∷ K)) = look_par n (snoc bs (kept_as a) x) (g ++ f) ks w K
  step (up a w f x (in_not ∷ K)) = up (exchanged a) w f (live_not x) K
  step (up a w f x (in_loop p times n ∷ K)) = raise (loop_end p times n (gives a w f x)) K

  abbrev pub steps : ℕ → Config A.World → Config A.World
  steps zero c = c
  steps (suc n) c = steps n (step c)

-- the nodes of a live tree
abbrev mutual
  pub nodes : Live → ℕ
  nodes (live_leaf l) = 1
  nodes (live_group p m ks) = suc (nodes_in ks)
  nodes (live_par n ks) = suc (nodes_in ks)
  nodes (live_not x) = suc (nodes x)
  nodes (live_loop p times n x) = suc (nodes x)

  pub nodes_in : Kids → ℕ
  nodes_in no_kids = 0
  nodes_in (kid r x ks) = nodes x + nodes_in ks

-- the levels of a live tree
abbrev mutual
  pub depth : Live → ℕ
  depth (live_leaf l) = 1
  depth (live_group p m ks) = suc (depth_in ks)
  depth (live_par n ks) = suc (depth_in ks)
  depth (live_not x) = suc (depth x)
  depth (live_loop p times n x) = suc (depth x)

  pub depth_in : Kids → ℕ
  depth_in no_kids = 0
  depth_in (kid r x ks) = max (depth x) (depth_in ks)

abbrev pub stack : {W : Type 0} → Config W → List Frame
stack (down x w K) = K
stack (look_group p m bs ks w K) = K
stack (look_par n bs g ks w K) = K
stack (up a w f x K) = K
