-- The machine's steps keep what a configuration means, and they end.
use Rattle.std.proofs.Common.{◌≡◌, ℕ, zero, suc, ◌+◌, ◌*◌, ◌<◌, ◌≤◌, Bool, true, false, List, [], ◌∷◌, ◌++◌, sym, refl, ap, ◌∙◌, append_assoc, append-nil, arith}
use Rattle.rules.specs.declared.status.Status.{Status}
use Rattle.rules.specs.declared.status.Status.TheVariants.{Run}
use Rattle.rules.specs.Live.{Polarity, Kept, pending, ended, Live, live_leaf, live_group, live_par, live_not, live_loop, Kids, no_kids, kid}
use Rattle.rules.specs.Visiting.{Visit, gives, leaf_visit, moves_on, moved, kept_as, behind, later, in_front, go_on_or_stop, group_step, group_end, beside, par_step, not_end, loop_end}
use Rattle.rules.specs.Visiting.{Actions, halt_later, par_decided, visit, visit_group, visit_par}
use Rattle.sitting.specs.Zipper.{Frame, in_group, in_par, in_not, in_loop, snoc, onto, passed_by, rest, Config, down, look_group, look_par, up, raise, is_end, back_in_group, step, steps, nodes, nodes_in}

abbrev pub before : {W : Type 0} → Kids → Visit W Kids → Visit W Kids
before bs (gives a w f ks) = gives a w f (onto bs ks)

abbrev pub before_par : {W : Type 0} → Kids → List ℕ → Visit W Kids → Visit W Kids
before_par bs g (gives a w f ks) = gives a w (g ++ f) (onto bs ks)

pub onto_snoc : (bs : Kids) (r : Kept) (x : Live) (ks : Kids) → onto (snoc bs r x) ks ≡ onto bs (kid r x ks)
onto_snoc no_kids r x ks = refl
onto_snoc (kid s y bs) r x ks = ap (kid s y) (onto_snoc bs r x ks)

pub onto_none : (bs : Kids) → onto bs no_kids ≡ bs
onto_none no_kids = refl
onto_none (kid s y bs) = ap (kid s y) (onto_none bs)

before_snoc : {W : Type 0} (bs : Kids) (r : Kept) (x : Live) (o : Visit W Kids) → before (snoc bs r x) o ≡ before bs (in_front r x o)
before_snoc bs r x (gives a w f ks) = ap (gives a w f) (onto_snoc bs r x ks)

before_kid : {W : Type 0} (bs : Kids) (r : Kept) (x : Live) (o : Visit W Kids) → before (kid r x bs) o ≡ in_front r x (before bs o)
before_kid bs r x (gives a w f ks) = refl

before_none : {W : Type 0} (o : Visit W Kids) → before no_kids o ≡ o
before_none (gives a w f ks) = refl

par_none : {W : Type 0} (o : Visit W Kids) → before_par no_kids [] o ≡ o
par_none (gives a w f ks) = refl

par_all : {W : Type 0} (bs : Kids) (g : List ℕ) (a : Status) (w : W) → before_par bs g (gives a w [] no_kids) ≡ gives a w g bs
par_all bs g a w = rw (onto_none bs, append-nil g) refl

par_snoc : {W : Type 0} (bs : Kids) (g f : List ℕ) (r : Kept) (x : Live) (o : Visit W Kids) → before_par (snoc bs r x) (g ++ f) o ≡ before_par bs g (beside r f x o)
par_snoc bs g f r x (gives a w h ks) = rw (onto_snoc bs r x ks, append_assoc g f h) refl

par_kept : {W : Type 0} (bs : Kids) (g : List ℕ) (r : Kept) (x : Live) (o : Visit W Kids) → before_par (snoc bs r x) g o ≡ before_par bs g (beside r [] x o)
par_kept bs g r x (gives a w h ks) = rw (onto_snoc bs r x ks) refl

module _ (A : Actions) where
  -- what the frames make of an answer
  abbrev pub resume : List Frame → Visit A.World Live → Visit A.World Live
  resume [] o = o
  resume (in_group p m bs ks ∷ K) o = resume K (group_end p m (before bs (group_step p m o (visit_group A ks p m) (halt_later A m ks) ks)))
  resume (in_par n bs g ks ∷ K) o = resume K (par_decided A n (before_par bs g (par_step o (visit_par A ks))))
  resume (in_not ∷ K) o = resume K (not_end o)
  resume (in_loop p times n ∷ K) o = resume K (loop_end p times n o)

  -- the visit that a configuration is part of
  abbrev pub meaning : Config A.World → Visit A.World Live
  meaning (down x w K) = resume K (visit A x w)
  meaning (look_group p m bs ks w K) = resume K (group_end p m (before bs (visit_group A ks p m w)))
  meaning (look_par n bs g ks w K) = resume K (par_decided A n (before_par bs g (visit_par A ks w)))
  meaning (up a w f x K) = resume K (gives a w f x)

  raised : (o : Visit A.World Live) (K : List Frame) → meaning (raise o K) ≡ resume K o
  raised (gives a w f x) K = refl

  -- a group goes past what it remembers
  past_leading : (ks : Kids) (p : Polarity) (m : Bool) (w : A.World) → before (passed_by (behind p m) ks) (visit_group A (rest ks) p m w) ≡ visit_group A ks p m w
  past_leading no_kids p m w = refl
  past_leading (kid pending x ks) p m w = before_none (visit_group A (kid pending x ks) p m w)
  past_leading (kid (ended b) x ks) p m w =
      before_kid (passed_by (behind p m) ks) (behind p m) x (visit_group A (rest ks) p m w) ∙ ap (in_front (behind p m) x) (past_leading ks p m w)

  back_keeps : (b : Bool) (p : Polarity) (m : Bool) (bs ks : Kids) (a : Status) (w : A.World) (f : List ℕ) (x : Live) (K : List Frame) →
      meaning (back_in_group A b p m bs ks a w f x K)
      ≡ resume K (group_end p m (before bs (go_on_or_stop b p m a w f x (visit_group A ks p m) (halt_later A m ks) ks)))
  back_keeps true p m bs ks a w f x K = ap (λ (o : Visit A.World Kids). resume K (group_end p m o)) (before_snoc bs (behind p m) x (visit_group A ks p m w))
  back_keeps false p m bs ks a w f x K = raised _ K

  -- a step keeps the meaning
  pub step_keeps : (c : Config A.World) → meaning (step A c) ≡ meaning c
  step_keeps (down (live_leaf l) w K) = refl
  step_keeps (down (live_group p m ks) w K) = ap (λ (o : Visit A.World Kids). resume K (group_end p m o)) (past_leading ks p m w)
  step_keeps (down (live_par n ks) w K) = ap (λ (o : Visit A.World Kids). resume K (par_decided A n o)) (par_none (visit_par A ks w))
  step_keeps (down (live_not x) w K) = refl
  step_keeps (down (live_loop p times n x) w K) = refl
  step_keeps (look_group p m bs no_kids w K) = raised _ K ∙ ap (λ (ks : Kids). resume K (group_end p m (gives (moved p) w [] ks))) (sym (onto_none bs))
  step_keeps (look_group p m bs (kid pending x ks) w K) = refl
  step_keeps (look_group p m bs (kid (ended b) x ks) w K) = ap (λ (o : Visit A.World Kids). resume K (group_end p m o)) (before_snoc bs (behind p m) x (visit_group A ks p m w))
  step_keeps (look_par n bs g no_kids w K) = raised _ K ∙ ap (λ (o : Visit A.World Kids). resume K (par_decided A n o)) (sym (par_all bs g Run w))
  step_keeps (look_par n bs g (kid pending x ks) w K) = refl
  step_keeps (look_par n bs g (kid (ended b) x ks) w K) = ap (λ (o : Visit A.World Kids). resume K (par_decided A n o)) (par_kept bs g (ended b) x (visit_par A ks w))
  step_keeps (up a w f x []) = refl
  step_keeps (up a w f x (in_group p m bs ks ∷ K)) = back_keeps (moves_on p a) p m bs ks a w f x K
  step_keeps (up a w f x (in_par n bs g ks ∷ K)) = ap (λ (o : Visit A.World Kids). resume K (par_decided A n o)) (par_snoc bs g f (kept_as a) x (visit_par A ks w))
  step_keeps (up a w f x (in_not ∷ K)) = refl
  step_keeps (up a w f x (in_loop p times n ∷ K)) = raised _ K

-- the steps left, at most
abbrev mutual
  pub cost : Live → ℕ
  cost (live_leaf l) = 1
  cost (live_group p m ks) = 2 + costs ks
  cost (live_par n ks) = 2 + costs ks
  cost (live_not x) = 2 + cost x
  cost (live_loop p times n x) = 2 + cost x

  pub costs : Kids → ℕ
  costs no_kids = 0
  costs (kid r x ks) = (2 + cost x) + costs ks

abbrev pub frame_cost : Frame → ℕ
frame_cost (in_group p m bs ks) = 2 + costs ks
frame_cost (in_par n bs g ks) = 2 + costs ks
frame_cost in_not = 1
frame_cost (in_loop p times n) = 1

abbrev pub stack_cost : List Frame → ℕ
stack_cost [] = 0
stack_cost (F ∷ K) = frame_cost F + stack_cost K

abbrev pub weight : {W : Type 0} → Config W → ℕ
weight (down x w K) = cost x + stack_cost K
weight (look_group p m bs ks w K) = (1 + costs ks) + stack_cost K
weight (look_par n bs g ks w K) = (1 + costs ks) + stack_cost K
weight (up a w f x K) = stack_cost K

raise_weight : {W : Type 0} (o : Visit W Live) (K : List Frame) → weight (raise o K) ≡ stack_cost K
raise_weight (gives a w f x) K = refl

rest_costs : (ks : Kids) → costs (rest ks) ≤ costs ks
rest_costs no_kids = omega arith
rest_costs (kid pending x ks) = omega arith
rest_costs (kid (ended b) x ks) = let h = rest_costs ks in omega arith

module _ (A : Actions) where
  back_weight : (b : Bool) (p : Polarity) (m : Bool) (bs ks : Kids) (a : Status) (w : A.World) (f : List ℕ) (x : Live) (K : List Frame) →
      weight (back_in_group A b p m bs ks a w f x K) < (2 + costs ks) + stack_cost K
  back_weight true p m bs ks a w f x K = omega arith
  back_weight false p m bs ks a w f x K =
      let e = raise_weight (group_end p m (gives a (halt_later A m ks w) f (onto bs (kid pending x (later m ks))))) K in omega arith

  pub step_falls : (c : Config A.World) → is_end c ≡ false → weight (step A c) < weight c
  step_falls (down (live_leaf l) w K) e = let i = raise_weight (leaf_visit l (A.visit_leaf l w)) K in omega arith
  step_falls (down (live_group p m ks) w K) e = let i = rest_costs ks in omega arith
  step_falls (down (live_par n ks) w K) e = omega arith
  step_falls (down (live_not x) w K) e = omega arith
  step_falls (down (live_loop p times n x) w K) e = omega arith
  step_falls (look_group p m bs no_kids w K) e = let i = raise_weight (group_end p m (gives (moved p) w [] bs)) K in omega arith
  step_falls (look_group p m bs (kid pending x ks) w K) e = omega arith
  step_falls (look_group p m bs (kid (ended b) x ks) w K) e = omega arith
  step_falls (look_par n bs g no_kids w K) e = let i = raise_weight (par_decided A n (gives Run w g bs)) K in omega arith
  step_falls (look_par n bs g (kid pending x ks) w K) e = omega arith
  step_falls (look_par n bs g (kid (ended b) x ks) w K) e = omega arith
  step_falls (up a w f x []) e = absurd (cc)
  step_falls (up a w f x (in_group p m bs ks ∷ K)) e = let i = back_weight (moves_on p a) p m bs ks a w f x K in omega arith
  step_falls (up a w f x (in_par n bs g ks ∷ K)) e = omega arith
  step_falls (up a w f x (in_not ∷ K)) e = omega arith
  step_falls (up a w f x (in_loop p times n ∷ K)) e = let i = raise_weight (loop_end p times n (gives a w f x)) K in omega arith

  stays : (n : ℕ) (a : Status) (w : A.World) (f : List ℕ) (x : Live) → steps A n (up a w f x []) ≡ up a w f x []
  stays zero a w f x = refl
  stays (suc n) a w f x = stays n a w f x

  -- an end is its own meaning
  pub at_end : (c : Config A.World) → is_end c ≡ true → c ≡ raise (meaning A c) []
  at_end (down x w K) e = cc
  at_end (look_group p m bs ks w K) e = cc
  at_end (look_par n bs g ks w K) e = cc
  at_end (up a w f x []) e = refl
  at_end (up a w f x (F ∷ K)) e = cc

  ended_at : (n : ℕ) (c : Config A.World) → is_end c ≡ true → steps A n c ≡ raise (meaning A c) []
  ended_at n (down x w K) e = cc
  ended_at n (look_group p m bs ks w K) e = cc
  ended_at n (look_par i bs g ks w K) e = cc
  ended_at n (up a w f x []) e = stays n a w f x
  ended_at n (up a w f x (F ∷ K)) e = cc

  -- enough steps end with what the configuration means
  pub runs_out : (n : ℕ) (c : Config A.World) → weight c ≤ n → steps A n c ≡ raise (meaning A c) []
  runs_out zero c h = go (is_end c) refl
    where
      go : (b : Bool) → is_end c ≡ b → steps A zero c ≡ raise (meaning A c) []
      go true e = ended_at zero c e
      go false e = let i = step_falls c e in absurd (omega arith)
  runs_out (suc n) c h = go (is_end c) refl (runs_out n (step A c))
    where
      go : (b : Bool) → is_end c ≡ b → (weight (step A c) ≤ n → steps A n (step A c) ≡ raise (meaning A (step A c)) []) → steps A (suc n) c ≡ raise (meaning A c) []
      go true e ih = ended_at (suc n) c e
      go false e ih = let i = step_falls c e in ih (omega arith) ∙ ap (λ (o : Visit A.World Live). raise o []) (step_keeps A c)

  pub machine_visits : (x : Live) (w : A.World) (n : ℕ) → weight (down x w []) ≤ n → steps A n (down x w []) ≡ raise (visit A x w) []
  machine_visits x w n h = runs_out n (down x w []) h

mutual
  pub cost_nodes : (x : Live) → cost x + 2 ≤ 4 * nodes x
  cost_nodes (live_leaf l) = omega arith
  cost_nodes (live_group p m ks) = let h = costs_nodes ks in omega arith
  cost_nodes (live_par n ks) = let h = costs_nodes ks in omega arith
  cost_nodes (live_not x) = let h = cost_nodes x in omega arith
  cost_nodes (live_loop p times n x) = let h = cost_nodes x in omega arith

  costs_nodes : (ks : Kids) → costs ks ≤ 4 * nodes_in ks
  costs_nodes no_kids = omega arith
  costs_nodes (kid r x ks) = let h = cost_nodes x in let i = costs_nodes ks in omega arith

pub start_weight : {W : Type 0} (x : Live) (w : W) → weight (down x w []) ≤ 4 * nodes x
start_weight x w = let h = cost_nodes x in omega arith

-- four steps a node are enough
pub nodes_enough : (A : Actions) (x : Live) (w : A.World) → steps A (4 * nodes x) (down x w []) ≡ raise (visit A x w) []
nodes_enough A x w = machine_visits A x w (4 * nodes x) (start_weight x w)
