-- What a visit of a tree costs: each leaf is visited at most once, and may be stopped after that, but not
-- visited after a stop. P i w says that the world w is within the budget i.
use Rattle.std.proofs.Common.{◌≡◌, ℕ, suc, ◌+◌, ◌≤◌, Bool, true, false, ltb, List, [], ap, arith}
use Rattle.mission.specs.Trees.{Leaf, Tree, leaf, group, par, neg, again, Trees, nil, cons}
use Rattle.rules.specs.declared.status.Status.{Status}
use Rattle.rules.specs.declared.status.Status.TheVariants.{Run, Pass, Fail}
use Rattle.rules.specs.Live.{Polarity, Kept, pending, ended, Live, live_leaf, live_group, live_par, live_not, live_loop, Kids, no_kids, kid}
use Rattle.rules.specs.Visiting.{Visit, gives, moves_on, kept_as, behind, in_front, go_on_or_stop, group_step, group_end, size, passes, fails, verdict, beside, par_step, par_end, not_end, count_or_end, loop_step, loop_end}
use Rattle.rules.specs.Visiting.{Actions, halt, halt_kids, halt_later, halt_pending, par_decided, visit, visit_group, visit_par}
use Rattle.rules.proofs.Shapes.{bare, bare_kids, ShapedIn, visit_par_shaped}

-- the cost of a tree, by the cost of a leaf
abbrev mutual
  pub cost : (Leaf → ℕ) → Tree → ℕ
  cost c (leaf l) = c l
  cost c (group kind ts) = cost_all c ts
  cost c (par need ts) = cost_all c ts
  cost c (neg t) = cost c t
  cost c (again kind times t) = cost c t

  pub cost_all : (Leaf → ℕ) → Trees → ℕ
  cost_all c nil = 0
  cost_all c (cons t ts) = cost c t + cost_all c ts

module _ (W : Type 0) (P : ℕ → W → Type 0) (more : (i j : ℕ) → i ≤ j → (w : W) → P i w → P j w) where
  abbrev pub Within : {X : Type 0} → ℕ → Visit W X → Type 0
  Within i (gives a w f x) = P i w

  within_more : {X : Type 0} (i j : ℕ) → i ≤ j → (o : Visit W X) → Within i o → Within j o
  within_more i j h (gives a w f x) p = more i j h w p

  front_within : (i : ℕ) (r : Kept) (x : Live) (o : Visit W Kids) → Within i o → Within i (in_front r x o)
  front_within i r x (gives a w f ks) h = h

  next_within : (i j : ℕ) (b : Bool) (p : Polarity) (m : Bool) (a : Status) (w : W) (f : List ℕ) (x : Live) (K : W → Visit W Kids) (H : W → W) (ks : Kids) →
      P i w → ((w : W) → P i w → Within j (K w)) → ((w : W) → P i w → P j (H w)) → Within j (go_on_or_stop b p m a w f x K H ks)
  next_within i j true p m a w f x K H ks h hK hH = front_within j (behind p m) x (K w) (hK w h)
  next_within i j false p m a w f x K H ks h hK hH = hH w h

  step_within : (i j : ℕ) (p : Polarity) (m : Bool) (o : Visit W Live) (K : W → Visit W Kids) (H : W → W) (ks : Kids) →
      Within i o → ((w : W) → P i w → Within j (K w)) → ((w : W) → P i w → P j (H w)) → Within j (group_step p m o K H ks)
  step_within i j p m (gives a w f x) K H ks h hK hH = next_within i j (moves_on p a) p m a w f x K H ks h hK hH

  group_end_within : (i : ℕ) (p : Polarity) (m : Bool) (o : Visit W Kids) → Within i o → Within i (group_end p m o)
  group_end_within i p m (gives Run w f ks) h = h
  group_end_within i p m (gives Pass w f ks) h = h
  group_end_within i p m (gives Fail w f ks) h = h

  beside_within : (i : ℕ) (r : Kept) (f : List ℕ) (x : Live) (o : Visit W Kids) → Within i o → Within i (beside r f x o)
  beside_within i r f x (gives a w g ks) h = h

  par_step_within : (i j : ℕ) (o : Visit W Live) (K : W → Visit W Kids) → Within i o → ((w : W) → P i w → Within j (K w)) → Within j (par_step o K)
  par_step_within i j (gives a w f x) K h hK = beside_within j (kept_as a) f x (K w) (hK w h)

  par_end_within : (i need : ℕ) (a : Status) (w : W) (H : W → W) (f : List ℕ) (ks : Kids) → P i w → P i (H w) → Within i (par_end need a w H f ks)
  par_end_within i need Run w H f ks h g = h
  par_end_within i need Pass w H f ks h g = g
  par_end_within i need Fail w H f ks h g = g

  not_end_within : (i : ℕ) (o : Visit W Live) → Within i o → Within i (not_end o)
  not_end_within i (gives a w f x) h = h

  count_within : (i : ℕ) (b : Bool) (p : Polarity) (times n : ℕ) (w : W) (x : Live) → P i w → Within i (count_or_end b p times n w x)
  count_within i true p times n w x h = h
  count_within i false p times n w x h = h

  loop_step_within : (i : ℕ) (b : Bool) (p : Polarity) (times n : ℕ) (a : Status) (w : W) (f : List ℕ) (x : Live) → P i w → Within i (loop_step b p times n a w f x)
  loop_step_within i true p times n a w f x h = count_within i (ltb (suc n) times) p times n w x h
  loop_step_within i false p times n Run w f x h = h
  loop_step_within i false p times n Pass w f x h = h
  loop_step_within i false p times n Fail w f x h = h

  loop_end_within : (i : ℕ) (p : Polarity) (times n : ℕ) (o : Visit W Live) → Within i o → Within i (loop_end p times n o)
  loop_end_within i p times n (gives a w f x) h = loop_step_within i (moves_on p a) p times n a w f x h

-- a stop of a leaf spends nothing once its cost is in the budget
module _ (A : Actions) (c : Leaf → ℕ) (P : ℕ → A.World → Type 0) (stop : (l : Leaf) (i : ℕ) (w : A.World) → c l ≤ i → P i w → P i (A.stop_leaf l w)) where
  mutual
    pub halt_spends : (x : Live) (i : ℕ) (w : A.World) → cost c (bare x) ≤ i → P i w → P i (halt A x w)
    halt_spends (live_leaf l) i w e h = stop l i w e h
    halt_spends (live_group p m ks) i w e h = halt_kids_spends ks i w e h
    halt_spends (live_par need ks) i w e h = halt_kids_spends ks i w e h
    halt_spends (live_not x) i w e h = halt_spends x i w e h
    halt_spends (live_loop p times n x) i w e h = halt_spends x i w e h

    halt_kids_spends : (ks : Kids) (i : ℕ) (w : A.World) → cost_all c (bare_kids ks) ≤ i → P i w → P i (halt_kids A ks w)
    halt_kids_spends no_kids i w e h = h
    halt_kids_spends (kid r x ks) i w e h = halt_kids_spends ks i (halt A x w) (omega arith) (halt_spends x i w (omega arith) h)

  halt_pending_spends : (ks : Kids) (i : ℕ) (w : A.World) → cost_all c (bare_kids ks) ≤ i → P i w → P i (halt_pending A ks w)
  halt_pending_spends no_kids i w e h = h
  halt_pending_spends (kid pending x ks) i w e h = halt_pending_spends ks i (halt A x w) (omega arith) (halt_spends x i w (omega arith) h)
  halt_pending_spends (kid (ended b) x ks) i w e h = halt_pending_spends ks i w (omega arith) h

-- a visit of a leaf spends its cost
module _ (A : Actions) (c : Leaf → ℕ) (P : ℕ → A.World → Type 0) (more : (i j : ℕ) → i ≤ j → (w : A.World) → P i w → P j w)
    (spend : (l : Leaf) (i : ℕ) (w : A.World) → P i w → P (i + c l) (A.visit_leaf l w).1)
    (stop : (l : Leaf) (i : ℕ) (w : A.World) → c l ≤ i → P i w → P i (A.stop_leaf l w)) where
  halt_later_spends : (m : Bool) (ks : Kids) (i : ℕ) (w : A.World) → P i w → P (i + cost_all c (bare_kids ks)) (halt_later A m ks w)
  halt_later_spends true ks i w h = more i (i + cost_all c (bare_kids ks)) (omega arith) w h
  halt_later_spends false ks i w h =
      let j = i + cost_all c (bare_kids ks) in halt_kids_spends A c P stop ks j w (omega arith) (more i j (omega arith) w h)

  par_decided_spends : (need i : ℕ) (ts : Trees) (o : Visit A.World Kids) → ShapedIn A.World ts o → cost_all c ts ≤ i → Within A.World P more i o →
      Within A.World P more i (par_decided A need o)
  par_decided_spends need i ts (gives a w f ks) s e h =
      let q : cost_all c (bare_kids ks) ≡ cost_all c ts = ap (cost_all c) s in
      par_end_within A.World P more i need (verdict need (size ks) (passes ks) (fails ks)) w (halt_pending A ks) f ks h (halt_pending_spends A c P stop ks i w (omega arith) h)

  mutual
    pub visit_spends : (x : Live) (i : ℕ) (w : A.World) → P i w → Within A.World P more (i + cost c (bare x)) (visit A x w)
    visit_spends (live_leaf l) i w h = spend l i w h
    visit_spends (live_group p m ks) i w h =
        group_end_within A.World P more (i + cost_all c (bare_kids ks)) p m (visit_group A ks p m w) (visit_group_spends ks p m i w h)
    visit_spends (live_par need ks) i w h =
        par_decided_spends need (i + cost_all c (bare_kids ks)) (bare_kids ks) (visit_par A ks w) (visit_par_shaped A ks w) (omega arith) (visit_par_spends ks i w h)
    visit_spends (live_not x) i w h = not_end_within A.World P more (i + cost c (bare x)) (visit A x w) (visit_spends x i w h)
    visit_spends (live_loop p times n x) i w h = loop_end_within A.World P more (i + cost c (bare x)) p times n (visit A x w) (visit_spends x i w h)

    visit_group_spends : (ks : Kids) (p : Polarity) (m : Bool) (i : ℕ) (w : A.World) → P i w →
        Within A.World P more (i + cost_all c (bare_kids ks)) (visit_group A ks p m w)
    visit_group_spends no_kids p m i w h = more i (i + 0) (omega arith) w h
    visit_group_spends (kid pending x ks) p m i w h =
        let a = cost c (bare x) in
        let b = cost_all c (bare_kids ks) in
        within_more A.World P more ((i + a) + b) (i + (a + b)) (omega arith) (group_step p m (visit A x w) (visit_group A ks p m) (halt_later A m ks) ks)
        (step_within A.World P more (i + a) ((i + a) + b) p m (visit A x w) (visit_group A ks p m) (halt_later A m ks) ks (visit_spends x i w h)
        (λ v g. visit_group_spends ks p m (i + a) v g) (λ v g. halt_later_spends m ks (i + a) v g))
    visit_group_spends (kid (ended e) x ks) p m i w h =
        let a = cost c (bare x) in
        let b = cost_all c (bare_kids ks) in
        front_within A.World P more (i + (a + b)) (behind p m) x (visit_group A ks p m w)
        (within_more A.World P more (i + b) (i + (a + b)) (omega arith) (visit_group A ks p m w) (visit_group_spends ks p m i w h))

    visit_par_spends : (ks : Kids) (i : ℕ) (w : A.World) → P i w → Within A.World P more (i + cost_all c (bare_kids ks)) (visit_par A ks w)
    visit_par_spends no_kids i w h = more i (i + 0) (omega arith) w h
    visit_par_spends (kid pending x ks) i w h =
        let a = cost c (bare x) in
        let b = cost_all c (bare_kids ks) in
        within_more A.World P more ((i + a) + b) (i + (a + b)) (omega arith) (par_step (visit A x w) (visit_par A ks))
        (par_step_within A.World P more (i + a) ((i + a) + b) (visit A x w) (visit_par A ks) (visit_spends x i w h) (λ v g. visit_par_spends ks (i + a) v g))
    visit_par_spends (kid (ended e) x ks) i w h =
        let a = cost c (bare x) in
        let b = cost_all c (bare_kids ks) in
        beside_within A.World P more (i + (a + b)) (ended e) [] x (visit_par A ks w)
        (within_more A.World P more (i + b) (i + (a + b)) (omega arith) (visit_par A ks w) (visit_par_spends ks i w h))

-- what every action of a leaf keeps, every visit and halt keeps
module _ (A : Actions) (P : A.World → Type 0)
    (acts : (l : Leaf) (w : A.World) → P w → P (A.visit_leaf l w).1) (stops : (l : Leaf) (w : A.World) → P w → P (A.stop_leaf l w)) where
  abbrev pub Holds : Visit A.World Live → Type 0
  Holds (gives a w f x) = P w

  kept : (o : Visit A.World Live) (i : ℕ) → Within A.World (λ _ w. P w) (λ _ _ _ _ p. p) i o → Holds o
  kept (gives a w f x) i h = h

  pub visit_keeps : (x : Live) (w : A.World) → P w → Holds (visit A x w)
  visit_keeps x w h =
      kept (visit A x w) (0 + cost (λ _. 0) (bare x)) (visit_spends A (λ _. 0) (λ _ w. P w) (λ _ _ _ _ p. p) (λ l _ w p. acts l w p) (λ l _ w _ p. stops l w p) x 0 w h)

  pub halt_keeps : (x : Live) (w : A.World) → P w → P (halt A x w)
  halt_keeps x w h =
      let i = cost (λ _. 0) (bare x) in
      halt_spends A (λ _. 0) (λ _ w. P w) (λ l _ w _ p. stops l w p) x i w (omega arith) h
