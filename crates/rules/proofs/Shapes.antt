-- Visiting and clearing change a live tree's memory and never its tree.
use Rattle.std.proofs.Common.{◌≡◌, ℕ, suc, Bool, true, false, ltb, List, [], refl, ap, ◌∙◌, ap₂}
use Rattle.mission.specs.declared.node.GroupKind.{GroupKind}
use Rattle.mission.specs.declared.node.GroupKind.TheVariants.{Seq, Fall, Mseq, Mfall}
use Rattle.mission.specs.declared.node.LoopKind.{LoopKind}
use Rattle.mission.specs.declared.node.LoopKind.TheVariants.{Retry, Repeat}
use Rattle.mission.specs.Trees.{Tree, leaf, group, par, neg, again, Trees, nil, cons}
use Rattle.rules.specs.declared.status.Status.{Status}
use Rattle.rules.specs.declared.status.Status.TheVariants.{Run, Pass, Fail}
use Rattle.rules.specs.Live.{Polarity, goes_on, remembers, counts_on, Kept, pending, ended, Live, live_leaf, live_group, live_par, live_not, live_loop, Kids, no_kids, kid, fresh, fresh_kids, cleared, cleared_kids, forgotten}
use Rattle.rules.specs.Visiting.{Visit, gives, moves_on, kept_as, behind, later, in_front, go_on_or_stop, group_step, group_end, size, passes, fails, verdict, after_par, beside, par_step, par_end, not_end, count_or_end, loop_step, loop_end}
use Rattle.rules.specs.Visiting.{Actions, halt_later, halt_pending, par_decided, visit, visit_group, visit_par}
pub use Rattle.rules.specs.Bare.{kind_of, loop_of, bare, bare_kids}

same_kind : (kind : GroupKind) → kind_of (goes_on kind) (remembers kind) ≡ kind
same_kind Seq = refl
same_kind Fall = refl
same_kind Mseq = refl
same_kind Mfall = refl

same_loop : (kind : LoopKind) → loop_of (counts_on kind) ≡ kind
same_loop Retry = refl
same_loop Repeat = refl

mutual
  pub bare_fresh : (t : Tree) → bare (fresh t) ≡ t
  bare_fresh (leaf l) = refl
  bare_fresh (group kind ts) = ap₂ group (same_kind kind) (bare_fresh_kids ts)
  bare_fresh (par need ts) = ap (par need) (bare_fresh_kids ts)
  bare_fresh (neg t) = ap neg (bare_fresh t)
  bare_fresh (again kind times t) = ap₂ (λ (k : LoopKind) (u : Tree). again k times u) (same_loop kind) (bare_fresh t)

  bare_fresh_kids : (ts : Trees) → bare_kids (fresh_kids ts) ≡ ts
  bare_fresh_kids nil = refl
  bare_fresh_kids (cons t ts) = ap₂ cons (bare_fresh t) (bare_fresh_kids ts)

mutual
  pub bare_cleared : (x : Live) → bare (cleared x) ≡ bare x
  bare_cleared (live_leaf l) = refl
  bare_cleared (live_group p m ks) = ap (group (kind_of p m)) (bare_cleared_kids ks)
  bare_cleared (live_par need ks) = ap (par need) (bare_cleared_kids ks)
  bare_cleared (live_not x) = ap neg (bare_cleared x)
  bare_cleared (live_loop p times n x) = ap (again (loop_of p) times) (bare_cleared x)

  bare_cleared_kids : (ks : Kids) → bare_kids (cleared_kids ks) ≡ bare_kids ks
  bare_cleared_kids no_kids = refl
  bare_cleared_kids (kid r x ks) = ap₂ cons (bare_cleared x) (bare_cleared_kids ks)

bare_forgotten : (ks : Kids) → bare_kids (forgotten ks) ≡ bare_kids ks
bare_forgotten no_kids = refl
bare_forgotten (kid r x ks) = ap (cons (bare x)) (bare_forgotten ks)

bare_later : (m : Bool) (ks : Kids) → bare_kids (later m ks) ≡ bare_kids ks
bare_later true ks = refl
bare_later false ks = bare_cleared_kids ks

bare_after_par : (ks : Kids) → bare_kids (after_par ks) ≡ bare_kids ks
bare_after_par no_kids = refl
bare_after_par (kid pending x ks) = ap₂ cons (bare_cleared x) (bare_after_par ks)
bare_after_par (kid (ended b) x ks) = ap (cons (bare x)) (bare_after_par ks)

module _ (W : Type 0) where
  abbrev pub Shaped : Tree → Visit W Live → Type 0
  Shaped t (gives a w f x) = bare x ≡ t

  abbrev pub ShapedIn : Trees → Visit W Kids → Type 0
  ShapedIn ts (gives a w f ks) = bare_kids ks ≡ ts

  front_shaped : (r : Kept) (x : Live) (t : Tree) (ts : Trees) (o : Visit W Kids) → bare x ≡ t → ShapedIn ts o → ShapedIn (cons t ts) (in_front r x o)
  front_shaped r x t ts (gives a w f ks) e h = ap₂ cons e h

  next_shaped : (b : Bool) (p : Polarity) (m : Bool) (a : Status) (w : W) (f : List ℕ) (x : Live) (K : W → Visit W Kids) (H : W → W) (ks : Kids) (t : Tree) →
      bare x ≡ t → ((w : W) → ShapedIn (bare_kids ks) (K w)) → ShapedIn (cons t (bare_kids ks)) (go_on_or_stop b p m a w f x K H ks)
  next_shaped true p m a w f x K H ks t e h = front_shaped (behind p m) x t (bare_kids ks) (K w) e (h w)
  next_shaped false p m a w f x K H ks t e h = ap₂ cons e (bare_later m ks)

  step_shaped : (p : Polarity) (m : Bool) (o : Visit W Live) (K : W → Visit W Kids) (H : W → W) (ks : Kids) (t : Tree) →
      Shaped t o → ((w : W) → ShapedIn (bare_kids ks) (K w)) → ShapedIn (cons t (bare_kids ks)) (group_step p m o K H ks)
  step_shaped p m (gives a w f x) K H ks t e h = next_shaped (moves_on p a) p m a w f x K H ks t e h

  group_end_shaped : (p : Polarity) (m : Bool) (ts : Trees) (o : Visit W Kids) → ShapedIn ts o → Shaped (group (kind_of p m) ts) (group_end p m o)
  group_end_shaped p m ts (gives Run w f ks) e = ap (group (kind_of p m)) e
  group_end_shaped p m ts (gives Pass w f ks) e = ap (group (kind_of p m)) (bare_forgotten ks ∙ e)
  group_end_shaped p m ts (gives Fail w f ks) e = ap (group (kind_of p m)) (bare_forgotten ks ∙ e)

  beside_shaped : (r : Kept) (f : List ℕ) (x : Live) (t : Tree) (ts : Trees) (o : Visit W Kids) → bare x ≡ t → ShapedIn ts o → ShapedIn (cons t ts) (beside r f x o)
  beside_shaped r f x t ts (gives a w g ks) e h = ap₂ cons e h

  par_step_shaped : (o : Visit W Live) (K : W → Visit W Kids) (t : Tree) (ts : Trees) → Shaped t o → ((w : W) → ShapedIn ts (K w)) → ShapedIn (cons t ts) (par_step o K)
  par_step_shaped (gives a w f x) K t ts e h = beside_shaped (kept_as a) f x t ts (K w) e (h w)

  par_end_shaped : (need : ℕ) (a : Status) (w : W) (H : W → W) (f : List ℕ) (ks : Kids) (ts : Trees) → bare_kids ks ≡ ts → Shaped (par need ts) (par_end need a w H f ks)
  par_end_shaped need Run w H f ks ts e = ap (par need) e
  par_end_shaped need Pass w H f ks ts e = ap (par need) (bare_after_par ks ∙ e)
  par_end_shaped need Fail w H f ks ts e = ap (par need) (bare_after_par ks ∙ e)

  not_end_shaped : (t : Tree) (o : Visit W Live) → Shaped t o → Shaped (neg t) (not_end o)
  not_end_shaped t (gives a w f x) e = ap neg e

  count_shaped : (b : Bool) (p : Polarity) (times n : ℕ) (w : W) (x : Live) (t : Tree) → bare x ≡ t → Shaped (again (loop_of p) times t) (count_or_end b p times n w x)
  count_shaped true p times n w x t e = ap (again (loop_of p) times) e
  count_shaped false p times n w x t e = ap (again (loop_of p) times) e

  loop_step_shaped : (b : Bool) (p : Polarity) (times n : ℕ) (a : Status) (w : W) (f : List ℕ) (x : Live) (t : Tree) → bare x ≡ t →
      Shaped (again (loop_of p) times t) (loop_step b p times n a w f x)
  loop_step_shaped true p times n a w f x t e = count_shaped (ltb (suc n) times) p times n w x t e
  loop_step_shaped false p times n Run w f x t e = ap (again (loop_of p) times) e
  loop_step_shaped false p times n Pass w f x t e = ap (again (loop_of p) times) e
  loop_step_shaped false p times n Fail w f x t e = ap (again (loop_of p) times) e

  loop_end_shaped : (p : Polarity) (times n : ℕ) (t : Tree) (o : Visit W Live) → Shaped t o → Shaped (again (loop_of p) times t) (loop_end p times n o)
  loop_end_shaped p times n t (gives a w f x) e = loop_step_shaped (moves_on p a) p times n a w f x t e

module _ (A : Actions) where
  par_decided_shaped : (need : ℕ) (ts : Trees) (o : Visit A.World Kids) → ShapedIn A.World ts o → Shaped A.World (par need ts) (par_decided A need o)
  par_decided_shaped need ts (gives a w f ks) e = par_end_shaped A.World need (verdict need (size ks) (passes ks) (fails ks)) w (halt_pending A ks) f ks ts e

  mutual
    pub visit_shaped : (x : Live) (w : A.World) → Shaped A.World (bare x) (visit A x w)
    visit_shaped (live_leaf l) w = refl
    visit_shaped (live_group p m ks) w = group_end_shaped A.World p m (bare_kids ks) (visit_group A ks p m w) (visit_group_shaped ks p m w)
    visit_shaped (live_par need ks) w = par_decided_shaped need (bare_kids ks) (visit_par A ks w) (visit_par_shaped ks w)
    visit_shaped (live_not x) w = not_end_shaped A.World (bare x) (visit A x w) (visit_shaped x w)
    visit_shaped (live_loop p times n x) w = loop_end_shaped A.World p times n (bare x) (visit A x w) (visit_shaped x w)

    visit_group_shaped : (ks : Kids) (p : Polarity) (m : Bool) (w : A.World) → ShapedIn A.World (bare_kids ks) (visit_group A ks p m w)
    visit_group_shaped no_kids p m w = refl
    visit_group_shaped (kid pending x ks) p m w =
        step_shaped A.World p m (visit A x w) (visit_group A ks p m) (halt_later A m ks) ks (bare x) (visit_shaped x w) (visit_group_shaped ks p m)
    visit_group_shaped (kid (ended b) x ks) p m w = front_shaped A.World (behind p m) x (bare x) (bare_kids ks) (visit_group A ks p m w) refl (visit_group_shaped ks p m w)

    pub visit_par_shaped : (ks : Kids) (w : A.World) → ShapedIn A.World (bare_kids ks) (visit_par A ks w)
    visit_par_shaped no_kids w = refl
    visit_par_shaped (kid pending x ks) w = par_step_shaped A.World (visit A x w) (visit_par A ks) (bare x) (bare_kids ks) (visit_shaped x w) (visit_par_shaped ks)
    visit_par_shaped (kid (ended b) x ks) w = beside_shaped A.World (ended b) [] x (bare x) (bare_kids ks) (visit_par A ks w) refl (visit_par_shaped ks w)
