-- After a visit a skill that stands at one place runs exactly if it is on the front; after a halt it does
-- not run.
use Rattle.std.proofs.Common.{◌≡◌, ℕ, suc, Bool, true, false, ◌||◌, eqb, ltb, List, [], ◌∷◌, ◌++◌, Option, sym, refl, ap, ◌∙◌, eqb-true}
use Rattle.std.proofs.Math.Bool.{or-false}
use Rattle.std.proofs.lemmas.List.Folds.{list_any-append}
use Rattle.mission.specs.declared.node.Target.{Target}
use Rattle.mission.specs.Trees.{Leaf, skill, count, ability}
use Rattle.rules.specs.declared.status.Status.{Status}
use Rattle.rules.specs.declared.status.Status.TheVariants.{Run, Pass, Fail}
use Rattle.rules.specs.Live.{Polarity, on_pass, on_fail, Kept, pending, ended, Live, Kids, kid}
use Rattle.rules.specs.Sittings.{has}
use Rattle.rules.specs.Statuses.{exchanged, is_run}
use Rattle.rules.specs.Visiting.{Visit, gives, leaf_visit, moves_on, moved, kept_as, behind, later, in_front, go_on_or_stop, group_step, group_end, size, passes, fails, verdict, beside, par_step, par_end, not_end, count_or_end, loop_step, loop_end}
use Rattle.rules.specs.Visiting.{Actions, halt, halt_kids, halt_later, halt_pending, par_decided, visit, visit_group, visit_par}
use Rattle.rules.proofs.Standing.{Other, Absent, absent_leaf, absent_group, absent_par, absent_not, absent_loop, AbsentIn, absent_none, absent_kid}
use Rattle.rules.proofs.Standing.{Stands, at_leaf, at_group, at_par, at_not, at_loop, StandsGroup, group_here, group_kept, group_past, group_free, group_waits, StandsPar, par_here, par_kept, par_there, Somewhere, SomewhereGroup}
use Rattle.rules.proofs.Standing.{forget_absent, after_par_absent, later_absent, pending_before, clear_stands_group, forget_stands, after_par_stands, gone_past, left_behind}
pub use Rattle.rules.specs.Stands.{Quiet}

-- what the leaves of a world have to do for it
pub record Obeyed (A : Actions) (on : A.World → ℕ → Bool) : Type 0 where
  pub own : (k : ℕ) (d : Option ℕ) (t : Target) (w : A.World) → on (A.visit_leaf (skill k d t) w).1 k ≡ is_run (A.visit_leaf (skill k d t) w).0
  pub other : (k : ℕ) (l : Leaf) → Other k l → (w : A.World) → on (A.visit_leaf l w).1 k ≡ on w k
  pub stop_own : (k : ℕ) (d : Option ℕ) (t : Target) (w : A.World) → on (A.stop_leaf (skill k d t) w) k ≡ false
  pub stop_other : (k : ℕ) (l : Leaf) → Other k l → (w : A.World) → on (A.stop_leaf l w) k ≡ on w k

module _ (W : Type 0) (on : W → ℕ → Bool) (k : ℕ) where
  -- where the skill does not stand: it runs as before (c), and is not on the front
  pub data Untouched (c : Bool) : Visit W Live → Type 0 where
    untouched : (a : Status) (w : W) (f : List ℕ) {x : Live} → on w k ≡ c → has k f ≡ false → Absent k x → Untouched c (gives a w f x)

  pub data UntouchedIn (c : Bool) : Visit W Kids → Type 0 where
    untouched_in : (a : Status) (w : W) (f : List ℕ) {ks : Kids} → on w k ≡ c → has k f ≡ false → AbsentIn k ks → UntouchedIn c (gives a w f ks)

  -- where it stands: it runs exactly if it is on the front, and not at all where the node has ended
  pub data Told : Visit W Live → Type 0 where
    told_run : (w : W) (f : List ℕ) (b : Bool) {x : Live} → Stands k b x → on w k ≡ has k f → Quiet b (on w k) → Told (gives Run w f x)
    told_pass : (w : W) {x : Live} → Somewhere k x → on w k ≡ false → Told (gives Pass w [] x)
    told_fail : (w : W) {x : Live} → Somewhere k x → on w k ≡ false → Told (gives Fail w [] x)

  pub data ToldGroup (m : Bool) : Visit W Kids → Type 0 where
    group_run : (w : W) (f : List ℕ) (b : Bool) {ks : Kids} → StandsGroup k m b ks → on w k ≡ has k f → Quiet b (on w k) → ToldGroup m (gives Run w f ks)
    group_pass : (w : W) (f : List ℕ) {ks : Kids} → SomewhereGroup k m ks → on w k ≡ false → ToldGroup m (gives Pass w f ks)
    group_fail : (w : W) (f : List ℕ) {ks : Kids} → SomewhereGroup k m ks → on w k ≡ false → ToldGroup m (gives Fail w f ks)

  pub data ToldPar : Visit W Kids → Type 0 where
    told_par : (a : Status) (w : W) (f : List ℕ) (b : Bool) {ks : Kids} → StandsPar k b ks → on w k ≡ has k f → Quiet b (on w k) → ToldPar (gives a w f ks)

  -- where it does not stand

  front_untouched : (c : Bool) (r : Kept) {x : Live} {o : Visit W Kids} → Absent k x → UntouchedIn c o → UntouchedIn c (in_front r x o)
  front_untouched c r h (untouched_in a w f e i n) = untouched_in a w f e i (absent_kid r h n)

  next_untouched : (c : Bool) (b : Bool) (p : Polarity) (m : Bool) (a : Status) (w : W) (f : List ℕ) {x : Live} (K : W → Visit W Kids) (H : W → W) {ks : Kids} →
      on w k ≡ c → has k f ≡ false → Absent k x → ((w : W) → UntouchedIn (on w k) (K w)) → ((w : W) → on (H w) k ≡ on w k) → AbsentIn k ks →
      UntouchedIn c (go_on_or_stop b p m a w f x K H ks)
  next_untouched c true p m a w f K H e i h hK hH n = front_untouched c (behind p m) h (rw (sym e) (hK w))
  next_untouched c false p m a w f K H e i h hK hH n = untouched_in a (H w) f (hH w ∙ e) i (absent_kid pending h (later_absent m n))

  step_untouched : (c : Bool) (p : Polarity) (m : Bool) {o : Visit W Live} (K : W → Visit W Kids) (H : W → W) {ks : Kids} →
      Untouched c o → ((w : W) → UntouchedIn (on w k) (K w)) → ((w : W) → on (H w) k ≡ on w k) → AbsentIn k ks → UntouchedIn c (group_step p m o K H ks)
  step_untouched c p m K H (untouched a w f e i h) hK hH n = next_untouched c (moves_on p a) p m a w f K H e i h hK hH n

  group_end_untouched : (c : Bool) (p : Polarity) (m : Bool) {o : Visit W Kids} → UntouchedIn c o → Untouched c (group_end p m o)
  group_end_untouched c p m (untouched_in Run w f e i n) = untouched Run w f e i (absent_group p m n)
  group_end_untouched c p m (untouched_in Pass w f e i n) = untouched Pass w [] e refl (absent_group p m (forget_absent n))
  group_end_untouched c p m (untouched_in Fail w f e i n) = untouched Fail w [] e refl (absent_group p m (forget_absent n))

  has_none : (f g : List ℕ) → has k f ≡ false → has k g ≡ false → has k (f ++ g) ≡ false
  has_none f g h i = rw (list_any-append (λ j. eqb j k) f g, h, i) refl

  beside_untouched : (c : Bool) (r : Kept) (f : List ℕ) {x : Live} {o : Visit W Kids} → has k f ≡ false → Absent k x → UntouchedIn c o → UntouchedIn c (beside r f x o)
  beside_untouched c r f i h (untouched_in a w g e l n) = untouched_in a w (f ++ g) e (has_none f g i l) (absent_kid r h n)

  par_step_untouched : (c : Bool) {o : Visit W Live} (K : W → Visit W Kids) → Untouched c o → ((w : W) → UntouchedIn (on w k) (K w)) → UntouchedIn c (par_step o K)
  par_step_untouched c K (untouched a w f e i h) hK = beside_untouched c (kept_as a) f i h (rw (sym e) (hK w))

  par_end_untouched : (c : Bool) (need : ℕ) (a : Status) (w : W) (H : W → W) (f : List ℕ) {ks : Kids} →
      on w k ≡ c → has k f ≡ false → AbsentIn k ks → on (H w) k ≡ on w k → Untouched c (par_end need a w H f ks)
  par_end_untouched c need Run w H f e i h g = untouched Run w f e i (absent_par need h)
  par_end_untouched c need Pass w H f e i h g = untouched Pass (H w) [] (g ∙ e) refl (absent_par need (after_par_absent h))
  par_end_untouched c need Fail w H f e i h g = untouched Fail (H w) [] (g ∙ e) refl (absent_par need (after_par_absent h))

  not_end_untouched : (c : Bool) {o : Visit W Live} → Untouched c o → Untouched c (not_end o)
  not_end_untouched c (untouched a w f e i h) = untouched (exchanged a) w f e i (absent_not h)

  count_untouched : (c b : Bool) (p : Polarity) (times n : ℕ) (w : W) {x : Live} → on w k ≡ c → Absent k x → Untouched c (count_or_end b p times n w x)
  count_untouched c true p times n w e h = untouched Run w [] e refl (absent_loop p times (suc n) h)
  count_untouched c false p times n w e h = untouched (moved p) w [] e refl (absent_loop p times 0 h)

  loop_step_untouched : (c b : Bool) (p : Polarity) (times n : ℕ) (a : Status) (w : W) (f : List ℕ) {x : Live} → on w k ≡ c → has k f ≡ false → Absent k x →
      Untouched c (loop_step b p times n a w f x)
  loop_step_untouched c true p times n a w f e l h = count_untouched c (ltb (suc n) times) p times n w e h
  loop_step_untouched c false p times n Run w f e l h = untouched Run w f e l (absent_loop p times n h)
  loop_step_untouched c false p times n Pass w f e l h = untouched Pass w [] e refl (absent_loop p times 0 h)
  loop_step_untouched c false p times n Fail w f e l h = untouched Fail w [] e refl (absent_loop p times 0 h)

  loop_end_untouched : (c : Bool) (p : Polarity) (times n : ℕ) {o : Visit W Live} → Untouched c o → Untouched c (loop_end p times n o)
  loop_end_untouched c p times n (untouched a w f e l h) = loop_step_untouched c (moves_on p a) p times n a w f e l h

  leaf_untouched : (c : Bool) (l : Leaf) (a : Status) (w : W) → Other k l → on w k ≡ c → Untouched c (leaf_visit l (a, w))
  leaf_untouched c (skill j d t) Run w h e = untouched Run w (j ∷ []) e (rw h refl) (absent_leaf (skill j d t) h)
  leaf_untouched c (skill j d t) Pass w h e = untouched Pass w [] e refl (absent_leaf (skill j d t) h)
  leaf_untouched c (skill j d t) Fail w h e = untouched Fail w [] e refl (absent_leaf (skill j d t) h)
  leaf_untouched c (count key least) a w h e = untouched a w [] e refl (absent_leaf (count key least) h)
  leaf_untouched c (ability key least) a w h e = untouched a w [] e refl (absent_leaf (ability key least) h)

  -- where it stands

  past_told : (p : Polarity) (m : Bool) {x : Live} {o : Visit W Kids} → Absent k x → ToldGroup m o → ToldGroup m (in_front (behind p m) x o)
  past_told p m h (group_run w f b i e d) = group_run w f b (gone_past p m b h i) e d
  past_told p m h (group_pass w f s e) = group_pass w f (s.0, gone_past p m s.0 h s.1) e
  past_told p m h (group_fail w f s e) = group_fail w f (s.0, gone_past p m s.0 h s.1) e

  behind_told : (p : Polarity) (m : Bool) (c : Bool) {x : Live} {o : Visit W Kids} → c ≡ false → Somewhere k x → UntouchedIn c o → ToldGroup m (in_front (behind p m) x o)
  behind_told p m c z s (untouched_in Run w f e i n) = let t = left_behind p m s.0 s.1 n in group_run w f t.0 t.1 (e ∙ z ∙ sym i) (λ u. e ∙ z)
  behind_told p m c z s (untouched_in Pass w f e i n) = group_pass w f (left_behind p m s.0 s.1 n) (e ∙ z)
  behind_told p m c z s (untouched_in Fail w f e i n) = group_fail w f (left_behind p m s.0 s.1 n) (e ∙ z)

  here_told : (p : Polarity) (m : Bool) {o : Visit W Live} (K : W → Visit W Kids) (H : W → W) {ks : Kids} →
      Told o → ((w : W) → UntouchedIn (on w k) (K w)) → ((w : W) → on (H w) k ≡ on w k) → AbsentIn k ks → ToldGroup m (group_step p m o K H ks)
  here_told on_pass m K H (told_run w f b h e d) hK hH n = group_run (H w) f b (group_here m b h (later_absent m n)) (hH w ∙ e) (λ z. hH w ∙ d z)
  here_told on_pass m K H (told_pass w s e) hK hH n = behind_told on_pass m (on w k) e s (hK w)
  here_told on_pass m K H (told_fail w s e) hK hH n = group_fail (H w) [] (s.0, group_here m s.0 s.1 (later_absent m n)) (hH w ∙ e)
  here_told on_fail m K H (told_run w f b h e d) hK hH n = group_run (H w) f b (group_here m b h (later_absent m n)) (hH w ∙ e) (λ z. hH w ∙ d z)
  here_told on_fail m K H (told_pass w s e) hK hH n = group_pass (H w) [] (s.0, group_here m s.0 s.1 (later_absent m n)) (hH w ∙ e)
  here_told on_fail m K H (told_fail w s e) hK hH n = behind_told on_fail m (on w k) e s (hK w)

  stop_told : (m : Bool) (a : Status) (w : W) (f : List ℕ) {x : Live} {ks : Kids} → Absent k x → SomewhereGroup k m ks → on w k ≡ false → has k f ≡ false →
      ToldGroup m (gives a w f (kid pending x ks))
  stop_told m Run w f h s e i = let t = pending_before m h s in group_run w f t.0 t.1 (e ∙ sym i) (λ z. e)
  stop_told m Pass w f h s e i = group_pass w f (pending_before m h s) e
  stop_told m Fail w f h s e i = group_fail w f (pending_before m h s) e

  next_told : (c : Bool) (b : Bool) (p : Polarity) (m : Bool) (a : Status) (w : W) (f : List ℕ) {x : Live} (K : W → Visit W Kids) (H : W → W) (ks : Kids) →
      on w k ≡ c → has k f ≡ false → Absent k x → ((w : W) → on w k ≡ c → ToldGroup m (K w)) → ((w : W) → on w k ≡ c → on (H w) k ≡ false) → SomewhereGroup k m (later m ks) →
      ToldGroup m (go_on_or_stop b p m a w f x K H ks)
  next_told c true p m a w f K H ks e i h hK hH s = past_told p m h (hK w e)
  next_told c false p m a w f K H ks e i h hK hH s = stop_told m a (H w) f h s (hH w e) i

  step_told : (c : Bool) (p : Polarity) (m : Bool) {o : Visit W Live} (K : W → Visit W Kids) (H : W → W) (ks : Kids) →
      Untouched c o → ((w : W) → on w k ≡ c → ToldGroup m (K w)) → ((w : W) → on w k ≡ c → on (H w) k ≡ false) → SomewhereGroup k m (later m ks) →
      ToldGroup m (group_step p m o K H ks)
  step_told c p m K H ks (untouched a w f e i h) hK hH s = next_told c (moves_on p a) p m a w f K H ks e i h hK hH s

  group_end_told : (p : Polarity) (m : Bool) {o : Visit W Kids} → ToldGroup m o → Told (group_end p m o)
  group_end_told p m (group_run w f b h e d) = told_run w f b (at_group p m b h) e d
  group_end_told p m (group_pass w f s e) = let t = forget_stands s.1 in told_pass w (t.0, at_group p m t.0 t.1) e
  group_end_told p m (group_fail w f s e) = let t = forget_stands s.1 in told_fail w (t.0, at_group p m t.0 t.1) e

  beside_here : (c : Bool) (f : List ℕ) (b : Bool) {x : Live} {o : Visit W Kids} → Stands k b x → c ≡ has k f → Quiet b c → UntouchedIn c o → ToldPar (beside pending f x o)
  beside_here c f b h e d (untouched_in a w g i l n) =
      told_par a w (f ++ g) b (par_here b h n) (i ∙ e ∙ sym (or-false (has k f)) ∙ sym (ap (λ (z : Bool). has k f || z) l) ∙ sym (list_any-append (λ j. eqb j k) f g)) (λ z. i ∙ d z)

  beside_kept : (c : Bool) (r : Bool) (b : Bool) {x : Live} {o : Visit W Kids} → Stands k b x → c ≡ false → UntouchedIn c o → ToldPar (beside (ended r) [] x o)
  beside_kept c r b h e (untouched_in a w g i l n) = told_par a w g false (par_kept r b h n) (i ∙ e ∙ sym l) (λ z. i ∙ e)

  beside_there : (r : Kept) (f : List ℕ) {x : Live} {o : Visit W Kids} → has k f ≡ false → Absent k x → ToldPar o → ToldPar (beside r f x o)
  beside_there r f i h (told_par a w g b l e d) =
      told_par a w (f ++ g) b (par_there r b h l) (e ∙ sym (list_any-append (λ j. eqb j k) f g ∙ ap (λ (z : Bool). z || has k g) i)) d

  par_step_here : {o : Visit W Live} (K : W → Visit W Kids) → Told o → ((w : W) → UntouchedIn (on w k) (K w)) → ToldPar (par_step o K)
  par_step_here K (told_run w f b h e d) hK = beside_here (on w k) f b h e d (hK w)
  par_step_here K (told_pass w s e) hK = beside_kept (on w k) true s.0 s.1 e (hK w)
  par_step_here K (told_fail w s e) hK = beside_kept (on w k) false s.0 s.1 e (hK w)

  par_step_there : (c : Bool) {o : Visit W Live} (K : W → Visit W Kids) → Untouched c o → ((w : W) → on w k ≡ c → ToldPar (K w)) → ToldPar (par_step o K)
  par_step_there c K (untouched a w f e i h) hK = beside_there (kept_as a) f i h (hK w e)

  par_end_told : (need : ℕ) (a : Status) (w : W) (H : W → W) (f : List ℕ) (b : Bool) {ks : Kids} →
      StandsPar k b ks → on w k ≡ has k f → Quiet b (on w k) → on (H w) k ≡ false → Told (par_end need a w H f ks)
  par_end_told need Run w H f b h e d g = told_run w f b (at_par need b h) e d
  par_end_told need Pass w H f b h e d g = let t = after_par_stands h in told_pass (H w) (t.0, at_par need t.0 t.1) g
  par_end_told need Fail w H f b h e d g = let t = after_par_stands h in told_fail (H w) (t.0, at_par need t.0 t.1) g

  not_end_told : {o : Visit W Live} → Told o → Told (not_end o)
  not_end_told (told_run w f b h e d) = told_run w f b (at_not b h) e d
  not_end_told (told_pass w s e) = told_fail w (s.0, at_not s.0 s.1) e
  not_end_told (told_fail w s e) = told_pass w (s.0, at_not s.0 s.1) e

  count_told : (b : Bool) (p : Polarity) (times n : ℕ) (w : W) {x : Live} → Somewhere k x → on w k ≡ false → Told (count_or_end b p times n w x)
  count_told true p times n w s e = told_run w [] s.0 (at_loop p times (suc n) s.0 s.1) e (λ z. e)
  count_told false on_pass times n w s e = told_pass w (s.0, at_loop on_pass times 0 s.0 s.1) e
  count_told false on_fail times n w s e = told_fail w (s.0, at_loop on_fail times 0 s.0 s.1) e

  loop_end_told : (p : Polarity) (times n : ℕ) {o : Visit W Live} → Told o → Told (loop_end p times n o)
  loop_end_told on_pass times n (told_run w f b h e d) = told_run w f b (at_loop on_pass times n b h) e d
  loop_end_told on_pass times n (told_pass w s e) = count_told (ltb (suc n) times) on_pass times n w s e
  loop_end_told on_pass times n (told_fail w s e) = told_fail w (s.0, at_loop on_pass times 0 s.0 s.1) e
  loop_end_told on_fail times n (told_run w f b h e d) = told_run w f b (at_loop on_fail times n b h) e d
  loop_end_told on_fail times n (told_pass w s e) = told_pass w (s.0, at_loop on_fail times 0 s.0 s.1) e
  loop_end_told on_fail times n (told_fail w s e) = count_told (ltb (suc n) times) on_fail times n w s e

  may_run : (c : Bool) → Quiet true c
  may_run c e = absurd cc

  leaf_told : (j : ℕ) (d : Option ℕ) (t : Target) (a : Status) (w : W) → eqb j k ≡ true → on w k ≡ is_run a → Told (leaf_visit (skill j d t) (a, w))
  leaf_told j d t Run w i e = told_run w (j ∷ []) true (at_leaf j d t i) (rw i e) (may_run (on w k))
  leaf_told j d t Pass w i e = told_pass w (true, at_leaf j d t i) e
  leaf_told j d t Fail w i e = told_fail w (true, at_leaf j d t i) e

module _ (A : Actions) (on : A.World → ℕ → Bool) (L : Obeyed A on) (k : ℕ) where
  mutual
    halt_absent : {x : Live} → Absent k x → (w : A.World) → on (halt A x w) k ≡ on w k
    halt_absent (absent_leaf l h) w = L.stop_other k l h w
    halt_absent (absent_group p m h) w = halt_absent_in h w
    halt_absent (absent_par need h) w = halt_absent_in h w
    halt_absent (absent_not h) w = halt_absent h w
    halt_absent (absent_loop p times n h) w = halt_absent h w

    halt_absent_in : {ks : Kids} → AbsentIn k ks → (w : A.World) → on (halt_kids A ks w) k ≡ on w k
    halt_absent_in absent_none w = refl
    halt_absent_in (absent_kid r {x = x} h i) w = halt_absent_in i (halt A x w) ∙ halt_absent h w

  halt_pending_absent : {ks : Kids} → AbsentIn k ks → (w : A.World) → on (halt_pending A ks w) k ≡ on w k
  halt_pending_absent absent_none w = refl
  halt_pending_absent (absent_kid pending {x = x} h i) w = halt_pending_absent i (halt A x w) ∙ halt_absent h w
  halt_pending_absent (absent_kid (ended b) h i) w = halt_pending_absent i w

  halt_later_absent : (m : Bool) {ks : Kids} → AbsentIn k ks → (w : A.World) → on (halt_later A m ks w) k ≡ on w k
  halt_later_absent true h w = refl
  halt_later_absent false h w = halt_absent_in h w

  mutual
    pub halt_stands : {b : Bool} {x : Live} → Stands k b x → (w : A.World) → on (halt A x w) k ≡ false
    halt_stands (at_leaf j d t e) w = rw (eqb-true j k e) (L.stop_own k d t w)
    halt_stands (at_group p m b h) w = halt_stands_group h w
    halt_stands (at_par need b h) w = halt_stands_par h w
    halt_stands (at_not b h) w = halt_stands h w
    halt_stands (at_loop p times n b h) w = halt_stands h w

    halt_stands_group : {m b : Bool} {ks : Kids} → StandsGroup k m b ks → (w : A.World) → on (halt_kids A ks w) k ≡ false
    halt_stands_group (group_here m b {x = x} h i) w = halt_absent_in i (halt A x w) ∙ halt_stands h w
    halt_stands_group (group_kept m e b {x = x} h i) w = halt_absent_in i (halt A x w) ∙ halt_stands h w
    halt_stands_group (group_past m e b {x = x} h i) w = halt_stands_group i (halt A x w)
    halt_stands_group (group_free b {x = x} h i) w = halt_stands_group i (halt A x w)
    halt_stands_group (group_waits b {x = x} h i) w = halt_stands_group i (halt A x w)

    halt_stands_par : {b : Bool} {ks : Kids} → StandsPar k b ks → (w : A.World) → on (halt_kids A ks w) k ≡ false
    halt_stands_par (par_here b {x = x} h i) w = halt_absent_in i (halt A x w) ∙ halt_stands h w
    halt_stands_par (par_kept e b {x = x} h i) w = halt_absent_in i (halt A x w) ∙ halt_stands h w
    halt_stands_par (par_there r b {x = x} h i) w = halt_stands_par i (halt A x w)

  halt_pending_stands : {b : Bool} {ks : Kids} → StandsPar k b ks → (w : A.World) → Quiet b (on w k) → on (halt_pending A ks w) k ≡ false
  halt_pending_stands (par_here b {x = x} h i) w d = halt_pending_absent i (halt A x w) ∙ halt_stands h w
  halt_pending_stands (par_kept e b h i) w d = halt_pending_absent i w ∙ d refl
  halt_pending_stands (par_there pending b {x = x} h i) w d = halt_pending_stands i (halt A x w) (λ e. halt_absent h w ∙ d e)
  halt_pending_stands (par_there (ended e) b h i) w d = halt_pending_stands i w d

  par_decided_untouched : (c : Bool) (need : ℕ) {o : Visit A.World Kids} → UntouchedIn A.World on k c o → Untouched A.World on k c (par_decided A need o)
  par_decided_untouched c need (untouched_in a w f {ks = ks} e i h) =
      par_end_untouched A.World on k c need (verdict need (size ks) (passes ks) (fails ks)) w (halt_pending A ks) f e i h (halt_pending_absent h w)

  mutual
    visit_absent : {x : Live} → Absent k x → (w : A.World) → Untouched A.World on k (on w k) (visit A x w)
    visit_absent (absent_leaf l h) w = leaf_untouched A.World on k (on w k) l (A.visit_leaf l w).0 (A.visit_leaf l w).1 h (L.other k l h w)
    visit_absent (absent_group p m h) w = group_end_untouched A.World on k (on w k) p m (visit_group_absent h p m w)
    visit_absent (absent_par need h) w = par_decided_untouched (on w k) need (visit_par_absent h w)
    visit_absent (absent_not h) w = not_end_untouched A.World on k (on w k) (visit_absent h w)
    visit_absent (absent_loop p times n h) w = loop_end_untouched A.World on k (on w k) p times n (visit_absent h w)

    visit_group_absent : {ks : Kids} → AbsentIn k ks → (p : Polarity) (m : Bool) (w : A.World) → UntouchedIn A.World on k (on w k) (visit_group A ks p m w)
    visit_group_absent absent_none p m w = untouched_in (moved p) w [] refl refl absent_none
    visit_group_absent (absent_kid pending {ks = ks} h i) p m w =
        step_untouched A.World on k (on w k) p m (visit_group A ks p m) (halt_later A m ks) (visit_absent h w) (visit_group_absent i p m) (halt_later_absent m i) i
    visit_group_absent (absent_kid (ended b) h i) p m w = front_untouched A.World on k (on w k) (behind p m) h (visit_group_absent i p m w)

    visit_par_absent : {ks : Kids} → AbsentIn k ks → (w : A.World) → UntouchedIn A.World on k (on w k) (visit_par A ks w)
    visit_par_absent absent_none w = untouched_in Run w [] refl refl absent_none
    visit_par_absent (absent_kid pending {ks = ks} h i) w = par_step_untouched A.World on k (on w k) (visit_par A ks) (visit_absent h w) (visit_par_absent i)
    visit_par_absent (absent_kid (ended b) h i) w = beside_untouched A.World on k (on w k) (ended b) [] refl h (visit_par_absent i w)

  own_at : (j : ℕ) (d : Option ℕ) (t : Target) (w : A.World) → j ≡ k → on (A.visit_leaf (skill j d t) w).1 k ≡ is_run (A.visit_leaf (skill j d t) w).0
  own_at j d t w e = rw e (L.own k d t w)

  par_decided_told : (need : ℕ) {o : Visit A.World Kids} → ToldPar A.World on k o → Told A.World on k (par_decided A need o)
  par_decided_told need (told_par a w f b {ks = ks} h e d) =
      par_end_told A.World on k need (verdict need (size ks) (passes ks) (fails ks)) w (halt_pending A ks) f b h e d (halt_pending_stands h w d)

  mutual
    pub visit_stands : {b : Bool} {x : Live} → Stands k b x → (w : A.World) → Quiet b (on w k) → Told A.World on k (visit A x w)
    visit_stands (at_leaf j d t e) w z =
        leaf_told A.World on k j d t (A.visit_leaf (skill j d t) w).0 (A.visit_leaf (skill j d t) w).1 e (own_at j d t w (eqb-true j k e))
    visit_stands (at_group p m b h) w z = group_end_told A.World on k p m (visit_group_stands h p w z)
    visit_stands (at_par need b h) w z = par_decided_told need (visit_par_stands h w z)
    visit_stands (at_not b h) w z = not_end_told A.World on k (visit_stands h w z)
    visit_stands (at_loop p times n b h) w z = loop_end_told A.World on k p times n (visit_stands h w z)

    visit_group_stands : {m b : Bool} {ks : Kids} → StandsGroup k m b ks → (p : Polarity) (w : A.World) → Quiet b (on w k) →
        ToldGroup A.World on k m (visit_group A ks p m w)
    visit_group_stands (group_here m b {ks = ks} h i) p w z =
        here_told A.World on k p m (visit_group A ks p m) (halt_later A m ks) (visit_stands h w z) (visit_group_absent i p m) (halt_later_absent m i) i
    visit_group_stands (group_kept m e b h i) p w z = behind_told A.World on k p m (on w k) (z refl) (b, h) (visit_group_absent i p m w)
    visit_group_stands (group_past m e b h i) p w z = past_told A.World on k p m h (visit_group_stands i p w z)
    visit_group_stands (group_free b {ks = ks} h i) p w z =
        step_told A.World on k (on w k) p false (visit_group A ks p false) (halt_later A false ks) ks (visit_absent h w)
        (λ v e. visit_group_stands i p v (λ y. e ∙ z y)) (λ v e. halt_stands_group i v) (clear_stands_group i)
    visit_group_stands (group_waits b {ks = ks} h i) p w z =
        step_told A.World on k (on w k) p true (visit_group A ks p true) (halt_later A true ks) ks (visit_absent h w)
        (λ v e. visit_group_stands i p v (λ y. e ∙ z refl)) (λ v e. e ∙ z refl) (b, i)

    visit_par_stands : {b : Bool} {ks : Kids} → StandsPar k b ks → (w : A.World) → Quiet b (on w k) → ToldPar A.World on k (visit_par A ks w)
    visit_par_stands (par_here b {ks = ks} h i) w z = par_step_here A.World on k (visit_par A ks) (visit_stands h w z) (visit_par_absent i)
    visit_par_stands (par_kept e b h i) w z = beside_kept A.World on k (on w k) e b h (z refl) (visit_par_absent i w)
    visit_par_stands (par_there pending b {ks = ks} h i) w z =
        par_step_there A.World on k (on w k) (visit_par A ks) (visit_absent h w) (λ v e. visit_par_stands i v (λ y. e ∙ z y))
    visit_par_stands (par_there (ended e) b h i) w z = beside_there A.World on k (ended e) [] refl h (visit_par_stands i w z)
