-- Related live trees are visited alike, and the fresh trees of a step are related.
use Rattle.std.proofs.Common.{◌≡◌, ℕ, suc, ◌+◌, ◌-◌, ◌≤◌, Bool, true, false, ltb, List, [], ◌++◌, refl, ap, sym, arith}
use Rattle.mission.specs.declared.node.GroupKind.{GroupKind}
use Rattle.mission.specs.declared.node.GroupKind.TheVariants.{Seq, Fall, Mseq, Mfall}
use Rattle.mission.specs.declared.node.LoopKind.{LoopKind}
use Rattle.mission.specs.declared.node.LoopKind.TheVariants.{Retry, Repeat}
use Rattle.mission.specs.Trees.{Tree, group, Trees, nil, cons, width}
use Rattle.rules.specs.declared.status.Status.{Status}
use Rattle.rules.specs.declared.status.Status.TheVariants.{Run, Pass, Fail}
use Rattle.rules.specs.Live.{Polarity, on_pass, on_fail, goes_on, remembers, counts_on, Kept, pending, ended, Live, live_group, live_not, live_loop, Kids, no_kids, kid, fresh, fresh_kids, cleared, forgotten}
use Rattle.rules.specs.Lines.{one}
use Rattle.rules.specs.Regrouping.{mirror, mirror_loop, negated, followed_by, Step, StepIn}
use Rattle.rules.specs.Statuses.{exchanged}
use Rattle.rules.specs.Visiting.{Visit, gives, moves_on, moved, kept_as, behind, later, in_front, go_on_or_stop, group_step, group_end, size, is_pass, is_fail, passes, fails, verdict, after_par, beside, par_step, par_end, not_end, count_or_end, loop_step, loop_end}
use Rattle.rules.specs.Visiting.{Actions, halt_later, halt_pending, par_decided, visit, visit_group, visit_par}
use Rattle.rules.proofs.Related.{all_not, joined, Cold, cold_here, cold_there, Related, RelatedIn, at_kid, past_kid, Same, same, cold_warm, clear_related, later_related, forget_related}
use Rattle.rules.proofs.Related as related
use Rattle.rules.proofs.Halts.{later_halt_related, later_halt_none, pending_halt_related}
use Rattle.rules.proofs.Splices.{end_alike, warm_visit}
use Rattle.rules.proofs.Endings.{ends, only_kid_same}
use Rattle.rules.proofs.Mirrors.{not_group_end, not_loop_end, not_not_end, group_not, par_not, size_visit_par, not_par_decided}

-- below a node

after_par_related : {ks ls : Kids} → RelatedIn ks ls → RelatedIn (after_par ks) (after_par ls)
after_par_related (at_kid pending ks h) = at_kid pending (after_par ks) (clear_related h)
after_par_related (at_kid (ended b) ks h) = at_kid pending (after_par ks) h
after_par_related (past_kid pending x h) = past_kid pending (cleared x) (after_par_related h)
after_par_related (past_kid (ended b) x h) = past_kid pending x (after_par_related h)

size_related : {ks ls : Kids} → RelatedIn ks ls → size ks ≡ size ls
size_related (at_kid r ks h) = refl
size_related (past_kid r x h) = ap suc (size_related h)

passes_related : {ks ls : Kids} → RelatedIn ks ls → passes ks ≡ passes ls
passes_related (at_kid r ks h) = refl
passes_related (past_kid r x h) = ap (λ (n : ℕ). one (is_pass r) + n) (passes_related h)

fails_related : {ks ls : Kids} → RelatedIn ks ls → fails ks ≡ fails ls
fails_related (at_kid r ks h) = refl
fails_related (past_kid r x h) = ap (λ (n : ℕ). one (is_fail r) + n) (fails_related h)

front_at : {W : Type 0} (r : Kept) {x y : Live} (o : Visit W Kids) → Related x y → Same RelatedIn (in_front r x o) (in_front r y o)
front_at r (gives a w f ks) h = same a w f (at_kid r ks h)

front_past : {W : Type 0} (r : Kept) (x : Live) {o q : Visit W Kids} → Same RelatedIn o q → Same RelatedIn (in_front r x o) (in_front r x q)
front_past r x (same a w f h) = same a w f (past_kid r x h)

next_at : {W : Type 0} (b : Bool) (p : Polarity) (m : Bool) (a : Status) (w : W) (f : List ℕ) {x y : Live} (K : W → Visit W Kids) (H : W → W) (ks : Kids) →
    Related x y → Same RelatedIn (go_on_or_stop b p m a w f x K H ks) (go_on_or_stop b p m a w f y K H ks)
next_at true p m a w f K H ks h = front_at (behind p m) (K w) h
next_at false p m a w f K H ks h = same a (H w) f (at_kid pending (later m ks) h)

step_at : {W : Type 0} (p : Polarity) (m : Bool) {o q : Visit W Live} (K : W → Visit W Kids) (H : W → W) (ks : Kids) →
    Same Related o q → Same RelatedIn (group_step p m o K H ks) (group_step p m q K H ks)
step_at p m K H ks (same a w f h) = next_at (moves_on p a) p m a w f K H ks h

next_past : {W : Type 0} (b : Bool) (p : Polarity) (m : Bool) (a : Status) (w : W) (f : List ℕ) (x : Live) (K J : W → Visit W Kids) (H G : W → W) (ks ls : Kids) →
    ((w : W) → Same RelatedIn (K w) (J w)) → ((w : W) → G w ≡ H w) → RelatedIn ks ls →
    Same RelatedIn (go_on_or_stop b p m a w f x K H ks) (go_on_or_stop b p m a w f x J G ls)
next_past true p m a w f x K J H G ks ls hK hG h = front_past (behind p m) x (hK w)
next_past false p m a w f x K J H G ks ls hK hG h = rw (hG w) (same a (H w) f (past_kid pending x (later_related m h)))

step_past : {W : Type 0} (p : Polarity) (m : Bool) (o : Visit W Live) (K J : W → Visit W Kids) (H G : W → W) (ks ls : Kids) →
    ((w : W) → Same RelatedIn (K w) (J w)) → ((w : W) → G w ≡ H w) → RelatedIn ks ls →
    Same RelatedIn (group_step p m o K H ks) (group_step p m o J G ls)
step_past p m (gives a w f x) K J H G ks ls hK hG h = next_past (moves_on p a) p m a w f x K J H G ks ls hK hG h

group_end_same : {W : Type 0} (p : Polarity) (m : Bool) {o q : Visit W Kids} → Same RelatedIn o q → Same Related (group_end p m o) (group_end p m q)
group_end_same p m (same Run w f h) = same Run w f (related.below_group p m h)
group_end_same p m (same Pass w f h) = same Pass w [] (related.below_group p m (forget_related h))
group_end_same p m (same Fail w f h) = same Fail w [] (related.below_group p m (forget_related h))

beside_at : {W : Type 0} (r : Kept) (f : List ℕ) {x y : Live} (o : Visit W Kids) → Related x y → Same RelatedIn (beside r f x o) (beside r f y o)
beside_at r f (gives a w g ks) h = same a w (f ++ g) (at_kid r ks h)

beside_past : {W : Type 0} (r : Kept) (f : List ℕ) (x : Live) {o q : Visit W Kids} → Same RelatedIn o q → Same RelatedIn (beside r f x o) (beside r f x q)
beside_past r f x (same a w g h) = same a w (f ++ g) (past_kid r x h)

par_step_at : {W : Type 0} {o q : Visit W Live} (K : W → Visit W Kids) → Same Related o q → Same RelatedIn (par_step o K) (par_step q K)
par_step_at K (same a w f h) = beside_at (kept_as a) f (K w) h

par_step_past : {W : Type 0} (o : Visit W Live) (K J : W → Visit W Kids) → ((w : W) → Same RelatedIn (K w) (J w)) → Same RelatedIn (par_step o K) (par_step o J)
par_step_past (gives a w f x) K J h = beside_past (kept_as a) f x (h w)

not_end_same : {W : Type 0} {o q : Visit W Live} → Same Related o q → Same Related (not_end o) (not_end q)
not_end_same (same a w f h) = same (exchanged a) w f (related.below_not h)

count_same : {W : Type 0} (b : Bool) (p : Polarity) (times n : ℕ) (w : W) {x y : Live} → Related x y → Same Related (count_or_end b p times n w x) (count_or_end b p times n w y)
count_same true p times n w h = same Run w [] (related.below_loop p times (suc n) h)
count_same false p times n w h = same (moved p) w [] (related.below_loop p times 0 h)

loop_step_same : {W : Type 0} (b : Bool) (p : Polarity) (times n : ℕ) (a : Status) (w : W) (f : List ℕ) {x y : Live} → Related x y →
    Same Related (loop_step b p times n a w f x) (loop_step b p times n a w f y)
loop_step_same true p times n a w f h = count_same (ltb (suc n) times) p times n w h
loop_step_same false p times n Run w f h = same Run w f (related.below_loop p times n h)
loop_step_same false p times n Pass w f h = same Pass w [] (related.below_loop p times 0 h)
loop_step_same false p times n Fail w f h = same Fail w [] (related.below_loop p times 0 h)

loop_end_same : {W : Type 0} (p : Polarity) (times n : ℕ) {o q : Visit W Live} → Same Related o q → Same Related (loop_end p times n o) (loop_end p times n q)
loop_end_same p times n (same a w f h) = loop_step_same (moves_on p a) p times n a w f h

par_end_same : {W : Type 0} (need : ℕ) (a : Status) (w : W) (H G : W → W) (f : List ℕ) {ks ls : Kids} → RelatedIn ks ls → ((w : W) → G w ≡ H w) →
    Same Related (par_end need a w H f ks) (par_end need a w G f ls)
par_end_same need Run w H G f h e = same Run w f (related.below_par need h)
par_end_same need Pass w H G f h e = rw (e w) (same Pass (H w) [] (related.below_par need (after_par_related h)))
par_end_same need Fail w H G f h e = rw (e w) (same Fail (H w) [] (related.below_par need (after_par_related h)))

module _ (A : Actions) where
  par_decided_same : (need : ℕ) {o q : Visit A.World Kids} → Same RelatedIn o q → Same Related (par_decided A need o) (par_decided A need q)
  par_decided_same need (same a w f {x = ks} {y = ls} h) =
      rw (← size_related h, ← passes_related h, ← fails_related h)
      (par_end_same need (verdict need (size ks) (passes ks) (fails ks)) w (halt_pending A ks) (halt_pending A ls) f h (pending_halt_related A h))

  mutual
    pub visit_related : {x y : Live} → Related x y → (w : A.World) → Same Related (visit A x w) (visit A y w)
    visit_related (related.not_group p m ks) w = rw (group_not A ks p m w) (not_group_end p m (visit_group A ks p m w))
    visit_related (related.not_loop p times n x) w = not_loop_end p times n (visit A x w)
    visit_related (related.not_par need o ks hn ho e) w =
        rw (par_not A ks w) (not_par_decided A need o (visit_par A ks w) hn ho (rw (size_visit_par A ks w) e))
    visit_related (related.not_not x) w = not_not_end (visit A x w)
    visit_related (related.only_kid p m x) w = only_kid_same p m (halt_later A m no_kids) (later_halt_none A m) (ends A x w)
    visit_related (related.spliced p m h) w = end_alike p m (warm_visit A p m h w)
    visit_related (related.below_group p m r) w = group_end_same p m (visit_group_related r p m w)
    visit_related (related.below_par need r) w = par_decided_same need (visit_par_related r w)
    visit_related (related.below_not r) w = not_end_same (visit_related r w)
    visit_related (related.below_loop p times n r) w = loop_end_same p times n (visit_related r w)

    visit_group_related : {ks ls : Kids} → RelatedIn ks ls → (p : Polarity) (m : Bool) (w : A.World) → Same RelatedIn (visit_group A ks p m w) (visit_group A ls p m w)
    visit_group_related (at_kid pending ks h) p m w = step_at p m (visit_group A ks p m) (halt_later A m ks) ks (visit_related h w)
    visit_group_related (at_kid (ended b) ks h) p m w = front_at (behind p m) (visit_group A ks p m w) h
    visit_group_related (past_kid pending x {ks = ks} {ls = ls} h) p m w =
        step_past p m (visit A x w) (visit_group A ks p m) (visit_group A ls p m) (halt_later A m ks) (halt_later A m ls) ks ls
        (visit_group_related h p m) (later_halt_related A m h) h
    visit_group_related (past_kid (ended b) x h) p m w = front_past (behind p m) x (visit_group_related h p m w)

    visit_par_related : {ks ls : Kids} → RelatedIn ks ls → (w : A.World) → Same RelatedIn (visit_par A ks w) (visit_par A ls w)
    visit_par_related (at_kid pending ks h) w = par_step_at (visit_par A ks) (visit_related h w)
    visit_par_related (at_kid (ended b) ks h) w = beside_at (ended b) [] (visit_par A ks w) h
    visit_par_related (past_kid pending x {ks = ks} {ls = ls} h) w = par_step_past (visit A x w) (visit_par A ks) (visit_par A ls) (visit_par_related h)
    visit_par_related (past_kid (ended b) x h) w = beside_past (ended b) [] x (visit_par_related h w)

-- from missions to live trees

fresh_negated : (ts : Trees) → fresh_kids (negated ts) ≡ all_not (fresh_kids ts)
fresh_negated nil = refl
fresh_negated (cons t ts) = ap (kid pending (live_not (fresh t))) (fresh_negated ts)

fresh_followed : (ts us : Trees) → fresh_kids (followed_by ts us) ≡ joined (fresh_kids ts) (fresh_kids us)
fresh_followed nil us = refl
fresh_followed (cons t ts) us = ap (kid pending (fresh t)) (fresh_followed ts us)

fresh_forgotten : (ts : Trees) → forgotten (fresh_kids ts) ≡ fresh_kids ts
fresh_forgotten nil = refl
fresh_forgotten (cons t ts) = ap (kid pending (fresh t)) (fresh_forgotten ts)

size_fresh : (ts : Trees) → size (fresh_kids ts) ≡ width ts
size_fresh nil = refl
size_fresh (cons t ts) = ap suc (size_fresh ts)

fresh_spliced : (kind : GroupKind) (ts us vs : Trees) →
    Cold (goes_on kind) (remembers kind) (fresh_kids (followed_by ts (cons (group kind us) vs))) (fresh_kids (followed_by ts (followed_by us vs)))
fresh_spliced kind nil us vs =
    rw (fresh_followed us vs, sym (fresh_forgotten us)) (cold_here (fresh_kids us) (fresh_kids vs))
fresh_spliced kind (cons t ts) us vs = cold_there (fresh t) (fresh_spliced kind ts us vs)

mirror_need : (n N : ℕ) → 1 ≤ n → n ≤ N → n + ((N - n) + 1) ≡ suc N
mirror_need n N h i = omega arith

mirror_group : (kind : GroupKind) (ks : Kids) → Related (live_not (live_group (goes_on kind) (remembers kind) ks)) (live_group (goes_on (mirror kind)) (remembers (mirror kind)) (all_not ks))
mirror_group Seq ks = related.not_group on_pass false ks
mirror_group Fall ks = related.not_group on_fail false ks
mirror_group Mseq ks = related.not_group on_pass true ks
mirror_group Mfall ks = related.not_group on_fail true ks

mirror_again : (kind : LoopKind) (times : ℕ) (x : Live) → Related (live_not (live_loop (counts_on kind) times 0 x)) (live_loop (counts_on (mirror_loop kind)) times 0 (live_not x))
mirror_again Retry times x = related.not_loop on_fail times 0 x
mirror_again Repeat times x = related.not_loop on_pass times 0 x

mutual
  pub fresh_related : {t u : Tree} → Step t u → Related (fresh t) (fresh u)
  fresh_related (Step.not_below_group kind ts) = rw (fresh_negated ts) (mirror_group kind (fresh_kids ts))
  fresh_related (Step.not_below_loop kind times t) = mirror_again kind times (fresh t)
  fresh_related (Step.not_below_par need ts h i) =
      rw (fresh_negated ts)
      (related.not_par need ((width ts - need) + 1) (fresh_kids ts) h (omega arith) (rw (size_fresh ts) (mirror_need need (width ts) h i)))
  fresh_related (Step.not_not t) = related.not_not (fresh t)
  fresh_related (Step.only_child kind t) = related.only_kid (goes_on kind) (remembers kind) (fresh t)
  fresh_related (Step.group_in_group kind ts us vs) =
      related.spliced (goes_on kind) (remembers kind) (cold_warm (goes_on kind) (remembers kind) (fresh_spliced kind ts us vs))
  fresh_related (Step.in_group kind s) = related.below_group (goes_on kind) (remembers kind) (fresh_related_in s)
  fresh_related (Step.in_par need s) = related.below_par need (fresh_related_in s)
  fresh_related (Step.in_not s) = related.below_not (fresh_related s)
  fresh_related (Step.in_loop kind times s) = related.below_loop (counts_on kind) times 0 (fresh_related s)

  fresh_related_in : {ts us : Trees} → StepIn ts us → RelatedIn (fresh_kids ts) (fresh_kids us)
  fresh_related_in (StepIn.here ts s) = at_kid pending (fresh_kids ts) (fresh_related s)
  fresh_related_in (StepIn.there t s) = past_kid pending (fresh t) (fresh_related_in s)
