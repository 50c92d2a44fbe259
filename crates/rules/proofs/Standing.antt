-- Where skill k stands in a live tree: nowhere, or at one place; and whether that place may run.
use Rattle.std.proofs.Common.{◌≡◌, ℕ, zero, suc, ◌+◌, Bool, true, false, refl, arith}
use Rattle.mission.specs.Trees.{Leaf, skill, count, ability, Tree, leaf, group, par, neg, again, Trees, nil, cons}
use Rattle.rules.specs.Live.{Polarity, on_pass, on_fail, goes_on, remembers, counts_on, pending, ended, Live, live_leaf, Kids, kid, fresh, fresh_kids, cleared, cleared_kids, forgotten}
use Rattle.rules.specs.Missions.{leaf_names, names, names_all}
use Rattle.rules.specs.Visiting.{behind, later, after_par}
pub use Rattle.rules.specs.Stands.{Other, Absent, AbsentIn, Stands, StandsGroup, StandsPar, absent_leaf, absent_group, absent_par, absent_not, absent_loop, absent_none, absent_kid, at_leaf, at_group, at_par, at_not, at_loop, group_here, group_kept, group_past, group_free, group_waits, par_here, par_kept, par_there}

abbrev pub Somewhere : ℕ → Live → Type 0
Somewhere k x = (b : Bool) × Stands k b x

abbrev pub SomewhereGroup : ℕ → Bool → Kids → Type 0
SomewhereGroup k m ks = (b : Bool) × StandsGroup k m b ks

abbrev pub SomewherePar : ℕ → Kids → Type 0
SomewherePar k ks = (b : Bool) × StandsPar k b ks

-- absent, whatever is cleared or forgotten

mutual
  pub clear_absent : {k : ℕ} {x : Live} → Absent k x → Absent k (cleared x)
  clear_absent (absent_leaf l h) = absent_leaf l h
  clear_absent (absent_group p m h) = absent_group p m (clear_absent_in h)
  clear_absent (absent_par need h) = absent_par need (clear_absent_in h)
  clear_absent (absent_not h) = absent_not (clear_absent h)
  clear_absent (absent_loop p times n h) = absent_loop p times 0 (clear_absent h)

  pub clear_absent_in : {k : ℕ} {ks : Kids} → AbsentIn k ks → AbsentIn k (cleared_kids ks)
  clear_absent_in absent_none = absent_none
  clear_absent_in (absent_kid r h i) = absent_kid pending (clear_absent h) (clear_absent_in i)

pub forget_absent : {k : ℕ} {ks : Kids} → AbsentIn k ks → AbsentIn k (forgotten ks)
forget_absent absent_none = absent_none
forget_absent (absent_kid r h i) = absent_kid pending h (forget_absent i)

pub after_par_absent : {k : ℕ} {ks : Kids} → AbsentIn k ks → AbsentIn k (after_par ks)
after_par_absent absent_none = absent_none
after_par_absent (absent_kid pending h i) = absent_kid pending (clear_absent h) (after_par_absent i)
after_par_absent (absent_kid (ended b) h i) = absent_kid pending h (after_par_absent i)

pub later_absent : {k : ℕ} (m : Bool) {ks : Kids} → AbsentIn k ks → AbsentIn k (later m ks)
later_absent true h = h
later_absent false h = clear_absent_in h

-- somewhere, whatever is cleared or forgotten

pub pending_before : {k : ℕ} (m : Bool) {x : Live} {ks : Kids} → Absent k x → SomewhereGroup k m ks → SomewhereGroup k m (kid pending x ks)
pending_before true h s = (false, group_waits s.0 h s.1)
pending_before false h s = (s.0, group_free s.0 h s.1)

mutual
  pub clear_stands : {k : ℕ} {b : Bool} {x : Live} → Stands k b x → Somewhere k (cleared x)
  clear_stands (at_leaf j d t e) = (true, at_leaf j d t e)
  clear_stands (at_group p m b h) = let s = clear_stands_group h in (s.0, at_group p m s.0 s.1)
  clear_stands (at_par need b h) = let s = clear_stands_par h in (s.0, at_par need s.0 s.1)
  clear_stands (at_not b h) = let s = clear_stands h in (s.0, at_not s.0 s.1)
  clear_stands (at_loop p times n b h) = let s = clear_stands h in (s.0, at_loop p times 0 s.0 s.1)

  pub clear_stands_group : {k : ℕ} {m b : Bool} {ks : Kids} → StandsGroup k m b ks → SomewhereGroup k m (cleared_kids ks)
  clear_stands_group (group_here m b h i) = let s = clear_stands h in (s.0, group_here m s.0 s.1 (clear_absent_in i))
  clear_stands_group (group_kept m e b h i) = let s = clear_stands h in (s.0, group_here m s.0 s.1 (clear_absent_in i))
  clear_stands_group (group_past m e b h i) = pending_before m (clear_absent h) (clear_stands_group i)
  clear_stands_group (group_free b h i) = pending_before false (clear_absent h) (clear_stands_group i)
  clear_stands_group (group_waits b h i) = pending_before true (clear_absent h) (clear_stands_group i)

  pub clear_stands_par : {k : ℕ} {b : Bool} {ks : Kids} → StandsPar k b ks → SomewherePar k (cleared_kids ks)
  clear_stands_par (par_here b h i) = let s = clear_stands h in (s.0, par_here s.0 s.1 (clear_absent_in i))
  clear_stands_par (par_kept e b h i) = let s = clear_stands h in (s.0, par_here s.0 s.1 (clear_absent_in i))
  clear_stands_par (par_there r b h i) = let s = clear_stands_par i in (s.0, par_there pending s.0 (clear_absent h) s.1)

pub forget_stands : {k : ℕ} {m b : Bool} {ks : Kids} → StandsGroup k m b ks → SomewhereGroup k m (forgotten ks)
forget_stands (group_here m b h i) = (b, group_here m b h (forget_absent i))
forget_stands (group_kept m e b h i) = (b, group_here m b h (forget_absent i))
forget_stands (group_past m e b h i) = pending_before m h (forget_stands i)
forget_stands (group_free b h i) = pending_before false h (forget_stands i)
forget_stands (group_waits b h i) = pending_before true h (forget_stands i)

pub after_par_stands : {k : ℕ} {b : Bool} {ks : Kids} → StandsPar k b ks → SomewherePar k (after_par ks)
after_par_stands (par_here b h i) = let s = clear_stands h in (s.0, par_here s.0 s.1 (after_par_absent i))
after_par_stands (par_kept e b h i) = (b, par_here b h (after_par_absent i))
after_par_stands (par_there pending b h i) = let s = after_par_stands i in (s.0, par_there pending s.0 (clear_absent h) s.1)
after_par_stands (par_there (ended e) b h i) = let s = after_par_stands i in (s.0, par_there pending s.0 h s.1)

-- a child that a group has gone past, without the skill and with it

pub gone_past : {k : ℕ} (p : Polarity) (m : Bool) (b : Bool) {x : Live} {ks : Kids} → Absent k x → StandsGroup k m b ks → StandsGroup k m b (kid (behind p m) x ks)
gone_past on_pass true b h i = group_past true true b h i
gone_past on_fail true b h i = group_past true false b h i
gone_past p false b h i = group_free b h i

pub left_behind : {k : ℕ} (p : Polarity) (m : Bool) (b : Bool) {x : Live} {ks : Kids} → Stands k b x → AbsentIn k ks → SomewhereGroup k m (kid (behind p m) x ks)
left_behind on_pass true b h i = (false, group_kept true true b h i)
left_behind on_fail true b h i = (false, group_kept true false b h i)
left_behind p false b h i = (b, group_here false b h i)

-- in a fresh tree

leaf_absent : (k : ℕ) (l : Leaf) → leaf_names k l ≡ 0 → Other k l
leaf_absent k (skill j d t) e = grind arith
leaf_absent k (count key least) e = tt
leaf_absent k (ability key least) e = tt

mutual
  fresh_absent : (t : Tree) (k : ℕ) → names t k ≡ 0 → Absent k (fresh t)
  fresh_absent (leaf l) k e = absent_leaf l (leaf_absent k l e)
  fresh_absent (group kind ts) k e = absent_group (goes_on kind) (remembers kind) (fresh_absent_in ts k e)
  fresh_absent (par need ts) k e = absent_par need (fresh_absent_in ts k e)
  fresh_absent (neg t) k e = absent_not (fresh_absent t k e)
  fresh_absent (again kind times t) k e = absent_loop (counts_on kind) times 0 (fresh_absent t k e)

  fresh_absent_in : (ts : Trees) (k : ℕ) → names_all ts k ≡ 0 → AbsentIn k (fresh_kids ts)
  fresh_absent_in nil k e = absent_none
  fresh_absent_in (cons t ts) k e = absent_kid pending (fresh_absent t k (omega arith)) (fresh_absent_in ts k (omega arith))

-- a sum of 1
data Parted (a b : ℕ) : Type 0 where
  first : a ≡ 1 → b ≡ 0 → Parted a b
  second : a ≡ 0 → b ≡ 1 → Parted a b

parted : (a b : ℕ) → a + b ≡ 1 → Parted a b
parted zero b e = second refl (omega arith)
parted (suc zero) b e = first refl (omega arith)
parted (suc (suc a)) b e = absurd (omega arith)

leaf_stands : (k : ℕ) (l : Leaf) → leaf_names k l ≡ 1 → Somewhere k (live_leaf l)
leaf_stands k (skill j d t) e = (true, at_leaf j d t (grind arith))
leaf_stands k (count key least) e = absurd (omega arith)
leaf_stands k (ability key least) e = absurd (omega arith)

mutual
  pub fresh_stands : (t : Tree) (k : ℕ) → names t k ≡ 1 → Somewhere k (fresh t)
  fresh_stands (leaf l) k e = leaf_stands k l e
  fresh_stands (group kind ts) k e = let s = fresh_stands_group ts (remembers kind) k e in (s.0, at_group (goes_on kind) (remembers kind) s.0 s.1)
  fresh_stands (par need ts) k e = let s = fresh_stands_par ts k e in (s.0, at_par need s.0 s.1)
  fresh_stands (neg t) k e = let s = fresh_stands t k e in (s.0, at_not s.0 s.1)
  fresh_stands (again kind times t) k e = let s = fresh_stands t k e in (s.0, at_loop (counts_on kind) times 0 s.0 s.1)

  fresh_stands_group : (ts : Trees) (m : Bool) (k : ℕ) → names_all ts k ≡ 1 → SomewhereGroup k m (fresh_kids ts)
  fresh_stands_group nil m k e = absurd (omega arith)
  fresh_stands_group (cons t ts) m k e =
      elim (parted (names t k) (names_all ts k) e) [
        | first a b ↦ (let s = fresh_stands t k a in (s.0, group_here m s.0 s.1 (fresh_absent_in ts k b)))
        | second a b ↦ pending_before m (fresh_absent t k a) (fresh_stands_group ts m k b)
      ]

  fresh_stands_par : (ts : Trees) (k : ℕ) → names_all ts k ≡ 1 → SomewherePar k (fresh_kids ts)
  fresh_stands_par nil k e = absurd (omega arith)
  fresh_stands_par (cons t ts) k e =
      elim (parted (names t k) (names_all ts k) e) [
        | first a b ↦ (let s = fresh_stands t k a in (s.0, par_here s.0 s.1 (fresh_absent_in ts k b)))
        | second a b ↦ (let s = fresh_stands_par ts k b in (s.0, par_there pending s.0 (fresh_absent t k a) s.1))
      ]
