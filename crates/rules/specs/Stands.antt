-- Where skill k stands in a live tree: nowhere, or at one place; and whether that place may run.
use Rattle.std.specs.Prelude.{◌≡◌, ℕ, Bool, true, false, Option, ◌==◌}
use Rattle.mission.specs.declared.node.Target.{Target}
use Rattle.mission.specs.Trees.{Leaf, skill, count, ability}
use Rattle.rules.specs.Live.{Polarity, Kept, pending, ended, Live, live_leaf, live_group, live_par, live_not, live_loop, Kids, no_kids, kid}

-- a leaf that is not of skill k
abbrev pub Other : ℕ → Leaf → Type 0
Other k (skill j d t) = (j == k) ≡ false
Other k (count key least) = Unit {0}
Other k (ability key least) = Unit {0}

mutual
  pub data Absent (k : ℕ) : Live → Type 0 where
    absent_leaf : (l : Leaf) → Other k l → Absent k (live_leaf l)
    absent_group : (p : Polarity) (m : Bool) {ks : Kids} → AbsentIn k ks → Absent k (live_group p m ks)
    absent_par : (need : ℕ) {ks : Kids} → AbsentIn k ks → Absent k (live_par need ks)
    absent_not : {x : Live} → Absent k x → Absent k (live_not x)
    absent_loop : (p : Polarity) (times n : ℕ) {x : Live} → Absent k x → Absent k (live_loop p times n x)

  pub data AbsentIn (k : ℕ) : Kids → Type 0 where
    absent_none : AbsentIn k no_kids
    absent_kid : (r : Kept) {x : Live} {ks : Kids} → Absent k x → AbsentIn k ks → AbsentIn k (kid r x ks)

-- at one place: true where it may run, false where it must be quiet, which is at a child with a kept
-- result and after the child that a group remembers
mutual
  pub data Stands (k : ℕ) : Bool → Live → Type 0 where
    at_leaf : (j : ℕ) (d : Option ℕ) (t : Target) → (j == k) ≡ true → Stands k true (live_leaf (skill j d t))
    at_group : (p : Polarity) (m : Bool) (b : Bool) {ks : Kids} → StandsGroup k m b ks → Stands k b (live_group p m ks)
    at_par : (need : ℕ) (b : Bool) {ks : Kids} → StandsPar k b ks → Stands k b (live_par need ks)
    at_not : (b : Bool) {x : Live} → Stands k b x → Stands k b (live_not x)
    at_loop : (p : Polarity) (times n : ℕ) (b : Bool) {x : Live} → Stands k b x → Stands k b (live_loop p times n x)

  pub data StandsGroup (k : ℕ) : Bool → Bool → Kids → Type 0 where
    group_here : (m : Bool) (b : Bool) {x : Live} {ks : Kids} → Stands k b x → AbsentIn k ks → StandsGroup k m b (kid pending x ks)
    group_kept : (m : Bool) (e : Bool) (b : Bool) {x : Live} {ks : Kids} → Stands k b x → AbsentIn k ks → StandsGroup k m false (kid (ended e) x ks)
    group_past : (m : Bool) (e : Bool) (b : Bool) {x : Live} {ks : Kids} → Absent k x → StandsGroup k m b ks → StandsGroup k m b (kid (ended e) x ks)
    group_free : (b : Bool) {x : Live} {ks : Kids} → Absent k x → StandsGroup k false b ks → StandsGroup k false b (kid pending x ks)
    group_waits : (b : Bool) {x : Live} {ks : Kids} → Absent k x → StandsGroup k true b ks → StandsGroup k true false (kid pending x ks)

  pub data StandsPar (k : ℕ) : Bool → Kids → Type 0 where
    par_here : (b : Bool) {x : Live} {ks : Kids} → Stands k b x → AbsentIn k ks → StandsPar k b (kid pending x ks)
    par_kept : (e : Bool) (b : Bool) {x : Live} {ks : Kids} → Stands k b x → AbsentIn k ks → StandsPar k false (kid (ended e) x ks)
    par_there : (r : Kept) (b : Bool) {x : Live} {ks : Kids} → Absent k x → StandsPar k b ks → StandsPar k b (kid r x ks)

-- a place that must be quiet is
abbrev pub Quiet : Bool → Bool → Type 0
Quiet b running = b ≡ false → running ≡ false
