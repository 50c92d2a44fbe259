-- When what a call works on agrees with the world of the rules: the same bank and boards, the world's lines
-- laid over the trace as it was found, and a ledger that follows the world.
use Rattle.std.specs.Prelude.{◌≡◌, ℕ, ◌<◌, min, true, ◌⊎◌, List, [], ◌∷◌, length, Some, None, Option, slice_index_or}
use Rattle.bank.specs.Skills.{Skill}
use Rattle.mission.specs.declared.node.Target.{Target}
use Rattle.mission.specs.declared.node.Target.TheVariants.{Nowhere, Count as CountKey, Ability as AbilityKey}
use Rattle.mission.specs.Trees.{Leaf, skill, count, ability, Tree, leaf, group, par, neg, again, Trees, nil, cons}
use Rattle.rules.specs.declared.line.Line.{Line}
use Rattle.rules.specs.Leaves.{World, Users, runs_in}
use Rattle.rules.specs.Sittings.{has}
use Rattle.sitting.specs.Desks.{Bench, bench, Boards, state_of, is_running}
use Rattle.sitting.specs.declared.ledger.Ledger.{Ledger}

-- the users name this skill with this device
abbrev pub Named : Users → ℕ → Option ℕ → Type 0
Named [] k d = ⊥
Named (u ∷ us) k d = ((u.0 ≡ k) × (u.1 ≡ d)) ⊎ Named us k d

-- no skill is named with two devices
pub record Once (us : Users) : Type 0 where
  pub device : (k : ℕ) (d e : Option ℕ) → Named us k d → Named us k e → d ≡ e

-- every named skill is below the width of a bank
pub record Wide (us : Users) (width : ℕ) : Type 0 where
  pub within : (k : ℕ) (d : Option ℕ) → Named us k d → k < width

-- the numbers of named skills and of their devices are in range
pub record Ranged (us : Users) : Type 0 where
  pub skills : (k : ℕ) (d : Option ℕ) → Named us k d → k < 64
  pub devices : (k d : ℕ) → Named us k (Some d) → d < 32

-- the skill that was started last with a device
abbrev pub holder_of : Ledger → ℕ → Option ℕ
holder_of l d = slice_index_or l.holders d None

-- a running named skill holds its device, and a device is held only by a skill that is named with it
pub record Holds (us : Users) (l : Ledger) : Type 0 where
  pub holders : length l.holders ≡ 32
  pub held : (k d : ℕ) → Named us k (Some d) → is_running (state_of l k) ≡ true → holder_of l d ≡ Some k
  pub named : (d k : ℕ) → holder_of l d ≡ Some k → Named us k (Some d)

-- a ledger follows a bank and the lines written: in tick t, over a trace of n rows
pub record Follows (us : Users) (t n : ℕ) (bank : List Skill) (lines : List Line) (l : Ledger) : Type 0 where
  pub states : length l.states ≡ 64
  pub tick : l.tick ≡ t
  pub used : l.used ≡ min (length lines) n
  pub runs : (k : ℕ) (d : Option ℕ) → Named us k d → is_running (state_of l k) ≡ runs_in bank k

-- a named skill's leaf runs exactly if the skill is on the front
pub record Fronted (us : Users) (front : List ℕ) (l : Ledger) : Type 0 where
  pub is : (k : ℕ) (d : Option ℕ) → Named us k d → is_running (state_of l k) ≡ has k front

-- lines laid over rows from their beginning, as far as the rows go
abbrev pub laid_over : List Line → List Line → List Line
laid_over [] ls = []
laid_over (r ∷ rs) [] = r ∷ rs
laid_over (r ∷ rs) (l ∷ ls) = l ∷ laid_over rs ls

-- the bench and the boards of a world, over a trace found as `base`
abbrev pub bench_for : List Line → World → Ledger → Bench
bench_for base w l = bench w.bank (laid_over base w.lines) l

abbrev pub boards_for : World → Boards
boards_for w = (w.counts, w.abilities)

-- enough for stops
pub record Agrees (us : Users) (t : ℕ) (base : List Line) (w : World) (b : Bench) (s : Boards) : Type 0 where
  pub bench : b ≡ bench_for base w b.ledger
  pub boards : s ≡ boards_for w
  pub follows : Follows us t (length base) w.bank w.lines b.ledger

-- enough for visits
pub record Works (us : Users) (t : ℕ) (base : List Line) (w : World) (b : Bench) (s : Boards) : Type 0 where
  pub agrees : Agrees us t base w b s
  pub holds : Holds us b.ledger
  pub wide : Wide us (length w.bank)

-- a bank and boards as large as those of another world
pub record SameSizes (w v : World) : Type 0 where
  pub bank : length v.bank ≡ length w.bank
  pub counts : length v.counts ≡ length w.counts
  pub abilities : length v.abilities ≡ length w.abilities

-- what leaves of a tree need: a skill is named with its device, and its target's key is below the boards' sizes

abbrev pub KeyBelow : ℕ → ℕ → Target → Type 0
KeyBelow counts abilities Nowhere = Unit {0}
KeyBelow counts abilities (CountKey key) = key < counts
KeyBelow counts abilities (AbilityKey key weight) = key < abilities

abbrev pub LeafFits : Users → ℕ → ℕ → Leaf → Type 0
LeafFits us counts abilities (skill k device target) = Named us k device × KeyBelow counts abilities target
LeafFits us counts abilities (count key least) = Unit {0}
LeafFits us counts abilities (ability key least) = Unit {0}

-- every leaf of a tree
abbrev mutual
  pub EveryLeaf : (Leaf → Type 0) → Tree → Type 0
  EveryLeaf P (leaf l) = P l
  EveryLeaf P (group kind ts) = EveryLeafIn P ts
  EveryLeaf P (par need ts) = EveryLeafIn P ts
  EveryLeaf P (neg t) = EveryLeaf P t
  EveryLeaf P (again kind times t) = EveryLeaf P t

  pub EveryLeafIn : (Leaf → Type 0) → Trees → Type 0
  EveryLeafIn P nil = Unit {0}
  EveryLeafIn P (cons t ts) = EveryLeaf P t × EveryLeafIn P ts
