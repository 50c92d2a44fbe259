-- A live tree: a mission's tree with its memory. Whether a skill runs is not in it: the bank knows.
use Rattle.std.specs.Prelude.{ℕ, Bool, true, false}
use Rattle.mission.specs.declared.node.GroupKind.{GroupKind}
use Rattle.mission.specs.declared.node.GroupKind.TheVariants.{Seq, Fall, Mseq, Mfall}
use Rattle.mission.specs.declared.node.LoopKind.{LoopKind}
use Rattle.mission.specs.declared.node.LoopKind.TheVariants.{Retry, Repeat}
use Rattle.mission.specs.Trees.{Leaf, Tree, leaf, group, par, neg, again, Trees, nil, cons}

-- seq and fall, mseq and mfall, repeat and retry are each one rule, which goes on after a pass or
-- after a fail
pub data Polarity : Type 0 where
  on_pass on_fail : Polarity

abbrev pub goes_on : GroupKind → Polarity
goes_on Seq = on_pass
goes_on Fall = on_fail
goes_on Mseq = on_pass
goes_on Mfall = on_fail

-- whether a group goes on at the child that ran
abbrev pub remembers : GroupKind → Bool
remembers Seq = false
remembers Fall = false
remembers Mseq = true
remembers Mfall = true

-- what a loop counts
abbrev pub counts_on : LoopKind → Polarity
counts_on Retry = on_fail
counts_on Repeat = on_pass

-- what a node remembers of a child: nothing, or that it passed (true) or failed. A par keeps results
-- so; an mseq or mfall remembers the first child of which it remembers nothing.
pub data Kept : Type 0 where
  pending : Kept
  ended : Bool → Kept

mutual
  pub data Live : Type 0 where
    live_leaf : Leaf → Live
    live_group : Polarity → Bool → Kids → Live
    live_par : ℕ → Kids → Live
    live_not : Live → Live
    -- the times, and how many are counted
    live_loop : Polarity → ℕ → ℕ → Live → Live

  pub data Kids : Type 0 where
    no_kids : Kids
    kid : Kept → Live → Kids → Kids

-- a tree with no memory yet
abbrev mutual
  pub fresh : Tree → Live
  fresh (leaf l) = live_leaf l
  fresh (group kind ts) = live_group (goes_on kind) (remembers kind) (fresh_kids ts)
  fresh (par need ts) = live_par need (fresh_kids ts)
  fresh (neg t) = live_not (fresh t)
  fresh (again kind times t) = live_loop (counts_on kind) times 0 (fresh t)

  pub fresh_kids : Trees → Kids
  fresh_kids nil = no_kids
  fresh_kids (cons t ts) = kid pending (fresh t) (fresh_kids ts)

-- all memory at a node and below it cleared
abbrev mutual
  pub cleared : Live → Live
  cleared (live_leaf l) = live_leaf l
  cleared (live_group p m ks) = live_group p m (cleared_kids ks)
  cleared (live_par need ks) = live_par need (cleared_kids ks)
  cleared (live_not x) = live_not (cleared x)
  cleared (live_loop p times n x) = live_loop p times 0 (cleared x)

  pub cleared_kids : Kids → Kids
  cleared_kids no_kids = no_kids
  cleared_kids (kid r x ks) = kid pending (cleared x) (cleared_kids ks)

-- what a node remembers of its own children forgotten
abbrev pub forgotten : Kids → Kids
forgotten no_kids = no_kids
forgotten (kid r x ks) = kid pending x (forgotten ks)
