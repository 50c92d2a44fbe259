-- The tree of a live tree, its memory left out.
use Rattle.std.specs.Prelude.{Bool, true, false}
use Rattle.mission.specs.declared.node.GroupKind.{GroupKind}
use Rattle.mission.specs.declared.node.GroupKind.TheVariants.{Seq, Fall, Mseq, Mfall}
use Rattle.mission.specs.declared.node.LoopKind.{LoopKind}
use Rattle.mission.specs.declared.node.LoopKind.TheVariants.{Retry, Repeat}
use Rattle.mission.specs.Trees.{Tree, leaf, group, par, neg, again, Trees, nil, cons}
use Rattle.rules.specs.Live.{Polarity, on_pass, on_fail, Live, live_leaf, live_group, live_par, live_not, live_loop, Kids, no_kids, kid}

abbrev pub kind_of : Polarity → Bool → GroupKind
kind_of on_pass true = Mseq
kind_of on_pass false = Seq
kind_of on_fail true = Mfall
kind_of on_fail false = Fall

abbrev pub loop_of : Polarity → LoopKind
loop_of on_pass = Repeat
loop_of on_fail = Retry

-- the tree of a live tree
abbrev mutual
  pub bare : Live → Tree
  bare (live_leaf l) = leaf l
  bare (live_group p m ks) = group (kind_of p m) (bare_kids ks)
  bare (live_par need ks) = par need (bare_kids ks)
  bare (live_not x) = neg (bare x)
  bare (live_loop p times n x) = again (loop_of p) times (bare x)

  pub bare_kids : Kids → Trees
  bare_kids no_kids = nil
  bare_kids (kid r x ks) = cons (bare x) (bare_kids ks)
