-- What the nodes of a live tree remember, in preorder.
use Rattle.std.specs.Prelude.{ℕ, zero, suc, Bool, true, false, cond, List, [], ◌∷◌, ◌++◌, map}
use Rattle.std.specs.Simd.Lanes.{mask_l}
use Rattle.rules.specs.Live.{Kept, pending, ended, Live, live_leaf, live_group, live_par, live_not, live_loop, Kids, no_kids, kid}
use Rattle.rules.specs.Visiting.{is_pass, is_fail}
use Rattle.sitting.specs.Zipper.{leading, nodes_in}
use Rattle.sitting.specs.declared.memory.Memory.{Memory}
use Rattle.sitting.specs.declared.memory.Memory.TheVariants.{Nothing, Child, Results as KeptResults, Count}
use Rattle.sitting.specs.declared.memory.Results.{Results}

-- what is remembered of each child of a row
abbrev pub marks : Kids → List Kept
marks no_kids = []
marks (kid r x ks) = r ∷ marks ks

-- a group that has gone past these children
abbrev pub ahead_cell : Kids → Memory
ahead_cell no_kids = Nothing
ahead_cell (kid r x ks) = Child (nodes_in (kid r x ks))

abbrev pub group_cell : Bool → Kids → Memory
group_cell true ks = ahead_cell (leading ks)
group_cell false ks = Nothing

-- a par: a bit for each child that has passed and for each that has failed, once one has a result
abbrev pub any_ended : List Kept → Bool
any_ended [] = false
any_ended (pending ∷ rs) = any_ended rs
any_ended (ended b ∷ rs) = true

abbrev pub masks : List Kept → Results
masks rs = record { passed = mask_l (map is_pass rs); failed = mask_l (map is_fail rs) }

abbrev pub results_cell : List Kept → Memory
results_cell rs = cond (any_ended rs) (KeptResults (masks rs)) Nothing

abbrev pub loop_cell : ℕ → Memory
loop_cell zero = Nothing
loop_cell (suc n) = Count (suc n)

-- a cell for each node
abbrev mutual
  pub cells : Live → List Memory
  cells (live_leaf l) = Nothing ∷ []
  cells (live_group p m ks) = group_cell m ks ∷ cells_in ks
  cells (live_par need ks) = results_cell (marks ks) ∷ cells_in ks
  cells (live_not x) = Nothing ∷ cells x
  cells (live_loop p times n x) = loop_cell n ∷ cells x

  pub cells_in : Kids → List Memory
  cells_in no_kids = []
  cells_in (kid r x ks) = cells x ++ cells_in ks
