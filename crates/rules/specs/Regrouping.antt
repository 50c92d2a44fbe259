-- Regrouping: the steps, at any node and either way, and chains of them. What lies between two
-- missions may exceed every size.
use Rattle.std.specs.Prelude.{ℕ, ◌+◌, ◌-◌, ◌≤◌}
use Rattle.mission.specs.declared.node.GroupKind.{GroupKind}
use Rattle.mission.specs.declared.node.GroupKind.TheVariants.{Seq, Fall, Mseq, Mfall}
use Rattle.mission.specs.declared.node.LoopKind.{LoopKind}
use Rattle.mission.specs.declared.node.LoopKind.TheVariants.{Retry, Repeat}
use Rattle.mission.specs.Trees.{Tree, group, par, neg, again, Trees, nil, cons, width}

abbrev pub mirror : GroupKind → GroupKind
mirror Seq = Fall
mirror Fall = Seq
mirror Mseq = Mfall
mirror Mfall = Mseq

abbrev pub mirror_loop : LoopKind → LoopKind
mirror_loop Retry = Repeat
mirror_loop Repeat = Retry

-- `not` above each
abbrev pub negated : Trees → Trees
negated nil = nil
negated (cons t ts) = cons (neg t) (negated ts)

abbrev pub followed_by : Trees → Trees → Trees
followed_by nil us = us
followed_by (cons t ts) us = cons t (followed_by ts us)

-- one step; a par has a need of 1 to its number of children, which every step keeps
mutual
  pub data Step : Tree → Tree → Type 0 where
    not_below_group : (kind : GroupKind) (ts : Trees) → Step (neg (group kind ts)) (group (mirror kind) (negated ts))
    not_below_loop : (kind : LoopKind) (times : ℕ) (t : Tree) → Step (neg (again kind times t)) (again (mirror_loop kind) times (neg t))
    not_below_par : (need : ℕ) (ts : Trees) → 1 ≤ need → need ≤ width ts → Step (neg (par need ts)) (par ((width ts - need) + 1) (negated ts))
    not_not : (t : Tree) → Step (neg (neg t)) t
    only_child : (kind : GroupKind) (t : Tree) → Step (group kind (cons t nil)) t
    group_in_group : (kind : GroupKind) (before inner after : Trees) →
        Step (group kind (followed_by before (cons (group kind inner) after))) (group kind (followed_by before (followed_by inner after)))
    in_group : (kind : GroupKind) {ts us : Trees} → StepIn ts us → Step (group kind ts) (group kind us)
    in_par : (need : ℕ) {ts us : Trees} → StepIn ts us → Step (par need ts) (par need us)
    in_not : {t u : Tree} → Step t u → Step (neg t) (neg u)
    in_loop : (kind : LoopKind) (times : ℕ) {t u : Tree} → Step t u → Step (again kind times t) (again kind times u)

  -- a step in one of several trees
  pub data StepIn : Trees → Trees → Type 0 where
    here : {t u : Tree} (ts : Trees) → Step t u → StepIn (cons t ts) (cons u ts)
    there : (t : Tree) {ts us : Trees} → StepIn ts us → StepIn (cons t ts) (cons t us)

-- any number of steps, each either way
pub data Chain : Tree → Tree → Type 0 where
  done : (t : Tree) → Chain t t
  step : {t u v : Tree} → Step t u → Chain u v → Chain t v
  step_back : {t u v : Tree} → Step u t → Chain u v → Chain t v
