-- Where the nodes below each node end, by their places in preorder.
use Rattle.std.specs.Prelude.{ℕ, zero, suc, ◌+◌, List, [], ◌∷◌, ◌++◌}
use Rattle.mission.specs.Trees.{Tree, leaf, group, par, neg, again, Trees, nil, cons}

-- how many nodes
abbrev mutual
  pub span : Tree → ℕ
  span (leaf l) = 1
  span (group kind ts) = suc (spans ts)
  span (par need ts) = suc (spans ts)
  span (neg t) = suc (span t)
  span (again kind times t) = suc (span t)

  pub spans : Trees → ℕ
  spans nil = 0
  spans (cons t ts) = span t + spans ts

-- the ends of the nodes of a tree, or of several, that begin at place i
abbrev mutual
  pub ends : Tree → ℕ → List ℕ
  ends (leaf l) i = (i + 1) ∷ []
  ends (group kind ts) i = ((i + 1) + spans ts) ∷ all_ends ts (i + 1)
  ends (par need ts) i = ((i + 1) + spans ts) ∷ all_ends ts (i + 1)
  ends (neg t) i = ((i + 1) + span t) ∷ ends t (i + 1)
  ends (again kind times t) i = ((i + 1) + span t) ∷ ends t (i + 1)

  pub all_ends : Trees → ℕ → List ℕ
  all_ends nil i = []
  all_ends (cons t ts) i = ends t i ++ all_ends ts (i + span t)

-- the place past so many trees that begin at place i, by the end of each place
abbrev pub past : ℕ → (ℕ → ℕ) → ℕ → ℕ
past zero f i = i
past (suc n) f i = past n f (f i)
