-- Pairs in a list laid over absent keys, and how many keys hold an entry.
use Rattle.std.specs.Prelude.{ℕ, List, [], ◌∷◌, replicate, Some, None, Option, count_by, is_some, slice_set}
use Rattle.board.specs.declared.pair.Pair.{Pair}

-- what the pairs hold of so many keys
abbrev pub laid : {E : Type 0} → ℕ → List (Pair E) → List (Option E)
laid size [] = replicate size None
laid size (p ∷ ps) = slice_set (laid size ps) p.key (Some p.held)

-- how many keys hold an entry
abbrev pub present : {E : Type 0} → List (Option E) → ℕ
present l = count_by is_some l
