-- Pairs laid over absent keys are as many as the keys.
use Rattle.std.specs.Prelude.{◌≡◌, ℕ, List, [], ◌∷◌, length, Some, None}
use Rattle.std.proofs.Common.{◌∙◌}
use Rattle.std.proofs.lemmas.List.{length-set, length-replicate}
use Rattle.board.specs.declared.pair.Pair.{Pair}
use Rattle.board.specs.Laying.{laid}

pub length_laid : {E : Type 0} (size : ℕ) (ps : List (Pair E)) → length (laid size ps) ≡ size
length_laid size [] = length-replicate size None
length_laid size (p ∷ ps) = length-set (laid size ps) p.key (Some p.held) ∙ length_laid size ps
