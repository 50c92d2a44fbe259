-- The end of a skill's line.
use Rattle.std.specs.Prelude.{ℕ, List, [], ◌∷◌, codes}
use Rattle.text.specs.Fields.{field, spaced}
use Rattle.mission.specs.declared.node.Target.{Target}
use Rattle.mission.specs.Lines.{or_none, into_word, key_of, weight_of, raw_target}

-- where the mark goes, in three fields
abbrev pub target_fields : Target → List ℕ
target_fields t =
    spaced (field (codes "into") (into_word (raw_target t))) (field (codes "key") (or_none (key_of (raw_target t))) ∷ field (codes "weight") (or_none (weight_of (raw_target t))) ∷ [])
