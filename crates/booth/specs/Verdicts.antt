-- What the program's verdict on a mission text says.
use Rattle.std.specs.Prelude.{◌≡◌, ℕ, List, length, vec_items, Ok, Err, Result}
use Rattle.mission.specs.declared.mission.Mission.{Mission}
use Rattle.mission.specs.Counting.{skill_count}
use Rattle.mission.specs.Missions.{meaning}
use Rattle.mission.specs.Texts.{text, FirstFault}
use Rattle.booth.specs.declared.verdict.Accepted.{Accepted}
use Rattle.booth.specs.declared.verdict.Unjudged.{Unjudged}
use Rattle.booth.specs.declared.verdict.Unjudged.TheVariants.{Refused, OutOfMemory}

-- accepted: the text is the one text of a mission, and what is printed is that text, with the mission's numbers of nodes
-- and of skill leaves; refused: with the text's first fault; without memory nothing is said of the text
abbrev pub Judged : List ℕ → Result Accepted Unjudged → Type 0
Judged t (Ok a) =
    (m : Mission) × (t ≡ text (meaning m)) × (vec_items a.text ≡ text (meaning m)) × (a.nodes ≡ length (meaning m).nodes) × (a.skills ≡ skill_count (meaning m).nodes)
Judged t (Err (Refused f)) = FirstFault t f
Judged t (Err (OutOfMemory e)) = Unit {0}
