-- What an outline means.
use Rattle.std.specs.Prelude.{take}
use Rattle.mission.specs.Lawful.{Shape}
use Rattle.mission.specs.declared.outline.Outline.{Outline}

abbrev pub shape : Outline → Shape
shape o = record { counts = o.declared.counts; abilities = o.declared.abilities; nodes = take o.declared.nodes o.nodes }
