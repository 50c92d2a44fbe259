-- The words of each refusal of a mission text.
use Rattle.std.specs.Prelude.{ℕ, List, codes}
use Rattle.mission.specs.declared.breach.Breach.{Breach}
use Rattle.mission.specs.declared.breach.Breach.TheVariants.{Place, Level, Twice, Key, Need}
use Rattle.mission.specs.declared.flaw.Flaw.{Flaw}
use Rattle.mission.specs.declared.flaw.Flaw.TheVariants.{Form, Range}
use Rattle.mission.specs.declared.tree_fault.TreeFault.{TreeFault}
use Rattle.mission.specs.declared.tree_fault.TreeFault.TheVariants.{Line, Node}

abbrev pub flaw_words : Flaw → List ℕ
flaw_words Form = codes "the line is not of its form, is missing, or follows the last node"
flaw_words Range = codes "a number of the line is outside its range"

abbrev pub breach_words : Breach → List ℕ
breach_words Place = codes "the node finds no open place, or places stay open after the last node"
breach_words Level = codes "the node is below level 16"
breach_words Twice = codes "the skill was named on an earlier line"
breach_words Key = codes "the key is not below its declared number"
breach_words Need = codes "need exceeds kids"

abbrev pub words : TreeFault → List ℕ
words (Line f) = flaw_words f.flaw
words (Node breach line) = breach_words breach
