-- The refusals of mission texts: number, layer and line of each.
use Rattle.std.specs.Prelude.{ℕ}
use Rattle.fault.specs.declared.layer.Layer.{Layer}
use Rattle.fault.specs.declared.layer.Layer.TheVariants.{Text, Tree}
use Rattle.mission.specs.declared.flaw.Flaw.{Flaw}
use Rattle.mission.specs.declared.flaw.Flaw.TheVariants.{Form, Range}
use Rattle.mission.specs.declared.tree_fault.TreeFault.{TreeFault}
use Rattle.mission.specs.declared.tree_fault.TreeFault.TheVariants.{Line, Node}
use Rattle.mission.specs.Lawful.{number}

abbrev pub flaw_number : Flaw → ℕ
flaw_number Form = 1
flaw_number Range = 2

abbrev pub text_layer : Layer
text_layer = Text

abbrev pub tree_number : TreeFault → ℕ
tree_number (Line f) = flaw_number f.flaw
tree_number (Node breach line) = number breach

abbrev pub tree_layer : TreeFault → Layer
tree_layer (Line f) = Text
tree_layer (Node breach line) = Tree

abbrev pub tree_line : TreeFault → ℕ
tree_line (Line f) = f.line
tree_line (Node breach line) = line
