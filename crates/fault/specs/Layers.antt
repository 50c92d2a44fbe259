-- Each layer's word, as refusals print it.
use Rattle.std.specs.Prelude.{ℕ, List, codes}
use Rattle.fault.specs.declared.layer.Layer.{Layer}
use Rattle.fault.specs.declared.layer.Layer.TheVariants.{Text, Tree, Sitting, Bank, Board}

abbrev pub word : Layer → List ℕ
word Text = codes "text"
word Tree = codes "tree"
word Sitting = codes "sitting"
word Bank = codes "bank"
word Board = codes "board"
