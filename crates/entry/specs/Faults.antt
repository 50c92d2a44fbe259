-- The refusal of a number out of range at making an entry or a part of one.
use Rattle.std.specs.Prelude.{ℕ}
use Rattle.fault.specs.declared.layer.Layer.{Layer}
use Rattle.fault.specs.declared.layer.Layer.TheVariants.{Board}
use Rattle.entry.specs.declared.entry_fault.EntryFault.{EntryFault}
use Rattle.entry.specs.declared.entry_fault.EntryFault.TheVariants.{OutOfRange}

abbrev pub number : EntryFault → ℕ
number OutOfRange = 2

abbrev pub layer : EntryFault → Layer
layer OutOfRange = Board

abbrev pub line : EntryFault → ℕ
line OutOfRange = 0
