-- The refusals of a sitting, each with its number, its layer and its line.
use Rattle.std.specs.Prelude.{ℕ}
use Rattle.fault.specs.declared.layer.Layer.{Layer}
use Rattle.fault.specs.declared.layer.Layer.TheVariants.{Sitting}
use Rattle.bank.specs.Faults.{number as bank_number, layer as bank_layer}
use Rattle.board.specs.Faults.{number as board_number, layer as board_layer}
use Rattle.rules.specs.declared.sitting_fault.SittingFault.{SittingFault}
use Rattle.rules.specs.declared.sitting_fault.SittingFault.TheVariants.{PlaceOpen, PlaceClosed, SkillBeyond, SkillRuns, SkillsDiffer, BoardSmall, TraceLength, TraceFull, OtherSlip, Bank, Board}

abbrev pub number : SittingFault → ℕ
number PlaceOpen = 8
number PlaceClosed = 9
number SkillBeyond = 10
number SkillRuns = 11
number SkillsDiffer = 12
number BoardSmall = 13
number TraceLength = 14
number TraceFull = 15
number OtherSlip = 16
number (Bank fault) = bank_number fault
number (Board fault) = board_number fault

abbrev pub layer : SittingFault → Layer
layer PlaceOpen = Sitting
layer PlaceClosed = Sitting
layer SkillBeyond = Sitting
layer SkillRuns = Sitting
layer SkillsDiffer = Sitting
layer BoardSmall = Sitting
layer TraceLength = Sitting
layer TraceFull = Sitting
layer OtherSlip = Sitting
layer (Bank fault) = bank_layer fault
layer (Board fault) = board_layer fault

abbrev pub line : SittingFault → ℕ
line fault = 0
