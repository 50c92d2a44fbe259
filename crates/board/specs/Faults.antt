-- The refusals of a board, each with its number, its layer and its line.
use Rattle.std.specs.Prelude.{◌≡◌, ℕ, ◌<◌}
use Rattle.fault.specs.declared.layer.Layer.{Layer}
use Rattle.fault.specs.declared.layer.Layer.TheVariants.{Board}
use Rattle.board.specs.declared.board_fault.BoardFault.{BoardFault}
use Rattle.board.specs.declared.board_fault.BoardFault.TheVariants.{OutOfRange, Beyond}

abbrev pub number : BoardFault → ℕ
number OutOfRange = 2
number Beyond = 20

abbrev pub layer : BoardFault → Layer
layer OutOfRange = Board
layer Beyond = Board

abbrev pub line : BoardFault → ℕ
line OutOfRange = 0
line Beyond = 0

-- a size above 32 is refused, as out of range
abbrev pub TooLarge : (size : ℕ) → BoardFault → Type 0
TooLarge size e = (e ≡ OutOfRange) × (32 < size)
