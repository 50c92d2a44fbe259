-- The number, the layer and the line of each refusal of a bank.
use Rattle.std.specs.Prelude.{ℕ}
use Rattle.fault.specs.declared.layer.Layer.{Layer}
use Rattle.fault.specs.declared.layer.Layer.TheVariants.{Bank}
use Rattle.bank.specs.declared.bank_fault.BankFault.{BankFault}
use Rattle.bank.specs.declared.bank_fault.BankFault.TheVariants.{OutOfRange, Beyond, Running, Idle}

abbrev pub number : BankFault → ℕ
number OutOfRange = 2
number Beyond = 17
number Running = 18
number Idle = 19

abbrev pub layer : BankFault → Layer
layer OutOfRange = Bank
layer Beyond = Bank
layer Running = Bank
layer Idle = Bank

abbrev pub line : BankFault → ℕ
line OutOfRange = 0
line Beyond = 0
line Running = 0
line Idle = 0
