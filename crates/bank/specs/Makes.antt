-- What making a take or a bank from plain numbers answers.
use Rattle.std.specs.Prelude.{◌≡◌, Bool, false, Result, MatchResult}
use Rattle.bank.specs.declared.bank_fault.BankFault.{BankFault}
use Rattle.bank.specs.declared.bank_fault.BankFault.TheVariants.{OutOfRange}

-- what is made is as `made` says, and it is refused, as out of range, only where the numbers are not
-- good
abbrev pub Makes : {A : Type 0} → Result A BankFault → (good : Bool) → (made : A → Type 0) → Type 0
Makes r good made = MatchResult r made (λ e. (e ≡ OutOfRange) × (good ≡ false))
