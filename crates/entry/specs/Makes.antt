-- What making an entry or a part of one from plain numbers answers.
use Rattle.std.specs.Prelude.{◌≡◌, Bool, false, Result, MatchResult}
use Rattle.entry.specs.declared.entry_fault.EntryFault.{EntryFault}
use Rattle.entry.specs.declared.entry_fault.EntryFault.TheVariants.{OutOfRange}

-- what is made is as `made` says, and it is refused, as out of range, only where the numbers are not
-- good
abbrev pub Makes : {A : Type 0} → Result A EntryFault → (good : Bool) → (made : A → Type 0) → Type 0
Makes r good made = MatchResult r made (λ e. (e ≡ OutOfRange) × (good ≡ false))
