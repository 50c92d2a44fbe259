use Rattle.std.proofs.Common.{◌≡◌, ◌-◌, slice_index_or}
use Rattle.sitting.specs.Ends.{past}
use Rattle.sitting.proofs.making.past.Given as goal

-- the trees that are left end where all of them do
abbrev pub invariant-loop : goal.invariant-loop
invariant-loop l =
    past (l.kids - l.counter) (λ i. slice_index_or l.ends i 0) l.at
    ≡ past l.fn.kids (λ i. slice_index_or l.fn.ends i 0) l.fn.from
