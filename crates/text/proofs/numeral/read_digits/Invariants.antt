-- The number so far is above zero and held, and what is left is read on from it.
use Rattle.std.proofs.Common.{◌≡◌, ◌≤ℤ◌, ◌<ℤ◌, min, pos, nat_abs, drop}
use Rattle.std.specs.Option.{option_map}
use Rattle.text.specs.Numeral.{above, reads_kept, most}
use Rattle.text.proofs.numeral.read_digits.Given as goal

abbrev pub invariant-loop-digit : goal.invariant-loop-digit
invariant-loop-digit l = record {
  positive : pos 0 <ℤ l.number;
  held : l.number ≤ℤ pos most;
  left : reads_kept (nat_abs l.number) (drop l.digit-index l.rest) ≡ option_map (λ n. min n most) (above l.digits);
}
