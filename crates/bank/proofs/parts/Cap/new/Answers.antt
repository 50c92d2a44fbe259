use Rattle.std.proofs.Common.{refl, ap, ◌∙◌, arith}
use Rattle.bank.specs.Capping.{capped_skills}
use Rattle.bank.proofs.Caps.{held_zero}
use Rattle.bank.proofs.Halts.{capped_all_idle}
use Rattle.bank.proofs.parts.Cap.new.Goals as goal

pub invariant_of-result : goal.invariant_of-result
invariant_of-result g c = record { few = omega arith; whole = refl; held = held_zero c.args.limit 64 }

pub returns : goal.returns
returns g c =
    let l = g.B.Bank.skills c.args.below in
    (omega arith, ap (capped_skills c.args.limit _) c.halt_each.ensures ∙ capped_all_idle c.args.limit _ l)
