use Rattle.std.proofs.Common.{rules}
use Rattle.entry.specs.Products.{product_low, product_high}
use Rattle.entry.proofs.ability.gain.Goals as goal

pub returns-clause-low : goal.returns-clause-low
returns-clause-low c =
    let low = product_low c.args.share.mark.value c.args.share.weight.value c.args.share.mark.low in
    let high = product_high c.args.share.mark.value c.args.share.weight.value c.args.share.mark.high in
    search (rules, low, high)
