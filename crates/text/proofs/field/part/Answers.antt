-- What follows a space is shorter than the text that is cut there.
use Rattle.std.proofs.Common.{rules, ◌≡◌, ◌<◌, ℕ, List, Option, Some, None, IfSome, length, sym, subst}
use Rattle.std.specs.Borrow.{Bor}
use Rattle.std.specs.Option.{MatchOption}
use Rattle.text.specs.Fields.{parted}
use Rattle.text.specs.Seen.{seen_halves}
use Rattle.text.proofs.Cuts.{parted_shorter}
use Rattle.text.proofs.field.part.Goals as goal

shorter : (text : Bor (List ℕ)) (o : Option (Bor (List ℕ) × Bor (List ℕ))) (r : Bor (List ℕ) × Option (Bor (List ℕ))) → seen_halves o ≡ parted 32 text.now
    → MatchOption o (r ≡ (text, None)) (λ x. r ≡ (x.0, Some x.1)) → IfSome r.1 (λ x. length x.now < length text.now)
shorter text None r e h = subst (λ q. IfSome q.1 (λ x. length x.now < length text.now)) (sym h) tt
shorter text (Some p) r e h = subst (λ q. IfSome q.1 (λ x. length x.now < length text.now)) (sym h) (parted_shorter 32 text.now (p.0.now, p.1.now) (sym e))

pub returns-clause-shorter : goal.returns-clause-shorter
returns-clause-shorter c = shorter c.args.text c.cut.result c.map_or.result c.cut.ensures (search rules)
