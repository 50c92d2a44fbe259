-- The cut stands at the first place of the byte.
use Rattle.std.proofs.Common.{◌≡◌, rules, tests, eqb}
use Rattle.std.specs.List.{position}
use Rattle.std.proofs.lemmas.Iterator.{YieldsList-from_slice}
use Rattle.std.proofs.lemmas.Iterator.Search.{position_from_yields_List}
use Rattle.std.proofs.lemmas.List.{take_rest}
use Rattle.text.proofs.Cuts.{parted_position}
use Rattle.text.proofs.cut.cut.Goals as goal
use Rattle.text.proofs.cut.cut.Goals.{After-position}

place : (c : After-position) → c.position.result ≡ position (λ x. eqb x c.args.b) c.args.xs.now
place c = position_from_yields_List (λ x. eqb x c.args.b) _ _ _ c.position.ensures.ran (YieldsList-from_slice c.args.xs.now cc) (λ x b q k. search (rules, tests))

pub returns-in_err-at : goal.returns-in_err-at
returns-in_err-at c =
    let p = place (goal.at.returns-in_err-at c).After-position in
    let q = parted_position c.args.b c.args.xs.now in
    rw (q, ← p) (search rules)

pub returns : goal.returns
returns c =
    let p = place (goal.at.returns c).After-position in
    let q = parted_position c.args.b c.args.xs.now in
    rw (q, ← p) (rw take_rest (search rules))
