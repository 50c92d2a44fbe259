use Rattle.entry.proofs.Adding as adding
use Rattle.board.proofs.laws.count_grows.Goals as goal

pub returns-clause-grows : goal.returns-clause-grows
returns-clause-grows g c count held room =
    let d = adding.count_grows count c.args.mark room in
    (d.0, c.enter_grows.ensures.grows count d.0 held d.1, d.2)
