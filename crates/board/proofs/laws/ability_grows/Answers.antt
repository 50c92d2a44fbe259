use Rattle.entry.proofs.Adding as adding
use Rattle.board.proofs.laws.ability_grows.Goals as goal

pub returns-clause-grows : goal.returns-clause-grows
returns-clause-grows g c ability held room =
    let d = adding.ability_grows ability c.args.share room in
    (d.0, c.enter_grows.ensures.grows ability d.0 held d.1, d.2, d.3)
