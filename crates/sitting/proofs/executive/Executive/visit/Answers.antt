use Rattle.sitting.proofs.Ruling.{visits_by_the_rules, visit_enters_once}
use Rattle.sitting.proofs.executive.Executive.visit.Goals as goal

pub returns : goal.returns
returns g c =
    let k = c.take_turns.ensures in
    record {
      by_the_rules = visits_by_the_rules _ _ _ _ _ _ k.0 _ _ _ k.1;
      once = visit_enters_once _ _ _ _ _ _ k.0 _ _ _ k.1;
    }
