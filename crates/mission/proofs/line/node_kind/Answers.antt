-- A long word is told by its bytes.
use Rattle.std.proofs.Common.{rules, ◌≡◌, codes, arith}
use Rattle.std.proofs.lemmas.Slice.Eq.{text_from_reads}
use Rattle.mission.proofs.line.node_kind.Goals as goal

pub returns-in-repeat : goal.returns-in-repeat
returns-in-repeat c = let e : c.args.word.now ≡ codes "repeat" = text_from_reads c.args.word.now (codes "repeat") (omega arith) (search rules) in rw e (search rules)

pub returns-in-ability : goal.returns-in-ability
returns-in-ability c = let e : c.args.word.now ≡ codes "ability" = text_from_reads c.args.word.now (codes "ability") (omega arith) (search rules) in rw e (search rules)
