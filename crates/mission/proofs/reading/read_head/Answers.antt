-- The first line is told by its bytes.
use Rattle.std.proofs.Common.{rules, ◌≡◌, codes, arith, refl, ap, ◌∙◌, ◌++◌, ◌∷◌}
use Rattle.std.proofs.lemmas.Slice.Eq.{text_from_reads}
use Rattle.text.proofs.Cuts.{parted_sound}
use Rattle.mission.proofs.reading.read_head.Goals as goal

pub returns-in-109 : goal.returns-in-109
returns-in-109 c =
    let l = c.in_ok-line.line.text.now in
    let after = c.take.new.self.rest.now in
    let e : l ≡ codes "mission=1" = text_from_reads l (codes "mission=1") (omega arith) (search rules) in
    (parted_sound 10 c.args.lines.now.rest.now (l, after) c.in_ok-line.ensures.0 ∙ ap (λ y. y ++ (10 ∷ after)) e, refl, c.in_ok-line.ensures.1)
