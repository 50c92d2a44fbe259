use Rattle.std.proofs.Common.{length, sym, ap, ◌∙◌, arith}
use Rattle.mission.specs.Shapes.{shape}
use Rattle.mission.proofs.Places.{row_none, places_none}
use Rattle.mission.proofs.tree.Reader.of.Goals as goal

pub invariant_of-result : goal.invariant_of-result
invariant_of-result c =
    let ns = (shape c.args.outline.now).nodes in
    record {
      within = omega arith;
      sound = λ b j l x. omega arith;
      noted = c.none.ensures ∙ sym (row_none ns);
      opened = sym (ap length (places_none ns));
      few = omega arith;
    }
