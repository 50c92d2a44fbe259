use Rattle.std.proofs.Common.{◌≡◌, ℕ, List, [], length, sym, ap, ◌∙◌, subst}
use Rattle.std.proofs.lemmas.Result.{MatchResult-weaker}
use Rattle.mission.specs.declared.outline.Declared.{Declared}
use Rattle.mission.specs.declared.outline.Outline.{Outline}
use Rattle.mission.specs.Texts.{text, lines, ended}
use Rattle.mission.specs.Reading.{Caught, Taken}
use Rattle.mission.specs.Shapes.{shape}
use Rattle.mission.proofs.Handed.{handed}
use Rattle.mission.proofs.Runs.{shape_long}
use Rattle.mission.proofs.TextFaults.{Head, head_read, flaw_later, all_read}
use Rattle.mission.proofs.reading.read_outline.Goals as goal

pub returns-in_err-declared : goal.returns-in_err-declared
returns-in_err-declared c =
    rw (handed c.from_residual.result c.from_residual.ensures.1) (subst (λ xs. Caught xs c.in_err-declared.field-0.0) c.of-lines.ensures.rest c.in_err-declared.ensures)

-- all of the nodes were read
whole : (t start : List ℕ) (d : Declared) (o : Outline) → Head t d.counts d.abilities d.nodes start → (o.declared ≡ d) × Taken start (shape o).nodes [] → t ≡ text (shape o)
whole t start d o h k =
    let ns = (shape o).nodes in
    all_read t start d.counts d.abilities d.nodes ns h k.1 (shape_long o ∙ ap (λ (e : Declared). e.nodes) k.0)
    ∙ (λ i. ended (lines (sym k.0 i).counts (sym k.0 i).abilities (length ns) ns))

pub returns : goal.returns
returns c =
    let t = c.args.text.now in
    let d = c.in_ok-declared.declared in
    let start = c.read_declared.new.lines.rest.now in
    let h = head_read t start d (sym c.of-lines.ensures.rest ∙ c.in_ok-declared.ensures.0) in
    MatchResult-weaker c.read_tree.result c.read_tree.ensures (λ o k. whole t start d o h k) (λ f s. flaw_later t start d.counts d.abilities d.nodes f h s)
