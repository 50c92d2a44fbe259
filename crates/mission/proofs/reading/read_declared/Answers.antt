-- What each line of the head was, and the first flaw where one was not.
use Rattle.std.proofs.Common.{◌≡◌, ℕ, true, List, [], ◌∷◌, length, pos, codes, refl, arith, rules}
use Rattle.mission.specs.declared.lines.Lines.{Lines}
use Rattle.mission.specs.Texts.{head_line, counts_line, abilities_line, nodes_line, declared, sized}
use Rattle.mission.proofs.Handed.{handed}
use Rattle.mission.proofs.TextFaults.{Headed, headed, head_1, number_more, flaw_line}
use Rattle.mission.proofs.LineReadings.{number_is}
use Rattle.mission.proofs.reading.read_declared.Goals as goal
use Rattle.mission.proofs.reading.read_declared.Goals.{In_ok-read_head, In_ok-counts, In_ok-abilities}

-- the lines that were taken, and their count
abbrev Stands : List ℕ → List (List ℕ) → Lines → Type 0
Stands t ls p = Headed t ls p.rest.now × (p.line ≡ length ls)

head₁ : (c : In_ok-read_head) → Stands c.args.lines.now.rest.now (head_line tt ∷ []) c.read_head.new.lines
head₁ c = let a = c.in_ok-read_head.ensures in (head_1 _ _ a.0, omega (arith, a.2, c.requires))

head₂ : (c : In_ok-counts) → Stands c.args.lines.now.rest.now (head_line tt ∷ []) c.read_head.new.lines
    → Stands c.args.lines.now.rest.now (head_line tt ∷ counts_line (pos c.in_ok-counts.counts) ∷ []) c.read_number.new.lines
head₂ c h =
    let e = c.in_ok-counts.ensures in
    let a = number_is (codes "counts") declared c.read_head.new.lines c.read_number.new.lines c.in_ok-counts.counts e.0 (search rules) e.2 in
    (number_more (codes "counts") declared _ (λ g w. w) h.0 refl a.0 a.1, omega (arith, a.2, h.1))

head₃ : (c : In_ok-abilities) → Stands c.args.lines.now.rest.now (head_line tt ∷ counts_line (pos c.in_ok-counts.counts) ∷ []) c.read_number.new.lines
    → Stands c.args.lines.now.rest.now (head_line tt ∷ counts_line (pos c.in_ok-counts.counts) ∷ abilities_line (pos c.in_ok-abilities.abilities) ∷ []) c.read_number-2.new.lines
head₃ c h =
    let e = c.in_ok-abilities.ensures in
    let a = number_is (codes "abilities") declared c.read_number.new.lines c.read_number-2.new.lines c.in_ok-abilities.abilities e.0 (search rules) e.2 in
    (number_more (codes "abilities") declared _ (λ g w. w) h.0 refl a.0 a.1, omega (arith, a.2, h.1))

pub returns-in_err-read_head : goal.returns-in_err-read_head
returns-in_err-read_head c =
    let w = c.in_err-read_head.ensures in
    rw (handed c.from_residual.result c.from_residual.ensures.1) (flaw_line head_line (λ u. true) _ (λ g v. v) (λ g v. v) (headed c.args.lines.now.rest.now) (omega (arith, w.0, c.requires)) w.1)

pub returns-in_err-counts : goal.returns-in_err-counts
returns-in_err-counts c =
    let w = c.in_err-counts.ensures in
    let h₁ = head₁ (goal.at.returns-in_err-counts c).In_ok-read_head in
    rw (handed c.from_residual-in_err-counts.result c.from_residual-in_err-counts.ensures.1)
    (flaw_line counts_line declared _ (λ g v. v) (λ g v. v) h₁.0 (omega (arith, w.0, h₁.1)) w.1)

pub returns-in_err-abilities : goal.returns-in_err-abilities
returns-in_err-abilities c =
    let w = c.in_err-abilities.ensures in
    let at = goal.at.returns-in_err-abilities c in
    let h₂ = head₂ at.In_ok-counts (head₁ at.In_ok-read_head) in
    rw (handed c.from_residual-in_err-abilities.result c.from_residual-in_err-abilities.ensures.1)
    (flaw_line abilities_line declared _ (λ g v. v) (λ g v. v) h₂.0 (omega (arith, w.0, h₂.1)) w.1)

pub returns-in_err-nodes : goal.returns-in_err-nodes
returns-in_err-nodes c =
    let w = c.in_err-nodes.ensures in
    let at = goal.at.returns-in_err-nodes c in
    let h₃ = head₃ at.In_ok-abilities (head₂ at.In_ok-counts (head₁ at.In_ok-read_head)) in
    rw (handed c.from_residual-in_err-nodes.result c.from_residual-in_err-nodes.ensures.1)
    (flaw_line nodes_line sized _ (λ g v. v) (λ g v. v) h₃.0 (omega (arith, w.0, h₃.1)) w.1)

pub returns : goal.returns
returns c =
    let at = goal.at.returns c in
    let h₃ = head₃ at.In_ok-abilities (head₂ at.In_ok-counts (head₁ at.In_ok-read_head)) in
    let e = c.in_ok-nodes.ensures in
    let n = number_is (codes "nodes") sized c.read_number-2.new.lines c.read_number-3.new.lines c.in_ok-nodes.nodes e.0 (search rules) e.2 in
    let h₄ = number_more (codes "nodes") sized _ (λ g w. w) h₃.0 refl n.0 n.1 in
    (h₄.begins.is, omega (arith, n.2, h₃.1))
