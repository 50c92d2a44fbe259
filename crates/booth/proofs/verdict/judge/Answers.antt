use Rattle.std.proofs.Common.{◌≡◌, ℕ, List, ◌++◌, length, take, sym, ap, ◌∙◌, rules}
use Rattle.std.proofs.lemmas.List.{take_at}
use Rattle.std.proofs.lemmas.Result.{MatchResult-at_ok}
use Rattle.mission.specs.Missions.{Put, meaning}
use Rattle.mission.specs.Texts.{text}
use Rattle.booth.proofs.verdict.judge.Goals as goal

-- the front of a page of m bytes that begins with a text of n
front : (t page rest more : List ℕ) (n m : ℕ) → n ≡ length t → page ≡ t ++ rest → length page ≡ m → take n (take m (page ++ more)) ≡ t
front t page rest more n m e p l = ap (take n) (take_at page more m l ∙ p) ∙ take_at t rest n (sym e)

pub returns : goal.returns
returns c =
    let t = text (meaning c.read.new.self) in
    let w = MatchResult-at_ok (Put t c.as_mut_slice.result.now c.write.new.page) _ _ c.unwrap-len.ensures c.write.ensures.outcome in
    let long : length c.write.new.page ≡ c.in_ok-page.page.len = search rules in (
      c.read.new.self,
      c.in_ok-read.ensures.outcome.0,
      c.truncate.ensures.items ∙ front _ c.write.new.page _ _ c.unwrap-len.result c.in_ok-page.page.len w.0 w.2 long,
      ap length c.nodes.ensures.value,
      c.skills.ensures.count,
    )
