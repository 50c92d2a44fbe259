use Rattle.std.proofs.Common.{◌≡◌, ◌+◌, ◌-◌, sym, arith}
use Rattle.std.proofs.lemmas.List.{drop-drop}
use Rattle.mission.proofs.Laying.{wrote_is}
use Rattle.mission.proofs.pen.Pen.put.Goals as goal

pub returns : goal.returns
returns c =
    let p = c.args.self.now in
    let from = c.min-from.result in
    let to = c.min-to.result in
    let up : from + (to - from) ≡ to = omega arith in
    let is = wrote_is p c.args.text.now from to c.saturating_add-end.result (omega arith) (omega arith) (omega arith) (omega arith) (omega arith) in
    rw c.copy_from_slice.ensures.after (rw c.as_bytes.ensures.value (rw (drop-drop (to - from) from p.page.now) (rw up (sym is))))
