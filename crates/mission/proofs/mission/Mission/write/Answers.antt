use Rattle.std.proofs.Common.{◌≡◌, ℕ, ◌-◌, ◌^◌, ◌<◌, ◌≤◌, ◌++◌, min, List, length, drop, refl, sym, ap, ◌∙◌, arith}
use Rattle.mission.specs.declared.mission.Mission.{Mission}
use Rattle.mission.specs.Missions.{meaning, Put}
use Rattle.mission.specs.Pages.{Laid}
use Rattle.mission.specs.Texts.{text, Faultless}
use Rattle.mission.proofs.Accepting.{outline_ranged, faultless, given_back}
use Rattle.mission.proofs.mission.Mission.write.Goals as goal

-- the text of a mission has no fault, and is no other's
back : (l : Mission) → Faultless (text (meaning l)) × ((m : Mission) → text (meaning m) ≡ text (meaning l) → meaning m ≡ meaning l)
back l = (faultless (text (meaning l)) (meaning l) refl (outline_ranged l.outline) l.lawful, λ m e. given_back m l e)

fits : (t page after : List ℕ) (len n : ℕ) → len ≡ min (length t) (2 ^ 64 - 1) → len ≤ length page → length page < 2 ^ 63 → Laid t page after n → Put t page after n
fits t page after len n e h held l =
    let c = l.counted in
    let whole : length t ≡ n = omega arith in
    (sym whole, omega arith, l.page (omega arith) ∙ ap (λ k. t ++ drop k page) whole)

pub returns-then-len-page : goal.returns-then-len-page
returns-then-len-page c =
    let m = c.args.self.now in
    let n = c.lay-len.ensures.counted in
    record { outcome = (omega arith, refl); back = back m }

pub returns : goal.returns
returns c =
    let m = c.args.self.now in
    record { outcome = fits (text (meaning m)) c.args.page.now _ c.lay-len.result _ c.lay-len.ensures.counted c.if-len-page.false (omega arith) c.lay.ensures; back = back m }
