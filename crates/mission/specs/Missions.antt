-- What a mission means, and what an accepted text is.
use Rattle.std.specs.Prelude.{◌≡◌, ℕ, ◌<◌, ◌≤◌, List, [], ◌∷◌, ◌++◌, length, drop, codes}
use Rattle.mission.specs.declared.mission.Mission.{Mission}
use Rattle.mission.specs.Lawful.{Shape}
use Rattle.mission.specs.Shapes.{shape}
use Rattle.mission.specs.Texts.{ended, text, Faultless}

abbrev pub meaning : Mission → Shape
meaning m = shape m.outline

-- an accepted text is the one text of the mission that it gives, and no fault holds of it
abbrev pub Accepted : List ℕ → Mission → Type 0
Accepted t m = (t ≡ text (meaning m)) × Faultless t

-- a text stands at the beginning of a page, and all past it is as it was
abbrev pub Put : List ℕ → List ℕ → List ℕ → ℕ → Type 0
Put t before after n = (n ≡ length t) × (n ≤ length before) × (after ≡ t ++ drop n before)

-- a text is longer than a page
abbrev pub TooLong : List ℕ → List ℕ → Type 0
TooLong t page = length page < length t

-- no fault holds of a mission's text, and no other mission has it
abbrev pub OwnText : Mission → Type 0
OwnText l = Faultless (text (meaning l)) × ((m : Mission) → text (meaning m) ≡ text (meaning l) → meaning m ≡ meaning l)

-- the text of the mission that a place begins with
abbrev pub first_text : List ℕ
first_text =
    ended (codes "mission=1" ∷ codes "counts=1" ∷ codes "abilities=0" ∷ codes "nodes=1" ∷ codes "node=count key=0 least=0" ∷ [])
