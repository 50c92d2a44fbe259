-- The places that a visit enters.
use Rattle.std.specs.Prelude.{ℕ, zero, suc, ◌≤◌, List, [], ◌∷◌, ◌++◌, Some, None, Ok, Err, Option}
use Rattle.rules.specs.declared.status.Status.{Status}
use Rattle.sitting.specs.Turns.{Stage, Step, turned, outcome}
use Rattle.sitting.specs.declared.turn.Turn.{Turn}
use Rattle.sitting.specs.declared.turn.Turn.TheVariants.{Enter, Look, Answer}

-- the place that a turn enters, if it enters one
abbrev pub enters : Turn → List ℕ
enters (Enter i) = i ∷ []
enters (Look f) = []
enters (Answer a) = []

abbrev pub then_entered : Step → (Turn → Stage → List ℕ) → List ℕ
then_entered (Ok t, g) f = f t g
then_entered (Err fault, g) f = []

abbrev pub until_answered : Option Status → List ℕ → List ℕ
until_answered None places = places
until_answered (Some a) places = []

-- the places that the turns of `visited n t g` enter, in order
unfoldable pub entered_in : ℕ → Turn → Stage → List ℕ
entered_in zero t g = []
entered_in (suc n) t g = until_answered (outcome t g.stack) (enters t ++ then_entered (turned t g) (entered_in n))

-- the first is at least this bound, and each later one above the one before it
abbrev pub Rising : ℕ → List ℕ → Type 0
Rising least [] = Unit {0}
Rising least (i ∷ places) = (least ≤ i) × Rising (suc i) places
