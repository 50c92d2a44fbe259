-- A visit, turn by turn.
use Rattle.std.proofs.Common.{◌≡◌, ℕ, suc, ◌+◌, ◌-◌, ◌<◌, ◌≤◌, Some, None, Ok, Err, Result, sym, ap, ◌∙◌, arith}
use Rattle.rules.specs.declared.sitting_fault.SittingFault.{SittingFault}
use Rattle.rules.specs.declared.status.Status.{Status}
use Rattle.rules.specs.declared.status.Status.TheVariants.{Fail}
use Rattle.sitting.specs.Turns.{Stage, Visited, turned, outcome, then_visited, unless_answered, visited}
use Rattle.sitting.specs.declared.turn.Turn.{Turn}

turn_step : (n j : ℕ) (t : Turn) (g : Stage) → j < n → visited (n - j) t g ≡ unless_answered (outcome t g.stack) g (then_visited (turned t g) (visited (n - (j + 1))))
unfolding visited
turn_step n j t g h =
    let e : n - j ≡ suc (n - (j + 1)) = omega arith in
    ap (λ k. visited k t g) e

-- the root has answered
pub visit_answers : (n j : ℕ) (t : Turn) (g : Stage) (a : Status) (w : Visited) → j < n → visited (n - j) t g ≡ w → outcome t g.stack ≡ Some a → (Ok a, g) ≡ w
visit_answers n j t g a w h all e =
    ap (λ o. unless_answered o g (then_visited (turned t g) (visited (n - (j + 1))))) (sym e) ∙ sym (turn_step n j t g h) ∙ all

-- one turn more
pub visit_on : (n j : ℕ) (t u : Turn) (g k : Stage) (r : Result Turn SittingFault) (w : Visited) → j < n → visited (n - j) t g ≡ w → outcome t g.stack ≡ None → (r, k) ≡ turned t g → r ≡ Ok u → visited (n - (j + 1)) u k ≡ w
visit_on n j t u g k r w h all none at ok =
    let f = visited (n - (j + 1)) in
    ap (λ q. then_visited (q, k) f) (sym ok)
    ∙ ap (λ s. then_visited s f) at
    ∙ ap (λ o. unless_answered o g (then_visited (turned t g) f)) (sym none)
    ∙ sym (turn_step n j t g h)
    ∙ all

-- a fault ends it
pub visit_stops : (n j : ℕ) (t : Turn) (g k : Stage) (r : Result Turn SittingFault) (f : SittingFault) (w : Visited) → j < n → visited (n - j) t g ≡ w → outcome t g.stack ≡ None → (r, k) ≡ turned t g → r ≡ Err f → (Err f, k) ≡ w
visit_stops n j t g k r f w h all none at err =
    let v = visited (n - (j + 1)) in
    ap (λ q. then_visited (q, k) v) (sym err)
    ∙ ap (λ s. then_visited s v) at
    ∙ ap (λ o. unless_answered o g (then_visited (turned t g) v)) (sym none)
    ∙ sym (turn_step n j t g h)
    ∙ all

-- no turn is left
pub visit_ends : (n j : ℕ) (t : Turn) (g : Stage) (w : Visited) → n ≤ j → visited (n - j) t g ≡ w → (Ok Fail, g) ≡ w
unfolding visited
visit_ends n j t g w h all =
    let e : n - j ≡ 0 = omega arith in
    ap (λ k. visited k t g) (sym e) ∙ all
