-- The halting walk, place by place.
use Rattle.std.proofs.Common.{◌≡◌, ℕ, suc, ◌+◌, ◌-◌, ◌<◌, ◌≤◌, Ok, Err, Result, sym, ap, ◌∙◌, arith}
use Rattle.rules.specs.declared.sitting_fault.SittingFault.{SittingFault}
use Rattle.sitting.specs.Halting.{Desk, Halted, halt_at, go_on, halt_places, halt_range}
use Rattle.sitting.specs.Tables.{end_at}
use Rattle.sitting.specs.Turns.{has_result, open_halted, halt_open}
use Rattle.sitting.specs.declared.memory.Results.{Results}

range_step : (i to : ℕ) (d : Desk) → i < to → halt_range i to d ≡ go_on (halt_at i d) (halt_range (i + 1) to)
unfolding halt_places
range_step i to d h =
    let e : to - i ≡ suc (to - (i + 1)) = omega arith in
    ap (λ n. halt_places n i d) e

-- the walk goes on behind a place that was halted
pub walk_on : (i to : ℕ) (d e : Desk) (r : Result Unit SittingFault) (w : Halted) → i < to → halt_range i to d ≡ w → (r, e) ≡ halt_at i d → r ≡ Ok tt → halt_range (i + 1) to e ≡ w
walk_on i to d e r w h all at ok =
    ap (λ s. go_on (s, e) (halt_range (i + 1) to)) (sym ok) ∙ ap (λ (x : Halted). go_on x (halt_range (i + 1) to)) at ∙ sym (range_step i to d h) ∙ all

-- a fault ends it
pub walk_stops : (i to : ℕ) (d e : Desk) (r : Result Unit SittingFault) (f : SittingFault) (w : Halted) → i < to → halt_range i to d ≡ w → (r, e) ≡ halt_at i d → r ≡ Err f → (r, e) ≡ w
walk_stops i to d e r f w h all at err =
    ap (λ s. (s, e)) err ∙ ap (λ s. go_on (s, e) (halt_range (i + 1) to)) (sym err) ∙ ap (λ (x : Halted). go_on x (halt_range (i + 1) to)) at ∙ sym (range_step i to d h) ∙ all

-- it ends at its last place
pub walk_ends : (i to : ℕ) (d : Desk) (w : Halted) → to ≤ i → halt_range i to d ≡ w → (Ok tt, d) ≡ w
unfolding halt_places
walk_ends i to d w h all =
    let e : to - i ≡ 0 = omega arith in
    ap (λ n. halt_places n i d) (sym e) ∙ all

-- The children of a par, one by one.

open_step : (n j i : ℕ) (r : Results) (d : Desk) → j < n → halt_open (n - j) j i r d ≡ go_on (open_halted (has_result r j) i d) (halt_open (n - (j + 1)) (j + 1) (end_at d.sitting i) r)
unfolding halt_open
open_step n j i r d h =
    let e : n - j ≡ suc (n - (j + 1)) = omega arith in
    ap (λ k. halt_open k j i r d) e

pub open_on : (n j i : ℕ) (s : Results) (d e : Desk) (r : Result Unit SittingFault) (w : Halted) → j < n → halt_open (n - j) j i s d ≡ w → (r, e) ≡ open_halted (has_result s j) i d → r ≡ Ok tt → halt_open (n - (j + 1)) (j + 1) (end_at d.sitting i) s e ≡ w
open_on n j i s d e r w h all at ok =
    let f = halt_open (n - (j + 1)) (j + 1) (end_at d.sitting i) s in
    ap (λ q. go_on (q, e) f) (sym ok) ∙ ap (λ (x : Halted). go_on x f) at ∙ sym (open_step n j i s d h) ∙ all

pub open_stops : (n j i : ℕ) (s : Results) (d e : Desk) (r : Result Unit SittingFault) (f : SittingFault) (w : Halted) → j < n → halt_open (n - j) j i s d ≡ w → (r, e) ≡ open_halted (has_result s j) i d → r ≡ Err f → (r, e) ≡ w
open_stops n j i s d e r f w h all at err =
    let g = halt_open (n - (j + 1)) (j + 1) (end_at d.sitting i) s in
    ap (λ q. (q, e)) err ∙ ap (λ q. go_on (q, e) g) (sym err) ∙ ap (λ (x : Halted). go_on x g) at ∙ sym (open_step n j i s d h) ∙ all

pub open_ends : (n j i : ℕ) (s : Results) (d : Desk) (w : Halted) → n ≤ j → halt_open (n - j) j i s d ≡ w → (Ok tt, d) ≡ w
unfolding halt_open
open_ends n j i s d w h all =
    let e : n - j ≡ 0 = omega arith in
    ap (λ k. halt_open k j i s d) (sym e) ∙ all
