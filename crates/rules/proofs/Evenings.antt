-- The sample evenings hold, and the variants differ.
use Rattle.std.proofs.Common.{◌≡◌, ℕ, List, length, get_or, sym, refl, ap, ◌∙◌, arith}
use Rattle.entry.specs.Abilities.{ability_makes, ability_in}
use Rattle.entry.specs.Kinds.{whole_in}
use Rattle.rules.specs.declared.line.Line.{Line}
use Rattle.rules.specs.declared.word.Word.TheVariants.{RootRun}
use Rattle.rules.specs.Lines.{root_line}
use Rattle.rules.specs.Others.{Executive, KeepsTheRules, FailsEachTick, RepeatsTheFirstTick, RuledOut}
use Rattle.rules.specs.Samples.{begins, first_evening, EveningsHold}
use Rattle.rules.specs.Sittings.{State, Answer, opened, answered, halted, closed, refused, tick, called}
use Rattle.rules.specs.Statuses.{number}

pub evenings_hold : EveningsHold
unfolding ability_makes ability_in whole_in
evenings_hold = refl

abbrev status_of : Answer → ℕ
status_of (opened n) = 3
status_of (answered a) = number a
status_of halted = 3
status_of closed = 3
status_of (refused fault) = 3

-- the first evening after its opening
abbrev evening : State
evening = begins (first_evening 1)

no_failing : (e : Executive) → FailsEachTick e → KeepsTheRules e → ⊥
no_failing e f r =
    let h = (f _ evening refl refl).0 in
    let z : ◌≡◌ {A = ℕ} 0 2 = ap status_of (sym (ap (λ p. p.0) (r evening)) ∙ h) in
    omega arith

no_repeating : (e : Executive) → RepeatsTheFirstTick e → KeepsTheRules e → ⊥
no_repeating e f r =
    let first = r evening in
    let second : (e (e evening).1).0 ≡ (called tick (called tick evening).1).0 = ap (λ p. (e p.1).0) first ∙ ap (λ p. p.0) (r (called tick evening).1) in
    let z : ◌≡◌ {A = ℕ} 1 0 = ap status_of (sym second ∙ f evening ∙ ap (λ p. p.0) first) in
    omega arith

-- the skill of the line after so many
abbrev skill_at : ℕ → List Line → ℕ
skill_at i ls = (get_or ls i (root_line 0 RootRun)).skill

pub ruled_out : RuledOut
ruled_out =
    record {
      failing = no_failing;
      repeating_itself = no_repeating;
      halting_late = λ e. let z : ◌≡◌ {A = ℕ} 8 9 = ap length e in omega arith;
      visiting_finished_children = λ e. let z : ◌≡◌ {A = ℕ} 9 7 = ap length e in omega arith;
      remembering_past_a_halt = λ x e. let z : ◌≡◌ {A = ℕ} 1 0 = ap (skill_at 7) e in omega arith;
    }
