-- What the rules rule out: executives and variants of the rules that some evening tells apart from them.
use Rattle.std.specs.Prelude.{◌≡◌, ℕ, suc, [], ◌∷◌, pos, None}
use Rattle.mission.specs.declared.node.GroupKind.TheVariants.{Seq, Mseq}
use Rattle.mission.specs.Trees.{group, par}
use Rattle.rules.specs.declared.status.Status.TheVariants.{Fail}
use Rattle.rules.specs.Leaves.{World, Users, in_tick, users, visit_leaf}
use Rattle.rules.specs.Live.{Live, live_par, forgotten, live_leaf, live_group, live_not, live_loop}
use Rattle.rules.specs.Samples.{plain, two, repeating, ticks, begins, third_evening}
use Rattle.rules.specs.Sittings.{Sitting, shut, held, State, Answer, answered, tick, halt_root, called, continued, ticked, tick_checks, first_of, Place}
use Rattle.rules.specs.Visiting.{Actions, visit}

-- an executive, by what it makes of a tick
abbrev pub Executive : Type 0
Executive = State → Answer × State

abbrev pub KeepsTheRules : Executive → Type 0
KeepsTheRules e = (s : State) → e s ≡ called tick s

-- it fails each tick that is not refused, and calls no bank
abbrev pub FailsEachTick : Executive → Type 0
FailsEachTick e =
    (o : Sitting) (s : State) → s.place ≡ held o → first_of (tick_checks (users o.mission.tree) o s) ≡ None →
    ((e s).0 ≡ answered Fail) × ((e s).1.world.bank ≡ s.world.bank)

-- a second tick answers as the first did
abbrev pub RepeatsTheFirstTick : Executive → Type 0
RepeatsTheFirstTick e = (s : State) → (e (e s).1).0 ≡ (e s).0

-- the rules with a dropped branch that is not halted in its tick
abbrev pub never_stopping : Users → ℕ → Actions
never_stopping us t = record { World = World; visit_leaf = visit_leaf us t; stop_leaf = λ l w. w }

abbrev pub in_place : (Sitting → State → Answer × State) → Place → State → State
in_place f shut s = s
in_place f (held o) s = (f o s).1

abbrev pub late_halting : State → State
late_halting s =
    in_place
    (λ o s. ticked (users o.mission.tree) o s (visit (never_stopping (users o.mission.tree) (suc o.ticks)) o.live s.world))
    s.place
    s

-- the rules with the results of a par forgotten, so that its finished children are visited again
abbrev pub without_results : Live → Live
without_results (live_par need ks) = live_par need (forgotten ks)
without_results (live_leaf l) = live_leaf l
without_results (live_group p m ks) = live_group p m ks
without_results (live_not x) = live_not x
without_results (live_loop p times n x) = live_loop p times n x

abbrev pub visiting_again : State → State
visiting_again s =
    in_place (λ o s. ticked (users o.mission.tree) o s (visit (in_tick (users o.mission.tree) (suc o.ticks)) (without_results o.live) s.world)) s.place s

-- the rules with memory kept at a halt
abbrev pub with_live : Live → Place → Place
with_live x shut = shut
with_live x (held o) = held (continued o x o.ticks o.front)

abbrev pub live_of : Place → Live → Live
live_of shut x = x
live_of (held o) x = o.live

abbrev pub remembering_halt : Live → State → State
remembering_halt x s =
    let r = (called halt_root s).1 in
    record { place = with_live (live_of s.place x) r.place; world = r.world; length = r.length }

abbrev pub Differ : State → State → Type 0
Differ s z = s.world.lines ≡ z.world.lines → ⊥

-- a seq whose second child is dropped
abbrev pub dropping : State
dropping = ticks 1 (begins (third_evening (group Seq (two (plain 0) (plain 1))) 1))

-- a par one of whose children has passed
abbrev pub half_done : State
half_done =
    ticks 1
    (begins (record { tree = par 2 (two (plain 0) (plain 1)); bank = repeating 0 (pos 0) ∷ repeating 1 (pos 0) ∷ []; counts = None ∷ []; abilities = None ∷ []; ticks = 1 }))

-- an mseq that has gone past its first child
abbrev pub gone_on : State
gone_on =
    ticks 1
    (begins (record { tree = group Mseq (two (plain 0) (plain 1)); bank = repeating 0 (pos 0) ∷ repeating 5 (pos 0) ∷ []; counts = None ∷ []; abilities = None ∷ []; ticks = 1 }))

pub record RuledOut : Type 0 where
  pub failing : (e : Executive) → FailsEachTick e → KeepsTheRules e → ⊥
  pub repeating_itself : (e : Executive) → RepeatsTheFirstTick e → KeepsTheRules e → ⊥
  pub halting_late : Differ (late_halting dropping) (called tick dropping).1
  pub visiting_finished_children : Differ (visiting_again half_done) (called tick half_done).1
  pub remembering_past_a_halt : (x : Live) → Differ (called tick (remembering_halt x gone_on)).1 (called tick (called halt_root gone_on).1).1
