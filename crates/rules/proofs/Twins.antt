-- Two sittings whose missions regrouping joins, begun alike, are seen the same.
use Rattle.std.proofs.Common.{◌≡◌, ℕ, suc, Bool, true, false, not, eqb, List, [], ◌∷◌, Some, None, Option, sym, refl, ◌∙◌, ap₂}
use Rattle.mission.specs.Trees.{Tree}
use Rattle.rules.specs.declared.sitting_fault.SittingFault.{SittingFault}
use Rattle.rules.specs.declared.sitting_fault.SittingFault.TheVariants.{PlaceClosed, TraceLength}
use Rattle.rules.specs.declared.word.Word.TheVariants.{RootHalt, RootClosed}
use Rattle.rules.specs.Laws.{Sight, sight, seen}
use Rattle.rules.specs.Leaves.{World, Users, in_tick, users}
use Rattle.rules.specs.Lines.{root_word}
use Rattle.rules.specs.Live.{Live}
use Rattle.rules.specs.Missions.{Plan}
use Rattle.rules.specs.Regrouping.{Step, Chain, done, step, step_back}
use Rattle.rules.specs.Sittings.{Sitting, shut, held, State, Call, tick, halt_root, close, Answer, answered, halted, closed, refused, tick_checks, halt_checks, close_checks, first_of, unless, begun, root_noted, named_on, ticked, tick_on, all_halted, halted_with, halt_on, with_lines, closed_with, close_on, called, played}
use Rattle.rules.specs.Visiting.{Visit}
use Rattle.rules.proofs.Related.{Related, Same, same, clear_related}
use Rattle.rules.proofs.Halts.{halt_related}
use Rattle.rules.proofs.Regroups.{visit_related, fresh_related}
use Rattle.rules.proofs.Naming.{same_users}

abbrev pub planned : ℕ → ℕ → Tree → Plan
planned c a t = record { counts = c; abilities = a; tree = t }

abbrev pub seated : Plan → Live → ℕ → ℕ → ℕ → List ℕ → Sitting
seated p x n i q f = record { mission = p; live = x; number = n; ticks = i; length = q; front = f }

abbrev pub shut_state : World → ℕ → State
shut_state w r = record { place = shut; world = w; length = r }

abbrev pub held_state : Sitting → World → ℕ → State
held_state o w r = record { place = held o; world = w; length = r }

data Twin : State → State → Type 0 where
  both_shut : (w : World) (r : ℕ) → Twin (shut_state w r) (shut_state w r)
  both_held : (c a : ℕ) (t u : Tree) → users t ≡ users u → {x y : Live} → Related x y → (n i q : ℕ) (f : List ℕ) (w : World) (r : ℕ) →
      Twin (held_state (seated (planned c a t) x n i q f) w r) (held_state (seated (planned c a u) y n i q f) w r)

data Twins : Answer × State → Answer × State → Type 0 where
  twins : (a : Answer) {s s' : State} → Twin s s' → Twins (a, s) (a, s')

unless_twins : (o : Option SittingFault) {s s' : State} {r r' : Answer × State} → Twin s s' → Twins r r' → Twins (unless o s r) (unless o s' r')
unless_twins None h i = i
unless_twins (Some fault) h i = twins (refused fault) h

-- two sittings with the same named skills, one step apart
module _ (us : Users) (c a : ℕ) (t u : Tree) (e : users t ≡ users u) (x y : Live) (h : Related x y) (n i q : ℕ) (f : List ℕ) (w : World) (r : ℕ) where
  abbrev one : Sitting
  one = seated (planned c a t) x n i q f

  abbrev other : Sitting
  other = seated (planned c a u) y n i q f

  ticked_twins : {o o' : Visit World Live} → Same Related o o' → Twins (ticked us one (held_state one w r) o) (ticked us other (held_state other w r) o')
  ticked_twins (same b v g d) = twins (answered b) (both_held c a t u e d n (suc i) q (named_on us g) (root_noted (suc i) (root_word b) v) r)

  tick_twins : Twins (tick_on us one (held_state one w r)) (tick_on us other (held_state other w r))
  tick_twins =
      unless_twins (first_of (tick_checks us one (held_state one w r))) (both_held c a t u e h n i q f w r) (ticked_twins (visit_related (in_tick us (suc i)) h w))

  halted_twins : (v v' : World) → v ≡ v' → Twins (halted_with v one (held_state one w r)) (halted_with v' other (held_state other w r))
  halted_twins v v' d = rw (sym d)
      (twins halted (both_held c a t u e (clear_related h) n i q [] (root_noted i RootHalt v) r))

  halt_twins : Twins (halt_on us one (held_state one w r)) (halt_on us other (held_state other w r))
  halt_twins =
      unless_twins (first_of (halt_checks us one (held_state one w r))) (both_held c a t u e h n i q f w r)
      (halted_twins (all_halted us one (held_state one w r)) (all_halted us other (held_state other w r)) (halt_related (in_tick us i) h w))

  closed_same : (b : Bool) (v : World) → Twins (closed_with b v one (held_state one w r)) (closed_with b v other (held_state other w r))
  closed_same true v = twins (refused TraceLength) (both_shut (with_lines w.lines v) r)
  closed_same false v = twins closed (both_shut (root_noted i RootClosed v) r)

  closed_twins : (b : Bool) (v v' : World) → v ≡ v' → Twins (closed_with b v one (held_state one w r)) (closed_with b v' other (held_state other w r))
  closed_twins b v v' d = rw (sym d) (closed_same b v)

  close_twins : (slip : ℕ) → Twins (close_on us one slip (held_state one w r)) (close_on us other slip (held_state other w r))
  close_twins slip =
      unless_twins (first_of (close_checks one slip)) (both_held c a t u e h n i q f w r)
      (closed_twins (not (eqb r q)) (all_halted us one (held_state one w r)) (all_halted us other (held_state other w r)) (halt_related (in_tick us i) h w))

call_twins : (k : Call) {s s' : State} → Twin s s' → Twins (called k s) (called k s')
call_twins tick (both_shut w r) = twins (refused PlaceClosed) (both_shut w r)
call_twins tick (both_held c a t u e {x = x} {y = y} h n i q f w r) = rw (sym e) (tick_twins (users t) c a t u e x y h n i q f w r)
call_twins halt_root (both_shut w r) = twins (refused PlaceClosed) (both_shut w r)
call_twins halt_root (both_held c a t u e {x = x} {y = y} h n i q f w r) = rw (sym e) (halt_twins (users t) c a t u e x y h n i q f w r)
call_twins (close slip) (both_shut w r) = twins (refused PlaceClosed) (both_shut w r)
call_twins (close slip) (both_held c a t u e {x = x} {y = y} h n i q f w r) = rw (sym e) (close_twins (users t) c a t u e x y h n i q f w r slip)

sight_twins : (a : Answer) {s s' : State} → Twin s s' → sight (a, s') ≡ sight (a, s)
sight_twins a (both_shut w r) = refl
sight_twins a (both_held c b t u e h n i q f w r) = refl

more_twins : (K : State → List Sight) → ((s s' : State) → Twin s s' → K s' ≡ K s) → {r r' : Answer × State} → Twins r r' → sight r' ∷ K r'.1 ≡ sight r ∷ K r.1
more_twins K k (twins a {s = s} {s' = s'} h) = ap₂ (λ (x : Sight) (l : List Sight). x ∷ l) (sight_twins a h) (k s s' h)

played_twins : (cs : List Call) {s s' : State} → Twin s s' → seen (played cs s') ≡ seen (played cs s)
played_twins [] h = refl
played_twins (c ∷ cs) h = more_twins (λ z. seen (played cs z)) (λ s s' i. played_twins cs i) (call_twins c h)

step_played : (c a : ℕ) {t u : Tree} → Step t u → (n : ℕ) (s : State) (cs : List Call) →
    seen (played cs (begun (planned c a u) n s)) ≡ seen (played cs (begun (planned c a t) n s))
step_played c a {t = t} {u = u} h n s cs =
    played_twins cs (both_held c a t u (same_users h) (fresh_related h) n 0 s.length [] (begun (planned c a t) n s).world s.length)

pub chain_played : (c a : ℕ) {t u : Tree} → Chain t u → (n : ℕ) (s : State) (cs : List Call) →
    seen (played cs (begun (planned c a u) n s)) ≡ seen (played cs (begun (planned c a t) n s))
chain_played c a (done t) n s cs = refl
chain_played c a (step h k) n s cs = chain_played c a k n s cs ∙ step_played c a h n s cs
chain_played c a (step_back h k) n s cs = chain_played c a k n s cs ∙ sym (step_played c a h n s cs)
