-- Whatever calls follow an accepted opening, a named skill is accounted for at every point.
use Rattle.std.proofs.Common.{◌≡◌, ℕ, suc, ◌≤◌, Bool, true, false, not, eqb, List, [], ◌∷◌, pos, Some, None, Option, sym, refl, ◌∙◌, arith, eq-eqb}
use Rattle.rules.specs.declared.sitting_fault.SittingFault.{SittingFault}
use Rattle.rules.specs.declared.word.Word.TheVariants.{RootRun, RootPass, RootFail, RootHalt, RootClosed}
use Rattle.rules.specs.Laws.{AtEveryPoint, over, also, Accounted}
use Rattle.rules.specs.Leaves.{World, in_tick, users}
use Rattle.rules.specs.Live.{Live}
use Rattle.rules.specs.Missions.{Plan, names}
use Rattle.rules.specs.Sittings.{Sitting, State, Call, tick, halt_root, close, Answer, has, any_runs, tick_checks, halt_checks, close_checks, first_of, unless, begun, root_noted, named_on, ticked, all_halted, halted_with, closed_with, called, played}
use Rattle.rules.specs.Visiting.{Visit, visit}
use Rattle.rules.proofs.Balances.{on, obeyed, Balanced, note, visit_balanced, stop_balanced}
use Rattle.rules.proofs.Fronts.{Quiet, Told, told_run, told_pass, told_fail, visit_stands, halt_stands}
use Rattle.rules.proofs.Naming.{numbers, named, named_idle, has_named_on}
use Rattle.rules.proofs.Spending.{Holds, visit_keeps, halt_keeps}
use Rattle.rules.proofs.Standing.{Stands, clear_stands, fresh_stands}
use Rattle.rules.proofs.Twins.{seated, shut_state, held_state}

abbrev Even : ℕ → World → Type 0
Even k w = Balanced k w.bank w.lines

-- what holds of skill k after each call, where all calls get the trace of the opening
data KeptUp (k : ℕ) : State → Type 0 where
  at_shut : (w : World) (r : ℕ) → on w k ≡ false → Even k w → KeptUp k (shut_state w r)
  at_held : (p : Plan) → has k (numbers (users p.tree)) ≡ true → {x : Live} (c : Bool) → Stands k c x → (n i : ℕ) (f : List ℕ) (w : World) (r : ℕ) →
      on w k ≡ has k f → Quiet c (on w k) → Even k w → KeptUp k (held_state (seated p x n i r f) w r)

unless_kept : (o : Option SittingFault) (k : ℕ) (s : State) (r : Answer × State) → KeptUp k s → KeptUp k r.1 → KeptUp k (unless o s r).1
unless_kept None k s r h i = i
unless_kept (Some fault) k s r h i = h

module _ (k : ℕ) (p : Plan) (m : has k (numbers (users p.tree)) ≡ true) where
  ticked_kept : (x : Live) (n i : ℕ) (f : List ℕ) (w : World) (r : ℕ) {o : Visit World Live} → Told World on k o → Holds (in_tick (users p.tree) (suc i)) (Even k) (visit_balanced k (users p.tree) (suc i)) (stop_balanced k (suc i)) o →
      KeptUp k (ticked (users p.tree) (seated p x n i r f) (held_state (seated p x n i r f) w r) o).1
  ticked_kept x n i f w r (told_run v g c h e d) even =
      at_held p m c h n (suc i) (named_on (users p.tree) g) (root_noted (suc i) RootRun v) r (e ∙ sym (has_named_on (users p.tree) g k m)) d
      (note k (suc i) RootRun 0 (pos 0) v.bank v.lines refl refl even)
  ticked_kept x n i f w r (told_pass v h e) even =
      at_held p m h.0 h.1 n (suc i) (named_on (users p.tree) []) (root_noted (suc i) RootPass v) r (e ∙ sym (has_named_on (users p.tree) [] k m)) (λ z. e)
      (note k (suc i) RootPass 0 (pos 0) v.bank v.lines refl refl even)
  ticked_kept x n i f w r (told_fail v h e) even =
      at_held p m h.0 h.1 n (suc i) (named_on (users p.tree) []) (root_noted (suc i) RootFail v) r (e ∙ sym (has_named_on (users p.tree) [] k m)) (λ z. e)
      (note k (suc i) RootFail 0 (pos 0) v.bank v.lines refl refl even)

  closed_kept : (c : Bool) (o : Sitting) (s : State) (w : World) → c ≡ false → on w k ≡ false → Even k w → KeptUp k (closed_with c w o s).1
  closed_kept true o s w e h i = absurd cc
  closed_kept false o s w e h i =
      at_shut (root_noted o.ticks RootClosed w) s.length h (note k o.ticks RootClosed 0 (pos 0) w.bank w.lines refl refl i)

same_length : (r : ℕ) → not (eqb r r) ≡ false
same_length r = rw (eq-eqb r r refl) refl

call_kept : (c : Call) (k : ℕ) {s : State} → KeptUp k s → KeptUp k (called c s).1
call_kept tick k (at_shut w r h i) = at_shut w r h i
call_kept tick k (at_held p m {x = x} c h n i f w r e d even) =
    let us = users p.tree in
    let o = seated p x n i r f in
    let s = held_state o w r in
    unless_kept (first_of (tick_checks us o s)) k s (ticked us o s (visit (in_tick us (suc i)) x w)) (at_held p m c h n i f w r e d even)
    (ticked_kept k p m x n i f w r (visit_stands (in_tick us (suc i)) on (obeyed us (suc i)) k h w d)
    (visit_keeps (in_tick us (suc i)) (Even k) (visit_balanced k us (suc i)) (stop_balanced k (suc i)) x w even))
call_kept halt_root k (at_shut w r h i) = at_shut w r h i
call_kept halt_root k (at_held p m {x = x} c h n i f w r e d even) =
    let us = users p.tree in
    let o = seated p x n i r f in
    let s = held_state o w r in
    let v = all_halted us o s in
    let q = halt_stands (in_tick us i) on (obeyed us i) k h w in
    let z = clear_stands h in
    unless_kept (first_of (halt_checks us o s)) k s (halted_with v o s) (at_held p m c h n i f w r e d even)
    (at_held p m z.0 z.1 n i [] (root_noted i RootHalt v) r q (λ y. q)
    (note k i RootHalt 0 (pos 0) v.bank v.lines refl refl (halt_keeps (in_tick us i) (Even k) (visit_balanced k us i) (stop_balanced k i) x w even)))
call_kept (close slip) k (at_shut w r h i) = at_shut w r h i
call_kept (close slip) k (at_held p m {x = x} c h n i f w r e d even) =
    let us = users p.tree in
    let o = seated p x n i r f in
    let s = held_state o w r in
    let v = all_halted us o s in
    unless_kept (first_of (close_checks o slip)) k s (closed_with (not (eqb r r)) v o s) (at_held p m c h n i f w r e d even)
    (closed_kept k p m (not (eqb r r)) o s v (same_length r) (halt_stands (in_tick us i) on (obeyed us i) k h w)
    (halt_keeps (in_tick us i) (Even k) (visit_balanced k us i) (stop_balanced k i) x w even))

kept_accounted : (k : ℕ) (a : Answer) {s : State} → KeptUp k s → Accounted k (a, s)
kept_accounted k a (at_shut w r h i) = record { runs_while_on_the_front = h; starts_are_ends = i }
kept_accounted k a (at_held p m c h n i f w r e d even) = record { runs_while_on_the_front = e; starts_are_ends = even }

played_kept : (k : ℕ) (cs : List Call) {s : State} → KeptUp k s → AtEveryPoint (Accounted k) (played cs s)
played_kept k [] h = over
played_kept k (c ∷ cs) {s = s} h =
    also (called c s) (played cs (called c s).1) (kept_accounted k (called c s).0 (call_kept c k h)) (played_kept k cs (call_kept c k h))

begun_kept : (p : Plan) → ((k : ℕ) → names p.tree k ≤ 1) → (n : ℕ) (s : State) → any_runs (users p.tree) s.world.bank ≡ false →
    (k : ℕ) → 1 ≤ names p.tree k → KeptUp k (begun p n s)
begun_kept p once n s h k i =
    let e : names p.tree k ≡ 1 = (let v = once k in omega arith) in
    let o = fresh_stands p.tree k e in
    let off = named_idle s.world.bank k p.tree h i in
    at_held p (named k p.tree i) o.0 o.1 n 0 [] (begun p n s).world s.length off (λ z. off) (rw off refl)

pub begun_accounted : (p : Plan) → ((k : ℕ) → names p.tree k ≤ 1) → (n : ℕ) (s : State) → any_runs (users p.tree) s.world.bank ≡ false →
    (k : ℕ) → 1 ≤ names p.tree k → (a : Answer) (cs : List Call) → AtEveryPoint (Accounted k) ((a, begun p n s) ∷ played cs (begun p n s))
begun_accounted p once n s h k i a cs =
    let g = begun_kept p once n s h k i in
    also (a, begun p n s) (played cs (begun p n s)) (kept_accounted k a g) (played_kept k cs g)
