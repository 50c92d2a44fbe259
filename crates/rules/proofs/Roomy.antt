-- A place in use always has enough free lines to be closed.
use Rattle.std.proofs.Common.{◌≡◌, ℕ, suc, ◌+◌, ◌*◌, ◌≤◌, Bool, true, false, eqb, ltb, List, [], length, Some, None, Option, refl, ap, ◌∙◌, subst, arith, ltb-false, eqb-true}
use Rattle.std.proofs.lemmas.Bool.{or_parts, not-false}
use Rattle.std.proofs.lemmas.List.{length_push}
use Rattle.mission.specs.Trees.{Tree}
use Rattle.rules.specs.declared.sitting_fault.SittingFault.{SittingFault}
use Rattle.rules.specs.declared.word.Word.TheVariants.{RootHalt, RootClosed}
use Rattle.rules.specs.Leaves.{World, Users, in_tick, users}
use Rattle.rules.specs.Lines.{root_line, root_word}
use Rattle.rules.specs.Live.{Live, fresh, cleared}
use Rattle.rules.specs.Missions.{Plan, plan, skills, names}
use Rattle.rules.specs.Rooms.{Reached, at_opening, after_call, disturbed, Roomy, ThereIsRoom}
use Rattle.rules.specs.Sittings.{Sitting, Place, shut, held, State, Call, tick, halt_root, close, Answer, opened, tick_room, halt_room, free, other_length, tick_checks, halt_checks, close_checks, first_of, unless, opening, named_on, ticked, tick_on, all_halted, halted_with, halt_on, closed_with, close_on, called}
use Rattle.rules.specs.Visiting.{Visit, gives, visit}
use Rattle.rules.proofs.Distinct.{once}
use Rattle.rules.proofs.Shapes.{bare, bare_fresh, bare_cleared, Shaped, visit_shaped}
use Rattle.rules.proofs.Spent.{Long, visit_lines, halt_lines}
use Rattle.rules.proofs.Twins.{seated}
use Rattle.rules.proofs.Wholes.{none_hold, accepted, in_range}

-- what holds of a place with so many lines written
data Seat (p : Plan) : Place → ℕ → Type 0 where
  no_seat : (l : ℕ) → Seat p shut l
  seat : (x : Live) (n i q : ℕ) (f : List ℕ) (l : ℕ) → bare x ≡ p.tree → (skills p + 1) + l ≤ q → Seat p (held (seated p x n i q f)) l

abbrev Sits : Plan → State → Type 0
Sits p s = Seat p s.place (length s.world.lines)

-- what an answered call knows: the lines that it asked for are free

room_left : (us : Users) (o : Sitting) (s : State) (n : ℕ) → other_length o s ≡ false → ltb (free s) n ≡ false → 1 ≤ n → n + length s.world.lines ≤ o.length
room_left us o s n e h some =
    let q : s.length ≡ o.length = eqb-true s.length o.length (not-false (eqb s.length o.length) e) in
    let f = ltb-false (free s) n h in
    omega arith

tick_left : (us : Users) (o : Sitting) (s : State) → first_of (tick_checks us o s) ≡ None → tick_room us + length s.world.lines ≤ o.length
tick_left us o s h = let q = none_hold (tick_checks us o s) h in room_left us o s (tick_room us) q.1.1.1.0 q.1.1.1.1.0 (omega arith)

halt_left : (us : Users) (o : Sitting) (s : State) → first_of (halt_checks us o s) ≡ None → halt_room us + length s.world.lines ≤ o.length
halt_left us o s h = let q = none_hold (halt_checks us o s) h in room_left us o s (halt_room us) q.1.0 q.1.1.0 (omega arith)

-- the state after a call, refused or answered, and its lines

abbrev After : Plan → ℕ → State → Answer × State → Type 0
After p n s r = Sits p r.1 × (length r.1.world.lines ≤ n + length s.world.lines)

unless_after : (o : Option SittingFault) (p : Plan) (n : ℕ) (s : State) (r : Answer × State) → Sits p s → (o ≡ None → After p n s r) → After p n s (unless o s r)
unless_after None p n s r h i = i refl
unless_after (Some fault) p n s r h i = (h, omega arith)

module _ (p : Plan) (single : (k : ℕ) → names p.tree k ≤ 1) (x : Live) (n i q : ℕ) (f : List ℕ) (w : World) (r : ℕ) (b : bare x ≡ p.tree) where
  abbrev us : Users
  us = users p.tree

  abbrev o : Sitting
  o = seated p x n i q f

  abbrev s : State
  s = record { place = held o; world = w; length = r }

  single_live : (k : ℕ) → names (bare x) k ≤ 1
  single_live k = rw b (single k)

  same_number : length (users (bare x)) ≡ skills p
  same_number = ap (λ (t : Tree). length (users t)) b

  ticked_after : (v : Visit World Live) → Shaped World (bare x) v → Long (length w.lines + 3 * length (users (bare x))) v → tick_room us + length w.lines ≤ q →
      After p (3 * skills p + 1) s (ticked us o s v)
  ticked_after (gives a z g y) e l room =
      let c = same_number in
      let d = length_push z.lines (root_line (suc i) (root_word a)) in
      (seat y n (suc i) q (named_on us g) _ (e ∙ b) (omega arith), omega arith)

  tick_after : Sits p s → After p (3 * skills p + 1) s (tick_on us o s)
  tick_after h =
      let v = visit (in_tick us (suc i)) x w in
      unless_after (first_of (tick_checks us o s)) p (3 * skills p + 1) s (ticked us o s v) h
      (λ e. ticked_after v (visit_shaped (in_tick us (suc i)) x w) (visit_lines us (suc i) x w single_live) (tick_left us o s e))

  halted_lines : length (all_halted us o s).lines ≤ length w.lines + skills p
  halted_lines = let h = halt_lines us i x w single_live in let c = same_number in omega arith

  halt_after : Sits p s → After p (skills p + 1) s (halt_on us o s)
  halt_after h =
      unless_after (first_of (halt_checks us o s)) p (skills p + 1) s (halted_with (all_halted us o s) o s) h
      (λ e.
      let room = halt_left us o s e in
      let l = halted_lines in
      let d = length_push (all_halted us o s).lines (root_line i RootHalt) in
      (seat (cleared x) n i q [] _ (bare_cleared x ∙ b) (omega arith), omega arith))

  closed_after : (c : Bool) → After p (skills p + 1) s (closed_with c (all_halted us o s) o s)
  closed_after true = (no_seat _, omega arith)
  closed_after false =
      let l = halted_lines in
      let d = length_push (all_halted us o s).lines (root_line i RootClosed) in
      (no_seat _, omega arith)

  close_after : Sits p s → (slip : ℕ) → After p (skills p + 1) s (close_on us o slip s)
  close_after h slip =
      unless_after (first_of (close_checks o slip)) p (skills p + 1) s (closed_with (other_length o s) (all_halted us o s) o s) h (λ e. closed_after (other_length o s))

-- any state

module _ (p : Plan) (single : (k : ℕ) → names p.tree k ≤ 1) where
  abbrev HoldsAt : Place → World → ℕ → Type 0
  HoldsAt l w r =
      After p (3 * skills p + 1) (record { place = l; world = w; length = r }) (called tick (record { place = l; world = w; length = r }))
      × After p (skills p + 1) (record { place = l; world = w; length = r }) (called halt_root (record { place = l; world = w; length = r }))
      × ((slip : ℕ) → After p (skills p + 1) (record { place = l; world = w; length = r }) (called (close slip) (record { place = l; world = w; length = r })))

  calls_at : (w : World) (r : ℕ) {l : Place} {m : ℕ} → Seat p l m → length w.lines ≡ m → HoldsAt l w r
  calls_at w r (no_seat m) e = ((no_seat _, omega arith), (no_seat _, omega arith), (λ slip. (no_seat _, omega arith)))
  calls_at w r (seat x n i q f m b room) e =
      let h : Seat p (held (seated p x n i q f)) (length w.lines) = seat x n i q f (length w.lines) b (omega arith) in
      (tick_after p single x n i q f w r b h, halt_after p single x n i q f w r b h, (λ slip. close_after p single x n i q f w r b h slip))

  calls : (s : State) → Sits p s → HoldsAt s.place s.world s.length
  calls s h = calls_at s.world s.length h refl

  call_sits : (c : Call) (s : State) → Sits p s → Sits p (called c s).1
  call_sits tick s h = (calls s h).0.0
  call_sits halt_root s h = (calls s h).1.0
  call_sits (close slip) s h = ((calls s h).2 slip).0

  opening_room : (n : ℕ) (s : State) → (opening p n s).0 ≡ opened n → tick_room (users p.tree) ≤ s.length
  opening_room n s h =
      let room = tick_room (users p.tree) in
      ltb-false s.length room (or_parts (ltb s.length room) (ltb 65536 s.length) (in_range p n s h)).0

  reached_sits : {s : State} → Reached p s → Sits p s
  reached_sits (at_opening n s h) =
      let room = opening_room n s h in
      rw (accepted p n s h) (seat (fresh p.tree) n 0 s.length [] 0 (bare_fresh p.tree) (omega arith))
  reached_sits (after_call c s r) = call_sits c s (reached_sits r)
  reached_sits (disturbed s z r e l) =
      rw (e, l) (reached_sits r)

  abbrev RoomIn : Place → ℕ → Type 0
  RoomIn (held o) l = (skills p + 1) + l ≤ o.length
  RoomIn shut l = Unit {0}

  seat_room : {v : Place} {l : ℕ} → Seat p v l → RoomIn v l
  seat_room (no_seat l) = tt
  seat_room (seat x n i q f l b h) = h

  roomy : (s : State) → Sits p s → Roomy p s
  roomy s h =
      record {
        room_to_close = λ o e. subst (λ (v : Place). RoomIn v (length s.world.lines)) e (seat_room h);
        tick_writes = (calls s h).0.1;
        halt_writes = (calls s h).1.1;
        close_writes = λ slip. ((calls s h).2 slip).1;
      }

pub there_is_room : ThereIsRoom
there_is_room m s r = roomy (plan m) (once m) s (reached_sits (plan m) (once m) r)
