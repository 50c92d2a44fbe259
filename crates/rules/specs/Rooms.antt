-- Room in the trace: a place in use always has enough free lines to be closed.
use Rattle.std.specs.Prelude.{◌≡◌, ℕ, ◌+◌, ◌*◌, ◌≤◌, length}
use Rattle.mission.specs.declared.mission.Mission.{Mission}
use Rattle.rules.specs.Missions.{Plan, plan, skills}
use Rattle.rules.specs.Sittings.{Sitting, held, State, Call, tick, halt_root, close, opened, opening, called}

-- a state that an accepted opening, calls in any order, and anything that others do to the bank, the
-- boards and the trace in between lead to; the sitting itself changes only through its calls
pub data Reached (p : Plan) : State → Type 0 where
  at_opening : (n : ℕ) (s : State) → (opening p n s).0 ≡ opened n → Reached p (opening p n s).1
  after_call : (c : Call) (s : State) → Reached p s → Reached p (called c s).1
  disturbed : (s z : State) → Reached p s → z.place ≡ s.place → length z.world.lines ≡ length s.world.lines → Reached p z

pub record Roomy (p : Plan) (s : State) : Type 0 where
  -- a closing has room: one line for each named skill and one of the root are free
  pub room_to_close : (o : Sitting) → s.place ≡ held o → (skills p + 1) + length s.world.lines ≤ o.length
  pub tick_writes : length (called tick s).1.world.lines ≤ (3 * skills p + 1) + length s.world.lines
  pub halt_writes : length (called halt_root s).1.world.lines ≤ (skills p + 1) + length s.world.lines
  pub close_writes : (slip : ℕ) → length (called (close slip) s).1.world.lines ≤ (skills p + 1) + length s.world.lines

abbrev pub ThereIsRoom : Type 0
ThereIsRoom = (m : Mission) (s : State) → Reached (plan m) s → Roomy (plan m) s
