-- An executive that runs a mission, as the open sitting of the rules that it stands for.
use Rattle.std.specs.Prelude.{◌≡◌, ℕ, suc, ◌+◌, ◌≤◌, List, length, take, drop, pos}
use Rattle.bank.specs.Skills.{Skill}
use Rattle.rules.specs.declared.line.Line.{Line}
use Rattle.rules.specs.declared.word.Word.{Word}
use Rattle.rules.specs.Leaves.{World}
use Rattle.rules.specs.Missions.{plan}
use Rattle.rules.specs.Sittings.{Sitting, State, held, Call, Answer, called}
use Rattle.sitting.specs.Desks.{Boards, row_put, one_used}
use Rattle.sitting.specs.Fronts.{front_of}
use Rattle.sitting.specs.Keeping.{Kept}
use Rattle.sitting.specs.Reviving.{live_of}
use Rattle.sitting.specs.Ruled.{named, SameMission}
use Rattle.sitting.specs.declared.executive.Executive.{Executive}

-- with the sitting's number, and the length of the trace that it was opened with
abbrev pub sitting_of : Executive → (number length : ℕ) → Sitting
sitting_of e number length =
    record { mission = plan e.mission; live = live_of e; number = number; ticks = e.ledger.tick; length = length; front = front_of e }

abbrev pub world_of : Executive → List Skill → Boards → List Line → World
world_of e bank boards rows = record { bank = bank; counts = boards.0; abilities = boards.1; lines = take e.ledger.used rows }

-- lent this bank, these boards and this trace
abbrev pub state_for : Executive → (number length : ℕ) → List Skill → Boards → List Line → State
state_for e number long bank boards rows =
    record { place = held (sitting_of e number long); world = world_of e bank boards rows; length = length rows }

-- with a line of the root, and the rows with it
abbrev pub noting : Executive → List Line → Executive
noting e rows = record e { ledger = one_used e.ledger rows }

abbrev pub root_row : Executive → Word → List Line → List Line
root_row e v rows = row_put e.ledger rows v 0 (pos 0)

-- a trace of this length has the lines free that a close writes
abbrev pub Roomy : ℕ → Executive → Type 0
Roomy long e = e.ledger.used + suc (length (named e)) ≤ long

-- each tick has a line of its own
abbrev pub Timely : Executive → Type 0
Timely e = e.ledger.tick ≤ e.ledger.used

-- a call was that of the rules: from one state to another
pub record Answered (call : Call) (answer : Answer) (number long : ℕ) (e : Executive) (bank : List Skill) (boards : Boards) (rows_before : List Line) (z : Executive) (bank_after : List Skill) (boards_after : Boards) (rows_after : List Line) : Type 0 where
  pub by_the_rules : called call (state_for e number long bank boards rows_before) ≡ (answer, state_for z number long bank_after boards_after rows_after)
  pub kept : Kept z
  pub same : SameMission e z
  pub rows : length rows_after ≡ length rows_before
  pub behind : drop z.ledger.used rows_after ≡ drop z.ledger.used rows_before
  pub room : Roomy long z
  pub timely : Timely e → Timely z
