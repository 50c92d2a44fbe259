-- What a call of a sitting works on: the bank and the boards by their meanings, the rows of the trace, and
-- the ledger of the sitting.
use Rattle.std.specs.Prelude.{ℕ, ◌+◌, Bool, true, false, cond, List, length, replicate, ℤ, Some, None, Option, nat_lt, slice_index_or, slice_set}
use Rattle.entry.specs.declared.parts.Ability.{Ability}
use Rattle.entry.specs.Kinds.{Count}
use Rattle.bank.specs.Skills.{Skill}
use Rattle.rules.specs.declared.line.Line.{Line}
use Rattle.rules.specs.declared.word.Word.{Word}
use Rattle.rules.specs.Lines.{line}
use Rattle.sitting.specs.declared.leaf_state.LeafState.{LeafState}
use Rattle.sitting.specs.declared.leaf_state.LeafState.TheVariants.{Idle, Running}
use Rattle.sitting.specs.declared.ledger.Ledger.{Ledger}

-- the bank, the trace and the ledger
pub record Bench : Type 0 where
  pub bank : List Skill
  pub rows : List Line
  pub ledger : Ledger

abbrev pub bench : List Skill → List Line → Ledger → Bench
bench bank rows ledger = record { bank = bank; rows = rows; ledger = ledger }

-- the counts and the abilities
abbrev pub Boards : Type 0
Boards = List (Option Count) × List (Option Ability)

-- the rows with one more line behind those that are used; unchanged where there is no room
abbrev pub row_put : Ledger → List Line → Word → ℕ → ℤ → List Line
row_put l rows v k m = slice_set rows l.used (line l.tick v k m)

-- one more line used, where there is room for it
abbrev pub one_used : Ledger → List Line → Ledger
one_used l rows = record l { used = cond (nat_lt l.used (length rows)) (l.used + 1) l.used }

-- as a sitting begins
abbrev pub fresh_ledger : Ledger
fresh_ledger = record { tick = 0; used = 0; states = replicate 64 Idle; holders = replicate 32 None }

-- the state of a skill's leaf
abbrev pub state_of : Ledger → ℕ → LeafState
state_of l k = slice_index_or l.states k Idle

abbrev pub is_running : LeafState → Bool
is_running Idle = false
is_running Running = true

abbrev pub with_state : Ledger → ℕ → LeafState → Ledger
with_state l k s = record l { states = slice_set l.states k s }

-- the skill holds its device
abbrev pub held : List (Option ℕ) → Option ℕ → ℕ → List (Option ℕ)
held hs None k = hs
held hs (Some d) k = slice_set hs d (Some k)

-- the skill's leaf runs, with this device
abbrev pub begun : Ledger → ℕ → Option ℕ → Ledger
begun l k device = record l { states = slice_set l.states k Running; holders = held l.holders device k }

-- the skill's leaf is idle
abbrev pub ended : Ledger → ℕ → Ledger
ended l k = record l { states = slice_set l.states k Idle }

abbrev pub holder_runs : Ledger → Option ℕ → Bool
holder_runs l None = false
holder_runs l (Some k) = is_running (state_of l k)

-- the skill that was started last with the device runs
abbrev pub blocked : Ledger → Option ℕ → Bool
blocked l None = false
blocked l (Some d) = holder_runs l (slice_index_or l.holders d None)

-- the bench with one more line, and with a leaf running or idle
abbrev pub noted : Word → ℕ → ℤ → Bench → Bench
noted v k m b = record b { rows = row_put b.ledger b.rows v k m; ledger = one_used b.ledger b.rows }

abbrev pub with_bank : List Skill → Bench → Bench
with_bank bank b = record b { bank = bank }

abbrev pub with_ledger : Ledger → Bench → Bench
with_ledger l b = record b { ledger = l }
