-- What leaves do to the bench and the boards, with the faults that a bank or a board may answer.
use Rattle.std.specs.Prelude.{ℕ, Bool, true, false, pos, Some, None, Ok, Err, Option, Result}
use Rattle.entry.specs.Kinds.{Mark}
use Rattle.entry.specs.declared.parts.Weighed.{Weighed}
use Rattle.entry.specs.Abilities.{ability_takes, ability_makes}
use Rattle.entry.specs.Counts.{count_takes, count_makes}
use Rattle.bank.specs.Skills.{asked, leaves, start_reply, poll_reply, halt_reply, started, polled, struck}
use Rattle.bank.specs.declared.bank_fault.BankFault.{BankFault}
use Rattle.bank.specs.declared.kinds.Ending.TheVariants.{Fail as EndFail, Pass as EndPass}
use Rattle.bank.specs.declared.kinds.Reply.{Reply}
use Rattle.bank.specs.declared.kinds.Reply.TheVariants.{Run as OneMoreRun, Ended}
use Rattle.board.specs.Entering.{entering, entered}
use Rattle.board.specs.declared.board_fault.BoardFault.{BoardFault}
use Rattle.board.specs.declared.entering.Entered.{Entered}
use Rattle.mission.specs.declared.node.Target.{Target}
use Rattle.mission.specs.declared.node.Target.TheVariants.{Nowhere, Count as CountKey, Ability as AbilityKey}
use Rattle.rules.specs.Leaves.{mark_of, is_taken}
use Rattle.rules.specs.declared.sitting_fault.SittingFault.{SittingFault}
use Rattle.rules.specs.declared.sitting_fault.SittingFault.TheVariants.{SkillsDiffer, Bank, Board}
use Rattle.rules.specs.declared.status.Status.{Status}
use Rattle.rules.specs.declared.status.Status.TheVariants.{Run, Pass, Fail}
use Rattle.rules.specs.declared.word.Word.TheVariants.{Start as StartWord, Run as RunWord, Pass as PassWord, Fail as FailWord, Halt as HaltWord, Blocked as BlockedWord, Full as FullWord}
use Rattle.sitting.specs.declared.leaf_state.LeafState.{LeafState}
use Rattle.sitting.specs.declared.leaf_state.LeafState.TheVariants.{Idle, Running}
use Rattle.sitting.specs.Desks.{Bench, Boards, noted, with_bank, with_ledger, state_of, begun, ended, blocked}

-- a mark brought into its entry: whether it was taken

abbrev pub taken_or_fault : Result Entered BoardFault → Result Bool SittingFault
taken_or_fault (Ok e) = Ok (is_taken e)
taken_or_fault (Err fault) = Err (Board fault)

abbrev pub brought : Option Mark → Target → Boards → Result Bool SittingFault × Boards
brought None target s = (Ok false, s)
brought (Some m) Nowhere s = (Ok true, s)
brought (Some m) (CountKey key) s = (taken_or_fault (entering count_takes s.0 key m), (entered count_makes count_takes s.0 key m, s.1))
brought (Some m) (AbilityKey key weight) s =
    let w : Weighed = record { mark = m; weight = weight } in
    (taken_or_fault (entering ability_takes s.1 key w), (s.0, entered ability_makes ability_takes s.1 key w))

-- a skill leaf polled

abbrev pub Outcome : Type 0
Outcome = Result Status SittingFault × Bench × Boards

-- a pass, by whether its mark was taken
abbrev pub passed : Result Bool SittingFault → ℕ → Bench → Boards → Outcome
passed (Ok true) k b s = (Ok Pass, b, s)
passed (Ok false) k b s = (Ok Fail, noted FullWord k (pos 0) b, s)
passed (Err fault) k b s = (Err fault, b, s)

abbrev pub scored : Result Bool SittingFault × Boards → ℕ → Bench → Outcome
scored r k b = passed r.0 k b r.1

abbrev pub over : ℕ → Bench → Bench
over k b = with_ledger (ended b.ledger k) b

abbrev pub hear : LeafState → Reply → ℕ → Target → Bench → Boards → Outcome
hear Idle r k target b s = (Err SkillsDiffer, b, s)
hear Running OneMoreRun k target b s = (Ok Run, noted RunWord k (pos 0) b, s)
hear Running (Ended EndFail) k target b s = (Ok Fail, noted FailWord k (pos 0) (over k b), s)
hear Running (Ended (EndPass m)) k target b s = scored (brought (mark_of m) target s) k (noted PassWord k m (over k b))

abbrev pub heard : Result Reply BankFault → ℕ → Target → Bench → Boards → Outcome
heard (Ok r) k target b s = hear (state_of b.ledger k) r k target b s
heard (Err fault) k target b s = (Err (Bank fault), b, s)

abbrev pub polled_leaf : ℕ → Target → Bench → Boards → Outcome
polled_leaf k target b s =
    heard (asked poll_reply b.bank k) k target (with_bank (leaves polled (asked poll_reply b.bank k) b.bank k) b) s

-- a skill leaf started

abbrev pub start_or_fault : Result Unit BankFault → ℕ → Option ℕ → Bench → Result Unit SittingFault × Bench
start_or_fault (Ok u) k device b = (Ok tt, noted StartWord k (pos 0) (with_ledger (begun b.ledger k device) b))
start_or_fault (Err fault) k device b = (Err (Bank fault), b)

abbrev pub started_leaf : ℕ → Option ℕ → Bench → Result Unit SittingFault × Bench
started_leaf k device b =
    start_or_fault (asked start_reply b.bank k) k device (with_bank (leaves started (asked start_reply b.bank k) b.bank k) b)

abbrev pub then_polled : Result Unit SittingFault × Bench → ℕ → Target → Boards → Outcome
then_polled (Ok u, b) k target s = polled_leaf k target b s
then_polled (Err fault, b) k target s = (Err fault, b, s)

-- a skill leaf visited

abbrev pub begin_unless : Bool → ℕ → Option ℕ → Target → Bench → Boards → Outcome
begin_unless true k device target b s = (Ok Fail, noted BlockedWord k (pos 0) b, s)
begin_unless false k device target b s = then_polled (started_leaf k device b) k target s

abbrev pub visited : LeafState → ℕ → Option ℕ → Target → Bench → Boards → Outcome
visited Idle k device target b s = begin_unless (blocked b.ledger device) k device target b s
visited Running k device target b s = polled_leaf k target b s

abbrev pub visit_skill : ℕ → Option ℕ → Target → Bench → Boards → Outcome
visit_skill k device target b s = visited (state_of b.ledger k) k device target b s

-- a skill leaf stopped

abbrev pub halt_or_fault : Result Unit BankFault → ℕ → Bench → Result Unit SittingFault × Bench
halt_or_fault (Ok u) k b = (Ok tt, noted HaltWord k (pos 0) (over k b))
halt_or_fault (Err fault) k b = (Err (Bank fault), b)

abbrev pub stopped : LeafState → ℕ → Bench → Result Unit SittingFault × Bench
stopped Idle k b = (Ok tt, b)
stopped Running k b = halt_or_fault (asked halt_reply b.bank k) k (with_bank (leaves struck (asked halt_reply b.bank k) b.bank k) b)

abbrev pub stop_skill : ℕ → Bench → Result Unit SittingFault × Bench
stop_skill k b = stopped (state_of b.ledger k) k b
