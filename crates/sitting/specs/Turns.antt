-- What a visit does in one turn, over the tables of a sitting.
use Rattle.std.specs.Prelude.{ℕ, zero, suc, ◌+◌, ◌-◌, ◌^◌, min, Bool, true, false, cond, not, List, [], ◌∷◌, ◌++◌, length, take, Some, None, Ok, Err, Option, Result, ◌==◌, nat_lt, slice_get, count_ones, bit_and, bit_or}
use Rattle.entry.specs.Abilities.{ability_meets}
use Rattle.entry.specs.Counts.{count_meets}
use Rattle.bank.specs.Skills.{Skill}
use Rattle.board.specs.Meaning.{at}
use Rattle.board.specs.Entering.{held_to}
use Rattle.mission.specs.Missions.{meaning}
use Rattle.mission.specs.Places.{node_at}
use Rattle.mission.specs.declared.node.GroupKind.{GroupKind}
use Rattle.mission.specs.declared.node.LoopKind.{LoopKind}
use Rattle.mission.specs.declared.node.Node.{Node}
use Rattle.mission.specs.declared.node.Node.TheVariants.{Group, Par, Not, Loop, Skill as ASkill, Count, Ability}
use Rattle.rules.specs.declared.line.Line.{Line}
use Rattle.rules.specs.declared.sitting_fault.SittingFault.{SittingFault}
use Rattle.rules.specs.declared.status.Status.{Status}
use Rattle.rules.specs.declared.status.Status.TheVariants.{Run, Pass, Fail}
use Rattle.rules.specs.Live.{goes_on, remembers, counts_on}
use Rattle.rules.specs.Statuses.{exchanged, verdict_of}
use Rattle.rules.specs.Visiting.{moves_on, moved, verdict}
use Rattle.sitting.specs.Acts.{Outcome, visit_skill}
use Rattle.sitting.specs.Desks.{Boards, bench}
use Rattle.sitting.specs.Halting.{Desk, desk, Halted, go_on, halt_range}
use Rattle.sitting.specs.Tables.{beyond, end_at, memory_at, with_memory, ahead_of, results_of, count_of}
use Rattle.sitting.specs.declared.frame.Frame.{Frame}
use Rattle.sitting.specs.declared.memory.Memory.{Memory}
use Rattle.sitting.specs.declared.memory.Memory.TheVariants.{Nothing, Child, Results as Kept, Count as Counted}
use Rattle.sitting.specs.declared.memory.Results.{Results}
use Rattle.sitting.specs.declared.executive.Executive.{Executive}
use Rattle.sitting.specs.declared.turn.Turn.{Turn}
use Rattle.sitting.specs.declared.turn.Turn.TheVariants.{Enter, Look, Answer}

-- a sitting in a visit: the nodes whose children are being visited, and what it was lent
pub record Stage : Type 0 where
  pub sitting : Executive
  pub stack : List Frame
  pub bank : List Skill
  pub boards : Boards
  pub rows : List Line

abbrev pub stage : Executive → List Frame → List Skill → Boards → List Line → Stage
stage s K bank boards rows = record { sitting = s; stack = K; bank = bank; boards = boards; rows = rows }

abbrev pub desk_of : Stage → Desk
desk_of g = desk g.sitting g.bank g.rows

abbrev pub on_desk : Stage → Desk → Stage
on_desk g d = stage d.sitting g.stack d.bank g.boards d.rows

abbrev pub frame : ℕ → ℕ → ℕ → Frame
frame node child number = record { node = node; child = child; number = number }

abbrev pub Step : Type 0
Step = Result Turn SittingFault × Stage

-- a node remembers this
abbrev pub remembering : ℕ → Memory → Stage → Stage
remembering i m g = stage (with_memory g.sitting i m) g.stack g.bank g.boards g.rows

-- a child is entered; nothing is deeper than 16 levels
abbrev pub descended : Frame → List Frame → Turn × List Frame
descended f K = cond (nat_lt (length K) 16) (Enter f.child, K ++ f ∷ []) (Answer Fail, K)

abbrev pub descend : Frame → Stage → Step
descend f g = (Ok (descended f g.stack).0, stage g.sitting (descended f g.stack).1 g.bank g.boards g.rows)

-- the frame of the child after
abbrev pub next : Executive → Frame → Frame
next s f = frame f.node (end_at s f.child) (min (f.number + 1) 255)

-- a node is entered

abbrev pub answers : Result Status SittingFault → Result Turn SittingFault
answers (Ok a) = Ok (Answer a)
answers (Err fault) = Err fault

abbrev pub skill_entered : Outcome → Stage → Step
skill_entered r g = (answers r.0, stage (record g.sitting { ledger = r.1.ledger }) g.stack r.1.bank r.2 r.1.rows)

abbrev pub first_child : ℕ → Frame
first_child i = frame i (beyond i 1) 0

abbrev pub entered : Node → ℕ → Stage → Step
entered (Group kind kids) i g = (Ok (Look (frame i (beyond (beyond i 1) (ahead_of (memory_at g.sitting i))) 0)), g)
entered (Par kids need) i g = (Ok (Look (first_child i)), g)
entered Not i g = descend (first_child i) g
entered (Loop kind times) i g = descend (first_child i) g
entered (ASkill k device target) i g = skill_entered (visit_skill k device target (bench g.bank g.rows g.sitting.ledger) g.boards) g
entered (Count key least) i g = (Ok (Answer (verdict_of (held_to count_meets (at g.boards.0 key) least))), g)
entered (Ability key least) i g = (Ok (Answer (verdict_of (held_to ability_meets (at g.boards.1 key) least))), g)

-- the results of a par

abbrev pub bit_of : ℕ → ℕ
bit_of j = cond (nat_lt j 32) (2 ^ j) 0

abbrev pub has_result : Results → ℕ → Bool
has_result r j = not (bit_and (bit_or r.passed r.failed) (bit_of j) == 0)

abbrev pub kept : Results → ℕ → Status → Results
kept r j Run = r
kept r j Pass = record r { passed = bit_or r.passed (bit_of j) }
kept r j Fail = record r { failed = bit_or r.failed (bit_of j) }

-- the children of a par without a result are halted: n children, the first of them number j at place i
abbrev pub open_halted : Bool → ℕ → Desk → Halted
open_halted true i d = (Ok tt, d)
open_halted false i d = halt_range i (end_at d.sitting i) d

unfoldable pub halt_open : ℕ → ℕ → ℕ → Results → Desk → Halted
halt_open zero j i r d = (Ok tt, d)
halt_open (suc n) j i r d = go_on (open_halted (has_result r j) i d) (halt_open n (j + 1) (end_at d.sitting i) r)

-- a node looks at its next child

-- after a halting walk a node forgets what it remembered, and answers
abbrev pub then_answers : Halted → ℕ → Status → Stage → Step
then_answers (Ok u, d) i a g = (Ok (Answer a), remembering i Nothing (on_desk g d))
then_answers (Err fault, d) i a g = (Err fault, on_desk g d)

abbrev pub par_ends : Status → ℕ → ℕ → Stage → Step
par_ends Run kids i g = (Ok (Answer Run), g)
par_ends Pass kids i g = then_answers (halt_open kids 0 (beyond i 1) (results_of (memory_at g.sitting i)) (desk_of g)) i Pass g
par_ends Fail kids i g = then_answers (halt_open kids 0 (beyond i 1) (results_of (memory_at g.sitting i)) (desk_of g)) i Fail g

abbrev pub par_verdict : ℕ → ℕ → Results → Status
par_verdict kids need r = verdict need kids (count_ones r.passed) (count_ones r.failed)

abbrev pub is_last : Executive → Frame → Bool
is_last s f = f.child == end_at s f.node

abbrev pub looked : Node → Frame → Stage → Step
looked (Group kind kids) f g =
    cond (is_last g.sitting f) (Ok (Answer (moved (goes_on kind))), remembering f.node Nothing g) (descend f g)
looked (Par kids need) f g =
    let r = results_of (memory_at g.sitting f.node) in
    cond (is_last g.sitting f) (par_ends (par_verdict kids need r) kids f.node g) (cond (has_result r f.number) (Ok (Look (next g.sitting f)), g) (descend f g))
looked Not f g = (Ok (Answer Fail), g)
looked (Loop kind times) f g = (Ok (Answer Fail), g)
looked (ASkill k device target) f g = (Ok (Answer Fail), g)
looked (Count key least) f g = (Ok (Answer Fail), g)
looked (Ability key least) f g = (Ok (Answer Fail), g)

-- a child answers

abbrev pub goes_past : Bool → Frame → Stage → Stage
goes_past true f g = remembering f.node (Child ((end_at g.sitting f.child - f.node) - 1)) g
goes_past false f g = g

-- a node that runs on keeps what it remembers
abbrev pub ends_with : Status → ℕ → Stage → Stage
ends_with Run i g = g
ends_with Pass i g = remembering i Nothing g
ends_with Fail i g = remembering i Nothing g

abbrev pub then_ends : Halted → ℕ → Status → Stage → Step
then_ends (Ok u, d) i a g = (Ok (Answer a), ends_with a i (on_desk g d))
then_ends (Err fault, d) i a g = (Err fault, on_desk g d)

abbrev pub later_halted : Bool → Frame → Stage → Halted
later_halted true f g = (Ok tt, desk_of g)
later_halted false f g = halt_range (end_at g.sitting f.child) (end_at g.sitting f.node) (desk_of g)

abbrev pub group_answered : GroupKind → Frame → Status → Stage → Step
group_answered kind f a g =
    cond
    (moves_on (goes_on kind) a)
    (Ok (Look (next g.sitting f)), goes_past (remembers kind) f g)
    (then_ends (later_halted (remembers kind) f g) f.node a g)

abbrev pub keeping : Status → Frame → Stage → Stage
keeping Run f g = g
keeping Pass f g = remembering f.node (Kept (kept (results_of (memory_at g.sitting f.node)) f.number Pass)) g
keeping Fail f g = remembering f.node (Kept (kept (results_of (memory_at g.sitting f.node)) f.number Fail)) g

-- a loop counts one more, and ends on reaching its times
abbrev pub counted : LoopKind → ℕ → ℕ → Stage → Turn × Stage
counted kind times i g =
    let n = min (count_of (memory_at g.sitting i) + 1) 65535 in
    cond (nat_lt n times) (Answer Run, remembering i (Counted n) g) (Answer (moved (counts_on kind)), remembering i Nothing g)

abbrev pub as_step : Turn × Stage → Step
as_step p = (Ok p.0, p.1)

abbrev pub answered : Node → Frame → Status → Stage → Step
answered (Group kind kids) f a g = group_answered kind f a g
answered (Par kids need) f a g = (Ok (Look (next g.sitting f)), keeping a f g)
answered Not f a g = (Ok (Answer (exchanged a)), g)
answered (Loop kind times) f a g = cond (moves_on (counts_on kind) a) (as_step (counted kind times f.node g)) (Ok (Answer a), ends_with a f.node g)
answered (ASkill k device target) f a g = (Ok (Answer a), g)
answered (Count key least) f a g = (Ok (Answer a), g)
answered (Ability key least) f a g = (Ok (Answer a), g)

-- one turn

abbrev pub resumed : Option Frame → Status → Stage → Step
resumed None a g = (Ok (Answer a), g)
resumed (Some f) a g = answered (node_at (meaning g.sitting.mission).nodes f.node) f a g

abbrev pub popped : List Frame → List Frame
popped K = take (length K - 1) K

abbrev pub turned : Turn → Stage → Step
turned (Enter i) g = entered (node_at (meaning g.sitting.mission).nodes i) i g
turned (Look f) g = looked (node_at (meaning g.sitting.mission).nodes f.node) f g
turned (Answer a) g = resumed (slice_get g.stack (length g.stack - 1)) a (stage g.sitting (popped g.stack) g.bank g.boards g.rows)

-- turns until the root has answered, so many at most

abbrev pub root_answer : List Frame → Status → Option Status
root_answer [] a = Some a
root_answer (f ∷ K) a = None

abbrev pub outcome : Turn → List Frame → Option Status
outcome (Enter i) K = None
outcome (Look f) K = None
outcome (Answer a) K = root_answer K a

abbrev pub Visited : Type 0
Visited = Result Status SittingFault × Stage

abbrev pub then_visited : Step → (Turn → Stage → Visited) → Visited
then_visited (Ok t, g) f = f t g
then_visited (Err fault, g) f = (Err fault, g)

abbrev pub unless_answered : Option Status → Stage → Visited → Visited
unless_answered None g r = r
unless_answered (Some a) g r = (Ok a, g)

unfoldable pub visited : ℕ → Turn → Stage → Visited
visited zero t g = (Ok Fail, g)
visited (suc n) t g = unless_answered (outcome t g.stack) g (then_visited (turned t g) (visited n))
