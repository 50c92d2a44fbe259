-- The world of a sitting: a bank and two boards by their meanings, and the lines written; and what a
-- visit and a stop of a leaf do in it.
use Rattle.std.specs.Prelude.{ℕ, Bool, true, false, ◌&&◌, List, [], ◌∷◌, length, ℤ, pos, Some, None, Ok, Err, Option, Result, ◌==◌, nat_lt, slice_index_or, slice_set}
use Rattle.std.specs.List.{list_any}
use Rattle.entry.specs.declared.parts.Ability.{Ability}
use Rattle.entry.specs.Kinds.{Count, Mark, whole_of}
use Rattle.entry.specs.declared.parts.Weighed.{Weighed}
use Rattle.entry.specs.Abilities.{ability_meets, ability_takes, ability_makes}
use Rattle.entry.specs.Counts.{count_meets, count_takes, count_makes}
use Rattle.bank.specs.Skills.{Skill, no_skill, runs_now, started, struck, polled, poll_reply}
use Rattle.bank.specs.declared.bank_fault.BankFault.{BankFault}
use Rattle.bank.specs.declared.kinds.Ending.TheVariants.{Fail as EndFail, Pass as EndPass}
use Rattle.bank.specs.declared.kinds.Reply.{Reply}
use Rattle.bank.specs.declared.kinds.Reply.TheVariants.{Run as OneMoreRun, Ended}
use Rattle.board.specs.Meaning.{at}
use Rattle.board.specs.Entering.{outcome, entered, held_to}
use Rattle.board.specs.declared.entering.Entered.{Entered}
use Rattle.board.specs.declared.entering.Entered.TheVariants.{Made, Taken, Full as EntryFull}
use Rattle.mission.specs.declared.node.Target.{Target}
use Rattle.mission.specs.declared.node.Target.TheVariants.{Nowhere, Count as CountKey, Ability as AbilityKey}
use Rattle.mission.specs.Trees.{Leaf, skill, count, ability, Tree, leaf, group, par, neg, again, Trees, nil, cons}
use Rattle.rules.specs.declared.line.Line.{Line}
use Rattle.rules.specs.declared.status.Status.{Status}
use Rattle.rules.specs.declared.status.Status.TheVariants.{Run, Pass, Fail}
use Rattle.rules.specs.declared.word.Word.{Word}
use Rattle.rules.specs.declared.word.Word.TheVariants.{Start as StartWord, Run as RunWord, Pass as PassWord, Fail as FailWord, Halt as HaltWord, Blocked as BlockedWord, Full as FullWord}
use Rattle.rules.specs.Lines.{line, then_line}
use Rattle.rules.specs.Statuses.{verdict_of}
use Rattle.rules.specs.Visiting.{Actions}

pub record World : Type 0 where
  pub bank : List Skill
  pub counts : List (Option Count)
  pub abilities : List (Option Ability)
  pub lines : List Line

abbrev pub skill_at : World → ℕ → Skill
skill_at w k = slice_index_or w.bank k no_skill

-- whether skill k runs: no at or beyond the width
abbrev pub runs_in : List Skill → ℕ → Bool
runs_in l k = runs_now (slice_index_or l k no_skill)

-- skill k becomes s
abbrev pub turned : ℕ → Skill → World → World
turned k s w = record { bank = slice_set w.bank k s; counts = w.counts; abilities = w.abilities; lines = w.lines }

-- one more line
abbrev pub noted : ℕ → Word → ℕ → ℤ → World → World
noted t v k m w = record { bank = w.bank; counts = w.counts; abilities = w.abilities; lines = then_line w.lines (line t v k m) }

abbrev pub with_counts : List (Option Count) → World → World
with_counts l w = record { bank = w.bank; counts = l; abilities = w.abilities; lines = w.lines }

abbrev pub with_abilities : List (Option Ability) → World → World
with_abilities l w = record { bank = w.bank; counts = w.counts; abilities = l; lines = w.lines }

-- a mark brought into its entry

-- the mark of a number, absent where the number is out of range
abbrev pub mark_of : ℤ → Option Mark
mark_of = whole_of 100

abbrev pub is_taken : Entered → Bool
is_taken Made = true
is_taken Taken = true
is_taken EntryFull = false

-- whether it was taken, and the world after; no bank that keeps its rules gives a mark out of range
abbrev pub brought : Option Mark → Target → World → Bool × World
brought None target w = (false, w)
brought (Some m) Nowhere w = (true, w)
brought (Some m) (CountKey key) w =
    (is_taken (outcome count_takes (at w.counts key) m), with_counts (entered count_makes count_takes w.counts key m) w)
brought (Some m) (AbilityKey key weight) w =
    let s : Weighed = record { mark = m; weight = weight } in
    (is_taken (outcome ability_takes (at w.abilities key) s), with_abilities (entered ability_makes ability_takes w.abilities key s) w)

-- a pass whose mark was taken, or found its entry full
abbrev pub passed : Bool → ℕ → ℕ → World → Status × World
passed true t k w = (Pass, w)
passed false t k w = (Fail, noted t FullWord k (pos 0) w)

abbrev pub scored : ℕ → ℕ → Bool × World → Status × World
scored t k b = passed b.0 t k b.1

-- a skill leaf

-- what the leaf makes of the bank's answer to its poll
abbrev pub heard : Result Reply BankFault → ℕ → ℕ → Target → World → Status × World
heard (Ok OneMoreRun) t k target w = (Run, noted t RunWord k (pos 0) w)
heard (Ok (Ended EndFail)) t k target w = (Fail, noted t FailWord k (pos 0) w)
heard (Ok (Ended (EndPass m))) t k target w = scored t k (brought (mark_of m) target (noted t PassWord k m w))
heard (Err fault) t k target w = (Fail, w)

abbrev pub poll_skill : ℕ → ℕ → Target → World → Status × World
poll_skill t k target w = heard (poll_reply (skill_at w k)) t k target (turned k (polled (skill_at w k)) w)

abbrev pub start_skill : ℕ → ℕ → World → World
start_skill t k w = noted t StartWord k (pos 0) (turned k (started (skill_at w k)) w)

-- the named skills in tree order, each with its device
abbrev pub Users : Type 0
Users = List (ℕ × Option ℕ)

abbrev pub has_device : ℕ → Option ℕ → Bool
has_device d None = false
has_device d (Some e) = e == d

-- a running skill of the sitting has the device
abbrev pub in_use : Users → ℕ → List Skill → Bool
in_use us d l = list_any (λ u. has_device d u.1 && runs_in l u.0) us

abbrev pub is_blocked : Users → Option ℕ → List Skill → Bool
is_blocked us None l = false
is_blocked us (Some d) l = in_use us d l

-- an idle leaf is blocked, or starts its skill and polls it
abbrev pub start_unless : Bool → ℕ → ℕ → Target → World → Status × World
start_unless true t k target w = (Fail, noted t BlockedWord k (pos 0) w)
start_unless false t k target w = poll_skill t k target (start_skill t k w)

-- by the runs given of the skill: none where it is idle
abbrev pub act_on : Option ℕ → Users → ℕ → ℕ → Option ℕ → Target → World → Status × World
act_on None us t k device target w = start_unless (is_blocked us device w.bank) t k target w
act_on (Some g) us t k device target w = poll_skill t k target w

-- a skill at or beyond the width is never visited, since the calls refuse such a bank
abbrev pub visit_skill : Bool → Users → ℕ → ℕ → Option ℕ → Target → World → Status × World
visit_skill true us t k device target w = act_on (skill_at w k).given us t k device target w
visit_skill false us t k device target w = (Fail, w)

abbrev pub stop_skill : Option ℕ → ℕ → ℕ → World → World
stop_skill None t k w = w
stop_skill (Some g) t k w = noted t HaltWord k (pos 0) (turned k (struck (skill_at w k)) w)

-- all leaves

abbrev pub visit_leaf : Users → ℕ → Leaf → World → Status × World
visit_leaf us t (skill k device target) w = visit_skill (nat_lt k (length w.bank)) us t k device target w
visit_leaf us t (count key least) w = (verdict_of (held_to count_meets (at w.counts key) least), w)
visit_leaf us t (ability key least) w = (verdict_of (held_to ability_meets (at w.abilities key) least), w)

abbrev pub stop_leaf : ℕ → Leaf → World → World
stop_leaf t (skill k device target) w = stop_skill (skill_at w k).given t k w
stop_leaf t (count key least) w = w
stop_leaf t (ability key least) w = w

-- the actions in tick t of a sitting with these named skills
abbrev pub in_tick : Users → ℕ → Actions
in_tick us t = record { World = World; visit_leaf = visit_leaf us t; stop_leaf = stop_leaf t }

abbrev pub user_of : Leaf → Users → Users
user_of (skill k device target) us = (k, device) ∷ us
user_of (count key least) us = us
user_of (ability key least) us = us

-- the named skills of a tree in tree order, and those others after them
abbrev mutual
  pub users_of : Tree → Users → Users
  users_of (leaf l) us = user_of l us
  users_of (group kind ts) us = users_of_all ts us
  users_of (par need ts) us = users_of_all ts us
  users_of (neg t) us = users_of t us
  users_of (again kind times t) us = users_of t us

  pub users_of_all : Trees → Users → Users
  users_of_all nil us = us
  users_of_all (cons t ts) us = users_of t (users_of_all ts us)

abbrev pub users : Tree → Users
users t = users_of t []
