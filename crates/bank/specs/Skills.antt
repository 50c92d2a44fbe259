-- What a bank means: a list of skills, each an endless list of takes and a state.
use Rattle.std.specs.Prelude.{ℕ, zero, suc, ◌+◌, ◌≤◌, Bool, cond, List, length, pos, negsuc, ◌≤ℤ◌, is_some, is_ok, Some, None, Ok, Err, Option, Result, nat_lt, slice_index_or, slice_set}
use Rattle.bank.specs.declared.kinds.Ending.{Ending}
use Rattle.bank.specs.declared.kinds.Ending.TheVariants.{Fail}
use Rattle.bank.specs.declared.kinds.Reply.{Reply}
use Rattle.bank.specs.declared.kinds.Reply.TheVariants.{Run, Ended}
use Rattle.bank.specs.declared.bank_fault.BankFault.{BankFault}
use Rattle.bank.specs.declared.bank_fault.BankFault.TheVariants.{Beyond, Running, Idle}
use Rattle.bank.specs.Ranges.{mark_of, given_runs}

-- a take: how many runs, and how it ends
pub record Take : Type 0 where
  pub runs : ℕ
  pub ending : Ending

-- a skill: its takes to come, and the runs given in the first one, or none where it is idle
pub record Skill : Type 0 where
  pub takes : ℕ → Take
  pub given : Option ℕ

-- a take with its runs and its mark in range
abbrev pub SoundTake : Take → Type 0
SoundTake t = (t.runs ≤ 60000) × (negsuc 99 ≤ℤ mark_of t.ending) × (mark_of t.ending ≤ℤ pos 100)

-- every take in range, and no more runs given than the first take has
abbrev pub Sound : Skill → Type 0
Sound s = ((n : ℕ) → SoundTake (s.takes n)) × (given_runs s.given ≤ (s.takes 0).runs)

-- this take first, then those
abbrev pub front : Take → (ℕ → Take) → ℕ → Take
front t f zero = t
front t f (suc n) = f n

-- the take past the last one recorded
abbrev pub no_take : Take
no_take = record { runs = 0; ending = Fail }

-- stands for a skill past the width
abbrev pub no_skill : Skill
no_skill = record { takes = λ _. no_take; given = None }

-- the same takes, and these runs given
abbrev pub with_given : Skill → Option ℕ → Skill
with_given s g = record { takes = s.takes; given = g }

-- the first take struck off, and idle
abbrev pub struck : Skill → Skill
struck s = record { takes = λ n. s.takes (suc n); given = None }

-- whether a skill runs
abbrev pub runs_now : Skill → Bool
runs_now s = is_some s.given

-- the answer to a start of a skill below the width
abbrev pub start_reply : Skill → Result Unit BankFault
start_reply s = cond (runs_now s) (Err Running) (Ok tt)

-- the answer to a poll, by the runs given and the first take
abbrev pub poll_at : Option ℕ → Take → Result Reply BankFault
poll_at None t = Err Idle
poll_at (Some g) t = Ok (cond (nat_lt g t.runs) Run (Ended t.ending))

-- the answer to a poll of a skill below the width
abbrev pub poll_reply : Skill → Result Reply BankFault
poll_reply s = poll_at s.given (s.takes 0)

-- the answer to a halt of a skill below the width
abbrev pub halt_reply : Skill → Result Unit BankFault
halt_reply s = cond (runs_now s) (Ok tt) (Err Idle)

-- what an answered start leaves
abbrev pub started : Skill → Skill
started s = with_given s (Some 0)

-- what a poll leaves, by the runs given
abbrev pub poll_leaves : Option ℕ → Skill → Skill
poll_leaves None s = s
poll_leaves (Some g) s = cond (nat_lt g (s.takes 0).runs) (with_given s (Some (g + 1))) (struck s)

-- what an answered poll leaves
abbrev pub polled : Skill → Skill
polled s = poll_leaves s.given s

-- an answer at k, refused past the width
abbrev pub asked : {A : Type 0} → (Skill → Result A BankFault) → List Skill → ℕ → Result A BankFault
asked f l k = cond (nat_lt k (length l)) (f (slice_index_or l k no_skill)) (Err Beyond)

-- the skills after a call on k that answered r: a refusal changes nothing
abbrev pub leaves : {A : Type 0} → (Skill → Skill) → Result A BankFault → List Skill → ℕ → List Skill
leaves f r l k = cond (is_ok r) (slice_set l k (f (slice_index_or l k no_skill))) l

-- one skill after a call that answered r
abbrev pub left_by : {A : Type 0} → (Skill → Skill) → Result A BankFault → Skill → Skill
left_by f r s = cond (is_ok r) (f s) s
