-- Trace lines: the words with their numbers, and how often a word stands for a skill.
use Rattle.std.specs.Prelude.{ℕ, ◌+◌, Bool, cond, ◌&&◌, List, [], ◌∷◌, ◌++◌, ℤ, pos, ◌==◌}
use Rattle.std.specs.List.{count_by}
use Rattle.rules.specs.declared.line.Line.{Line}
use Rattle.rules.specs.declared.status.Status.{Status}
use Rattle.rules.specs.declared.status.Status.TheVariants.{Run as StatusRun, Pass as StatusPass, Fail as StatusFail}
use Rattle.rules.specs.declared.word.Word.{Word}
use Rattle.rules.specs.declared.word.Word.TheVariants.{Start, Run, Pass, Fail, Halt, Blocked, Full, RootRun, RootPass, RootFail, RootHalt, RootClosed}

abbrev pub number : Word → ℕ
number Start = 0
number Run = 1
number Pass = 2
number Fail = 3
number Halt = 4
number Blocked = 5
number Full = 6
number RootRun = 7
number RootPass = 8
number RootFail = 9
number RootHalt = 10
number RootClosed = 11

-- a line of a tick: a word of a skill, with its mark
abbrev pub line : ℕ → Word → ℕ → ℤ → Line
line t v k m = record { tick = t; word = number v; skill = k; mark = m }

-- a line of the root: its skill and its mark are 0
abbrev pub root_line : ℕ → Word → Line
root_line t v = line t v 0 (pos 0)

-- the word of the root's status
abbrev pub root_word : Status → Word
root_word StatusRun = RootRun
root_word StatusPass = RootPass
root_word StatusFail = RootFail

-- the lines with one more at their end
abbrev pub then_line : List Line → Line → List Line
then_line ls l = ls ++ (l ∷ [])

abbrev pub one : Bool → ℕ
one b = cond b 1 0

-- whether a line has this word of this skill
abbrev pub tells : ℕ → ℕ → Line → Bool
tells v k l = l.word == v && l.skill == k

-- how many lines have this word of this skill
abbrev pub told : ℕ → ℕ → List Line → ℕ
told v k ls = count_by (tells v k) ls

abbrev pub starts : ℕ → List Line → ℕ
starts k ls = told (number Start) k ls

-- its passes, fails and halts
abbrev pub ends : ℕ → List Line → ℕ
ends k ls = told (number Pass) k ls + told (number Fail) k ls + told (number Halt) k ls
