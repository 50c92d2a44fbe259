-- A sitting's state, and its calls: each is refused by the first of its checks that holds, and a refusal
-- changes nothing.
use Rattle.std.specs.Prelude.{ℕ, suc, ◌+◌, ◌-◌, ◌*◌, Bool, true, false, not, ◌||◌, List, [], ◌∷◌, length, map, Some, None, Option, ◌==◌, nat_lt}
use Rattle.std.specs.List.{list_any, filter, find}
use Rattle.std.specs.Option.{option_map}
use Rattle.bank.specs.Skills.{Skill}
use Rattle.rules.specs.declared.sitting_fault.SittingFault.{SittingFault}
use Rattle.rules.specs.declared.sitting_fault.SittingFault.TheVariants.{PlaceOpen, PlaceClosed, SkillBeyond, SkillRuns, SkillsDiffer, BoardSmall, TraceLength, TraceFull, OtherSlip}
use Rattle.rules.specs.declared.line.Line.{Line}
use Rattle.rules.specs.declared.status.Status.{Status}
use Rattle.rules.specs.declared.word.Word.{Word}
use Rattle.rules.specs.declared.word.Word.TheVariants.{RootHalt, RootClosed}
use Rattle.rules.specs.Leaves.{World, Users, runs_in, in_tick, users}
use Rattle.rules.specs.Lines.{root_line, root_word, then_line}
use Rattle.rules.specs.Live.{Live, fresh, cleared}
use Rattle.rules.specs.Missions.{Plan}
use Rattle.rules.specs.Visiting.{Visit, gives, visit, halt}

-- an open sitting: its mission, its memory, its number, the ticks answered, the length of its trace, and
-- the running front
pub record Sitting : Type 0 where
  pub mission : Plan
  pub live : Live
  pub number : ℕ
  pub ticks : ℕ
  pub length : ℕ
  pub front : List ℕ

pub data Place : Type 0 where
  shut : Place
  held : Sitting → Place

-- the place, the bank, the boards and the lines since the opening, and the length of the trace given
pub record State : Type 0 where
  pub place : Place
  pub world : World
  pub length : ℕ

pub data Call : Type 0 where
  tick halt_root : Call
  -- with a slip of this number
  close : ℕ → Call

pub data Answer : Type 0 where
  -- with the slip's number
  opened : ℕ → Answer
  answered : Status → Answer
  halted closed : Answer
  refused : SittingFault → Answer

-- checks

abbrev pub has : ℕ → List ℕ → Bool
has k js = list_any (λ j. j == k) js

abbrev pub any_beyond : Users → ℕ → Bool
any_beyond us width = list_any (λ u. not (nat_lt u.0 width)) us

abbrev pub any_runs : Users → List Skill → Bool
any_runs us l = list_any (λ u. runs_in l u.0) us

abbrev pub unlike : Bool → Bool → Bool
unlike true b = not b
unlike false b = b

-- the bank and the sitting differ on whether a named skill runs
abbrev pub any_differs : Users → List Skill → List ℕ → Bool
any_differs us l front = list_any (λ u. unlike (runs_in l u.0) (has u.0 front)) us

abbrev pub too_small : Plan → World → Bool
too_small p w = nat_lt (length w.counts) p.counts || nat_lt (length w.abilities) p.abilities

abbrev pub is_open : Place → Bool
is_open shut = false
is_open (held o) = true

-- the free lines that a tick asks for, and those that a halt does, by the named skills
abbrev pub tick_room : Users → ℕ
tick_room us = 4 * length us + 2

abbrev pub halt_room : Users → ℕ
halt_room us = 2 * length us + 2

abbrev pub free : State → ℕ
free s = s.length - length s.world.lines

abbrev pub other_length : Sitting → State → Bool
other_length o s = not (s.length == o.length)

-- the checks of each call in their order; us are the named skills of the mission
abbrev pub opening_checks : Users → Plan → State → List (Bool × SittingFault)
opening_checks us p s =
    (is_open s.place, PlaceOpen)
    ∷ (any_beyond us (length s.world.bank), SkillBeyond)
    ∷ (any_runs us s.world.bank, SkillRuns)
    ∷ (too_small p s.world, BoardSmall)
    ∷ (nat_lt s.length (tick_room us) || nat_lt 65536 s.length, TraceLength)
    ∷ []

abbrev pub tick_checks : Users → Sitting → State → List (Bool × SittingFault)
tick_checks us o s =
    (any_beyond us (length s.world.bank), SkillBeyond)
    ∷ (any_differs us s.world.bank o.front, SkillsDiffer)
    ∷ (too_small o.mission s.world, BoardSmall)
    ∷ (other_length o s, TraceLength)
    ∷ (nat_lt (free s) (tick_room us), TraceFull)
    ∷ []

abbrev pub halt_checks : Users → Sitting → State → List (Bool × SittingFault)
halt_checks us o s =
    (any_differs us s.world.bank o.front, SkillsDiffer)
    ∷ (other_length o s, TraceLength)
    ∷ (nat_lt (free s) (halt_room us), TraceFull)
    ∷ []

abbrev pub close_checks : Sitting → ℕ → List (Bool × SittingFault)
close_checks o slip = (not (slip == o.number), OtherSlip) ∷ []

-- the first check that holds
abbrev pub first_of : List (Bool × SittingFault) → Option SittingFault
first_of cs = option_map (λ c. c.1) (find (λ c. c.0) cs)

abbrev pub unless : Option SittingFault → State → Answer × State → Answer × State
unless None s r = r
unless (Some fault) s r = (refused fault, s)

-- opening

abbrev pub begun : Plan → ℕ → State → State
begun p n s =
    record {
      place = held (record { mission = p; live = fresh p.tree; number = n; ticks = 0; length = s.length; front = [] });
      world = record { bank = s.world.bank; counts = s.world.counts; abilities = s.world.abilities; lines = [] };
      length = s.length;
    }

abbrev pub opening : Plan → ℕ → State → Answer × State
opening p n s = unless (first_of (opening_checks (users p.tree) p s)) s (opened n, begun p n s)

-- tick

-- the world with a line of the root
abbrev pub root_noted : ℕ → Word → World → World
root_noted t v w = record { bank = w.bank; counts = w.counts; abilities = w.abilities; lines = then_line w.lines (root_line t v) }

-- the named skills that are on a front, in tree order
abbrev pub named_on : Users → List ℕ → List ℕ
named_on us front = filter (λ k. has k front) (map (λ u. u.0) us)

-- with this memory, these ticks and this front
abbrev pub continued : Sitting → Live → ℕ → List ℕ → Sitting
continued o x t front = record { mission = o.mission; live = x; number = o.number; ticks = t; length = o.length; front = front }

abbrev pub ticked : Users → Sitting → State → Visit World Live → Answer × State
ticked us o s (gives a w f x) = (
  answered a,
  record {
    place = held (continued o x (suc o.ticks) (named_on us f));
    world = root_noted (suc o.ticks) (root_word a) w;
    length = s.length;
  },
)

abbrev pub tick_on : Users → Sitting → State → Answer × State
tick_on us o s =
    unless (first_of (tick_checks us o s)) s (ticked us o s (visit (in_tick us (suc o.ticks)) o.live s.world))

abbrev pub tick_in : Place → State → Answer × State
tick_in shut s = (refused PlaceClosed, s)
tick_in (held o) s = tick_on (users o.mission.tree) o s

-- halt

-- the world with every running named skill halted
abbrev pub all_halted : Users → Sitting → State → World
all_halted us o s = halt (in_tick us o.ticks) o.live s.world

abbrev pub halted_with : World → Sitting → State → Answer × State
halted_with w o s = (
  halted,
  record {
    place = held (continued o (cleared o.live) o.ticks []);
    world = root_noted o.ticks RootHalt w;
    length = s.length;
  },
)

abbrev pub halt_on : Users → Sitting → State → Answer × State
halt_on us o s = unless (first_of (halt_checks us o s)) s (halted_with (all_halted us o s) o s)

abbrev pub halt_in : Place → State → Answer × State
halt_in shut s = (refused PlaceClosed, s)
halt_in (held o) s = halt_on (users o.mission.tree) o s

-- close

-- the same bank and boards, with these lines
abbrev pub with_lines : List Line → World → World
with_lines ls w = record { bank = w.bank; counts = w.counts; abilities = w.abilities; lines = ls }

-- with a trace of another length it writes no lines and answers so, and has still ended the sitting
abbrev pub closed_with : Bool → World → Sitting → State → Answer × State
closed_with true w o s = (refused TraceLength, record { place = shut; world = with_lines s.world.lines w; length = s.length })
closed_with false w o s = (closed, record { place = shut; world = root_noted o.ticks RootClosed w; length = s.length })

abbrev pub close_on : Users → Sitting → ℕ → State → Answer × State
close_on us o slip s = unless (first_of (close_checks o slip)) s (closed_with (other_length o s) (all_halted us o s) o s)

abbrev pub close_in : Place → ℕ → State → Answer × State
close_in shut slip s = (refused PlaceClosed, s)
close_in (held o) slip s = close_on (users o.mission.tree) o slip s

-- any call, and a list of calls: the answer to each and the state after it

abbrev pub called : Call → State → Answer × State
called tick s = tick_in s.place s
called halt_root s = halt_in s.place s
called (close slip) s = close_in s.place slip s

abbrev pub played : List Call → State → List (Answer × State)
played [] s = []
played (c ∷ cs) s = called c s ∷ played cs (called c s).1

-- the running front: empty at a place that is not open
abbrev pub front_of : Place → List ℕ
front_of shut = []
front_of (held o) = o.front
