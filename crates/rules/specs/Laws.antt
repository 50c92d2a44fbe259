-- The law of whole runs: of every list of ticks, halts and closes after an accepted opening.
use Rattle.std.specs.Prelude.{◌≡◌, ℕ, ◌+◌, ◌≤◌, List, [], ◌∷◌, map, Option}
use Rattle.entry.specs.declared.parts.Ability.{Ability}
use Rattle.entry.specs.Kinds.{Count}
use Rattle.bank.specs.Skills.{Skill}
use Rattle.mission.specs.declared.mission.Mission.{Mission}
use Rattle.rules.specs.declared.line.Line.{Line}
use Rattle.rules.specs.Leaves.{runs_in}
use Rattle.rules.specs.Lines.{one, starts, ends}
use Rattle.rules.specs.Missions.{Plan, plan, names, Joined}
use Rattle.rules.specs.Sittings.{shut, State, Call, Answer, opened, has, opening, played, front_of}

pub data AtEveryPoint (P : Answer × State → Type 0) : List (Answer × State) → Type 0 where
  over : AtEveryPoint P []
  also : (p : Answer × State) (ps : List (Answer × State)) → P p → AtEveryPoint P ps → AtEveryPoint P (p ∷ ps)

-- the opening's point and those of the calls after it
abbrev pub points : Answer × State → List Call → List (Answer × State)
points p cs = p ∷ played cs p.1

-- skill k runs exactly when its leaf is on the running front; among the lines written since the opening
-- its starts equal its passes, fails and halts, plus one while it runs
pub record Accounted (k : ℕ) (p : Answer × State) : Type 0 where
  pub runs_while_on_the_front : runs_in p.1.world.bank k ≡ has k (front_of p.1.place)
  pub starts_are_ends : starts k p.1.world.lines ≡ ends k p.1.world.lines + one (runs_in p.1.world.bank k)

-- what is seen of a sitting at a point
pub record Sight : Type 0 where
  pub answer : Answer
  pub lines : List Line
  pub bank : List Skill
  pub counts : List (Option Count)
  pub abilities : List (Option Ability)
  pub front : List ℕ

abbrev pub sight : Answer × State → Sight
sight p =
    record {
      answer = p.0;
      lines = p.1.world.lines;
      bank = p.1.world.bank;
      counts = p.1.world.counts;
      abilities = p.1.world.abilities;
      front = front_of p.1.place;
    }

abbrev pub seen : List (Answer × State) → List Sight
seen ps = map sight ps

-- a second place that is not open, with a bank and boards of the same meaning and a trace of the same
-- length
pub record Alike (s t : State) : Type 0 where
  pub place : t.place ≡ shut
  pub bank : t.world.bank ≡ s.world.bank
  pub counts : t.world.counts ≡ s.world.counts
  pub abilities : t.world.abilities ≡ s.world.abilities
  pub length : t.length ≡ s.length

-- whatever calls follow the point of an opening with mission p and number n: every named skill is
-- accounted for at every point; and a second sitting, begun alike with a mission that regrouping joins to
-- this one and the same number, is seen the same at every point of the same calls
pub record WholeRuns (p : Plan) (n : ℕ) (begin : Answer × State) : Type 0 where
  pub accounted : (k : ℕ) → 1 ≤ names p.tree k → (cs : List Call) → AtEveryPoint (Accounted k) (points begin cs)
  pub regrouped : (q : Plan) → Joined p q → (s : State) → Alike begin.1 s → (cs : List Call) → seen (points (opening q n s) cs) ≡ seen (points begin cs)

-- the law, over every mission, every bank and boards by their meaning, every trace and number
abbrev pub LawOfWholeRuns : Type 0
LawOfWholeRuns = (m : Mission) (n : ℕ) (s : State) → (opening (plan m) n s).0 ≡ opened n → WholeRuns (plan m) n (opening (plan m) n s)
