-- Six sample evenings, each a mission, a bank, boards and some ticks, with what the last tick writes and
-- what the boards hold then.
use Rattle.std.specs.Prelude.{◌≡◌, ℕ, zero, suc, List, [], ◌∷◌, map, ℤ, pos, negsuc, Some, None, Option, ◌==◌}
use Rattle.std.proofs.Common.{lit≤}
use Rattle.std.specs.List.{filter}
use Rattle.std.specs.Option.{option_map}
use Rattle.std.specs.Int.Signed.{le_z_yes}
use Rattle.entry.specs.declared.parts.Ability.{Ability}
use Rattle.entry.specs.declared.parts.AbilityThreshold.{AbilityThreshold}
use Rattle.entry.specs.Kinds.{Count}
use Rattle.entry.specs.declared.parts.Weight.{Weight}
use Rattle.entry.specs.Abilities.{ability_of}
use Rattle.entry.specs.Counts.{count_of}
use Rattle.bank.specs.Skills.{Skill, front}
use Rattle.bank.specs.declared.kinds.Ending.TheVariants.{Pass as EndPass}
use Rattle.mission.specs.declared.node.GroupKind.TheVariants.{Seq, Fall, Mseq}
use Rattle.mission.specs.declared.node.Target.TheVariants.{Nowhere, Count as CountKey, Ability as AbilityKey}
use Rattle.mission.specs.Trees.{skill, ability, Tree, leaf, group, par, Trees, nil, cons}
use Rattle.rules.specs.declared.line.Line.{Line}
use Rattle.rules.specs.declared.word.Word.TheVariants.{Start, Run, Pass, Halt, Blocked, Full, RootRun, RootPass, RootFail}
use Rattle.rules.specs.Leaves.{World}
use Rattle.rules.specs.Lines.{line, root_line}
use Rattle.rules.specs.Sittings.{shut, State, tick, opening, called}

-- a skill that is idle, passes with this mark after so many runs, and does so again and again
abbrev pub repeating : ℕ → ℤ → Skill
repeating n m = record { takes = λ _. record { runs = n; ending = EndPass m }; given = None }

-- the same with another first take
abbrev pub first_then : ℕ → ℕ → ℤ → Skill
first_then first n m = record { takes = front (record { runs = first; ending = EndPass m }) (repeating n m).takes; given = None }

-- a skill leaf with no device and no entry
abbrev pub plain : ℕ → Tree
plain k = leaf (skill k None Nowhere)

abbrev pub two : Tree → Tree → Trees
two t u = cons t (cons u nil)

abbrev pub weight_1 : Weight
weight_1 = record { value = 1; least = lit≤ tt; most = lit≤ tt }

abbrev pub weight_2 : Weight
weight_2 = record { value = 2; least = lit≤ tt; most = lit≤ tt }

-- at least -1 over 2, and at least -3 over 1
abbrev pub half_below : AbilityThreshold
half_below = record { least = record { value = negsuc 0; low = le_z_yes tt; high = le_z_yes tt }; over = weight_2 }

abbrev pub three_below : AbilityThreshold
three_below = record { least = record { value = negsuc 2; low = le_z_yes tt; high = le_z_yes tt }; over = weight_1 }

pub record Sample : Type 0 where
  pub tree : Tree
  pub bank : List Skill
  pub counts : List (Option Count)
  pub abilities : List (Option Ability)
  pub ticks : ℕ

-- what the last tick wrote, and the entries by their numbers
pub record Shown : Type 0 where
  pub lines : List Line
  pub counts : List (Option ℤ)
  pub abilities : List (Option (ℤ × ℕ))

abbrev pub ticks : ℕ → State → State
ticks zero s = s
ticks (suc n) s = ticks n (called tick s).1

abbrev pub begins : Sample → State
begins e =
    (opening (record { counts = 1; abilities = 1; tree = e.tree }) 7
    (record { place = shut; world = record { bank = e.bank; counts = e.counts; abilities = e.abilities; lines = [] }; length = 64 })).1

abbrev pub lines_of : ℕ → List Line → List Line
lines_of t ls = filter (λ l. l.tick == t) ls

abbrev pub count_shown : Option Count → Option ℤ
count_shown o = option_map (λ c. c.value) o

abbrev pub ability_shown : Option Ability → Option (ℤ × ℕ)
ability_shown o = option_map (λ a. (a.marks, a.weight)) o

abbrev pub shown_at : ℕ → World → Shown
shown_at t w = record { lines = lines_of t w.lines; counts = map count_shown w.counts; abilities = map ability_shown w.abilities }

abbrev pub shown : Sample → Shown
shown e = shown_at e.ticks (ticks e.ticks (begins e)).world

-- 1. a threshold on an ability, and else two skills one after the other
abbrev pub first_evening : ℕ → Sample
first_evening n =
    record {
      tree = group Fall (two (leaf (ability 0 half_below)) (group Mseq (two (leaf (skill 0 None (AbilityKey 0 weight_2))) (plain 1))));
      bank = repeating 1 (negsuc 2) ∷ repeating 0 (pos 4) ∷ [];
      counts = None ∷ [];
      abilities = None ∷ [];
      ticks = n;
    }

-- 2. the ability -6 over 2 held to a threshold
abbrev pub second_evening : AbilityThreshold → Sample
second_evening least =
    record { tree = leaf (ability 0 least); bank = []; counts = None ∷ []; abilities = ability_of (negsuc 5) 2 ∷ []; ticks = 1 }

-- 3. a seq whose first child runs again; 4. the same under mseq
abbrev pub third_evening : Tree → ℕ → Sample
third_evening t n = record { tree = t; bank = first_then 0 1 (pos 0) ∷ repeating 5 (pos 0) ∷ []; counts = None ∷ []; abilities = None ∷ []; ticks = n }

-- 5. two skills on one device
abbrev pub fifth_evening : Sample
fifth_evening =
    record {
      tree = par 2 (two (leaf (skill 0 (Some 0) Nowhere)) (leaf (skill 1 (Some 0) Nowhere)));
      bank = repeating 1 (pos 0) ∷ repeating 1 (pos 0) ∷ [];
      counts = None ∷ [];
      abilities = None ∷ [];
      ticks = 1;
    }

-- 6. the count 999,999 and a mark
abbrev pub sixth_evening : ℤ → Sample
sixth_evening m =
    record { tree = leaf (skill 0 None (CountKey 0)); bank = repeating 0 m ∷ []; counts = count_of (pos 999999) ∷ []; abilities = None ∷ []; ticks = 1 }

abbrev pub evenings : List Sample
evenings =
    first_evening 1
    ∷ first_evening 2
    ∷ second_evening three_below
    ∷ second_evening half_below
    ∷ third_evening (group Seq (two (plain 0) (plain 1))) 2
    ∷ third_evening (group Mseq (two (plain 0) (plain 1))) 2
    ∷ fifth_evening
    ∷ sixth_evening (pos 1)
    ∷ sixth_evening (pos 2)
    ∷ []

abbrev pub only_lines : List Line → Shown
only_lines ls = record { lines = ls; counts = None ∷ []; abilities = None ∷ [] }

abbrev pub with_ability : List Line → Shown
with_ability ls = record { lines = ls; counts = None ∷ []; abilities = Some (negsuc 5, 2) ∷ [] }

abbrev pub with_count : ℕ → List Line → Shown
with_count n ls = record { lines = ls; counts = Some (pos n) ∷ []; abilities = None ∷ [] }

abbrev pub expected : List Shown
expected =
    only_lines (line 1 Start 0 (pos 0) ∷ line 1 Run 0 (pos 0) ∷ root_line 1 RootRun ∷ [])
    ∷ with_ability (line 2 Pass 0 (negsuc 2) ∷ line 2 Start 1 (pos 0) ∷ line 2 Pass 1 (pos 4) ∷ root_line 2 RootPass ∷ [])
    ∷ with_ability (root_line 1 RootPass ∷ [])
    ∷ with_ability (root_line 1 RootFail ∷ [])
    ∷ only_lines (line 2 Start 0 (pos 0) ∷ line 2 Run 0 (pos 0) ∷ line 2 Halt 1 (pos 0) ∷ root_line 2 RootRun ∷ [])
    ∷ only_lines (line 2 Run 1 (pos 0) ∷ root_line 2 RootRun ∷ [])
    ∷ only_lines (line 1 Start 0 (pos 0) ∷ line 1 Run 0 (pos 0) ∷ line 1 Blocked 1 (pos 0) ∷ line 1 Halt 0 (pos 0) ∷ root_line 1 RootFail ∷ [])
    ∷ with_count 1000000 (line 1 Start 0 (pos 0) ∷ line 1 Pass 0 (pos 1) ∷ root_line 1 RootPass ∷ [])
    ∷ with_count 999999 (line 1 Start 0 (pos 0) ∷ line 1 Pass 0 (pos 2) ∷ line 1 Full 0 (pos 0) ∷ root_line 1 RootFail ∷ [])
    ∷ []

-- every evening is as expected
abbrev pub EveningsHold : Type 0
EveningsHold = map shown evenings ≡ expected
