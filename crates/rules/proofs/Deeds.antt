-- What a visit and a stop of a skill leaf do to the bank and the lines, case by case.
use Rattle.std.proofs.Common.{◌≡◌, ℕ, ◌+◌, ◌<◌, Bool, true, false, cond, eqb, ltb, List, length, set, ℤ, pos, is_some, Some, None, Ok, Option, sym, refl, ap, ◌∙◌, subst, arith, ltb-false, ltb-true}
use Rattle.std.proofs.lemmas.Bool.{eqb-false}
use Rattle.std.proofs.lemmas.Bool.Decides.{nat_tests}
use Rattle.std.proofs.lemmas.List.{get_or-set_same, get_or-set_other, get_or_past, length-set}
use Rattle.entry.specs.declared.parts.Ability.{Ability}
use Rattle.entry.specs.Kinds.{Count}
use Rattle.entry.specs.Kinds.{Mark}
use Rattle.bank.specs.Skills.{Take, Skill, no_skill, runs_now, with_given, started, struck, polled, poll_reply}
use Rattle.bank.specs.declared.kinds.Ending.{Ending}
use Rattle.bank.specs.declared.kinds.Ending.TheVariants.{Fail as EndFail, Pass as EndPass}
use Rattle.bank.specs.declared.kinds.Reply.TheVariants.{Run as OneMoreRun, Ended}
use Rattle.mission.specs.declared.node.Target.{Target}
use Rattle.mission.specs.declared.node.Target.TheVariants.{Nowhere, Count as CountKey, Ability as AbilityKey}
use Rattle.mission.specs.Trees.{skill}
use Rattle.rules.specs.declared.line.Line.{Line}
use Rattle.rules.specs.declared.status.Status.{Status}
use Rattle.rules.specs.declared.status.Status.TheVariants.{Run, Pass, Fail}
use Rattle.rules.specs.declared.word.Word.TheVariants.{Start as StartWord, Run as RunWord, Pass as PassWord, Fail as FailWord, Halt as HaltWord, Blocked as BlockedWord, Full as FullWord}
use Rattle.rules.specs.Leaves.{World, Users, skill_at, runs_in, turned, noted, mark_of, brought, passed, scored, heard, start_skill, is_blocked, start_unless, act_on, visit_skill, stop_skill, visit_leaf, stop_leaf}
use Rattle.rules.specs.Lines.{line, then_line}

-- bank and lines before, the status, bank and lines after
pub data Does (t k : ℕ) : List Skill → List Line → Status → List Skill → List Line → Type 0 where
  beyond : (b : List Skill) (ls : List Line) → runs_in b k ≡ false → Does t k b ls Fail b ls
  blocks : (b : List Skill) (ls : List Line) → k < length b → runs_in b k ≡ false → Does t k b ls Fail b (then_line ls (line t BlockedWord k (pos 0)))
  runs : (b : List Skill) (ls : List Line) (s : Skill) → k < length b → runs_in b k ≡ true → runs_now s ≡ true →
      Does t k b ls Run (set b k s) (then_line ls (line t RunWord k (pos 0)))
  fails : (b : List Skill) (ls : List Line) (s : Skill) → k < length b → runs_in b k ≡ true → runs_now s ≡ false →
      Does t k b ls Fail (set b k s) (then_line ls (line t FailWord k (pos 0)))
  passes : (b : List Skill) (ls : List Line) (s : Skill) (m : ℤ) → k < length b → runs_in b k ≡ true → runs_now s ≡ false →
      Does t k b ls Pass (set b k s) (then_line ls (line t PassWord k m))
  overflows : (b : List Skill) (ls : List Line) (s : Skill) (m : ℤ) → k < length b → runs_in b k ≡ true → runs_now s ≡ false →
      Does t k b ls Fail (set b k s) (then_line (then_line ls (line t PassWord k m)) (line t FullWord k (pos 0)))
  starts : (b : List Skill) (ls : List Line) (s : Skill) {a : Status} {b' : List Skill} {ls' : List Line} → k < length b → runs_in b k ≡ false → runs_now s ≡ true →
      Does t k (set b k s) (then_line ls (line t StartWord k (pos 0))) a b' ls' → Does t k b ls a b' ls'

-- bank and lines before and after
pub data Stops (t k : ℕ) : List Skill → List Line → List Skill → List Line → Type 0 where
  is_idle : (b : List Skill) (ls : List Line) → runs_in b k ≡ false → Stops t k b ls b ls
  halts : (b : List Skill) (ls : List Line) (s : Skill) → k < length b → runs_in b k ≡ true → runs_now s ≡ false →
      Stops t k b ls (set b k s) (then_line ls (line t HaltWord k (pos 0)))

-- which skill runs

beyond_off : (l : List Skill) (k : ℕ) → ltb k (length l) ≡ false → runs_in l k ≡ false
beyond_off l k e = ap runs_now (get_or_past l k no_skill (ltb-false k (length l) e))

pub runs_own : (l : List Skill) (k : ℕ) (s : Skill) → k < length l → runs_in (set l k s) k ≡ runs_now s
runs_own l k s h = ap runs_now (get_or-set_same l k s no_skill h)

pub runs_else : (l : List Skill) (k j : ℕ) (s : Skill) → eqb j k ≡ false → runs_in (set l k s) j ≡ runs_in l j
runs_else l k j s e = ap runs_now (get_or-set_other l k j s no_skill (eqb-false j k e))

running_within : (b : Bool) (l : List Skill) (k : ℕ) → ltb k (length l) ≡ b → runs_in l k ≡ true → k < length l
running_within true l k e h = ltb-true k (length l) e
running_within false l k e h = let q = sym (beyond_off l k e) ∙ h in absurd cc

-- a poll

abbrev After : ℕ → ℕ → World → Status × World → Type 0
After t k w r = Does t k w.bank w.lines r.0 r.1.bank r.1.lines

passed_does : (c : Bool) (t k : ℕ) (w : World) (s : Skill) (m : ℤ) (cs : List (Option Count)) (es : List (Option Ability)) →
    k < length w.bank → runs_in w.bank k ≡ true → runs_now s ≡ false →
    After t k w (passed c t k (record { bank = set w.bank k s; counts = cs; abilities = es; lines = then_line w.lines (line t PassWord k m) }))
passed_does true t k w s m cs es h o i = passes w.bank w.lines s m h o i
passed_does false t k w s m cs es h o i = overflows w.bank w.lines s m h o i

scored_does : (o : Option Mark) (target : Target) (t k : ℕ) (w : World) (s : Skill) (m : ℤ) →
    k < length w.bank → runs_in w.bank k ≡ true → runs_now s ≡ false →
    After t k w (scored t k (brought o target (noted t PassWord k m (turned k s w))))
scored_does None target t k w s m h o i = passed_does false t k w s m w.counts w.abilities h o i
scored_does (Some n) Nowhere t k w s m h o i = passed_does true t k w s m w.counts w.abilities h o i
scored_does (Some n) (CountKey key) t k w s m h o i =
    let b = brought (Some n) (CountKey key) (noted t PassWord k m (turned k s w)) in passed_does b.0 t k w s m b.1.counts w.abilities h o i
scored_does (Some n) (AbilityKey key weight) t k w s m h o i =
    let b = brought (Some n) (AbilityKey key weight) (noted t PassWord k m (turned k s w)) in passed_does b.0 t k w s m w.counts b.1.abilities h o i

heard_does : (b : Bool) (e : Ending) (s s' : Skill) (t k : ℕ) (target : Target) (w : World) →
    k < length w.bank → runs_in w.bank k ≡ true → runs_now s ≡ true → runs_now s' ≡ false →
    After t k w (heard (Ok (cond b OneMoreRun (Ended e))) t k target (turned k (cond b s s') w))
heard_does true e s s' t k target w h o i j = runs w.bank w.lines s h o i
heard_does false EndFail s s' t k target w h o i j = fails w.bank w.lines s' h o j
heard_does false (EndPass m) s s' t k target w h o i j = scored_does (mark_of m) target t k w s' m h o j

abbrev poll_from : Skill → ℕ → ℕ → Target → World → Status × World
poll_from s t k target w = heard (poll_reply s) t k target (turned k (polled s) w)

given_does : (takes : ℕ → Take) (g : ℕ) (t k : ℕ) (target : Target) (w : World) →
    k < length w.bank → runs_in w.bank k ≡ true → After t k w (poll_from (record { takes = takes; given = Some g }) t k target w)
given_does takes g t k target w h o =
    let s : Skill = record { takes = takes; given = Some g } in
    heard_does (ltb g (takes 0).runs) (takes 0).ending (with_given s (Some (g + 1))) (struck s) t k target w h o refl refl

poll_does : (s : Skill) (g : ℕ) → s.given ≡ Some g → (t k : ℕ) (target : Target) (w : World) →
    k < length w.bank → runs_in w.bank k ≡ true → After t k w (poll_from s t k target w)
poll_does s g e t k target w h o =
    subst (λ (q : Option ℕ). After t k w (poll_from (record { takes = s.takes; given = q }) t k target w)) (sym e) (given_does s.takes g t k target w h o)

-- a visit

start_does : (b : Bool) (t k : ℕ) (target : Target) (w : World) → k < length w.bank → runs_in w.bank k ≡ false → After t k w (start_unless b t k target w)
start_does true t k target w h o = blocks w.bank w.lines h o
start_does false t k target w h o =
    let s = started (skill_at w k) in
    let v = start_skill t k w in
    let same : skill_at v k ≡ s = get_or-set_same w.bank k s no_skill h in
    let long : k < length v.bank = rw (length-set w.bank k s) h in
    starts w.bank w.lines s h o refl (poll_does (skill_at v k) 0 (ap (λ (q : Skill). q.given) same) t k target v long (ap runs_now same))

act_does : (g : Option ℕ) (us : Users) (t k : ℕ) (device : Option ℕ) (target : Target) (w : World) → (skill_at w k).given ≡ g → k < length w.bank →
    After t k w (act_on g us t k device target w)
act_does None us t k device target w e h = start_does (is_blocked us device w.bank) t k target w h (ap is_some e)
act_does (Some g) us t k device target w e h = poll_does (skill_at w k) g e t k target w h (ap is_some e)

within_does : (b : Bool) (us : Users) (t k : ℕ) (device : Option ℕ) (target : Target) (w : World) → ltb k (length w.bank) ≡ b →
    After t k w (visit_skill b us t k device target w)
within_does true us t k device target w e = act_does (skill_at w k).given us t k device target w refl (ltb-true k (length w.bank) e)
within_does false us t k device target w e = beyond w.bank w.lines (beyond_off w.bank k e)

pub visit_does : (us : Users) (t k : ℕ) (device : Option ℕ) (target : Target) (w : World) → After t k w (visit_leaf us t (skill k device target) w)
visit_does us t k device target w = within_does (ltb k (length w.bank)) us t k device target w refl

-- a stop

stop_given : (g : Option ℕ) (t k : ℕ) (w : World) → (skill_at w k).given ≡ g → Stops t k w.bank w.lines (stop_skill g t k w).bank (stop_skill g t k w).lines
stop_given None t k w e = is_idle w.bank w.lines (ap is_some e)
stop_given (Some g) t k w e =
    let o : runs_in w.bank k ≡ true = ap is_some e in
    halts w.bank w.lines (struck (skill_at w k)) (running_within (ltb k (length w.bank)) w.bank k refl o) o refl

pub stop_does : (t k : ℕ) (device : Option ℕ) (target : Target) (w : World) →
    Stops t k w.bank w.lines (stop_leaf t (skill k device target) w).bank (stop_leaf t (skill k device target) w).lines
stop_does t k device target w = stop_given (skill_at w k).given t k w refl

pub apart : (j k : ℕ) → eqb j k ≡ false → eqb k j ≡ false
apart j k e = grind (arith, nat_tests)
