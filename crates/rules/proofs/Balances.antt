-- The leaves of a sitting obey the front's law, and keep a skill's starts and ends in balance.
use Rattle.std.proofs.Common.{◌≡◌, ℕ, ◌+◌, ◌<◌, Bool, true, false, eqb, List, length, set, ℤ, pos, sym, refl, ◌∙◌, arith, eqb-true, cond}
use Rattle.std.proofs.lemmas.List.Sums.{sum_by_push}
use Rattle.bank.specs.Skills.{Skill, runs_now}
use Rattle.mission.specs.Trees.{Leaf, skill, count, ability}
use Rattle.rules.specs.declared.line.Line.{Line}
use Rattle.rules.specs.declared.status.Status.{Status}
use Rattle.rules.specs.declared.word.Word.{Word}
use Rattle.rules.specs.declared.word.Word.TheVariants.{Start as StartWord, Run as RunWord, Pass as PassWord, Fail as FailWord, Halt as HaltWord, Blocked as BlockedWord, Full as FullWord}
use Rattle.rules.specs.Leaves.{World, Users, runs_in, visit_leaf, stop_leaf, in_tick}
use Rattle.rules.specs.Lines.{number, line, then_line, one, tells, told, starts, ends}
use Rattle.rules.specs.Statuses.{is_run}
use Rattle.rules.proofs.Deeds.{Does, beyond, blocks, runs, fails, passes, overflows, Stops, is_idle, halts, runs_own, runs_else, visit_does, stop_does, apart}
use Rattle.rules.proofs.Deeds as deeds
use Rattle.rules.proofs.Fronts.{Obeyed}
use Rattle.rules.proofs.Standing.{Other}

abbrev pub on : World → ℕ → Bool
on w k = runs_in w.bank k

-- the front's law

own_does : (t k : ℕ) {b b' : List Skill} {ls ls' : List Line} {a : Status} → Does t k b ls a b' ls' → runs_in b' k ≡ is_run a
own_does t k (beyond b ls o) = o
own_does t k (blocks b ls h o) = o
own_does t k (runs b ls s h o i) = runs_own b k s h ∙ i
own_does t k (fails b ls s h o i) = runs_own b k s h ∙ i
own_does t k (passes b ls s m h o i) = runs_own b k s h ∙ i
own_does t k (overflows b ls s m h o i) = runs_own b k s h ∙ i
own_does t k (deeds.starts b ls s h o i d) = own_does t k d

other_does : (t k j : ℕ) → eqb j k ≡ false → {b b' : List Skill} {ls ls' : List Line} {a : Status} → Does t k b ls a b' ls' → runs_in b' j ≡ runs_in b j
other_does t k j e (beyond b ls o) = refl
other_does t k j e (blocks b ls h o) = refl
other_does t k j e (runs b ls s h o i) = runs_else b k j s e
other_does t k j e (fails b ls s h o i) = runs_else b k j s e
other_does t k j e (passes b ls s m h o i) = runs_else b k j s e
other_does t k j e (overflows b ls s m h o i) = runs_else b k j s e
other_does t k j e (deeds.starts b ls s h o i d) = other_does t k j e d ∙ runs_else b k j s e

own_stops : (t k : ℕ) {b b' : List Skill} {ls ls' : List Line} → Stops t k b ls b' ls' → runs_in b' k ≡ false
own_stops t k (is_idle b ls o) = o
own_stops t k (halts b ls s h o i) = runs_own b k s h ∙ i

other_stops : (t k j : ℕ) → eqb j k ≡ false → {b b' : List Skill} {ls ls' : List Line} → Stops t k b ls b' ls' → runs_in b' j ≡ runs_in b j
other_stops t k j e (is_idle b ls o) = refl
other_stops t k j e (halts b ls s h o i) = runs_else b k j s e

visit_other : (us : Users) (t k : ℕ) (l : Leaf) → Other k l → (w : World) → on (visit_leaf us t l w).1 k ≡ on w k
visit_other us t k (skill j d g) h w = other_does t j k (apart j k h) (visit_does us t j d g w)
visit_other us t k (count key least) h w = refl
visit_other us t k (ability key least) h w = refl

stop_other : (t k : ℕ) (l : Leaf) → Other k l → (w : World) → on (stop_leaf t l w) k ≡ on w k
stop_other t k (skill j d g) h w = other_stops t j k (apart j k h) (stop_does t j d g w)
stop_other t k (count key least) h w = refl
stop_other t k (ability key least) h w = refl

pub obeyed : (us : Users) (t : ℕ) → Obeyed (in_tick us t) on
obeyed us t =
    record {
      own = λ k d g w. own_does t k (visit_does us t k d g w);
      other = λ k l h w. visit_other us t k l h w;
      stop_own = λ k d g w. own_stops t k (stop_does t k d g w);
      stop_other = λ k l h w. stop_other t k l h w;
    }

-- one more line

told_then : (v k : ℕ) (ls : List Line) (l : Line) → told v k (then_line ls l) ≡ told v k ls + one (tells v k l)
told_then v k ls l = sum_by_push (λ l. one (tells v k l)) ls l

abbrev begins : Word → ℕ
begins v = one (eqb (number v) 0)

abbrev finishes : Word → ℕ
finishes v = one (eqb (number v) 2) + one (eqb (number v) 3) + one (eqb (number v) 4)

starts_then : (j t : ℕ) (v : Word) (k : ℕ) (m : ℤ) (ls : List Line) → starts j (then_line ls (line t v k m)) ≡ starts j ls + cond (eqb k j) (begins v) 0
starts_then j t v k m ls = let s = told_then 0 j ls (line t v k m) in grind arith

ends_then : (j t : ℕ) (v : Word) (k : ℕ) (m : ℤ) (ls : List Line) → ends j (then_line ls (line t v k m)) ≡ ends j ls + cond (eqb k j) (finishes v) 0
ends_then j t v k m ls =
    let l = line t v k m in
    let p = told_then 2 j ls l in
    let f = told_then 3 j ls l in
    let h = told_then 4 j ls l in
    grind arith

-- the balance of skill j

abbrev pub Balanced : ℕ → List Skill → List Line → Type 0
Balanced j b ls = starts j ls ≡ ends j ls + one (runs_in b j)

turn : (j t : ℕ) (v : Word) (k : ℕ) (m : ℤ) (s : Skill) (b : List Skill) (ls : List Line) → k < length b →
    begins v + one (runs_in b k) ≡ finishes v + one (runs_now s) → Balanced j b ls → Balanced j (set b k s) (then_line ls (line t v k m))
turn j t v k m s b ls h i bal = go (eqb k j) refl
  where
    go : (e : Bool) → eqb k j ≡ e → Balanced j (set b k s) (then_line ls (line t v k m))
    go true e =
        let q = eqb-true k j e in
        let o : runs_in (set b k s) j ≡ runs_now s = rw (sym q) (runs_own b k s h) in
        let c : begins v + one (runs_in b j) ≡ finishes v + one (runs_now s) = rw (sym q) i in
        rw (starts_then j t v k m ls, ends_then j t v k m ls, e, o) (omega arith)
    go false e = rw (starts_then j t v k m ls, ends_then j t v k m ls, e, runs_else b k j s (apart k j e)) (omega arith)

pub note : (j t : ℕ) (v : Word) (k : ℕ) (m : ℤ) (b : List Skill) (ls : List Line) → begins v ≡ 0 → finishes v ≡ 0 → Balanced j b ls → Balanced j b (then_line ls (line t v k m))
note j t v k m b ls p q bal = let s = starts_then j t v k m ls in let e = ends_then j t v k m ls in grind arith

does_balanced : (j t k : ℕ) {b b' : List Skill} {ls ls' : List Line} {a : Status} → Does t k b ls a b' ls' → Balanced j b ls → Balanced j b' ls'
does_balanced j t k (beyond b ls o) bal = bal
does_balanced j t k (blocks b ls h o) bal = note j t BlockedWord k (pos 0) b ls refl refl bal
does_balanced j t k (runs b ls s h o i) bal = turn j t RunWord k (pos 0) s b ls h (rw (o, i) refl) bal
does_balanced j t k (fails b ls s h o i) bal = turn j t FailWord k (pos 0) s b ls h (rw (o, i) refl) bal
does_balanced j t k (passes b ls s m h o i) bal = turn j t PassWord k m s b ls h (rw (o, i) refl) bal
does_balanced j t k (overflows b ls s m h o i) bal =
    note j t FullWord k (pos 0) (set b k s) (then_line ls (line t PassWord k m)) refl refl (turn j t PassWord k m s b ls h (rw (o, i) refl) bal)
does_balanced j t k (deeds.starts b ls s h o i d) bal = does_balanced j t k d (turn j t StartWord k (pos 0) s b ls h (rw (o, i) refl) bal)

stops_balanced : (j t k : ℕ) {b b' : List Skill} {ls ls' : List Line} → Stops t k b ls b' ls' → Balanced j b ls → Balanced j b' ls'
stops_balanced j t k (is_idle b ls o) bal = bal
stops_balanced j t k (halts b ls s h o i) bal = turn j t HaltWord k (pos 0) s b ls h (rw (o, i) refl) bal

pub visit_balanced : (j : ℕ) (us : Users) (t : ℕ) (l : Leaf) (w : World) → Balanced j w.bank w.lines →
    Balanced j (visit_leaf us t l w).1.bank (visit_leaf us t l w).1.lines
visit_balanced j us t (skill k d g) w bal = does_balanced j t k (visit_does us t k d g w) bal
visit_balanced j us t (count key least) w bal = bal
visit_balanced j us t (ability key least) w bal = bal

pub stop_balanced : (j t : ℕ) (l : Leaf) (w : World) → Balanced j w.bank w.lines → Balanced j (stop_leaf t l w).bank (stop_leaf t l w).lines
stop_balanced j t (skill k d g) w bal = stops_balanced j t k (stop_does t k d g w) bal
stop_balanced j t (count key least) w bal = bal
stop_balanced j t (ability key least) w bal = bal
