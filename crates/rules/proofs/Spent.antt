-- How many lines a visit and a halt write: at most three of each named skill in a visit, and at most one
-- in a halt.
use Rattle.std.proofs.Common.{◌≡◌, ℕ, zero, suc, ◌+◌, ◌*◌, ◌<◌, ◌≤◌, Bool, true, false, eqb, List, [], length, set, ℤ, pos, sym, refl, ◌∙◌, subst, add-zero, mul-le-mul_left, add-one, arith, eqb-true}
use Rattle.std.proofs.lemmas.List.{length-set, length_push}
use Rattle.std.proofs.lemmas.List.Sums.{sum_by_push}
use Rattle.std.specs.List.{count_by}
use Rattle.bank.specs.Skills.{Skill}
use Rattle.mission.specs.Trees.{Leaf, skill, count, ability, Tree, leaf, group, par, neg, again, Trees, nil, cons}
use Rattle.rules.specs.declared.line.Line.{Line}
use Rattle.rules.specs.declared.status.Status.{Status}
use Rattle.rules.specs.declared.word.Word.{Word}
use Rattle.rules.specs.declared.word.Word.TheVariants.{Start as StartWord, Run as RunWord, Pass as PassWord, Fail as FailWord, Halt as HaltWord, Blocked as BlockedWord, Full as FullWord}
use Rattle.rules.specs.Leaves.{World, Users, runs_in, visit_leaf, stop_leaf, in_tick, user_of, users_of, users_of_all, users}
use Rattle.rules.specs.Lines.{line, then_line, one}
use Rattle.rules.specs.Live.{Live}
use Rattle.rules.specs.Missions.{leaf_names, names, names_all}
use Rattle.rules.specs.Visiting.{Visit, gives, visit, halt}
use Rattle.rules.proofs.Balances.{on, obeyed}
use Rattle.rules.proofs.Deeds.{Does, beyond, blocks, runs, fails, passes, overflows, Stops, is_idle, halts, runs_own, visit_does, stop_does}
use Rattle.rules.proofs.Deeds as deeds
use Rattle.rules.proofs.Shapes.{bare}
use Rattle.rules.proofs.Spending.{cost, cost_all, Within, visit_spends, halt_spends, Holds, visit_keeps, halt_keeps}
use Rattle.rules.proofs.Sums.{sum_below, sum_le, sum_add, sum_times, at_most_one_hit, one_hit}

-- the lines of skill k

abbrev pub own : ℕ → List Line → ℕ
own k ls = count_by (λ l. eqb l.skill k) ls

own_then : (k : ℕ) (ls : List Line) (l : Line) → own k (then_line ls l) ≡ own k ls + one (eqb l.skill k)
own_then k ls l = sum_by_push (λ l. one (eqb l.skill k)) ls l

abbrev all_own : ℕ → List Line → ℕ
all_own n ls = sum_below (λ k. own k ls) n

sum_own_then : (n : ℕ) (ls : List Line) (l : Line) → all_own n (then_line ls l) ≡ all_own n ls + sum_below (λ k. one (eqb l.skill k)) n
sum_own_then zero ls l = refl
sum_own_then (suc n) ls l = let h = sum_own_then n ls l in let i = own_then n ls l in omega arith

-- of a skill that is visited

running_does : (t k : ℕ) {b b' : List Skill} {ls ls' : List Line} {a : Status} → Does t k b ls a b' ls' → runs_in b k ≡ true → own k ls' + one (runs_in b' k) ≤ own k ls + 2
running_does t k (beyond b ls o) h = grind arith
running_does t k (blocks b ls l o) h = let e = own_then k ls (line t BlockedWord k (pos 0)) in grind arith
running_does t k (runs b ls s l o i) h = let e = own_then k ls (line t RunWord k (pos 0)) in grind arith
running_does t k (fails b ls s l o i) h = let e = own_then k ls (line t FailWord k (pos 0)) in grind arith
running_does t k (passes b ls s m l o i) h = let e = own_then k ls (line t PassWord k m) in grind arith
running_does t k (overflows b ls s m l o i) h =
    let off = runs_own b k s l ∙ i in
    let e = own_then k ls (line t PassWord k m) in
    let f = own_then k (then_line ls (line t PassWord k m)) (line t FullWord k (pos 0)) in
    grind arith
running_does t k (deeds.starts b ls s l o i d) h = let q = sym o ∙ h in absurd cc

own_does : (t k : ℕ) {b b' : List Skill} {ls ls' : List Line} {a : Status} → Does t k b ls a b' ls' → own k ls' + one (runs_in b' k) ≤ own k ls + 3
own_does t k (beyond b ls o) = grind arith
own_does t k (blocks b ls l o) = let e = own_then k ls (line t BlockedWord k (pos 0)) in grind arith
own_does t k (runs b ls s l o i) = let h = running_does t k (runs b ls s l o i) o in omega arith
own_does t k (fails b ls s l o i) = let h = running_does t k (fails b ls s l o i) o in omega arith
own_does t k (passes b ls s m l o i) = let h = running_does t k (passes b ls s m l o i) o in omega arith
own_does t k (overflows b ls s m l o i) = let h = running_does t k (overflows b ls s m l o i) o in omega arith
own_does t k (deeds.starts b ls s l o i d) =
    let h = running_does t k d (runs_own b k s l ∙ i) in let e = own_then k ls (line t StartWord k (pos 0)) in grind arith

own_stops : (t k : ℕ) {b b' : List Skill} {ls ls' : List Line} → Stops t k b ls b' ls' → own k ls' + one (runs_in b' k) ≤ own k ls + one (runs_in b k)
own_stops t k (is_idle b ls o) = omega arith
own_stops t k (halts b ls s l o i) = let off = runs_own b k s l ∙ i in let e = own_then k ls (line t HaltWord k (pos 0)) in grind arith

-- of the others

other_line : (j k : ℕ) → eqb k j ≡ false → (t : ℕ) (v : Word) (m : ℤ) (ls : List Line) → own j (then_line ls (line t v k m)) ≡ own j ls
other_line j k e t v m ls = let h = own_then j ls (line t v k m) in grind arith

other_does : (t k j : ℕ) → eqb k j ≡ false → {b b' : List Skill} {ls ls' : List Line} {a : Status} → Does t k b ls a b' ls' → own j ls' ≡ own j ls
other_does t k j e (beyond b ls o) = refl
other_does t k j e (blocks b ls l o) = other_line j k e t BlockedWord (pos 0) ls
other_does t k j e (runs b ls s l o i) = other_line j k e t RunWord (pos 0) ls
other_does t k j e (fails b ls s l o i) = other_line j k e t FailWord (pos 0) ls
other_does t k j e (passes b ls s m l o i) = other_line j k e t PassWord m ls
other_does t k j e (overflows b ls s m l o i) = other_line j k e t FullWord (pos 0) (then_line ls (line t PassWord k m)) ∙ other_line j k e t PassWord m ls
other_does t k j e (deeds.starts b ls s l o i d) = other_does t k j e d ∙ other_line j k e t StartWord (pos 0) ls

other_stops : (t k j : ℕ) → eqb k j ≡ false → {b b' : List Skill} {ls ls' : List Line} → Stops t k b ls b' ls' → own j ls' ≡ own j ls
other_stops t k j e (is_idle b ls o) = refl
other_stops t k j e (halts b ls s l o i) = other_line j k e t HaltWord (pos 0) ls

-- the budget of skill k, which began with b lines: not yet visited or stopped, or once, with r lines more
abbrev Spent : ℕ → ℕ → ℕ → ℕ → World → Type 0
Spent k b r zero w = own k w.lines ≤ b
Spent k b r (suc zero) w = own k w.lines + one (on w k) ≤ b + r
Spent k b r (suc (suc i)) w = Unit {0}

module _ (k b r : ℕ) (some : 1 ≤ r) where
  more : (i j : ℕ) → i ≤ j → (w : World) → Spent k b r i w → Spent k b r j w
  more zero zero h w p = p
  more zero (suc zero) h w p = grind arith
  more zero (suc (suc j)) h w p = tt
  more (suc zero) zero h w p = absurd (omega arith)
  more (suc zero) (suc zero) h w p = p
  more (suc zero) (suc (suc j)) h w p = tt
  more (suc (suc i)) zero h w p = absurd (omega arith)
  more (suc (suc i)) (suc zero) h w p = absurd (omega arith)
  more (suc (suc i)) (suc (suc j)) h w p = tt

  untouched : (i : ℕ) (w v : World) → own k v.lines ≡ own k w.lines → on v k ≡ on w k → Spent k b r i w → Spent k b r i v
  untouched zero w v e o p = omega arith
  untouched (suc zero) w v e o p = grind arith
  untouched (suc (suc i)) w v e o p = tt

  stopped : (i : ℕ) (w v : World) → 1 ≤ i → own k v.lines + one (on v k) ≤ own k w.lines + one (on w k) → Spent k b r i w → Spent k b r i v
  stopped zero w v h e p = absurd (omega arith)
  stopped (suc zero) w v h e p = omega arith
  stopped (suc (suc i)) w v h e p = tt

  visited : (i : ℕ) (w v : World) → own k v.lines + one (on v k) ≤ own k w.lines + r → Spent k b r i w → Spent k b r (suc i) v
  visited zero w v e p = omega arith
  visited (suc i) w v e p = tt

  stop_spends : (us : Users) (t : ℕ) (l : Leaf) (i : ℕ) (w : World) → leaf_names k l ≤ i → Spent k b r i w → Spent k b r i (stop_leaf t l w)
  stop_spends us t (skill j d g) i w h p = go (eqb j k) refl h
    where
      go : (e : Bool) → eqb j k ≡ e → one e ≤ i → Spent k b r i (stop_leaf t (skill j d g) w)
      go true e h =
          let q : own k (stop_leaf t (skill j d g) w).lines + one (on (stop_leaf t (skill j d g) w) k) ≤ own k w.lines + one (on w k) = rw (sym (eqb-true j k e)) (own_stops t j (stop_does t j d g w)) in
          stopped i w (stop_leaf t (skill j d g) w) h q p
      go false e h = untouched i w (stop_leaf t (skill j d g) w) (other_stops t j k e (stop_does t j d g w)) ((obeyed us t).stop_other k (skill j d g) e w) p
  stop_spends us t (count key least) i w h p = p
  stop_spends us t (ability key least) i w h p = p

visit_spent : (k b : ℕ) (us : Users) (t : ℕ) (l : Leaf) (i : ℕ) (w : World) → Spent k b 3 i w → Spent k b 3 (i + leaf_names k l) (visit_leaf us t l w).1
visit_spent k b us t (skill j d g) i w p = go (eqb j k) refl
  where
    go : (e : Bool) → eqb j k ≡ e → Spent k b 3 (i + one e) (visit_leaf us t (skill j d g) w).1
    go true e =
        let v = (visit_leaf us t (skill j d g) w).1 in
        let q : own k v.lines + one (on v k) ≤ own k w.lines + 3 = rw (sym (eqb-true j k e)) (own_does t j (visit_does us t j d g w)) in
        rw (add-one i) (visited k b 3 (omega arith) i w v q p)
    go false e =
        let v = (visit_leaf us t (skill j d g) w).1 in
        rw (add-zero i)
        (untouched k b 3 (omega arith) i w v (other_does t j k e (visit_does us t j d g w)) ((obeyed us t).other k (skill j d g) e w) p)
visit_spent k b us t (count key least) i w p = rw (add-zero i) p
visit_spent k b us t (ability key least) i w p = rw (add-zero i) p

-- names as a cost

mutual
  cost_names : (k : ℕ) (t : Tree) → cost (leaf_names k) t ≡ names t k
  cost_names k (leaf l) = refl
  cost_names k (group kind ts) = cost_names_all k ts
  cost_names k (par need ts) = cost_names_all k ts
  cost_names k (neg t) = cost_names k t
  cost_names k (again kind times t) = cost_names k t

  cost_names_all : (k : ℕ) (ts : Trees) → cost_all (leaf_names k) ts ≡ names_all ts k
  cost_names_all k nil = refl
  cost_names_all k (cons t ts) = let a = cost_names k t in let b = cost_names_all k ts in omega arith

spent_lines : (k b r i : ℕ) (w : World) → i ≤ 1 → Spent k b r i w → own k w.lines ≤ b + r * i
spent_lines k b r zero w h p = omega arith
spent_lines k b r (suc zero) w h p = omega arith
spent_lines k b r (suc (suc i)) w h p = absurd (omega arith)

abbrev LinesWithin : ℕ → ℕ → Visit World Live → Type 0
LinesWithin k n (gives a w f x) = own k w.lines ≤ n

within_lines : (k b i : ℕ) (o : Visit World Live) → i ≤ 1 → Within World (Spent k b 3) (more k b 3 (omega arith)) i o → LinesWithin k (b + 3 * i) o
within_lines k b i (gives a w f x) h p = spent_lines k b 3 i w h p

-- a visit writes at most three lines of a named skill, and none of another
pub visit_own : (us : Users) (t k : ℕ) (x : Live) (w : World) → names (bare x) k ≤ 1 → LinesWithin k (own k w.lines + 3 * names (bare x) k) (visit (in_tick us t) x w)
visit_own us t k x w h =
    let b = own k w.lines in
    let e = cost_names k (bare x) in
    let p = visit_spends (in_tick us t) (leaf_names k) (Spent k b 3) (more k b 3 (omega arith)) (visit_spent k b us t) (stop_spends k b 3 (omega arith) us t) x 0 w (omega arith) in
    let q = within_lines k b (0 + cost (leaf_names k) (bare x)) (visit (in_tick us t) x w) (omega arith) p in
    subst (λ (i : ℕ). LinesWithin k (b + 3 * i) (visit (in_tick us t) x w)) (omega arith) q

-- a halt writes at most one line of a named skill, and none of another
pub halt_own : (us : Users) (t k : ℕ) (x : Live) (w : World) → names (bare x) k ≤ 1 → own k (halt (in_tick us t) x w).lines ≤ own k w.lines + 1 * names (bare x) k
halt_own us t k x w h =
    let b = own k w.lines in
    let i = cost (leaf_names k) (bare x) in
    let e = cost_names k (bare x) in
    let p = halt_spends (in_tick us t) (leaf_names k) (Spent k b 1) (stop_spends k b 1 (omega arith) us t) x i w (omega arith) (more k b 1 (omega arith) 0 i (omega arith) w (omega arith)) in
    let q = spent_lines k b 1 i (halt (in_tick us t) x w) (omega arith) p in
    rw (sym e) q

-- all lines are of skills below the width

abbrev Tallied : ℕ → ℕ → ℕ → List Skill → List Line → Type 0
Tallied n d s b ls = (length b ≡ n) × (length ls + s ≡ all_own n ls + d)

line_tallied : (n d s t : ℕ) (v : Word) (k : ℕ) (m : ℤ) (b : List Skill) (ls : List Line) → k < length b → Tallied n d s b ls → Tallied n d s b (then_line ls (line t v k m))
line_tallied n d s t v k m b ls l (e, h) = (
  e,
  let a = length_push ls (line t v k m) in
      let c = sum_own_then n ls (line t v k m) in
      let z = one_hit k n (omega arith) in
      omega arith,
)

turned_tallied : (n d s t : ℕ) (v : Word) (k : ℕ) (m : ℤ) (z : Skill) (b : List Skill) (ls : List Line) → k < length b → Tallied n d s b ls →
    Tallied n d s (set b k z) (then_line ls (line t v k m))
turned_tallied n d s t v k m z b ls l h = let q = line_tallied n d s t v k m b ls l h in (length-set b k z ∙ q.0, q.1)

does_tallied : (n d s t k : ℕ) {b b' : List Skill} {ls ls' : List Line} {a : Status} → Does t k b ls a b' ls' → Tallied n d s b ls → Tallied n d s b' ls'
does_tallied n d s t k (beyond b ls o) h = h
does_tallied n d s t k (blocks b ls l o) h = line_tallied n d s t BlockedWord k (pos 0) b ls l h
does_tallied n d s t k (runs b ls z l o i) h = turned_tallied n d s t RunWord k (pos 0) z b ls l h
does_tallied n d s t k (fails b ls z l o i) h = turned_tallied n d s t FailWord k (pos 0) z b ls l h
does_tallied n d s t k (passes b ls z m l o i) h = turned_tallied n d s t PassWord k m z b ls l h
does_tallied n d s t k (overflows b ls z m l o i) h =
    turned_tallied n d s t FullWord k (pos 0) z b (then_line ls (line t PassWord k m)) l (line_tallied n d s t PassWord k m b ls l h)
does_tallied n d s t k (deeds.starts b ls z l o i r) h = does_tallied n d s t k r (turned_tallied n d s t StartWord k (pos 0) z b ls l h)

stops_tallied : (n d s t k : ℕ) {b b' : List Skill} {ls ls' : List Line} → Stops t k b ls b' ls' → Tallied n d s b ls → Tallied n d s b' ls'
stops_tallied n d s t k (is_idle b ls o) h = h
stops_tallied n d s t k (halts b ls z l o i) h = turned_tallied n d s t HaltWord k (pos 0) z b ls l h

abbrev Counted : ℕ → ℕ → ℕ → World → Type 0
Counted n d s w = Tallied n d s w.bank w.lines

visit_tallied : (n d s : ℕ) (us : Users) (t : ℕ) (l : Leaf) (w : World) → Counted n d s w → Counted n d s (visit_leaf us t l w).1
visit_tallied n d s us t (skill k e g) w h = does_tallied n d s t k (visit_does us t k e g w) h
visit_tallied n d s us t (count key least) w h = h
visit_tallied n d s us t (ability key least) w h = h

stop_tallied : (n d s t : ℕ) (l : Leaf) (w : World) → Counted n d s w → Counted n d s (stop_leaf t l w)
stop_tallied n d s t (skill k e g) w h = stops_tallied n d s t k (stop_does t k e g w) h
stop_tallied n d s t (count key least) w h = h
stop_tallied n d s t (ability key least) w h = h

-- the named skills, summed

none_sum : (n : ℕ) → sum_below (λ _. 0) n ≡ 0
none_sum zero = refl
none_sum (suc n) = let h = none_sum n in omega arith

leaf_sum : (n : ℕ) (l : Leaf) (es : Users) → sum_below (λ k. leaf_names k l) n + length es ≤ length (user_of l es)
leaf_sum n (skill j d g) es = let h = at_most_one_hit j n in omega arith
leaf_sum n (count key least) es = let z = none_sum n in omega arith
leaf_sum n (ability key least) es = let z = none_sum n in omega arith

mutual
  names_sum : (n : ℕ) (t : Tree) (es : Users) → sum_below (names t) n + length es ≤ length (users_of t es)
  names_sum n (leaf l) es = leaf_sum n l es
  names_sum n (group kind ts) es = names_sum_all n ts es
  names_sum n (par need ts) es = names_sum_all n ts es
  names_sum n (neg t) es = names_sum n t es
  names_sum n (again kind times t) es = names_sum n t es

  names_sum_all : (n : ℕ) (ts : Trees) (es : Users) → sum_below (names_all ts) n + length es ≤ length (users_of_all ts es)
  names_sum_all n nil es = let z = none_sum n in omega arith
  names_sum_all n (cons t ts) es =
      let a = sum_add (names t) (names_all ts) n in
      let b = names_sum n t (users_of_all ts es) in
      let c = names_sum_all n ts es in
      omega arith

-- all together

total : (r n : ℕ) (t : Tree) (ls ls' : List Line) → ((k : ℕ) → own k ls' ≤ own k ls + r * names t k) → length ls' + all_own n ls ≡ all_own n ls' + length ls →
    length ls' ≤ length ls + r * length (users t)
total r n t ls ls' h e =
    let a = sum_le (λ k. own k ls') (λ k. own k ls + r * names t k) h n in
    let b = sum_add (λ k. own k ls) (λ k. r * names t k) n in
    let c = sum_times r (names t) n in
    let d = mul-le-mul_left r (let z = names_sum n t [] in let y : sum_below (names t) n ≤ length (users t) = omega arith in y) in
    omega arith

abbrev pub Long : ℕ → Visit World Live → Type 0
Long n (gives a w f x) = length w.lines ≤ n

long_visit : (us : Users) (t : ℕ) (x : Live) (w : World) (o : Visit World Live) →
    ((k : ℕ) → LinesWithin k (own k w.lines + 3 * names (bare x) k) o) →
    Holds (in_tick us t) (Counted (length w.bank) (length w.lines) (all_own (length w.bank) w.lines)) (visit_tallied (length w.bank) (length w.lines) (all_own (length w.bank) w.lines) us t) (stop_tallied (length w.bank) (length w.lines) (all_own (length w.bank) w.lines) t) o →
    Long (length w.lines + 3 * length (users (bare x))) o
long_visit us t x w (gives a v f y) h (e, q) = total 3 (length w.bank) (bare x) w.lines v.lines h q

-- a visit writes at most three lines for each skill leaf
pub visit_lines : (us : Users) (t : ℕ) (x : Live) (w : World) → ((k : ℕ) → names (bare x) k ≤ 1) → Long (length w.lines + 3 * length (users (bare x))) (visit (in_tick us t) x w)
visit_lines us t x w h =
    let n = length w.bank in
    let d = length w.lines in
    let s = all_own n w.lines in
    long_visit us t x w (visit (in_tick us t) x w) (λ k. visit_own us t k x w (h k))
    (visit_keeps (in_tick us t) (Counted n d s) (visit_tallied n d s us t) (stop_tallied n d s t) x w (refl, omega arith))

-- a halt writes at most one line for each skill leaf
pub halt_lines : (us : Users) (t : ℕ) (x : Live) (w : World) → ((k : ℕ) → names (bare x) k ≤ 1) → length (halt (in_tick us t) x w).lines ≤ length w.lines + 1 * length (users (bare x))
halt_lines us t x w h =
    let n = length w.bank in
    let d = length w.lines in
    let s = all_own n w.lines in
    total 1 n (bare x) w.lines (halt (in_tick us t) x w).lines (λ k. halt_own us t k x w (h k))
    (halt_keeps (in_tick us t) (Counted n d s) (visit_tallied n d s us t) (stop_tallied n d s t) x w (refl, omega arith)).1
