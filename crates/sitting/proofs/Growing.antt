-- A visit and a halt only add lines.
use Rattle.std.proofs.Common.{◌≡◌, ℕ, ◌≤◌, List, [], ◌∷◌, length, subst, length-append, arith}
use Rattle.bank.specs.Skills.{Skill}
use Rattle.mission.specs.Trees.{Leaf, skill, count, ability}
use Rattle.rules.specs.declared.line.Line.{Line}
use Rattle.rules.specs.declared.status.Status.{Status}
use Rattle.rules.specs.Leaves.{World, Users, visit_leaf, stop_leaf, in_tick}
use Rattle.rules.specs.Lines.{then_line}
use Rattle.rules.specs.Live.{Live}
use Rattle.rules.specs.Visiting.{gives, visit, halt}
use Rattle.rules.proofs.Deeds.{Does, beyond, blocks, runs, fails, passes, overflows, starts, Stops, is_idle, halts, visit_does, stop_does}
use Rattle.rules.proofs.Spending.{Holds, visit_keeps, halt_keeps}

one_longer : (d : ℕ) (ls : List Line) (x : Line) → d ≤ length ls → d ≤ length (then_line ls x)
one_longer d ls x h = let e = length-append ls (x ∷ []) in omega arith

does_grow : (d t k : ℕ) {b : List Skill} {ls : List Line} {a : Status} {c : List Skill} {ms : List Line} → Does t k b ls a c ms → d ≤ length ls → d ≤ length ms
does_grow d t k (beyond b ls o) h = h
does_grow d t k (blocks b ls l o) h = one_longer d ls _ h
does_grow d t k (runs b ls s l o i) h = one_longer d ls _ h
does_grow d t k (fails b ls s l o i) h = one_longer d ls _ h
does_grow d t k (passes b ls s m l o i) h = one_longer d ls _ h
does_grow d t k (overflows b ls s m l o i) h = one_longer d _ _ (one_longer d ls _ h)
does_grow d t k (starts b ls s l o i more) h = does_grow d t k more (one_longer d ls _ h)

stops_grow : (d t k : ℕ) {b : List Skill} {ls : List Line} {c : List Skill} {ms : List Line} → Stops t k b ls c ms → d ≤ length ls → d ≤ length ms
stops_grow d t k (is_idle b ls o) h = h
stops_grow d t k (halts b ls s l o i) h = one_longer d ls _ h

abbrev AtLeast : ℕ → World → Type 0
AtLeast d w = d ≤ length w.lines

visit_leaf_grows : (d : ℕ) (us : Users) (t : ℕ) (l : Leaf) (w : World) → AtLeast d w → AtLeast d (visit_leaf us t l w).1
visit_leaf_grows d us t (skill k e g) w h = does_grow d t k (visit_does us t k e g w) h
visit_leaf_grows d us t (count key least) w h = h
visit_leaf_grows d us t (ability key least) w h = h

stop_leaf_grows : (d t : ℕ) (l : Leaf) (w : World) → AtLeast d w → AtLeast d (stop_leaf t l w)
stop_leaf_grows d t (skill k e g) w h = stops_grow d t k (stop_does t k e g w) h
stop_leaf_grows d t (count key least) w h = h
stop_leaf_grows d t (ability key least) w h = h

pub visit_grows : (us : Users) (t : ℕ) (x : Live) (w v : World) (a : Status) (f : List ℕ) (y : Live) → visit (in_tick us t) x w ≡ gives a v f y → length w.lines ≤ length v.lines
visit_grows us t x w v a f y e =
    let d = length w.lines in
    subst (Holds (in_tick us t) (AtLeast d) (visit_leaf_grows d us t) (stop_leaf_grows d t)) e (visit_keeps (in_tick us t) (AtLeast d) (visit_leaf_grows d us t) (stop_leaf_grows d t) x w (omega arith))

pub halt_grows : (us : Users) (t : ℕ) (x : Live) (w : World) → length w.lines ≤ length (halt (in_tick us t) x w).lines
halt_grows us t x w =
    let d = length w.lines in
    halt_keeps (in_tick us t) (AtLeast d) (visit_leaf_grows d us t) (stop_leaf_grows d t) x w (omega arith)
