-- A visit and a stop of a named skill's leaf keep the agreement of a bench and boards with a world.
use Rattle.std.proofs.Common.{◌≡◌, List, length, Ok, ℕ, Some, None, Option, Result, refl, ap, ◌∙◌, ap₂}
use Rattle.std.proofs.lemmas.List.{length-set}
use Rattle.entry.specs.Abilities.{ability_meets}
use Rattle.entry.specs.Counts.{count_meets}
use Rattle.bank.specs.Skills.{struck}
use Rattle.board.specs.Meaning.{at}
use Rattle.board.specs.Entering.{held_to}
use Rattle.mission.specs.declared.node.Target.{Target}
use Rattle.mission.specs.Trees.{Leaf, skill, count, ability, leaf_node}
use Rattle.rules.specs.declared.line.Line.{Line}
use Rattle.rules.specs.declared.sitting_fault.SittingFault.{SittingFault}
use Rattle.rules.specs.declared.status.Status.{Status}
use Rattle.rules.specs.Leaves.{World, Users, skill_at, visit_leaf, stop_leaf, stop_skill as stop_at}
use Rattle.rules.specs.Statuses.{verdict_of}
use Rattle.sitting.specs.Acts.{Outcome, visit_skill, stop_skill}
use Rattle.sitting.specs.Agreeing.{Named, Once, Ranged, Wide, Holds, bench_for, boards_for, Agrees, Works, SameSizes, KeyBelow, LeafFits}
use Rattle.sitting.specs.Desks.{Bench, Boards}
use Rattle.sitting.specs.Halting.{Desk, bench_of, halt_node, bench_halted}
use Rattle.sitting.proofs.Leaving.{visit_reached, stop_reached}

-- the code's answer is that of the rules, and its bench and boards work with the world after it
pub record Answers (us : Users) (t : ℕ) (base : List Line) (w : World) (r : Status × World) (o : Outcome) : Type 0 where
  pub bench : Bench
  pub boards : Boards
  pub is : o ≡ (Ok r.0, bench, boards)
  pub works : Works us t base r.1 bench boards
  pub sizes : SameSizes w r.1

-- the code stops as the rules do, from world w to world v
pub record Halts (us : Users) (t : ℕ) (base : List Line) (w v : World) (b : Bench) (s : Boards) (o : Result Unit SittingFault × Bench) : Type 0 where
  pub bench : Bench
  pub is : o ≡ (Ok tt, bench)
  pub agrees : Agrees us t base v bench s
  pub works : Works us t base w b s → Works us t base v bench s
  pub holds : Holds us b.ledger → Holds us bench.ledger
  pub sizes : SameSizes w v

stop_boards : (g : Option ℕ) (t k : ℕ) (w : World) → boards_for w ≡ boards_for (stop_at g t k w)
stop_boards None t k w = refl
stop_boards (Some g) t k w = refl

stop_sizes : (g : Option ℕ) (t k : ℕ) (w : World) → SameSizes w (stop_at g t k w)
stop_sizes None t k w = record { bank = refl; counts = refl; abilities = refl }
stop_sizes (Some g) t k w = record { bank = length-set w.bank k (struck (skill_at w k)); counts = refl; abilities = refl }

pub wide_same : (us : Users) (w v : World) → SameSizes w v → Wide us (length w.bank) → Wide us (length v.bank)
wide_same us w v z h = rw z.bank h

module _ (us : Users) (in_range : Ranged us) (t : ℕ) (base : List Line) (w : World) (b : Bench) (s : Boards) (k : ℕ) (device : Option ℕ) (target : Target) (n : Named us k device) where
  pub visit_works : Once us → KeyBelow (length w.counts) (length w.abilities) target → Works us t base w b s →
      Answers us t base w (visit_leaf us t (skill k device target) w) (visit_skill k device target b s)
  visit_works once h a =
      let q = visit_reached us in_range t base once k device target w b.ledger h n a.agrees.follows a.holds (a.wide.within k device n) in
      let r = visit_leaf us t (skill k device target) w in
      record {
        bench = bench_for base r.1 q.ledger;
        boards = boards_for r.1;
        is = ap₂ (visit_skill k device target) a.agrees.bench a.agrees.boards ∙ q.is;
        works = record {
          agrees = record { bench = refl; boards = refl; follows = q.follows };
          holds = q.holds;
          wide = wide_same us w r.1 q.sizes a.wide;
        };
        sizes = q.sizes;
      }

  pub stop_agrees : Agrees us t base w b s → Halts us t base w (stop_leaf t (skill k device target) w) b s (stop_skill k b)
  stop_agrees a =
      let q = stop_reached us in_range t base k device w b.ledger n a.follows target in
      let v = stop_leaf t (skill k device target) w in
      let z = stop_sizes (skill_at w k).given t k w in
      let held : Holds us b.ledger → Holds us q.ledger = q.holds in
      let g : Agrees us t base v (bench_for base v q.ledger) s = record { bench = refl; boards = a.boards ∙ stop_boards (skill_at w k).given t k w; follows = q.follows } in
      record {
        bench = bench_for base v q.ledger;
        is = ap (stop_skill k) a.bench ∙ q.is;
        agrees = g;
        works = λ x. record { agrees = g; holds = held x.holds; wide = wide_same us w v z x.wide };
        holds = held;
        sizes = z;
      }

-- any leaf

abbrev pub leaf_visited : Leaf → Bench → Boards → Outcome
leaf_visited (skill k device target) b s = visit_skill k device target b s
leaf_visited (count key least) b s = (Ok (verdict_of (held_to count_meets (at s.0 key) least)), b, s)
leaf_visited (ability key least) b s = (Ok (verdict_of (held_to ability_meets (at s.1 key) least)), b, s)

abbrev pub leaf_stopped : Leaf → Bench → Result Unit SittingFault × Bench
leaf_stopped (skill k device target) b = stop_skill k b
leaf_stopped (count key least) b = (Ok tt, b)
leaf_stopped (ability key least) b = (Ok tt, b)

pub leaf_halted : (l : Leaf) (d : Desk) → halt_node (leaf_node l) d ≡ bench_halted d (leaf_stopped l (bench_of d))
leaf_halted (skill k device target) d = refl
leaf_halted (count key least) d = refl
leaf_halted (ability key least) d = refl

-- sizes

pub same_sizes : (w : World) → SameSizes w w
same_sizes w = record { bank = refl; counts = refl; abilities = refl }

pub sizes_on : (u v w : World) → SameSizes u v → SameSizes v w → SameSizes u w
sizes_on u v w a b = record { bank = b.bank ∙ a.bank; counts = b.counts ∙ a.counts; abilities = b.abilities ∙ a.abilities }

pub fits_same : (us : Users) (w v : World) (l : Leaf) → SameSizes w v → LeafFits us (length w.counts) (length w.abilities) l → LeafFits us (length v.counts) (length v.abilities) l
fits_same us w v l z h = rw (z.counts, z.abilities) h

module _ (us : Users) (in_range : Ranged us) (t : ℕ) (base : List Line) (w : World) (b : Bench) (s : Boards) where
  -- a leaf that only looks at a board
  looks : (a c : Status) → c ≡ a → Works us t base w b s → Answers us t base w (a, w) (Ok c, b, s)
  looks a c e x = record {
    bench = b;
    boards = s;
    is = ap (λ (q : Status). (Ok q, b, s)) e;
    works = x;
    sizes = same_sizes w;
  }

  pub leaf_works : Once us → (l : Leaf) → LeafFits us (length w.counts) (length w.abilities) l → Works us t base w b s → Answers us t base w (visit_leaf us t l w) (leaf_visited l b s)
  leaf_works once (skill k device target) h x = visit_works us in_range t base w b s k device target h.0 once h.1 x
  leaf_works once (count key least) h x =
      looks (verdict_of (held_to count_meets (at w.counts key) least)) (verdict_of (held_to count_meets (at s.0 key) least))
      (ap (λ (q : Boards). verdict_of (held_to count_meets (at q.0 key) least)) x.agrees.boards)
      x
  leaf_works once (ability key least) h x =
      looks (verdict_of (held_to ability_meets (at w.abilities key) least)) (verdict_of (held_to ability_meets (at s.1 key) least))
      (ap (λ (q : Boards). verdict_of (held_to ability_meets (at q.1 key) least)) x.agrees.boards)
      x

  stays : Agrees us t base w b s → Halts us t base w w b s (Ok tt, b)
  stays a = record { bench = b; is = refl; agrees = a; works = λ x. x; holds = λ x. x; sizes = same_sizes w }

  pub leaf_agrees : (l : Leaf) (c a : ℕ) → LeafFits us c a l → Agrees us t base w b s → Halts us t base w (stop_leaf t l w) b s (leaf_stopped l b)
  leaf_agrees (skill k device target) c a h x = stop_agrees us in_range t base w b s k device target h.0 x
  leaf_agrees (count key least) c a h x = stays x
  leaf_agrees (ability key least) c a h x = stays x
