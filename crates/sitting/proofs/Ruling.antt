-- What the tables give is what the rules give.
use Rattle.std.proofs.Common.{◌≡◌, ℕ, List, [], length, Result, sym, refl, ap, ◌∙◌, subst, zero-add, arith}
use Rattle.bank.specs.Skills.{Skill}
use Rattle.mission.specs.Trees.{Tree}
use Rattle.rules.specs.declared.line.Line.{Line}
use Rattle.rules.specs.declared.sitting_fault.SittingFault.{SittingFault}
use Rattle.rules.specs.declared.status.Status.{Status}
use Rattle.rules.specs.Leaves.{World, Users, in_tick}
use Rattle.rules.specs.Live.{Live, cleared}
use Rattle.rules.specs.Visiting.{Visit, gives, visit, halt}
use Rattle.rules.proofs.Shapes.{bare, bare_cleared, Shaped, visit_shaped}
use Rattle.sitting.specs.Agreeing.{SameSizes, Works, LeafFits}
use Rattle.sitting.specs.Desks.{bench, Boards}
use Rattle.sitting.specs.Halting.{desk, Halted as Walked, halt_range}
use Rattle.sitting.specs.Ruled.{named, Agreement, Sits, Visited, VisitsByTheRules, EntersOnce, Halted, HaltsByTheRules, agreeing, holding}
use Rattle.sitting.specs.Seats.{Seated}
use Rattle.sitting.specs.Tables.{end_at}
use Rattle.sitting.specs.Turns.{stage, visited, Visited as Turned}
use Rattle.sitting.specs.Zipper.{nodes, down}
use Rattle.sitting.specs.declared.frame.Frame.{Frame}
use Rattle.sitting.specs.declared.executive.Executive.{Executive}
use Rattle.sitting.specs.declared.turn.Turn.TheVariants.{Enter}
use Rattle.sitting.proofs.Agreements.{same_sizes}
use Rattle.sitting.proofs.Entered.{enters_rising}
use Rattle.sitting.proofs.Fitting.{mission_once, mission_ranged}
use Rattle.sitting.proofs.Mirroring.{Fitting, Working, stops_agreeing, stops_holding, mirrors}
use Rattle.sitting.proofs.Mirrors.{StopsAlike}
use Rattle.sitting.proofs.Seated.{sat, visits, halts}
use Rattle.sitting.proofs.Stepping.{laid_ends}

-- a seat by the sizes of a world is one by those of a world as large
reseated : (s : Executive) (us : Users) (x : Live) (w v : World) → SameSizes w v → Seated s (LeafFits us (length w.counts) (length w.abilities)) x → Seated s (LeafFits us (length v.counts) (length v.abilities)) x
reseated s us x w v z h =
    subst (λ c. Seated s (LeafFits us c (length v.abilities)) x) (sym z.counts) (subst (λ a. Seated s (LeafFits us (length w.counts) a) x) (sym z.abilities) h)

shape_kept : (t : Tree) (o : Visit World Live) (a : Status) (w : World) (f : List ℕ) (x : Live) → Shaped World t o → o ≡ gives a w f x → bare x ≡ t
shape_kept t o a w f x h e = subst (Shaped World t) e h

pub visits_by_the_rules : (s : Executive) (bank : List Skill) (boards : Boards) (rows : List Line) (r : Result Status SittingFault) (z : Executive) (K : List Frame) (bank_after : List Skill) (boards_after : Boards) (rows_after : List Line) →
    (r, stage z K bank_after boards_after rows_after) ≡ visited 1024 (Enter 0) (stage s [] bank boards rows) →
    VisitsByTheRules s bank boards rows r z bank_after boards_after rows_after
visits_by_the_rules s bank boards rows r z K bank_after boards_after rows_after e t base x w h =
    let us = named s in
    let ranged = mission_ranged s.mission in
    let once = mission_once s.mission in
    let v = visits s (in_tick us t) (Working us t base w) (Fitting us t base w) (mirrors us t base w ranged once) x w bank boards rows h.seated (h.agrees, same_sizes w) in
    let z1 = sat s v.memories v.ledger in
    subst
    (λ (q : Turned). Visited t (λ us. Works us t base) s x w q.0 q.1.sitting q.1.bank q.1.boards q.1.rows)
    (sym (e ∙ v.does))
    (record {
      status = v.status;
      world = v.world;
      front = v.front;
      live = v.tree;
      gives_this = v.is;
      answer = refl;
      sits = record {
        tree = shape_kept (bare x) (visit (in_tick us t) x w) v.status v.world v.front v.tree (visit_shaped (in_tick us t) x w) v.is ∙ h.tree;
        seated = reseated z1 us v.tree w v.world v.holds.1 v.seated;
        agrees = v.holds.0;
      };
      same = record { mission = refl; ends = refl };
      sizes = v.holds.1;
    })

-- a visit enters each node at most once
pub visit_enters_once : (s : Executive) (bank : List Skill) (boards : Boards) (rows : List Line) (r : Result Status SittingFault) (z : Executive) (K : List Frame) (bank_after : List Skill) (boards_after : Boards) (rows_after : List Line) →
    (r, stage z K bank_after boards_after rows_after) ≡ visited 1024 (Enter 0) (stage s [] bank boards rows) →
    EntersOnce s bank boards rows r z bank_after boards_after rows_after
visit_enters_once s bank boards rows r z K bank_after boards_after rows_after e =
    record {
      stack = K;
      turns = e;
      rising =
          λ t base x w h.
          let us = named s in
          let d = h.seated.shallow in
          enters_rising s (in_tick us t) (Working us t base w) (Fitting us t base w) (mirrors us t base w (mission_ranged s.mission) (mission_once s.mission)) 1024
          (down x w []) (Enter 0) s.memories [] (bench bank rows s.ledger) boards (h.seated.tidy, tt) (omega arith, tt)
          (refl, h.seated.laid, tt, record { stack = refl; world = (h.agrees, same_sizes w); long = h.seated.long });
    }

-- a halt, by either agreement
module _ (R : Agreement) (t : ℕ) (base : List Line) where
  halts_as : (s : Executive) (bank : List Skill) (rows : List Line) (r : Result Unit SittingFault) (z : Executive) (bank_after : List Skill) (rows_after : List Line) →
      (r, desk z bank_after rows_after) ≡ halt_range 0 (end_at s 0) (desk s bank rows) →
      (x : Live) (w : World) (boards : Boards) → Sits R s x w bank boards rows →
      StopsAlike (in_tick (named s) t) (λ v b o. R (named s) v b o × SameSizes w v) (Fitting (named s) t base w) →
      Halted t R s x w r z bank_after boards rows_after
  halts_as s bank rows r z bank_after rows_after e x w boards h M =
      let us = named s in
      let A = in_tick us t in
      let y = halts s A (λ v b o. R us v b o × SameSizes w v) (Fitting us t base w) M x w bank boards rows h.seated (h.agrees, same_sizes w) in
      let last = laid_ends s A (λ v b o. R us v b o × SameSizes w v) (Fitting us t base w) s.memories 0 x h.seated.laid ∙ zero-add (nodes x) in
      let z1 = sat s y.memories y.ledger in
      subst
      (λ (q : Walked). Halted t R s x w q.0 q.1.sitting q.1.bank boards q.1.rows)
      (sym (e ∙ ap (λ k. halt_range 0 k (desk s bank rows)) last ∙ y.does))
      (record {
        answer = refl;
        sits = record {
          tree = bare_cleared x ∙ h.tree;
          seated = reseated z1 us (cleared x) w (halt A x w) y.holds.1 y.seated;
          agrees = y.holds.0;
        };
        same = record { mission = refl; ends = refl };
        sizes = y.holds.1;
      })

pub halts_agreeing : (s : Executive) (bank : List Skill) (rows : List Line) (r : Result Unit SittingFault) (z : Executive) (bank_after : List Skill) (rows_after : List Line) →
    (r, desk z bank_after rows_after) ≡ halt_range 0 (end_at s 0) (desk s bank rows) → HaltsByTheRules agreeing s bank rows r z bank_after rows_after
halts_agreeing s bank rows r z bank_after rows_after e t base x w boards h =
    halts_as (agreeing t base) t base s bank rows r z bank_after rows_after e x w boards h (stops_agreeing (named s) t base w (mission_ranged s.mission))

pub halts_holding : (s : Executive) (bank : List Skill) (rows : List Line) (r : Result Unit SittingFault) (z : Executive) (bank_after : List Skill) (rows_after : List Line) →
    (r, desk z bank_after rows_after) ≡ halt_range 0 (end_at s 0) (desk s bank rows) → HaltsByTheRules holding s bank rows r z bank_after rows_after
halts_holding s bank rows r z bank_after rows_after e t base x w boards h =
    halts_as (holding t base) t base s bank rows r z bank_after rows_after e x w boards h (stops_holding (named s) t base w (mission_ranged s.mission))
