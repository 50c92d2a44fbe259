-- The rules' world in a tick beside a bench that agrees with it: leaves are visited and stopped alike.
use Rattle.std.proofs.Common.{ℕ, List, length, sym, refl, ap}
use Rattle.entry.specs.Abilities.{ability_meets}
use Rattle.entry.specs.Counts.{count_meets}
use Rattle.board.specs.Entering.{held_to}
use Rattle.board.specs.Meaning.{at}
use Rattle.mission.specs.Trees.{Leaf, skill}
use Rattle.rules.specs.declared.line.Line.{Line}
use Rattle.rules.specs.Leaves.{World, Users, in_tick}
use Rattle.rules.specs.Statuses.{verdict_of}
use Rattle.sitting.specs.Agreeing.{Once, Ranged, Holds, SameSizes, Agrees, Works, LeafFits}
use Rattle.sitting.specs.Desks.{Bench, Boards}
use Rattle.sitting.proofs.Agreements.{leaf_works, leaf_agrees, sizes_on, fits_same}
use Rattle.sitting.proofs.Mirrors.{StopsAlike, Mirrors}

-- in tick t, over a trace found as `base`, with a bank and boards as large as those of the world at first
module _ (us : Users) (t : ℕ) (base : List Line) (first : World) where
  abbrev pub Fitting : Leaf → Type 0
  Fitting l = LeafFits us (length first.counts) (length first.abilities) l

  abbrev pub Agreeing : World → Bench → Boards → Type 0
  Agreeing w b s = Agrees us t base w b s × SameSizes first w

  abbrev pub Holding : World → Bench → Boards → Type 0
  Holding w b s = (Agrees us t base w b s × Holds us b.ledger) × SameSizes first w

  abbrev pub Working : World → Bench → Boards → Type 0
  Working w b s = Works us t base w b s × SameSizes first w

  module _ (in_range : Ranged us) where
    pub stops_agreeing : StopsAlike (in_tick us t) Agreeing Fitting
    stops_agreeing = record {
      skills = λ k d target w b s h r.
          let a = leaf_agrees us in_range t base w b s (skill k d target) (length first.counts) (length first.abilities) h r.0 in
          record { bench = a.bench; does = a.is; holds = (a.agrees, sizes_on first w _ r.1 a.sizes) };
      counts = λ key least w. refl;
      abilities = λ key least w. refl;
    }

    pub stops_holding : StopsAlike (in_tick us t) Holding Fitting
    stops_holding = record {
      skills = λ k d target w b s h r.
          let a = leaf_agrees us in_range t base w b s (skill k d target) (length first.counts) (length first.abilities) h r.0.0 in
          record { bench = a.bench; does = a.is; holds = ((a.agrees, a.holds r.0.1), sizes_on first w _ r.1 a.sizes) };
      counts = λ key least w. refl;
      abilities = λ key least w. refl;
    }

    pub stops_working : StopsAlike (in_tick us t) Working Fitting
    stops_working = record {
      skills = λ k d target w b s h r.
          let a = leaf_agrees us in_range t base w b s (skill k d target) (length first.counts) (length first.abilities) h r.0.agrees in
          record { bench = a.bench; does = a.is; holds = (a.works r.0, sizes_on first w _ r.1 a.sizes) };
      counts = λ key least w. refl;
      abilities = λ key least w. refl;
    }

    module _ (once : Once us) where
      pub mirrors : Mirrors (in_tick us t) Working Fitting
      mirrors = record {
        skills = λ k d target w b s h r.
            let a = leaf_works us in_range t base w b s once (skill k d target) (fits_same us first w (skill k d target) r.1 h) r.0 in
            record { bench = a.bench; boards = a.boards; does = a.is; holds = (a.works, sizes_on first w _ r.1 a.sizes) };
        counts = λ key least w b s h r. ap (λ (q : Boards). (verdict_of (held_to count_meets (at q.0 key) least), w)) (sym r.0.agrees.boards);
        abilities = λ key least w b s h r. ap (λ (q : Boards). (verdict_of (held_to ability_meets (at q.1 key) least), w)) (sym r.0.agrees.boards);
        stops = stops_working;
      }
