-- Nothing runs on.
use Rattle.std.proofs.Common.{ℕ, Bool, List, [], ◌∷◌, ◌∙◌, arith}
use Rattle.rules.specs.Laws.{AtEveryPoint, over, also, Accounted}
use Rattle.rules.specs.Leaves.{World, in_tick}
use Rattle.rules.specs.Live.{Live, fresh, cleared}
use Rattle.rules.specs.Quiet.{Turn, visited, halted, Settled, and_then, SettledThrough, OffTheFront, NothingRunsOn}
use Rattle.rules.specs.Sittings.{State, Answer}
use Rattle.rules.specs.Visiting.{Visit, halt}
use Rattle.rules.proofs.Balances.{on, obeyed}
use Rattle.rules.proofs.Fronts.{Quiet, Told, told_run, told_pass, told_fail, visit_stands, halt_stands}
use Rattle.rules.proofs.Standing.{Stands, clear_stands, fresh_stands}
use Rattle.rules.proofs.Wholes.{law_of_whole_runs}

off_from_accounted : (k : ℕ) {ps : List (Answer × State)} → AtEveryPoint (Accounted k) ps → AtEveryPoint (OffTheFront k) ps
off_from_accounted k over = over
off_from_accounted k (also p ps h r) = also p ps (λ e. h.runs_while_on_the_front ∙ e) (off_from_accounted k r)

module _ (k : ℕ) where
  settled_visit : (K : Live → World → Type 0) {o : Visit World Live} → ((b : Bool) (x : Live) (w : World) → Stands k b x → Quiet b (on w k) → K x w) → Told World on k o → Settled k o × and_then K o
  settled_visit K h (told_run w f b {x = x} i e d) = (e, h b x w i d)
  settled_visit K h (told_pass w {x = x} s e) = (e, h s.0 x w s.1 (λ z. e))
  settled_visit K h (told_fail w {x = x} s e) = (e, h s.0 x w s.1 (λ z. e))

  settled : (ts : List (Turn k)) (b : Bool) (x : Live) (w : World) → Stands k b x → Quiet b (on w k) → SettledThrough k ts x w
  settled [] b x w h d = tt
  settled (visited us t before e ∷ ts) b x w h d =
      settled_visit (SettledThrough k ts) (settled ts) (visit_stands (in_tick us t) on (obeyed us t) k h (before w) (λ z. e w ∙ d z))
  settled (halted us t before e ∷ ts) b x w h d =
      let s = clear_stands h in
      let q = halt_stands (in_tick us t) on (obeyed us t) k h (before w) in
      (q, settled ts s.0 (cleared x) (halt (in_tick us t) x (before w)) s.1 (λ z. q))

pub nothing_runs_on : NothingRunsOn
nothing_runs_on =
    record {
      off_the_front = λ m n s h k e cs. off_from_accounted k ((law_of_whole_runs m n s h).accounted k (omega arith) cs);
      below_a_node = λ t k e w off ts. let s = fresh_stands t k e in settled k ts s.0 (fresh t) w s.1 (λ z. off);
    }
