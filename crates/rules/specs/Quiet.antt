-- Nothing runs on: what a node that has passed, failed or been halted leaves running below it.
use Rattle.std.specs.Prelude.{◌≡◌, ℕ, false, List, [], ◌∷◌}
use Rattle.mission.specs.declared.mission.Mission.{Mission}
use Rattle.mission.specs.Trees.{Tree}
use Rattle.rules.specs.declared.status.Status.TheVariants.{Run, Pass, Fail}
use Rattle.rules.specs.Laws.{AtEveryPoint, points}
use Rattle.rules.specs.Leaves.{World, Users, runs_in, in_tick}
use Rattle.rules.specs.Live.{Live, fresh, cleared}
use Rattle.rules.specs.Missions.{plan, names}
use Rattle.rules.specs.Sittings.{State, Call, Answer, opened, has, opening, front_of}
use Rattle.rules.specs.Visiting.{Visit, gives, visit, halt}

-- a visit or a halt of a node in some tick, and before it anything that does not switch skill k: all that
-- a node in a mission ever goes through
pub data Turn (k : ℕ) : Type 0 where
  visited halted : Users → ℕ → (before : World → World) → ((w : World) → runs_in (before w).bank k ≡ runs_in w.bank k) → Turn k

-- while the node runs, the skill runs exactly if it is on the node's front; else it does not run
abbrev pub Settled : ℕ → Visit World Live → Type 0
Settled k (gives Run w f x) = runs_in w.bank k ≡ has k f
Settled k (gives Pass w f x) = runs_in w.bank k ≡ false
Settled k (gives Fail w f x) = runs_in w.bank k ≡ false

abbrev pub and_then : {W X : Type 0} → (X → W → Type 0) → Visit W X → Type 0
and_then P (gives a w f x) = P x w

abbrev pub SettledThrough : (k : ℕ) → List (Turn k) → Live → World → Type 0
SettledThrough k [] x w = Unit {0}
SettledThrough k (visited us t before h ∷ ts) x w =
    Settled k (visit (in_tick us t) x (before w)) × and_then (SettledThrough k ts) (visit (in_tick us t) x (before w))
SettledThrough k (halted us t before h ∷ ts) x w =
    (runs_in (halt (in_tick us t) x (before w)).bank k ≡ false) × SettledThrough k ts (cleared x) (halt (in_tick us t) x (before w))

-- a skill that is not on the front does not run
abbrev pub OffTheFront : ℕ → Answer × State → Type 0
OffTheFront k p = has k (front_of p.1.place) ≡ false → runs_in p.1.world.bank k ≡ false

pub record NothingRunsOn : Type 0 where
  -- after any call of a sitting
  pub off_the_front : (m : Mission) (n : ℕ) (s : State) → (opening (plan m) n s).0 ≡ opened n → (k : ℕ) → names (plan m).tree k ≡ 1 →
      (cs : List Call) → AtEveryPoint (OffTheFront k) (points (opening (plan m) n s) cs)
  -- at any node that names the skill once, whatever visits and halts it goes through
  pub below_a_node : (t : Tree) (k : ℕ) → names t k ≡ 1 → (w : World) → runs_in w.bank k ≡ false → (ts : List (Turn k)) → SettledThrough k ts (fresh t) w
