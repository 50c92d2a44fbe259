-- The live tree that a mission's tree and an executive's memory mean.
use Rattle.std.specs.Prelude.{ℕ, suc, ◌+◌, ◌-◌, true, false, cond, ◌==◌, nat_lt}
use Rattle.std.specs.Int.{bit_at}
use Rattle.mission.specs.Trees.{Tree, leaf, group, par, neg, again, Trees, nil, cons}
use Rattle.rules.specs.Live.{goes_on, remembers, counts_on, Kept, pending, ended, Live, live_leaf, live_group, live_par, live_not, live_loop, Kids, no_kids, kid}
use Rattle.rules.specs.Missions.{plan}
use Rattle.rules.specs.Visiting.{behind}
use Rattle.sitting.specs.Ends.{span}
use Rattle.sitting.specs.Tables.{memory_at, ahead_of, results_of, count_of}
use Rattle.sitting.specs.declared.memory.Memory.{Memory}
use Rattle.sitting.specs.declared.memory.Results.{Results}
use Rattle.sitting.specs.declared.executive.Executive.{Executive}

-- what a par's results say of child j
abbrev pub mark_at : Results → ℕ → Kept
mark_at r j = cond (bit_at r.passed j == 1) (ended true) (cond (bit_at r.failed j == 1) (ended false) pending)

abbrev mutual
  -- a tree whose root is at this place, by what each place remembers
  pub revived : Tree → ℕ → (ℕ → Memory) → Live
  revived (leaf l) i f = live_leaf l
  revived (group kind ts) i f = live_group (goes_on kind) (remembers kind) (revived_group (behind (goes_on kind) (remembers kind)) (ahead_of (f i)) ts (suc i) f)
  revived (par need ts) i f = live_par need (revived_par (results_of (f i)) 0 ts (suc i) f)
  revived (neg t) i f = live_not (revived t (suc i) f)
  revived (again kind times t) i f = live_loop (counts_on kind) times (count_of (f i)) (revived t (suc i) f)

  -- the children of a group: r is remembered of those within so many nodes, and nothing of the others
  pub revived_group : Kept → ℕ → Trees → ℕ → (ℕ → Memory) → Kids
  revived_group r n nil i f = no_kids
  revived_group r n (cons t ts) i f = kid (cond (nat_lt n (span t)) pending r) (revived t i f) (revived_group r (n - span t) ts (i + span t) f)

  -- the children of a par, from child j on
  pub revived_par : Results → ℕ → Trees → ℕ → (ℕ → Memory) → Kids
  revived_par r j nil i f = no_kids
  revived_par r j (cons t ts) i f = kid (mark_at r j) (revived t i f) (revived_par r (suc j) ts (i + span t) f)

-- what an executive remembers
abbrev pub live_of : Executive → Live
live_of e = revived (plan e.mission).tree 0 (memory_at e)
