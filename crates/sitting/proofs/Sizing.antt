-- A halt reads and changes no board: it does the same beside boards of the sizes that a mission declares.
use Rattle.std.proofs.Common.{slice_index_or, slice_set, ◌≡◌, ℕ, List, replicate, Some, None, Option, refl, ap, ◌∙◌}
use Rattle.entry.specs.declared.parts.Ability.{Ability}
use Rattle.entry.specs.Kinds.{Count}
use Rattle.bank.specs.Skills.{Skill, no_skill, struck}
use Rattle.mission.specs.declared.mission.Mission.{Mission}
use Rattle.mission.specs.Missions.{meaning}
use Rattle.mission.specs.Trees.{Leaf, skill, count, ability}
use Rattle.rules.specs.declared.line.Line.{Line}
use Rattle.rules.specs.Leaves.{World, Users, skill_at, stop_leaf, stop_skill, in_tick}
use Rattle.rules.specs.Live.{Live, live_leaf, live_group, live_par, live_not, live_loop, Kids, no_kids, kid}
use Rattle.rules.specs.Visiting.{halt, halt_kids}
use Rattle.sitting.specs.Agreeing.{boards_for, Agrees}
use Rattle.sitting.specs.Desks.{Bench, Boards}

abbrev pub beside : List (Option Count) → List (Option Ability) → World → World
beside c a w = record { bank = w.bank; counts = c; abilities = a; lines = w.lines }

abbrev pub sized : Mission → World → World
sized m w = beside (replicate (meaning m).counts None) (replicate (meaning m).abilities None) w

module _ (us : Users) (t : ℕ) (c : List (Option Count)) (a : List (Option Ability)) where
  skill_beside : (g : Option ℕ) (k : ℕ) (w : World) → stop_skill g t k (beside c a w) ≡ beside c a (stop_skill g t k w)
  skill_beside None k w = refl
  skill_beside (Some g) k w = refl

  leaf_beside : (l : Leaf) (w : World) → stop_leaf t l (beside c a w) ≡ beside c a (stop_leaf t l w)
  leaf_beside (skill k device target) w = skill_beside (skill_at w k).given k w
  leaf_beside (count key least) w = refl
  leaf_beside (ability key least) w = refl

  mutual
    pub halt_beside : (x : Live) (w : World) → halt (in_tick us t) x (beside c a w) ≡ beside c a (halt (in_tick us t) x w)
    halt_beside (live_leaf l) w = leaf_beside l w
    halt_beside (live_group p m ks) w = halt_kids_beside ks w
    halt_beside (live_par n ks) w = halt_kids_beside ks w
    halt_beside (live_not x) w = halt_beside x w
    halt_beside (live_loop p times n x) w = halt_beside x w

    halt_kids_beside : (ks : Kids) (w : World) → halt_kids (in_tick us t) ks (beside c a w) ≡ beside c a (halt_kids (in_tick us t) ks w)
    halt_kids_beside no_kids w = refl
    halt_kids_beside (kid r x ks) w = ap (halt_kids (in_tick us t) ks) (halt_beside x w) ∙ halt_kids_beside ks (halt (in_tick us t) x w)

  -- what agrees beside other boards agrees
  pub agrees_beside : (base : List Line) (w : World) (b : Bench) (s : Boards) → Agrees us t base (beside c a w) b s → Agrees us t base w b (boards_for w)
  agrees_beside base w b s h = record { bench = h.bench; boards = refl; follows = record { states = h.follows.states; tick = h.follows.tick; used = h.follows.used; runs = h.follows.runs } }

-- a halt changes no board
pub halt_boards : (us : Users) (t : ℕ) (x : Live) (w : World) → boards_for (halt (in_tick us t) x w) ≡ boards_for w
halt_boards us t x w = ap boards_for (halt_beside us t w.counts w.abilities x w)

-- and what it does to the bank no line tells

module _ (us : Users) (t : ℕ) where
  skill_bank : (g : Option ℕ) (k : ℕ) (w v : World) → w.bank ≡ v.bank → (stop_skill g t k w).bank ≡ (stop_skill g t k v).bank
  skill_bank None k w v e = e
  skill_bank (Some g) k w v e = ap (λ (b : List Skill). slice_set b k (struck (slice_index_or b k no_skill))) e

  leaf_bank : (l : Leaf) (w v : World) → w.bank ≡ v.bank → (stop_leaf t l w).bank ≡ (stop_leaf t l v).bank
  leaf_bank (skill k device target) w v e =
      ap (λ (s : Skill). (stop_skill s.given t k w).bank) (ap (λ (b : List Skill). slice_index_or b k no_skill) e) ∙ skill_bank (skill_at v k).given k w v e
  leaf_bank (count key least) w v e = e
  leaf_bank (ability key least) w v e = e

  mutual
    pub halt_bank : (x : Live) (w v : World) → w.bank ≡ v.bank → (halt (in_tick us t) x w).bank ≡ (halt (in_tick us t) x v).bank
    halt_bank (live_leaf l) w v e = leaf_bank l w v e
    halt_bank (live_group p m ks) w v e = halt_kids_bank ks w v e
    halt_bank (live_par n ks) w v e = halt_kids_bank ks w v e
    halt_bank (live_not x) w v e = halt_bank x w v e
    halt_bank (live_loop p times n x) w v e = halt_bank x w v e

    halt_kids_bank : (ks : Kids) (w v : World) → w.bank ≡ v.bank → (halt_kids (in_tick us t) ks w).bank ≡ (halt_kids (in_tick us t) ks v).bank
    halt_kids_bank no_kids w v e = e
    halt_kids_bank (kid r x ks) w v e = halt_kids_bank ks (halt (in_tick us t) x w) (halt (in_tick us t) x v) (halt_bank x w v e)
