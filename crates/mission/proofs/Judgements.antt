-- The tests of a node decide the conditions of refusals 3 to 7.
use Rattle.std.proofs.Common.{◌≡◌, ◌≢◌, ℕ, suc, ◌+◌, ◌-◌, ◌<◌, Bool, true, false, List, length, get_or, drop, Some, None, Option, sym, refl, ap, ◌∙◌, inr, ⊎_elim, add-one, arith}
use Rattle.std.proofs.lemmas.Bool.{both_ways}
use Rattle.std.specs.Prelude.{Decides}
use Rattle.std.proofs.lemmas.List.{nil_from_length}
use Rattle.mission.specs.declared.node.Node.{Node}
use Rattle.mission.specs.Lines.{all_ranged}
use Rattle.mission.specs.Nodes.{arity, skill_of}
use Rattle.mission.specs.Places.{node_at, places}
use Rattle.mission.specs.Seen.{noted_in, row}
use Rattle.mission.specs.Lawful.{Unplaced, Deep, Again}
use Rattle.mission.specs.Judging.{Next}
use Rattle.mission.proofs.Places.{places_count, next_open, row_has, row_had, ranged_at, skill_small}

-- a last node that stands at an open place leaves places open exactly if others are open or it has children
pub open_decides : (ns : List Node) (i : ℕ) (b : Bool) {still level : ℕ} → Next ns i 1 level → still ≡ length (places ns i) → i + 1 ≡ length ns
    → Decides b (0 < still - 1 + arity (node_at ns i)) → Decides b (Unplaced ns i)
open_decides ns i b next opened last d =
    let some = next_open next (omega arith) in
    let count = places_count ns i some in
    let same = ap (λ k. length (places ns k)) (add-one i) in (
      λ t. let l = d.0 t in inr (omega arith, λ z. let none : length (places ns (suc i)) ≡ 0 = ap length z in omega arith),
      ⊎_elim
          (λ z. let none : length (places ns i) ≡ 0 = ap length z in absurd (omega arith))
          (λ z. let left : length (places ns (suc i)) ≢ 0 = λ none. z.1 (nil_from_length (places ns (suc i)) none) in d.1 (omega (arith, left))),
    )

pub deep : (ns : List Node) {i level : ℕ} → Next ns i 1 level → 16 < level → Deep ns i
deep ns {i} {level} next h = (level, drop 1 (places ns i), next.first, h)

named : (row : List Bool) (o : Option ℕ) → noted_in row o ≡ true → (k : ℕ) × (o ≡ Some k) × (get_or row k false ≡ true)
named row None t = absurd (both_ways false refl t)
named row (Some k) t = (k, refl, t)

-- the row of the nodes before tells whether a node's skill was named
pub again_decides : (ns : List Node) (i : ℕ) {b : Bool} → all_ranged ns ≡ true → b ≡ noted_in (row ns i) (skill_of (node_at ns i)) → Decides b (Again ns i)
again_decides ns i {b} g e = (
  λ t.
      let k = named (row ns i) (skill_of (node_at ns i)) (sym e ∙ t) in
      let j = row_has ns i k.0 (skill_small (node_at ns i) k.0 (ranged_at ns i g) k.1) k.2 in
      (j.0, k.0, j.1, j.2, k.1),
  λ a. e ∙ ap (noted_in (row ns i)) a.4 ∙ row_had ns i a.0 a.1 (skill_small (node_at ns i) a.1 (ranged_at ns i g) a.4) a.2 a.3,
)
