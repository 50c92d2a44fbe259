-- Entries and parts with the same numbers are the same: a range holds in one way.
-- The library has no name of its own for the lemma of paths between proofs, so it comes from below.
use Rattle.std.proofs.Common.{◌≡◌, ◌*◌, ◌≤◌, ℕ, pos, neg_ℤ, ◌≤ℤ◌}
use Rattle.std.proofs.Props.{props}
use mathlib.Core.HLevel.{is_prop→PathP}
use Rattle.entry.specs.declared.parts.Whole.{Whole}
use Rattle.entry.specs.declared.parts.Weight.{Weight}
use Rattle.entry.specs.declared.parts.CountThreshold.{CountThreshold}
use Rattle.entry.specs.declared.parts.AbilityThreshold.{AbilityThreshold}
use Rattle.entry.specs.declared.parts.Weighed.{Weighed}
use Rattle.entry.specs.declared.parts.Ability.{Ability}

pub same_whole : {m : ℕ} (v w : Whole m) → v.value ≡ w.value → v ≡ w
same_whole {m} v w e =
    λ i.
    record {
      value = e i;
      low = is_prop→PathP (λ j. neg_ℤ (pos m) ≤ℤ e j) (λ j. hlevel props) v.low w.low i;
      high = is_prop→PathP (λ j. e j ≤ℤ pos m) (λ j. hlevel props) v.high w.high i;
    }

pub same_weight : (v w : Weight) → v.value ≡ w.value → v ≡ w
same_weight v w e =
    λ i.
    record {
      value = e i;
      least = is_prop→PathP (λ j. 1 ≤ e j) (λ j. hlevel props) v.least w.least i;
      most = is_prop→PathP (λ j. e j ≤ 100) (λ j. hlevel props) v.most w.most i;
    }

pub same_count_threshold : (s t : CountThreshold) → s.least.value ≡ t.least.value → s ≡ t
same_count_threshold s t e = λ i. record { least = same_whole s.least t.least e i }

pub same_ability_threshold : (s t : AbilityThreshold) → s.least.value ≡ t.least.value → s.over.value ≡ t.over.value → s ≡ t
same_ability_threshold s t e f =
    λ i. record { least = same_whole s.least t.least e i; over = same_weight s.over t.over f i }

-- nothing cites this one: weighed marks are told apart as the others are
pub same_weighed : (s t : Weighed) → s.mark.value ≡ t.mark.value → s.weight.value ≡ t.weight.value → s ≡ t
same_weighed s t e f =
    λ i. record { mark = same_whole s.mark t.mark e i; weight = same_weight s.weight t.weight f i }

pub same_ability : (a b : Ability) → a.marks ≡ b.marks → a.weight ≡ b.weight → a ≡ b
same_ability a b e f =
    λ i.
    record {
      marks = e i;
      weight = f i;
      above = is_prop→PathP (λ j. 1 ≤ f j) (λ j. hlevel props) a.above b.above i;
      within = is_prop→PathP (λ j. f j ≤ 1000000) (λ j. hlevel props) a.within b.within i;
      low = is_prop→PathP (λ j. neg_ℤ (pos (100 * f j)) ≤ℤ e j) (λ j. hlevel props) a.low b.low i;
      high = is_prop→PathP (λ j. e j ≤ℤ pos (100 * f j)) (λ j. hlevel props) a.high b.high i;
    }
