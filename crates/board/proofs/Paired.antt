-- A table of pairs whose used ones are as many as the keys that hold an entry.
use Rattle.std.proofs.Common.{◌≡◌, ◌==◌, ℕ, ◌+◌, ◌<◌, ◌≤◌, cond, List, length, get_or, take, set, Some, None, Option, sym, ap, ◌∙◌, arith}
use Rattle.std.specs.List.{position}
use Rattle.std.specs.Option.{is_some}
use Rattle.std.proofs.Math.Seq.{take-set-lt}
use Rattle.std.proofs.lemmas.List.{length-take-le, take_more_set, length-set}
use Rattle.std.proofs.lemmas.List.Sums.{sum_by-set, count_by-le-length}
use Rattle.board.specs.declared.pair.Pair.{Pair}
use Rattle.board.specs.Laying.{laid, present}
use Rattle.board.specs.LayingLemmas.{length_laid}
use Rattle.board.specs.Meaning.{written}
use Rattle.board.proofs.Laid.{placed, laid_found, laid_missing, laid_again, laid_first}

-- a first write of a key adds one, a later one none
present-set : {E : Type 0} (l : List (Option E)) (k : ℕ) (e : E) → k < length l → present (set l k (Some e)) + cond (is_some (get_or l k None)) 1 0 ≡ present l + 1
present-set l k e below = sum_by-set (λ o. cond (is_some o) 1 0) l k (Some e) None below

module _ {E : Type 0} (size used : ℕ) (table : List (Pair E)) (few : size ≤ 32) (whole : length table ≡ 32) (once : used ≡ present (laid size (take used table))) where
  abbrev pairs : List (Pair E)
  pairs = take used table

  abbrev meaning : List (Option E)
  meaning = laid size pairs

  pub used_length : length pairs ≡ used
  used_length =
      length-take-le used table (omega (arith, count_by-le-length is_some meaning, length_laid size pairs))

  module _ (q : Pair E) (below : q.key < size) where
    written_q : set meaning q.key (Some q.held) ≡ written meaning q.key q.held
    written_q = grind (arith, length_laid size pairs)

    -- a later write of the key
    module _ (i : ℕ) (place : Some i ≡ position (λ p. p.key == q.key) pairs) (next : List (Pair E)) (is : next ≡ set table i q) where
      pub again_meaning : laid size (take used next) ≡ written meaning q.key q.held
      again_meaning =
          let here = placed (λ p. p.key == q.key) pairs i place in
          ap (λ t. laid size (take used t)) is
          ∙ ap (laid size) (take-set-lt used table i q (omega (arith, used_length)))
          ∙ laid_again size q i pairs place
          ∙ written_q

      pub again_once : used ≡ present (laid size (take used next))
      again_once =
          let found = laid_found size q.key i pairs place q below in
          let same = present-set meaning q.key q.held (omega (arith, length_laid size pairs)) in
          grind (arith, again_meaning, written_q)

    -- the first write of the key
    module _ (place : None ≡ position (λ p. p.key == q.key) pairs) where
      present_more : present (set meaning q.key (Some q.held)) ≡ used + 1
      present_more =
          let missing = laid_missing size q.key pairs place in
          let more = present-set meaning q.key q.held (omega (arith, length_laid size pairs)) in
          grind arith

      pub first_room : used < size
      first_room =
          let after = set meaning q.key (Some q.held) in
          omega (arith, present_more, count_by-le-length is_some after, length-set meaning q.key (Some q.held), length_laid size pairs)

      module _ (i : ℕ) (end : i ≡ used) (next : List (Pair E)) (is : next ≡ set table i q) where
        pub first_meaning : laid size (take (used + 1) next) ≡ written meaning q.key q.held
        first_meaning =
            ap (λ t. laid size (take (used + 1) t)) (is ∙ ap (λ j. set table j q) end)
            ∙ ap (laid size) (take_more_set table used q (omega (arith, first_room)))
            ∙ laid_first size q pairs place
            ∙ written_q

        pub first_once : used + 1 ≡ present (laid size (take (used + 1) next))
        first_once = sym (ap present (first_meaning ∙ sym written_q) ∙ present_more)
