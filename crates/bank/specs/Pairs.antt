-- The skills of a pair of banks, and that a pair of sound banks is sound.
use Rattle.std.specs.Prelude.{◌≡◌, ℕ, ◌+◌, ◌-◌, ◌<◌, ◌≤◌, List, length, slice_index_or, refl}
use Rattle.std.proofs.Common.{sym, ap, ◌∙◌, subst, ⊎_elim, arith}
use Rattle.std.proofs.lemmas.Bool.{cases_lt}
use Rattle.std.proofs.lemmas.List.{get_or_past, get_or_append_left, get_or-append_right, length-append}
use Rattle.bank.specs.Skills.{Skill, Sound, no_skill}
use Rattle.bank.specs.Pairing.{paired}

pub paired_width : (a b : List Skill) → length (paired a b) ≡ length a + length b
paired_width a b = length-append a b

module _ (a b : List Skill) (k : ℕ) where
  abbrev both : List Skill
  both = paired a b

  pub at_first : k < length a → slice_index_or both k no_skill ≡ slice_index_or a k no_skill
  at_first h = get_or_append_left a b no_skill k h

  pub at_second : length a ≤ k → slice_index_or both k no_skill ≡ slice_index_or b (k - length a) no_skill
  at_second h = get_or-append_right a b (length a) k no_skill refl h

  -- the same, where the split n is known by an equation
  pub at_split : (n : ℕ) → n ≡ length a → n ≤ k → slice_index_or b (k - n) no_skill ≡ slice_index_or both k no_skill
  at_split n e h = ap (λ m. slice_index_or b (k - m) no_skill) e ∙ sym (at_second (omega arith))

  -- a pair that there is has 64 skills at most, so this holds from 64 on
  pub at_neither : length a + length b ≤ k → slice_index_or both k no_skill ≡ no_skill
  at_neither h = get_or_past both k no_skill (omega (arith, paired_width a b))

  pub paired_sound : ((i : ℕ) → Sound (slice_index_or a i no_skill)) → ((i : ℕ) → Sound (slice_index_or b i no_skill)) → Sound (slice_index_or both k no_skill)
  paired_sound p q =
      ⊎_elim (λ lt. subst Sound (sym (at_first lt)) (p k)) (λ ge. subst Sound (sym (at_second ge)) (q (k - length a))) (cases_lt k (length a))
