-- What a cap means is as wide as what is below, and sound.
use Rattle.std.specs.Prelude.{◌≡◌, ℕ, zero, suc, ◌+◌, ◌-◌, ◌<◌, ◌≤◌, List, [], ◌∷◌, length, Some, None, Option, nat_lt, slice_index, slice_index_or, refl}
use Rattle.std.proofs.Common.{sym, ap, subst, ⊎_elim, arith, rules}
use Rattle.std.proofs.lemmas.List.{get_or_past}
use Rattle.std.proofs.lemmas.Bool.{cases_lt, cond_both, ltb-false}
use Rattle.bank.specs.declared.kinds.Ending.TheVariants.{Fail}
use Rattle.bank.specs.Skills.{Skill, Take, SoundTake, Sound, no_skill}
use Rattle.bank.specs.Ranges.{given_runs}
use Rattle.bank.specs.Capping.{capped, capped_at, capped_take, capped_first, capped_skills}
use Rattle.bank.specs.Sounds.{no_skill_sound}

pub caps_length : (m : ℕ) (cs : List ℕ) (l : List Skill) → length (capped_skills m cs l) ≡ length l
caps_length m cs [] = refl
caps_length m [] (s ∷ l) = ap suc (caps_length m [] l)
caps_length m (c ∷ cs) (s ∷ l) = ap suc (caps_length m cs l)

pub caps_at : (m : ℕ) (cs : List ℕ) (l : List Skill) (k : ℕ) → k < length l → slice_index_or (capped_skills m cs l) k no_skill ≡ capped m (slice_index cs k) (slice_index_or l k no_skill)
caps_at m cs [] k h = absurd (omega arith)
caps_at m [] (s ∷ l) zero h = refl
caps_at m [] (s ∷ l) (suc k) h = caps_at m [] l k (omega arith)
caps_at m (c ∷ cs) (s ∷ l) zero h = refl
caps_at m (c ∷ cs) (s ∷ l) (suc k) h = caps_at m cs l k (omega arith)

module _ (m : ℕ) (few : m ≤ 60000) where
  fail_sound : (n : ℕ) → n ≤ 60000 → SoundTake (record { runs = n; ending = Fail })
  fail_sound n h = (h, search rules, search rules)

  take_sound : (t : Take) → SoundTake t → SoundTake (capped_take m t)
  take_sound t h = cond_both (nat_lt m t.runs) _ _ SoundTake (λ _. fail_sound m few) (λ _. h)

  first_sound : (c n : ℕ) (t : Take) → c ≤ m → SoundTake t → SoundTake (capped_first m c n t.ending)
  first_sound c n t le h =
      cond_both (nat_lt (m - c) n) _ _ SoundTake
      (λ _. fail_sound (c + (m - c)) (omega arith))
      (λ e. let l = ltb-false (m - c) n e in (omega arith, h.1, h.2))

  first_within : (c n : ℕ) (t : Take) → c ≤ (capped_first m c n t.ending).runs
  first_within c n t = cond_both (nat_lt (m - c) n) _ _ (λ (u : Take). c ≤ u.runs) (λ _. omega arith) (λ _. omega arith)

  at_takes : (c : ℕ) → c ≤ m → (o : Option ℕ) (s : Skill) → ((n : ℕ) → SoundTake (s.takes n)) → (n : ℕ) → SoundTake ((capped_at m c o s).takes n)
  at_takes c le None s h n = take_sound (s.takes n) (h n)
  at_takes c le (Some g) s h zero = first_sound c _ (s.takes 0) le (h 0)
  at_takes c le (Some g) s h (suc n) = take_sound (s.takes (suc n)) (h (suc n))

  at_given : (c : ℕ) (o : Option ℕ) (s : Skill) → given_runs (capped_at m c o s).given ≤ ((capped_at m c o s).takes 0).runs
  at_given c None s = omega arith
  at_given c (Some g) s = first_within c _ (s.takes 0)

  pub capped_sound : (c : ℕ) (s : Skill) → c ≤ m → Sound s → Sound (capped m c s)
  capped_sound c s le h = (at_takes c le s.given s h.0, at_given c s.given s)

  pub caps_sound : (cs : List ℕ) → ((k : ℕ) → slice_index cs k ≤ m) → (l : List Skill) → ((k : ℕ) → Sound (slice_index_or l k no_skill)) → (k : ℕ) → Sound (slice_index_or (capped_skills m cs l) k no_skill)
  caps_sound cs held l h k =
      ⊎_elim
      (λ lt. subst Sound (sym (caps_at m cs l k lt)) (capped_sound (slice_index cs k) (slice_index_or l k no_skill) (held k) (h k)))
      (λ ge. subst Sound (sym (get_or_past (capped_skills m cs l) k no_skill (omega (arith, caps_length m cs l)))) no_skill_sound)
      (cases_lt k (length l))
