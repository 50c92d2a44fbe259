-- A call of one of the two banks of a pair, as a call of the pair.
use Rattle.std.proofs.Common.{◌≡◌, ℕ, ◌+◌, ◌-◌, ◌<◌, ◌≤◌, cond, List, length, get_or, set, Some, None, Ok, Err, Result, refl, sym, ap, ◌∙◌, ⊎_elim, lt-ltb, le-ltb, arith}
use Rattle.std.proofs.lemmas.Bool.{cases_lt}
use Rattle.std.proofs.lemmas.Bool.Decides.{nat_tests}
use Rattle.std.proofs.lemmas.List.{set-append_left, set-append_right}
use Rattle.bank.specs.declared.bank_fault.BankFault.{BankFault}
use Rattle.bank.specs.declared.bank_fault.BankFault.TheVariants.{Beyond}
use Rattle.bank.specs.Skills.{Skill, no_skill, asked, leaves}
use Rattle.bank.specs.Pairing.{paired, in_second}
use Rattle.bank.specs.Pairs.{paired_width, at_first, at_second}
use Rattle.bank.proofs.Calls.{asked_in, asked_out}

module _ (a b : List Skill) (k : ℕ) where
  in_first : in_second (length a) k ≡ None → k < length a
  in_first e = grind (arith, nat_tests)

  past_first : (at : ℕ) → in_second (length a) k ≡ Some at → (length a ≤ k) × (at ≡ k - length a)
  past_first at e = grind (arith, nat_tests)

  pub first_leaves : {A : Type 0} (F : Skill → Skill) (r : Result A BankFault) (new : List Skill) → in_second (length a) k ≡ None → new ≡ leaves F r a k
      → paired new b ≡ leaves F r (paired a b) k
  first_leaves F (Err x) new e left = ap (λ l. paired l b) left
  first_leaves F (Ok x) new e left =
      let h = in_first e in
      ap (λ l. paired l b) left ∙ sym (set-append_left a b k (F (get_or a k no_skill)) h) ∙ ap (λ s. set (paired a b) k (F s)) (sym (at_first a b k h))

  pub second_leaves : {A : Type 0} (F : Skill → Skill) (r : Result A BankFault) (at : ℕ) (new : List Skill) → in_second (length a) k ≡ Some at → new ≡ leaves F r b at
      → paired a new ≡ leaves F r (paired a b) k
  second_leaves F (Err x) at new e left = ap (paired a) left
  second_leaves F (Ok x) at new e left =
      let h = past_first at e in
      ap (paired a) (left ∙ ap (λ i. set b i (F (get_or b i no_skill))) h.1)
      ∙ sym (set-append_right a b (length a) k (F (get_or b (k - length a) no_skill)) refl h.0) ∙ ap (λ s. set (paired a b) k (F s)) (sym (at_second a b k h.0))

  -- the same with the split as a bound, and what a call answers
  pub leaves_first : {A : Type 0} (F : Skill → Skill) (r : Result A BankFault) → k < length a → paired (leaves F r a k) b ≡ leaves F r (paired a b) k
  leaves_first F r h = first_leaves F r (leaves F r a k) (ap (λ t. cond t None (Some (k - length a))) (lt-ltb k (length a) h)) refl

  pub leaves_second : {A : Type 0} (F : Skill → Skill) (r : Result A BankFault) (n : ℕ) → n ≡ length a → n ≤ k → paired a (leaves F r b (k - n)) ≡ leaves F r (paired a b) k
  leaves_second F r n e h =
      ap (λ m. paired a (leaves F r b (k - m))) e
      ∙ second_leaves F r (k - length a) (leaves F r b (k - length a)) (ap (λ t. cond t None (Some (k - length a))) (le-ltb k (length a) (omega arith))) refl

  pub asked_first : {A : Type 0} (f : Skill → Result A BankFault) → k < length a → asked f a k ≡ asked f (paired a b) k
  asked_first f h = asked_in f a k h ∙ ap f (sym (at_first a b k h)) ∙ sym (asked_in f (paired a b) k (omega (arith, paired_width a b)))

  second_asked : {A : Type 0} (f : Skill → Result A BankFault) → length a ≤ k → asked f b (k - length a) ≡ asked f (paired a b) k
  second_asked f h =
      ⊎_elim
      (λ lt. asked_in f b (k - length a) lt ∙ ap f (sym (at_second a b k h)) ∙ sym (asked_in f (paired a b) k (omega (arith, paired_width a b))))
      (λ ge. asked_out f b (k - length a) ge ∙ sym (asked_out f (paired a b) k (omega (arith, paired_width a b))))
      (cases_lt (k - length a) (length b))

  pub asked_second : {A : Type 0} (f : Skill → Result A BankFault) (n : ℕ) → n ≡ length a → n ≤ k → asked f b (k - n) ≡ asked f (paired a b) k
  asked_second f n e h = ap (λ m. asked f b (k - m)) e ∙ second_asked f (omega arith)

  pub asked_neither : {A : Type 0} (f : Skill → Result A BankFault) → length a + length b ≤ k → Err Beyond ≡ asked f (paired a b) k
  asked_neither f h = sym (asked_out f (paired a b) k (omega (arith, paired_width a b)))
