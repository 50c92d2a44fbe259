-- The front that a ledger tells is that of the rules.
use Rattle.std.proofs.Common.{◌≡◌, ℕ, Bool, ◌&&◌, cond, eqb, List, [], ◌∷◌, Option, inl, inr, sym, refl, ap, ap₂, ◌∙◌, eqb-true}
use Rattle.std.specs.List.{filter}
use Rattle.std.proofs.lemmas.Map.Views.{any-filter_same}
use Rattle.std.proofs.Math.Bool.{and-true}
use Rattle.rules.specs.Leaves.{Users}
use Rattle.rules.specs.Sittings.{has, named_on}
use Rattle.rules.proofs.Naming.{numbers}
use Rattle.sitting.specs.Agreeing.{Named, Fronted}
use Rattle.sitting.specs.Desks.{state_of, is_running}
use Rattle.sitting.specs.Fronts.{running}
use Rattle.sitting.specs.declared.ledger.Ledger.{Ledger}
use Rattle.sitting.proofs.Beginning.{named_has}

-- the named skills that pass a test
same_named : (us : Users) (p q : ℕ → Bool) → ((k : ℕ) (d : Option ℕ) → Named us k d → p k ≡ q k) → filter p (numbers us) ≡ filter q (numbers us)
same_named [] p q h = refl
same_named (u ∷ us) p q h =
    ap₂ (λ (b : Bool) (ks : List ℕ). cond b (u.0 ∷ ks) ks) (h u.0 u.1 (inl (refl, refl))) (same_named us p q (λ k d n. h k d (inr n)))

none_on : (us : Users) → named_on us [] ≡ []
none_on [] = refl
none_on (u ∷ us) = none_on us

module _ (us : Users) (l : Ledger) where
  -- a ledger whose running leaves are those on a front
  pub running_as : (f : List ℕ) → ((k : ℕ) (d : Option ℕ) → Named us k d → is_running (state_of l k) ≡ has k f) → running us l ≡ named_on us f
  running_as f h = same_named us (λ k. is_running (state_of l k)) (λ k. has k f) h

  pub running_none : Fronted us [] l → running us l ≡ []
  running_none h = running_as [] (λ k d n. h.is k d n) ∙ none_on us

  -- and back
  pub fronted_running : Fronted us (running us l) l
  fronted_running = record { is = λ k d n. sym (one k d n) }
    where
      one : (k : ℕ) (d : Option ℕ) → Named us k d → has k (running us l) ≡ is_running (state_of l k)
      one k d n =
          any-filter_same (λ j. eqb j k) (λ j. is_running (state_of l j)) (is_running (state_of l k)) (λ j e. ap (λ (i : ℕ). is_running (state_of l i)) (eqb-true j k e)) (numbers us)
          ∙ ap (λ b. is_running (state_of l k) && b) (named_has us k d n)
          ∙ and-true (is_running (state_of l k))
