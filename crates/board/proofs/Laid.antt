-- Pairs laid over absent keys: what a key holds, and what a first and a later write leave.
use Rattle.std.proofs.Common.{◌≡◌, ◌≢◌, ◌==◌, ℕ, suc, ◌<◌, Bool, List, [], ◌∷◌, ◌++◌, length, get_or, set, Some, None, sym, refl, arith, eq-eqb, ne_eqb}
use Rattle.std.specs.List.{find, position, position_or_len}
use Rattle.std.specs.Option.{option_map}
use Rattle.std.proofs.lemmas.Grind.{common_steps}
use Rattle.std.proofs.lemmas.List.{get_or_past, set-set, set_comm}
use Rattle.std.proofs.lemmas.List.Sums.{prefix_len-le-length}
use Rattle.board.specs.declared.pair.Pair.{Pair}
use Rattle.board.specs.Laying.{laid}
use Rattle.board.specs.LayingLemmas.{length_laid}
use Rattle.board.specs.Meaning.{at}

-- where a search ends
module _ {X : Type 0} (p : X → Bool) (xs : List X) where
  pub placed : (i : ℕ) → Some i ≡ position p xs → (i ≡ position_or_len p xs) × (i < length xs)
  placed i e = (grind arith, grind arith)

  pub not_placed : None ≡ position p xs → position_or_len p xs ≡ length xs
  not_placed e = grind (arith, prefix_len-le-length)

-- the place of a key's pair where a pair stands before others: its own, or one on; theorems that the
-- proofs below don't need
module _ {P : Type 0} (key : P → ℕ) (k : ℕ) (p : P) (ps : List P) where
  pub place_here : key p ≡ k → position (λ q. key q == k) (p ∷ ps) ≡ Some 0
  place_here e = grind (arith, common_steps, eq-eqb (key p) k e)

  pub place_there : (key p ≢ k) → position (λ q. key q == k) (p ∷ ps) ≡ option_map suc (position (λ q. key q == k) ps)
  place_there ne = grind (arith, common_steps, ne_eqb (key p) k ne)

module _ {E : Type 0} (size : ℕ) where
  -- a key holds what the first of its pairs holds
  laid_at : (k : ℕ) (d : Pair E) (ps : List (Pair E)) → k < size → position_or_len (λ p. p.key == k) ps < length ps → at (laid size ps) k ≡ Some (get_or ps (position_or_len (λ p. p.key == k) ps) d).held
  laid_at k d [] below h = absurd (omega arith)
  laid_at k d (p ∷ ps) below h = grind (arith, common_steps, laid_at k d ps below, length_laid size ps)

  laid_past : (k : ℕ) (ps : List (Pair E)) → position_or_len (λ p. p.key == k) ps ≡ length ps → at (laid size ps) k ≡ None
  laid_past k [] h = grind (arith, common_steps)
  laid_past k (p ∷ ps) h = grind (arith, common_steps, laid_past k ps)

  -- what a search by key finds
  pub laid_held : (k : ℕ) (ps : List (Pair E)) → k < size → option_map (λ p. p.held) (find (λ p. p.key == k) ps) ≡ at (laid size ps) k
  laid_held k [] below = grind (arith, common_steps)
  laid_held k (p ∷ ps) below = grind (arith, common_steps, laid_held k ps below, length_laid size ps)

  set_at : (q : Pair E) (ps : List (Pair E)) → position_or_len (λ p. p.key == q.key) ps < length ps → laid size (set ps (position_or_len (λ p. p.key == q.key) ps) q) ≡ set (laid size ps) q.key (Some q.held)
  set_at q [] h = absurd (omega arith)
  set_at q (p ∷ ps) h = grind (arith, common_steps, set_at q ps, set-set, set_comm)

  set_past : (q : Pair E) (ps : List (Pair E)) → position_or_len (λ p. p.key == q.key) ps ≡ length ps → laid size (ps ++ q ∷ []) ≡ set (laid size ps) q.key (Some q.held)
  set_past q [] h = refl
  set_past q (p ∷ ps) h = grind (arith, common_steps, set_past q ps, set_comm)

  module _ (k i : ℕ) (ps : List (Pair E)) (place : Some i ≡ position (λ p. p.key == k) ps) where
    pub laid_found : (d : Pair E) → k < size → Some (get_or ps i d).held ≡ at (laid size ps) k
    laid_found d below =
        let here = placed (λ p. p.key == k) ps i place in
        let held = laid_at k d ps below (omega arith) in cc

  pub laid_missing : (k : ℕ) (ps : List (Pair E)) → None ≡ position (λ p. p.key == k) ps → None ≡ at (laid size ps) k
  laid_missing k ps place = sym (laid_past k ps (not_placed (λ p. p.key == k) ps place))

  -- a later write: the key's pair in place
  pub laid_again : (q : Pair E) (i : ℕ) (ps : List (Pair E)) → Some i ≡ position (λ p. p.key == q.key) ps → laid size (set ps i q) ≡ set (laid size ps) q.key (Some q.held)
  laid_again q i ps place =
      let here = placed (λ p. p.key == q.key) ps i place in
      let again = set_at q ps (omega arith) in cc

  -- a first write: a pair at the end
  pub laid_first : (q : Pair E) (ps : List (Pair E)) → None ≡ position (λ p. p.key == q.key) ps → laid size (ps ++ q ∷ []) ≡ set (laid size ps) q.key (Some q.held)
  laid_first q ps place = set_past q ps (not_placed (λ p. p.key == q.key) ps place)

-- what a read needs
pub ruleset reads = (length_laid, get_or_past, laid_held)
