-- The first n of a table, each read by f. The banks keep their tables in vectors, so no function needs
-- these now; they are theorems of tables with a length beside. `Slots` cites the first of them.
use Rattle.std.specs.Prelude.{◌≡◌, ℕ, zero, suc, ◌+◌, ◌<◌, ◌≤◌, List, [], ◌∷◌, ◌++◌, map, length, take, slice_index_or, slice_set, refl}
use Rattle.std.proofs.Common.{sym, ap, ◌∙◌, arith}
use Rattle.std.proofs.lemmas.List.{length-map, length-take-le, get_or-map, get_or-take, map-set, map_push, map_more, take_more_set, take_all}

pub take_set_in : {A : Type 0} (n : ℕ) (l : List A) (i : ℕ) (a : A) → take n (slice_set l i a) ≡ slice_set (take n l) i a
take_set_in zero [] i a = refl
take_set_in zero (x ∷ l) zero a = refl
take_set_in zero (x ∷ l) (suc i) a = refl
take_set_in (suc n) [] i a = refl
take_set_in (suc n) (x ∷ l) zero a = refl
take_set_in (suc n) (x ∷ l) (suc i) a = ap (λ t. x ∷ t) (take_set_in n l i a)

module _ {A B : Type 0} (f : A → B) where
  pub rows_length : (n : ℕ) (t : List A) → n ≤ length t → length (map f (take n t)) ≡ n
  rows_length n t h = length-map (take n t) f ∙ length-take-le n t h

  pub rows_at : (n : ℕ) (t : List A) (k : ℕ) (d : A) (e : B) → n ≤ length t → k < n → slice_index_or (map f (take n t)) k e ≡ f (slice_index_or t k d)
  rows_at n t k d e h lt =
      let inn : k < length (take n t) = omega (arith, length-take-le n t h) in
      get_or-map f (take n t) k d e inn ∙ ap f (get_or-take n t k d lt)

  pub rows_set : (n : ℕ) (t : List A) (k : ℕ) (a : A) → map f (take n (slice_set t k a)) ≡ slice_set (map f (take n t)) k (f a)
  rows_set n t k a = ap (map f) (take_set_in n t k a) ∙ map-set f (take n t) k a

-- one more row laid: the table's first i + 1, read by f, are the list's first i + 1, read by g
pub rows_lay : {A B C : Type 0} (f : A → B) (g : C → B) (t : List A) (s : List C) (i : ℕ) (x : A) (d : C) → i < length t → i < length s
    → f x ≡ g (slice_index_or s i d) → map f (take i t) ≡ map g (take i s) → map f (take (i + 1) (slice_set t i x)) ≡ map g (take (i + 1) s)
rows_lay f g t s i x d ht hs e before =
    ap (map f) (take_more_set t i x ht) ∙ map_push f (take i t) x
    ∙ ap (λ r. r ++ f x ∷ []) before ∙ ap (λ y. map g (take i s) ++ y ∷ []) e ∙ sym (map_more g s i d hs)

-- all of the rows laid
pub rows_laid : {A B C : Type 0} (f : A → B) (g : C → B) (t : List A) (s : List C) (i n : ℕ) → n ≡ length s → i ≡ n
    → map f (take i t) ≡ map g (take i s) → map f (take n t) ≡ map g s
rows_laid f g t s i n e h laid =
    ap (λ m. map f (take m t)) (sym h) ∙ laid ∙ ap (map g) (take_all i s (omega arith))
