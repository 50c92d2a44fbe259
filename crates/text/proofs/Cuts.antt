-- Cutting a line is the inverse of joining its fields.
use Rattle.std.proofs.Common.{◌≡◌, ℕ, zero, suc, ◌+◌, ◌<◌, ◌≤◌, Bool, true, false, not, eqb, ◌⊎◌, List, [], ◌∷◌, ◌++◌, length, get_or, take, drop, map, ℤ, pos, negsuc, Some, None, Option, sym, refl, ap, ◌∙◌, inl, inr, ⊎_elim, arith, length-append}
use Rattle.std.proofs.lemmas.Int.Digits.{all_below_base_digits_of}
use Rattle.std.proofs.lemmas.Slice.Eq.{bytes_eq-Decides}
use Rattle.std.proofs.lemmas.Bool.{cond-true, cond-false, cases_Bool, cases_lt, lt-ltb, le-ltb, and_parts, and_from, not-true, eq-eqb}
use Rattle.std.proofs.lemmas.List.Folds.{list_all-append}
use Rattle.std.proofs.lemmas.List.Sums.{passes_at_first, fails_before_first}
use Rattle.std.proofs.lemmas.Bool.Decides.{nat_tests}
use Rattle.std.specs.Option.{option_map}
use Rattle.std.specs.Int.Digits.{digits_of, AllBelowBase}
use Rattle.std.specs.Str.{bytes_eq}
use Rattle.std.specs.List.{position, position_or_len}
use Rattle.text.specs.Numeral.{natural, numeral, valued, kept}
use Rattle.text.specs.Fields.{Rest, onto, field, spaced, free, front, parted, then, cut_or, next, halves, named, word, meant, number, meant_or, number_or, last, one_ended, pair_ended}
use Rattle.text.proofs.Numerals.{valued_numeral, valued_sound, no_value}
pub use Rattle.std.proofs.lemmas.Option.{same_Some as some_same}
pub use Rattle.text.proofs.Options.{never, then_some, mapped_some, mapped_none}

-- a text with no b is not cut
pub parted_none : (b : ℕ) (p : List ℕ) → free b p ≡ true → parted b p ≡ None
unfolding parted
parted_none b [] h = refl
parted_none b (x ∷ p) h =
    let a = and_parts (not (eqb x b)) (free b p) h in
    cond-false _ _ _ (not-true (eqb x b) a.0) ∙ ap (front x) (parted_none b p a.1)

-- a text is cut at its first b
pub parted_here : (b : ℕ) (p q : List ℕ) → free b p ≡ true → parted b (p ++ (b ∷ q)) ≡ Some (p, q)
unfolding parted
parted_here b [] q h = cond-true _ _ _ (eq-eqb b b refl)
parted_here b (x ∷ p) q h =
    let a = and_parts (not (eqb x b)) (free b p) h in
    cond-false _ _ _ (not-true (eqb x b) a.0) ∙ ap (front x) (parted_here b p q a.1)

front_some : (x : ℕ) (o : Option (List ℕ × List ℕ)) (p : List ℕ × List ℕ) → front x o ≡ Some p → (o' : List ℕ × List ℕ) × (o ≡ Some o') × (p ≡ (x ∷ o'.0, o'.1))
front_some x None p e = never e
front_some x (Some o) p e = (o, refl, sym (some_same _ _ e))

-- the parts make the text
pub parted_sound : (b : ℕ) (xs : List ℕ) (p : List ℕ × List ℕ) → parted b xs ≡ Some p → xs ≡ p.0 ++ (b ∷ p.1)
unfolding parted
parted_sound b [] p e = never e
parted_sound b (x ∷ xs) p e =
    ⊎_elim
    (λ t.
    let same : x ≡ b = grind (arith, nat_tests) in
    let q : ([], xs) ≡ p = some_same _ _ (sym (cond-true _ _ _ t) ∙ e) in
    ap (λ y. y ∷ xs) same ∙ ap (λ (o : List ℕ × List ℕ). o.0 ++ (b ∷ o.1)) q)
    (λ f.
    let s = front_some x (parted b xs) p (sym (cond-false _ _ _ f) ∙ e) in
    ap (λ ys. x ∷ ys) (parted_sound b xs s.0 s.1) ∙ ap (λ (o : List ℕ × List ℕ). o.0 ++ (b ∷ o.1)) (sym s.2))
    (cases_Bool (eqb x b))

-- a text is cut at the first place of b, by index
first_place : (b : ℕ) (xs : List ℕ) (i : ℕ) → i < length xs → eqb (get_or xs i b) b ≡ true → ((k : ℕ) → k < i → eqb (get_or xs k b) b ≡ false)
    → parted b xs ≡ Some (take i xs, drop (i + 1) xs)
unfolding parted
first_place b [] i h e f = absurd (omega arith)
first_place b (x ∷ xs) zero h e f = cond-true _ _ _ e
first_place b (x ∷ xs) (suc i) h e f =
    let more : suc (i + 1) ≡ suc i + 1 = omega arith in
    cond-false _ _ _ (f 0 (omega arith)) ∙ ap (front x) (first_place b xs i (omega arith) e (λ k l. f (suc k) (omega arith))) ∙ ap (λ j. Some (x ∷ take i xs, drop j (x ∷ xs))) more

no_place : (b : ℕ) (xs : List ℕ) → ((k : ℕ) → k < length xs → eqb (get_or xs k b) b ≡ false) → parted b xs ≡ None
unfolding parted
no_place b [] f = refl
no_place b (x ∷ xs) f = cond-false _ _ _ (f 0 (omega arith)) ∙ ap (front x) (no_place b xs (λ k l. f (suc k) (omega arith)))

-- the parts at the first place of b, and none where it has no place
pub parted_position : (b : ℕ) (xs : List ℕ) → parted b xs ≡ option_map (λ i. (take i xs, drop (i + 1) xs)) (position (λ x. eqb x b) xs)
parted_position b xs =
    let test : ℕ → Bool = λ x. eqb x b in
    let n = position_or_len test xs in
    ⊎_elim
    (λ (l : n < length xs). first_place b xs n l (passes_at_first test xs b l) (λ k h. fails_before_first test xs k b h) ∙ sym (ap (option_map (λ i. (take i xs, drop (i + 1) xs))) (cond-true _ _ _ (lt-ltb n (length xs) l))))
    (λ (g : length xs ≤ n). no_place b xs (λ k h. fails_before_first test xs k b (omega arith)) ∙ sym (ap (option_map (λ i. (take i xs, drop (i + 1) xs))) (cond-false _ _ _ (le-ltb n (length xs) g))))
    (cases_lt n (length xs))

-- what follows the first b is shorter
pub parted_shorter : (b : ℕ) (xs : List ℕ) (p : List ℕ × List ℕ) → parted b xs ≡ Some p → length p.1 < length xs
parted_shorter b xs p e = let l = ap length (parted_sound b xs p e) in let m = length-append p.0 (b ∷ p.1) in omega arith

-- the next field, as a text
pub next_onto : (w : List ℕ) (r : Rest) → free 32 w ≡ true → next (Some (onto w r)) ≡ Some (w, r)
next_onto w None h = ap (λ o. Some (cut_or w o)) (parted_none 32 w h)
next_onto w (Some q) h = ap (λ o. Some (cut_or (w ++ (32 ∷ q)) o)) (parted_here 32 w q h)

cut_sound : (xs : List ℕ) (o : Option (List ℕ × List ℕ)) → parted 32 xs ≡ o → (p : List ℕ × Rest) → cut_or xs o ≡ p → xs ≡ onto p.0 p.1
cut_sound xs None e p h = ap (λ (o : List ℕ × Rest). onto o.0 o.1) h
cut_sound xs (Some c) e p h = parted_sound 32 xs c e ∙ ap (λ (o : List ℕ × Rest). onto o.0 o.1) h

pub next_sound : (r : Rest) (p : List ℕ × Rest) → next r ≡ Some p → r ≡ Some (onto p.0 p.1)
next_sound None p e = never e
next_sound (Some xs) p e = ap Some (cut_sound xs (parted 32 xs) refl p (some_same _ _ e))

-- a field of a name
pub word_onto : (name v : List ℕ) (r : Rest) → free 61 name ≡ true → free 32 (field name v) ≡ true → word name (Some (onto (field name v) r)) ≡ Some (v, r)
word_onto name v r f g =
    ap (λ o. then (then o halves) (named name)) (next_onto (field name v) r g)
    ∙ ap (λ (o : Option (List ℕ × List ℕ)). then (option_map (λ h. (h.0, h.1, r)) o) (named name)) (parted_here 61 name v f)
    ∙ cond-true _ _ _ ((bytes_eq-Decides name name).1 refl)

named_some : (name : List ℕ) (f : List ℕ × List ℕ × Rest) (p : List ℕ × Rest) → named name f ≡ Some p → (f.0 ≡ name) × ((f.1, f.2) ≡ p)
named_some name f p e =
    ⊎_elim
    (λ t. ((bytes_eq-Decides f.0 name).0 t, some_same _ _ (sym (cond-true _ _ _ t) ∙ e)))
    (λ n. never (sym (cond-false _ _ _ n) ∙ e))
    (cases_Bool (bytes_eq f.0 name))

pub word_sound : (name : List ℕ) (r : Rest) (p : List ℕ × Rest) → word name r ≡ Some p → r ≡ Some (onto (field name p.0) p.1)
word_sound name r p e =
    let a = then_some (then (next r) halves) (named name) p e in
    let b = then_some (next r) halves a.0 a.1 in
    let c = mapped_some (λ (h : List ℕ × List ℕ). (h.0, h.1, b.0.1)) (parted 61 b.0.0) a.0 b.2 in
    let n = named_some name a.0 p a.2 in
    let cut = parted_sound 61 b.0.0 c.0 c.1 in
    let nm : c.0.0 ≡ name = ap (λ (f : List ℕ × List ℕ × Rest). f.0) c.2 ∙ n.0 in
    let vr : (c.0.1, b.0.1) ≡ p = ap (λ (f : List ℕ × List ℕ × Rest). (f.1, f.2)) c.2 ∙ n.1 in
    next_sound r b.0 b.1
    ∙ ap (λ w. Some (onto w b.0.1)) (cut ∙ ap (λ nn. nn ++ (61 ∷ c.0.1)) nm)
    ∙ ap (λ (o : List ℕ × Rest). Some (onto (field name o.0) o.1)) vr

-- texts that lack a byte
pub free_append : (b : ℕ) (xs ys : List ℕ) → free b xs ≡ true → free b ys ≡ true → free b (xs ++ ys) ≡ true
free_append b xs ys h k = list_all-append (λ x. not (eqb x b)) xs ys ∙ and_from _ _ h k

free_digits : (b : ℕ) (ds : List ℕ) → b < 48 → AllBelowBase 10 ds → free b (map (λ d. 48 + d) ds) ≡ true
free_digits b [] h u = refl
free_digits b (d ∷ ds) h u = let f : eqb (48 + d) b ≡ false = grind (arith, nat_tests) in and_from _ _ (ap not f) (free_digits b ds h u.1)

-- a numeral has no byte below its minus
pub free_numeral : (b : ℕ) (z : ℤ) → b < 45 → free b (numeral z) ≡ true
unfolding numeral natural
free_numeral b (pos zero) h = let f : eqb 48 b ≡ false = grind (arith, nat_tests) in and_from _ _ (ap not f) refl
free_numeral b (pos (suc n)) h = free_digits b (digits_of 10 (suc n)) (omega arith) (all_below_base_digits_of 10 (suc n) (omega arith))
free_numeral b (negsuc n) h =
    let f : eqb 45 b ≡ false = grind (arith, nat_tests) in
    and_from _ _ (ap not f) (free_digits b (digits_of 10 (suc n)) (omega arith) (all_below_base_digits_of 10 (suc n) (omega arith)))

-- the field of a numeral is one word
pub free_field : (name : List ℕ) (z : ℤ) → free 32 name ≡ true → free 32 (field name (numeral z)) ≡ true
free_field name z g = free_append 32 name _ g (free_numeral 32 z (omega arith))

-- a number of a name
pub number_onto : (name : List ℕ) (z : ℤ) (r : Rest) → free 61 name ≡ true → free 32 name ≡ true → number name (Some (onto (field name (numeral z)) r)) ≡ Some (kept z, r)
number_onto name z r f g =
    ap (λ o. then o meant) (word_onto name (numeral z) r f (free_field name z g)) ∙ ap (option_map (λ y. (kept y, r))) (valued_numeral z)

pub number_sound : (name : List ℕ) (r : Rest) (p : ℤ × Rest) → number name r ≡ Some p → (z : ℤ) × (r ≡ Some (onto (field name (numeral z)) p.1)) × (p.0 ≡ kept z)
number_sound name r p e =
    let a = then_some (word name r) meant p e in
    let b = mapped_some (λ y. (kept y, a.0.1)) (valued a.0.0) p a.2 in (
      b.0,
      word_sound name r a.0 a.1
          ∙ ap (λ v. Some (onto (field name v) a.0.1)) (valued_sound b.0 a.0.0 b.1)
          ∙ ap (λ (o : ℤ × Rest). Some (onto (field name (numeral b.0)) o.1)) b.2,
      ap (λ (o : ℤ × Rest). o.0) (sym b.2),
    )

-- a number of a name, or the other word, which is no numeral
pub number_or_onto_number : (name other : List ℕ) (z : ℤ) (r : Rest) → free 61 name ≡ true → free 32 name ≡ true → valued other ≡ None → number_or name other (Some (onto (field name (numeral z)) r)) ≡ Some (Some (kept z), r)
number_or_onto_number name other z r f g n =
    ap (λ o. then o (meant_or other)) (word_onto name (numeral z) r f (free_field name z g))
    ∙ ⊎_elim
    (λ t. absurd (no_value other n z (sym ((bytes_eq-Decides (numeral z) other).0 t))))
    (λ d. cond-false _ _ _ d ∙ ap (option_map (λ y. (Some (kept y), r))) (valued_numeral z))
    (cases_Bool (bytes_eq (numeral z) other))

pub number_or_onto_word : (name other : List ℕ) (r : Rest) → free 61 name ≡ true → free 32 (field name other) ≡ true → number_or name other (Some (onto (field name other) r)) ≡ Some (None, r)
number_or_onto_word name other r f g = ap (λ o. then o (meant_or other)) (word_onto name other r f g) ∙ cond-true _ _ _ ((bytes_eq-Decides other other).1 refl)

-- what the next field was: the other word, or a numeral
abbrev pub EitherOf : List ℕ → List ℕ → Rest → Option ℤ × Rest → Type 0
EitherOf name other r p =
    ((r ≡ Some (onto (field name other) p.1)) × (p.0 ≡ None))
    ⊎ ((z : ℤ) × (r ≡ Some (onto (field name (numeral z)) p.1)) × (p.0 ≡ Some (kept z)))

pub number_or_sound : (name other : List ℕ) (r : Rest) (p : Option ℤ × Rest) → number_or name other r ≡ Some p → EitherOf name other r p
number_or_sound name other r p e =
    let a = then_some (word name r) (meant_or other) p e in
    let w = word_sound name r a.0 a.1 in
    ⊎_elim
    (λ t.
    let q : (None, a.0.1) ≡ p = some_same _ _ (sym (cond-true _ _ _ t) ∙ a.2) in
    inl (
      w
          ∙ ap (λ v. Some (onto (field name v) a.0.1)) ((bytes_eq-Decides a.0.0 other).0 t)
          ∙ ap (λ (o : Option ℤ × Rest). Some (onto (field name other) o.1)) q,
      ap (λ (o : Option ℤ × Rest). o.0) (sym q),
    ))
    (λ f.
    let b = mapped_some (λ y. (Some (kept y), a.0.1)) (valued a.0.0) p (sym (cond-false _ _ _ f) ∙ a.2) in
    inr (
      b.0,
      w
          ∙ ap (λ v. Some (onto (field name v) a.0.1)) (valued_sound b.0 a.0.0 b.1)
          ∙ ap (λ (o : Option ℤ × Rest). Some (onto (field name (numeral b.0)) o.1)) b.2,
      ap (λ (o : Option ℤ × Rest). o.0) (sym b.2),
    ))
    (cases_Bool (bytes_eq a.0.0 other))

-- the end of a line
pub last_some : {X : Type 0} (v w : X) (r : Rest) → last v r ≡ Some w → (r ≡ None) × (v ≡ w)
last_some v w None e = (refl, some_same _ _ e)
last_some v w (Some q) e = never e

-- one number that ends a line
pub one_ended_onto : (a : List ℕ) (z : ℤ) → free 61 a ≡ true → free 32 a ≡ true → one_ended a (Some (spaced (field a (numeral z)) [])) ≡ Some (kept z)
one_ended_onto a z f g = ap (λ o. then o (λ p. last p.0 p.1)) (number_onto a z None f g)

pub one_ended_sound : (a : List ℕ) (r : Rest) (y : ℤ) → one_ended a r ≡ Some y → (z : ℤ) × (r ≡ Some (spaced (field a (numeral z)) [])) × (y ≡ kept z)
one_ended_sound a r y e =
    let p = then_some (number a r) (λ p. last p.0 p.1) y e in
    let f = last_some p.0.0 y p.0.1 p.2 in
    let s = number_sound a r p.0 p.1 in
    (s.0, s.1 ∙ ap (λ q. Some (onto (field a (numeral s.0)) q)) f.0, sym f.1 ∙ s.2)

-- two numbers that end a line
pub pair_ended_onto : (a b : List ℕ) (y z : ℤ) → free 61 a ≡ true → free 32 a ≡ true → free 61 b ≡ true → free 32 b ≡ true
    → pair_ended a b (Some (spaced (field a (numeral y)) (field b (numeral z) ∷ []))) ≡ Some (kept y, kept z)
pair_ended_onto a b y z f g h i =
    ap (λ o. then o (λ p. then (number b p.1) (λ q. last (p.0, q.0) q.1))) (number_onto a y (Some (field b (numeral z))) f g)
    ∙ ap (λ o. then o (λ q. last (kept y, q.0) q.1)) (number_onto b z None h i)

pub pair_ended_sound : (a b : List ℕ) (r : Rest) (w : ℤ × ℤ) → pair_ended a b r ≡ Some w
    → (y : ℤ) × (z : ℤ) × (r ≡ Some (spaced (field a (numeral y)) (field b (numeral z) ∷ []))) × (w ≡ (kept y, kept z))
pair_ended_sound a b r w e =
    let p = then_some (number a r) (λ p. then (number b p.1) (λ q. last (p.0, q.0) q.1)) w e in
    let q = then_some (number b p.0.1) (λ q. last (p.0.0, q.0) q.1) w p.2 in
    let f = last_some (p.0.0, q.0.0) w q.0.1 q.2 in
    let s = number_sound a r p.0 p.1 in
    let t = number_sound b p.0.1 q.0 q.1 in (
      s.0,
      t.0,
      s.1 ∙ ap (λ o. Some (onto (field a (numeral s.0)) o)) (t.1 ∙ ap (λ o. Some (onto (field b (numeral t.0)) o)) f.0),
      sym f.1 ∙ (λ i. (s.2 i, t.2 i)),
    )
