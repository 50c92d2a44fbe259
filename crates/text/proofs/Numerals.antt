-- One numeral a number, one number a numeral.
use Rattle.std.proofs.Common.{◌≡◌, ℕ, zero, suc, ◌+◌, ◌-◌, ◌*◌, ◌/◌, ◌%◌, ◌<◌, ◌≤◌, min, true, false, ◌&&◌, eqb, leb, List, [], ◌∷◌, ◌++◌, map, get_or, ℤ, pos, negsuc, Some, None, Option, sym, refl, ap, ◌∙◌, ⊎_elim, append_assoc, append-nil, arith}
use Rattle.std.proofs.lemmas.Nat.{div-mul-add, mod-mul-add}
use Rattle.std.proofs.lemmas.Int.Digits.{digits_of_step, all_below_base_digits_of, first_digits_of, number_digits_of}
use Rattle.std.proofs.lemmas.List.{map-append}
use Rattle.std.proofs.lemmas.Bool.{cond-true, cond-false, cases_Bool}
use Rattle.std.proofs.lemmas.Bool.Decides.{nat_tests}
use Rattle.std.specs.Option.{option_map}
use Rattle.std.specs.Int.Digits.{digits_of, number_from_digits_after, AllBelowBase}
use Rattle.text.specs.Numeral.{natural, numeral, digit, reads, above, below, alone, valued, reads_kept, most, kept, ReadAs}
use Rattle.text.proofs.Options.{never, mapped_some}

pub natural_above : (n : ℕ) → 0 < n → natural n ≡ map (λ d. 48 + d) (digits_of 10 n)
unfolding natural
natural_above zero h = absurd (omega arith)
natural_above (suc n) h = refl

-- a digit more at the end
pub natural_push : (v d : ℕ) → 0 < v → d < 10 → natural (v * 10 + d) ≡ natural v ++ ((48 + d) ∷ [])
natural_push v d h l =
    let up : 0 < v * 10 + d = omega arith in
    natural_above (v * 10 + d) up
    ∙ ap (map (λ e. 48 + e)) (digits_of_step 10 (v * 10 + d) (omega arith) up)
    ∙ map-append (λ e. 48 + e) (digits_of 10 ((v * 10 + d) / 10)) _
    ∙ ap (λ q. map (λ e. 48 + e) (digits_of 10 q) ++ ((48 + (v * 10 + d) % 10) ∷ [])) (div-mul-add v 10 d l)
    ∙ ap (λ q. map (λ e. 48 + e) (digits_of 10 v) ++ ((48 + q) ∷ [])) (mod-mul-add v 10 d l)
    ∙ ap (λ xs. xs ++ ((48 + d) ∷ [])) (sym (natural_above v h))

one_digit : (d : ℕ) → 0 < d → d < 10 → natural d ≡ (48 + d) ∷ []
one_digit d h l =
    let q : d / 10 ≡ 0 = omega arith in
    let r : d % 10 ≡ d = omega arith in
    natural_above d h ∙ ap (map (λ e. 48 + e)) (digits_of_step 10 d (omega arith) h ∙ ap (λ x. digits_of 10 x ++ (d % 10 ∷ [])) q ∙ ap (λ x. x ∷ []) r)

-- what is read is what is written
digit_is : (c : ℕ) → digit c ≡ true → (48 ≤ c) × (c ≤ 57)
digit_is c h = (grind (arith, nat_tests), grind (arith, nat_tests))

first_is : (c : ℕ) → (leb 49 c && leb c 57) ≡ true → (49 ≤ c) × (c ≤ 57)
first_is c h = (grind (arith, nat_tests), grind (arith, nat_tests))

pub reads_sound : (v n : ℕ) (cs : List ℕ) → 0 < v → reads v cs ≡ Some n → (natural v ++ cs ≡ natural n) × (0 < n)
unfolding reads
reads_sound v n [] h e = let q : v ≡ n = cc in (append-nil (natural v) ∙ ap natural q, omega arith)
reads_sound v n (c ∷ cs) h e =
    ⊎_elim
    (λ t.
    let d = digit_is c t in
    let back : 48 + (c - 48) ≡ c = omega arith in
    let push = natural_push v (c - 48) h (omega arith) in
    let rest = reads_sound (v * 10 + (c - 48)) n cs (omega arith) (sym (cond-true _ _ _ t) ∙ e) in
    (ap (λ x. natural v ++ (x ∷ cs)) (sym back) ∙ sym (append_assoc (natural v) ((48 + (c - 48)) ∷ []) cs) ∙ ap (λ xs. xs ++ cs) (sym push) ∙ rest.0, rest.1))
    (λ f. never (sym (cond-false _ _ _ f) ∙ e))
    (cases_Bool (digit c))

pub above_sound : (n : ℕ) (cs : List ℕ) → above cs ≡ Some n → (cs ≡ natural n) × (0 < n)
unfolding above
above_sound n [] e = never e
above_sound n (c ∷ cs) e =
    ⊎_elim
    (λ t.
    let d = first_is c t in
    let back : 48 + (c - 48) ≡ c = omega arith in
    let one = one_digit (c - 48) (omega arith) (omega arith) in
    let rest = reads_sound (c - 48) n cs (omega arith) (sym (cond-true _ _ _ t) ∙ e) in
    (ap (λ x. x ∷ cs) (sym back) ∙ ap (λ xs. xs ++ cs) (sym one) ∙ rest.0, rest.1))
    (λ f. never (sym (cond-false _ _ _ f) ∙ e))
    (cases_Bool (leb 49 c && leb c 57))

-- what is written is read back
reads_all : (v : ℕ) (ds : List ℕ) → AllBelowBase 10 ds → reads v (map (λ d. 48 + d) ds) ≡ Some (number_from_digits_after 10 v ds)
unfolding reads
reads_all v [] u = refl
reads_all v (d ∷ ds) u =
    let t : digit (48 + d) ≡ true = grind (arith, nat_tests, u.0) in
    let back : 48 + d - 48 ≡ d = omega arith in
    cond-true _ _ _ t ∙ ap (λ x. reads (v * 10 + x) (map (λ e. 48 + e) ds)) back ∙ reads_all (v * 10 + d) ds u.1

above_all : (ds : List ℕ) → AllBelowBase 10 ds → 0 < get_or ds 0 0 → above (map (λ d. 48 + d) ds) ≡ Some (number_from_digits_after 10 0 ds)
unfolding above
above_all [] u h = absurd (omega arith)
above_all (d ∷ ds) u h =
    let l = u.0 in
    let t : (leb 49 (48 + d) && leb (48 + d) 57) ≡ true = grind (arith, nat_tests) in
    let back : 48 + d - 48 ≡ d = omega arith in
    let same : d ≡ 0 * 10 + d = omega arith in
    cond-true _ _ _ t ∙ ap (λ x. reads x (map (λ e. 48 + e) ds)) back ∙ reads_all d ds u.1 ∙ ap (λ x. Some (number_from_digits_after 10 x ds)) same

pub above_natural : (n : ℕ) → 0 < n → above (natural n) ≡ Some n
above_natural n h =
    ap above (natural_above n h) ∙ above_all (digits_of 10 n) (all_below_base_digits_of 10 n (omega arith)) (first_digits_of 10 n (omega arith) h) ∙ ap Some (number_digits_of 10 n (omega arith))

-- bytes are read as z only where they are z's numeral
some_below : (z : ℤ) (o : Option ℕ) → below o ≡ Some z → (n : ℕ) × (o ≡ Some (suc n)) × (z ≡ negsuc n)
unfolding below
some_below z None e = never e
some_below z (Some zero) e = never e
some_below z (Some (suc n)) e = let q : negsuc n ≡ z = cc in (n, refl, sym q)

some_alone : (z : ℤ) (cs : List ℕ) → alone cs ≡ Some z → (cs ≡ []) × (z ≡ pos 0)
some_alone z [] e = let q : pos 0 ≡ z = cc in (refl, sym q)
some_alone z (x ∷ xs) e = never e

pub valued_sound : (z : ℤ) (bs : List ℕ) → valued bs ≡ Some z → bs ≡ numeral z
unfolding valued numeral natural
valued_sound z [] e = never e
valued_sound z (c ∷ cs) e =
    ⊎_elim
    (λ t.
    let p = some_below z _ (sym (cond-true _ _ _ t) ∙ e) in
    let minus : c ≡ 45 = grind (arith, nat_tests) in
    ap (λ x. x ∷ cs) minus ∙ ap (λ xs. 45 ∷ xs) (above_sound _ cs p.1).0 ∙ ap numeral (sym p.2))
    (λ f. let e₁ = sym (cond-false _ _ _ f) ∙ e in
    ⊎_elim
    (λ t.
    let p = some_alone z cs (sym (cond-true _ _ _ t) ∙ e₁) in
    let nought : c ≡ 48 = grind (arith, nat_tests) in
    ap (λ x. x ∷ cs) nought ∙ ap (λ xs. 48 ∷ xs) p.0 ∙ ap numeral (sym p.1))
    (λ g.
    let p = mapped_some pos (above (c ∷ cs)) z (sym (cond-false _ _ _ g) ∙ e₁) in
    (above_sound _ (c ∷ cs) p.1).0 ∙ ap numeral p.2)
    (cases_Bool (eqb c 48)))
    (cases_Bool (eqb c 45))

-- above zero a numeral does not begin with a zero or a minus
valued_above : (n : ℕ) (cs : List ℕ) → above cs ≡ Some n → valued cs ≡ Some (pos n)
unfolding above valued
valued_above n [] e = never e
valued_above n (c ∷ cs) e =
    ⊎_elim
    (λ t.
    let d = first_is c t in
    let f : eqb c 45 ≡ false = grind (arith, nat_tests) in
    let g : eqb c 48 ≡ false = grind (arith, nat_tests) in
    cond-false _ _ _ f ∙ cond-false _ _ _ g ∙ ap (option_map pos) e)
    (λ f. never (sym (cond-false _ _ _ f) ∙ e))
    (cases_Bool (leb 49 c && leb c 57))

-- and z's numeral is read as z
pub valued_numeral : (z : ℤ) → valued (numeral z) ≡ Some z
unfolding numeral natural valued below
valued_numeral (pos zero) = refl
valued_numeral (pos (suc n)) = valued_above (suc n) _ (above_natural (suc n) (omega arith))
valued_numeral (negsuc n) = ap below (above_natural (suc n) (omega arith))

pub one_value : (y z : ℤ) → numeral y ≡ numeral z → y ≡ z
one_value y z e = let a = valued_numeral y in let b = valued_numeral z in let c = ap valued e in cc

-- bytes that are read as nothing are no numeral
pub no_value : (bs : List ℕ) → valued bs ≡ None → (z : ℤ) → bs ≡ numeral z → ⊥
no_value bs n z e = never (sym n ∙ ap valued e ∙ valued_numeral z)

-- what bytes are read as, in the words of numerals
pub read_as : (bs : List ℕ) (r : Option ℤ) → r ≡ option_map kept (valued bs) → ReadAs bs r
read_as bs None e = λ z h. never (e ∙ ap (option_map kept) (ap valued h ∙ valued_numeral z))
read_as bs (Some n) e = let m = mapped_some kept (valued bs) n (sym e) in (m.0, valued_sound m.0 bs m.1, sym m.2)

-- holding a number at each digit holds it at the end
pub kept_reads : (v : ℕ) (cs : List ℕ) → reads_kept (min v most) cs ≡ option_map (λ n. min n most) (reads v cs)
unfolding reads reads_kept
kept_reads v [] = refl
kept_reads v (c ∷ cs) =
    ⊎_elim
    (λ t.
    let m : min (min v most * 10 + (c - 48)) most ≡ min (v * 10 + (c - 48)) most = omega arith in
    cond-true _ _ _ t ∙ ap (λ x. reads_kept x cs) m ∙ kept_reads (v * 10 + (c - 48)) cs ∙ ap (option_map (λ n. min n most)) (sym (cond-true _ _ _ t)))
    (λ f. cond-false _ _ _ f ∙ ap (option_map (λ n. min n most)) (sym (cond-false _ _ _ f)))
    (cases_Bool (digit c))
