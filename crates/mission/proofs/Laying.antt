-- What a pen wrote, text after text.
use Rattle.std.proofs.Common.{◌≡◌, ℕ, zero, suc, ◌+◌, ◌-◌, ◌^◌, ◌<◌, ◌≤◌, min, List, [], ◌∷◌, ◌++◌, length, take, drop, set, ℤ, pos, negsuc, refl, sym, ◌∙◌, ap, append_assoc, ⊎_elim, arith, w32, SFits, to_z, of_z}
use Rattle.std.proofs.lemmas.Bool.{cases_lt}
use Rattle.std.proofs.lemmas.Fmt.{decimal_digit, decimal-digits_of}
use Rattle.std.proofs.lemmas.Grind.{common_steps}
use Rattle.std.proofs.lemmas.Int.{to_z-of_z}
use Rattle.std.proofs.lemmas.List.{take-append-drop, take_more_set, drop-set-lt, set_past, take_all, length-set}
use Rattle.std.specs.Fmt.{signed_decimal}
use Rattle.text.specs.Numeral.{natural, numeral}
use Rattle.mission.specs.declared.pen.Pen.{Pen}
use Rattle.mission.specs.Pages.{stepped, wrote, Laid}

pub wrote_append : (p : Pen) (xs ys : List ℕ) → wrote (wrote p xs) ys ≡ wrote p (xs ++ ys)
unfolding wrote
wrote_append p [] ys = refl
wrote_append p (x ∷ xs) ys = wrote_append (stepped p x) xs ys

-- one writing after another
pub and_then : (p q r : Pen) (xs ys : List ℕ) → q ≡ wrote p xs → r ≡ wrote q ys → r ≡ wrote p (xs ++ ys)
and_then p q r xs ys a b = b ∙ ap (λ s. wrote s ys) a ∙ wrote_append p xs ys

-- a number that was converted, and then another writing
pub numbered : (p q : Pen) (label : List ℕ) (z : ℤ) → (y : ℤ) × (y ≡ z) × (q ≡ wrote (wrote p label) (numeral y)) → q ≡ wrote p (label ++ numeral z)
numbered p q label z a = and_then p (wrote p label) q label (numeral z) refl (a.2 ∙ ap (λ x. wrote (wrote p label) (numeral x)) a.1)

pub and_number : (p q r : Pen) (label ys : List ℕ) (z : ℤ) → (y : ℤ) × (y ≡ z) × (q ≡ wrote (wrote p label) (numeral y)) → r ≡ wrote q ys → r ≡ wrote p ((label ++ numeral z) ++ ys)
and_number p q r label ys z a b = and_then p q r (label ++ numeral z) ys (numbered p q label z a) b

-- the same pen with its page and place changed
abbrev pub moved : Pen → List ℕ → ℕ → Pen
moved p now place = record { page = record p.page { now = now }; place = place }

-- the page with bytes copied over it, from a place up to another
abbrev pub copied : List ℕ → ℕ → ℕ → List ℕ → List ℕ
copied now from to bs = take from now ++ (take (to - from) bs ++ drop to now)

-- nothing is copied where the two places are one
none_copied : (now : List ℕ) (from to : ℕ) (bs : List ℕ) → to ≡ from → copied now from to bs ≡ now
none_copied now from to bs e = grind (arith, common_steps, take-append-drop)

-- the first byte by itself, then the others
byte_copied : (now : List ℕ) (at to b : ℕ) (bs : List ℕ) → at < length now → at < to
    → copied (set now at b) (at + 1) to bs ≡ copied now at to (b ∷ bs)
byte_copied now at to b bs l h =
    let k : to - at ≡ suc (to - (at + 1)) = omega arith in
    rw k (rw (take_more_set now at b l) (rw (drop-set-lt to now at b h) (append_assoc (take at now) (b ∷ []) _)))

next_copied : (now : List ℕ) (at from to b : ℕ) (bs : List ℕ) → length now < 2 ^ 64 → from ≡ min (min (at + 1) (2 ^ 64 - 1)) (length now)
    → to ≡ min (min (at + suc (length bs)) (2 ^ 64 - 1)) (length now) → copied (set now at b) from to bs ≡ copied now (min at (length now)) to (b ∷ bs)
next_copied now at from to b bs held f t =
    ⊎_elim
    (λ (h : at < length now).
    let here : min at (length now) ≡ at = omega arith in
    let next : from ≡ at + 1 = omega arith in
    rw here (rw next (byte_copied now at to b bs h (omega arith))))
    (λ (h : length now ≤ at). rw (set_past now at b h) (none_copied now from to bs (omega arith) ∙ sym (none_copied now _ to (b ∷ bs) (omega arith))))
    (cases_lt at (length now))

-- what a pen writes on a page of a machine: a copy as far as the page goes
pub wrote_is : (p : Pen) (bs : List ℕ) (from to end : ℕ) → length p.page.now < 2 ^ 64 → p.place < 2 ^ 64 → from ≡ min p.place (length p.page.now)
    → end ≡ min (p.place + length bs) (2 ^ 64 - 1) → to ≡ min end (length p.page.now) → wrote p bs ≡ moved p (copied p.page.now from to bs) end
unfolding wrote
wrote_is p [] from to end held small f e t =
    let still : end ≡ p.place = omega arith in
    sym (ap (λ xs. moved p xs end) (none_copied p.page.now from to [] (omega arith)) ∙ ap (moved p p.page.now) still)
wrote_is p (b ∷ bs) from to end held small f e t =
    let now = p.page.now in
    let l = length-set now p.place b in
    let next = min (min (p.place + 1) (2 ^ 64 - 1)) (length now) in
    wrote_is (stepped p b) bs next to end (omega arith) (omega arith) (omega arith) (omega arith) (omega arith)
    ∙ ap (λ xs. moved p xs end) (next_copied now p.place next to b bs held refl (omega arith) ∙ ap (λ k. copied now k to (b ∷ bs)) (sym f))

-- what a pen wrote from the beginning of a page on
pub laid_text : (p q : Pen) (bs : List ℕ) → length p.page.now < 2 ^ 64 → p.place ≡ 0 → q ≡ wrote p bs → Laid bs p.page.now q.page.now q.place
laid_text p q bs held first w =
    let now = p.page.now in
    let end = min (length bs) (2 ^ 64 - 1) in
    let to = min end (length now) in
    let is = w ∙ wrote_is p bs 0 to end held (omega arith) (omega arith) (omega arith) refl in
    record {
      counted = ap (λ x. x.place) is;
      page = λ h.
          let all : to ≡ length bs = omega arith in
          ap (λ x. x.page.now) is ∙ ap (λ xs. xs ++ drop to now) (take_all (to - 0) bs (omega arith)) ∙ ap (λ n. bs ++ drop n now) all;
    }

pub same_name : (p : Pen) (bs : List ℕ) → (wrote p bs).page.ghost_name ≡ p.page.ghost_name
unfolding wrote
same_name p [] = refl
same_name p (b ∷ bs) = same_name (stepped p b) bs

-- a number's text, as it is printed
pub numeral_text : (z : ℤ) → SFits w32 z → signed_decimal z ≡ numeral z
unfolding numeral natural
numeral_text (pos zero) f = decimal_digit 0 (omega arith)
numeral_text (pos (suc n)) f = decimal-digits_of (suc n) (omega arith) (let l = f.sfits in omega arith)
numeral_text (negsuc n) f = ap (λ ds. 45 ∷ ds) (decimal-digits_of (suc n) (omega arith) (let l = f.sfits in omega arith))

-- a number of a machine, as it is passed on
pub same_least : (y z : ℤ) → SFits w32 y → y ≡ z → to_z w32 (of_z w32 y) ≡ z
same_least y z f e = to_z-of_z w32 y f ∙ e
