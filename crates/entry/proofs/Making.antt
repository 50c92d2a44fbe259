-- Numbers in range make the entry with those numbers, and others make none.
use Rattle.std.proofs.Common.{◌≡◌, ℕ, true, false, T, ℤ, Some, None, Result, Ok, Err, sym, refl, ap, ◌∙◌, arith}
use Rattle.std.proofs.lemmas.Int.{ints}
use Rattle.std.specs.Result.{result_ok}
use Rattle.entry.specs.declared.entry_fault.EntryFault.{EntryFault}
use Rattle.entry.specs.Kinds.{Count, Mark, whole_in}
use Rattle.entry.specs.declared.parts.Ability.{Ability}
use Rattle.entry.specs.declared.parts.Weighed.{Weighed}
use Rattle.entry.specs.Abilities.{ability_in, ability_of, ability_makes, gain}
use Rattle.entry.specs.Counts.{count_of, count_makes}
use Rattle.entry.specs.Makes.{Makes}
use Rattle.entry.specs.Ranges.{within, is_ability, is_count}
use Rattle.entry.proofs.Holding.{where_holds, where_fails, where_made}
use Rattle.entry.proofs.Same.{same_ability, same_whole}

whole_in_is : (m : ℕ) (z : ℤ) (t : T (within m z)) → (whole_in m z t).value ≡ z
unfolding whole_in
whole_in_is m z t = refl

pub count_there : (z : ℤ) (c : Count) → c.value ≡ z → count_of z ≡ Some c
count_there z c e =
    let h : is_count z ≡ true = grind (arith, ints) in
    where_holds (is_count z) (whole_in 1000000 z) c h (λ t. same_whole (whole_in 1000000 z t) c (whole_in_is 1000000 z t ∙ sym e))

pub count_out : (z : ℤ) → is_count z ≡ false → count_of z ≡ None
count_out z h = where_fails (is_count z) (whole_in 1000000 z) h

-- what making a count answers, its refusal left out
pub count_answered : (x z : ℤ) (r : Result Count EntryFault) → x ≡ z → Makes r (is_count x) (λ c. c.value ≡ x) → result_ok r ≡ count_of z
count_answered x z (Ok c) e h = sym (count_there z c (h ∙ e))
count_answered x z (Err f) e h = sym (count_out z (ap is_count (sym e) ∙ h.1))

-- what is made has the number
pub count_value : (z : ℤ) (c : Count) → count_of z ≡ Some c → c.value ≡ z
count_value z c e =
    let m = where_made (is_count z) (whole_in 1000000 z) c e in
    ap (λ (d : Count). d.value) (sym m.1) ∙ whole_in_is 1000000 z m.0

pub count_first : (m : Mark) (c : Count) → c.value ≡ m.value → c ≡ count_makes m
unfolding count_makes
count_first m c e = same_whole c _ e

ability_in_is : (m : ℤ) (w : ℕ) (t : T (is_ability m w)) → ((ability_in m w t).marks ≡ m) × ((ability_in m w t).weight ≡ w)
unfolding ability_in
ability_in_is m w t = (refl, refl)

pub ability_is : (a : Ability) → is_ability a.marks a.weight ≡ true
ability_is a = grind (arith, ints)

pub ability_there : (m : ℤ) (w : ℕ) (a : Ability) → a.marks ≡ m → a.weight ≡ w → ability_of m w ≡ Some a
ability_there m w a e f =
    let h : is_ability m w ≡ true = sym (λ i. is_ability (e i) (f i)) ∙ ability_is a in
    where_holds (is_ability m w) (ability_in m w) a h
    (λ t. let is = ability_in_is m w t in same_ability (ability_in m w t) a (is.0 ∙ sym e) (is.1 ∙ sym f))

pub ability_out : (m : ℤ) (w : ℕ) → is_ability m w ≡ false → ability_of m w ≡ None
ability_out m w h = where_fails (is_ability m w) (ability_in m w) h

-- what making an ability answers, its refusal left out
pub ability_answered : (x m : ℤ) (y w : ℕ) (r : Result Ability EntryFault) → x ≡ m → y ≡ w → Makes r (is_ability x y) (λ a. (a.marks ≡ x) × (a.weight ≡ y)) → result_ok r ≡ ability_of m w
ability_answered x m y w (Ok a) e f h = sym (ability_there m w a (h.0 ∙ e) (h.1 ∙ f))
ability_answered x m y w (Err g) e f h = sym (ability_out m w (sym (λ i. is_ability (e i) (f i)) ∙ h.1))

pub ability_values : (m : ℤ) (w : ℕ) (a : Ability) → ability_of m w ≡ Some a → (a.marks ≡ m) × (a.weight ≡ w)
ability_values m w a e =
    let made = where_made (is_ability m w) (ability_in m w) a e in
    let is = ability_in_is m w made.0 in
    (ap (λ (b : Ability). b.marks) (sym made.1) ∙ is.0, ap (λ (b : Ability). b.weight) (sym made.1) ∙ is.1)

pub ability_first : (s : Weighed) (a : Ability) → a.marks ≡ gain s → a.weight ≡ s.weight.value → a ≡ ability_makes s
unfolding ability_makes
ability_first s a e f = same_ability a _ e f
