-- A line that declares a number is read as it is written.
use Rattle.std.proofs.Common.{◌≡◌, ℕ, ◌<◌, true, false, List, ℤ, pos, Some, None, sym, ap, ◌∙◌, arith}
use Rattle.std.proofs.lemmas.Int.{ints}
use Rattle.std.proofs.lemmas.Bool.{and_parts}
use Rattle.text.specs.Numeral.{within}
use Rattle.text.specs.Fields.{free, one_ended}
use Rattle.text.proofs.Cuts.{never, some_same, one_ended_onto, one_ended_sound}
use Rattle.text.proofs.Ranges.{narrow, within_kept, same_kept}
use Rattle.mission.specs.declared.flaw.Flaw.TheVariants.{Form, Range}
use Rattle.mission.specs.Lines.{number_field, Bad}
use Rattle.mission.specs.Reading.{plain}

-- a number in range is the one that the line writes
pub in_range_line : (name xs : List ℕ) (lo hi : ℕ) (z : ℤ) → hi < 65536 → Some z ≡ one_ended name (Some xs) → within (pos lo) (pos hi) z ≡ true → xs ≡ number_field name z
in_range_line name xs lo hi z small e h =
    let inside : narrow (pos lo) (pos hi) ≡ true = grind (arith, ints) in
    let s = one_ended_sound name (Some xs) z (sym e) in
    let good : within (pos lo) (pos hi) s.0 ≡ true = sym (within_kept (pos lo) (pos hi) s.0 inside) ∙ ap (within (pos lo) (pos hi)) (sym s.2) ∙ h in
    some_same _ _ s.1 ∙ ap (number_field name) (sym (same_kept (pos lo) (pos hi) s.0 inside good) ∙ sym s.2)

-- and a number out of range is held of one out of range
pub out_of_range_line : (name xs : List ℕ) (lo hi : ℕ) (z : ℤ) → hi < 65536 → Some z ≡ one_ended name (Some xs) → within (pos lo) (pos hi) z ≡ false
    → Bad (number_field name) (within (pos lo) (pos hi)) xs Range
out_of_range_line name xs lo hi z small e h =
    let inside : narrow (pos lo) (pos hi) ≡ true = grind (arith, ints) in
    let s = one_ended_sound name (Some xs) z (sym e) in
    (s.0, some_same _ _ s.1, sym (within_kept (pos lo) (pos hi) s.0 inside) ∙ ap (within (pos lo) (pos hi)) (sym s.2) ∙ h)

pub no_number_line : (name xs : List ℕ) (low high : ℤ) → plain name ≡ true → None ≡ one_ended name (Some xs) → Bad (number_field name) (within low high) xs Form
no_number_line name xs low high p n = λ z e.
    let a = and_parts (free 61 name) _ p in
    let b = and_parts (free 32 name) _ a.1 in
    never (n ∙ ap (λ ys. one_ended name (Some ys)) e ∙ one_ended_onto name z a.0 b.0)
