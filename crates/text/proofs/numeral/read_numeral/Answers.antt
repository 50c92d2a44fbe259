-- A numeral by its first byte: a minus, a zero, or neither.
use Rattle.std.proofs.Common.{rules, ◌≡◌, min, length, eqb, pos, arith, sym, ap, subst, IfSome, ◌<ℤ◌, ◌≤ℤ◌, neg_ℤ, ◌∙◌}
use Rattle.std.proofs.lemmas.Bool.{ltb-true}
use Rattle.std.proofs.lemmas.List.{take_rest}
use Rattle.std.specs.Option.{option_map}
use Rattle.std.specs.Bool.{then_some}
use Rattle.text.specs.Numeral.{most, above, below}
use Rattle.text.proofs.Numerals.{read_as}
use Rattle.text.proofs.Readings.{at_minus, at_nought, at_other, turned}
use Rattle.text.proofs.numeral.read_numeral.Goals as goal
use Rattle.text.proofs.numeral.read_numeral.Goals.{in_default-via-then-text-lt1, in_default-via-else-text-lt1+in_default-1}

pub returns-in-48 : goal.returns-in-48
returns-in-48 c =
    let s = c.args.text.now in
    let e = c.then_some.ensures ∙ ap (λ b. then_some b (pos 0)) (c.is_empty.ensures ∙ ap (λ xs. eqb (length xs) 0) (take_rest s 1)) ∙ sym (at_nought s (omega arith) (search rules)) in
    record { reads = e; numeral = read_as s _ e }

pub returns-in-45 : goal.returns-in-45
returns-in-45 c =
    let s = c.args.text.now in
    let m : c.map.result ≡ option_map (λ z. neg_ℤ z) c.read_digits.result = search rules in
    let d = c.read_digits.ensures in
    let e = m ∙ ap (option_map (λ z. neg_ℤ z)) d.value ∙ turned _ (subst (λ r. IfSome r (λ n. (pos 0 <ℤ n) × (n ≤ℤ pos most))) d.value d.range) ∙ ap (λ xs. below (option_map (λ n. min n most) (above xs))) (take_rest s 1) ∙ sym (at_minus s (omega arith) (search rules)) in
    record { reads = e; numeral = read_as s _ e }

pub returns-in_default : goal.returns-in_default
returns-in_default c =
    let s = c.args.text.now in
    let e = c.read_digits-in_default.ensures.value ∙ sym (at_other s
    (λ h k. elim c.in_default.branch [ in_default-via-then-text-lt1 w ↦ absurd (omega (arith, ltb-true)) | in_default-via-else-text-lt1+in_default-1 w ↦ absurd (omega arith) ])
    (λ h k. elim c.in_default.branch [ in_default-via-then-text-lt1 w ↦ absurd (omega (arith, ltb-true)) | in_default-via-else-text-lt1+in_default-1 w ↦ absurd (omega arith) ])) in
    record { reads = e; numeral = read_as s _ e }
