-- Each turn reads one digit more; a byte that is no digit ends the reading with none.
use Rattle.std.proofs.Common.{Some, ◌≡◌, ◌+◌, ◌-◌, ◌*◌, ◌≤◌, min, true, false, ◌&&◌, leb, get_or, sym, ap, ◌∙◌, arith, pos, nat_abs, rules, w32, to_z, of_z}
use Rattle.std.proofs.lemmas.Int.{ints, int_min_is}
use Rattle.std.proofs.lemmas.List.{nil_from_length}
use Rattle.std.proofs.lemmas.Bool.{cond-true, cond-false}
use Rattle.std.proofs.lemmas.Bool.Decides.{nat_tests}
use Rattle.std.specs.Option.{option_map}
use Rattle.text.specs.Numeral.{digit, most, above}
use Rattle.text.proofs.Numerals.{kept_reads}
use Rattle.text.proofs.Readings.{kept_more, kept_end}
use Rattle.text.proofs.numeral.read_digits.Goals as goal

pub returns-in_err-first-clause-value : goal.returns-in_err-first-clause-value
unfolding above
returns-in_err-first-clause-value c = let e = nil_from_length c.args.digits.now c.in_err-first.ensures.cases in rw e (search rules)

pub returns-then-not-contains-clause-value : goal.returns-then-not-contains-clause-value
unfolding above
returns-then-not-contains-clause-value c = let e = c.in_ok-first.ensures.cases.0 in rw e (let f : (leb 49 c.in_ok-first.first.now && leb c.in_ok-first.first.now 57) ≡ false = grind (arith, nat_tests, c.if-not-contains.ensures.value) in rw f (search rules))

pub loop-digit-init : goal.loop-digit-init
unfolding above
loop-digit-init c =
    let d = c.in_ok-first.first.now in
    let e = c.in_ok-first.ensures.cases.0 in
    let t : (leb 49 d && leb d 57) ≡ true = grind (arith, nat_tests, c.if-not-contains.ensures.value) in
    let low : 49 ≤ d = grind (arith, nat_tests, t) in
    let high : d ≤ 57 = grind (arith, nat_tests, t) in
    let z : to_z w32 (of_z w32 c.from-number.result) ≡ pos (min (d - 48) most) = omega (arith, ints) in
    record {
      positive = omega (arith, ints);
      held = omega (arith, ints);
      left = rw (z, e, t) (kept_reads (d - 48) c.in_ok-first.rest.now);
    }

pub returns-then-not-is_ascii_digit-clause-value :
    goal.returns-then-not-is_ascii_digit-clause-value
returns-then-not-is_ascii_digit-clause-value c =
    let d = get_or c.in_ok-first.rest.now c.loop-digit.digit-index 0 in
    let f : digit d ≡ false = grind (arith, nat_tests, c.if-not-is_ascii_digit.ensures.value) in
    let n = nat_abs (to_z w32 c.loop-digit.number-bits) in
    ap (option_map pos) (sym (kept_more n c.loop-digit.digit-index c.in_ok-first.rest.now (omega arith) ∙ cond-false _ _ _ f) ∙ c.loop-digit.invariant.left)

pub loop-digit-preserved : goal.loop-digit-preserved
loop-digit-preserved c =
    let d = get_or c.in_ok-first.rest.now c.loop-digit.digit-index 0 in
    let t : digit d ≡ true = grind (arith, nat_tests, c.if-not-is_ascii_digit.ensures.value) in
    let n = nat_abs (to_z w32 c.loop-digit.number-bits) in
    let low : 48 ≤ d = grind (arith, nat_tests, t) in
    let high : d ≤ 57 = grind (arith, nat_tests, t) in
    let z : to_z w32 (of_z w32 c.min-number.result) ≡ pos (min (n * 10 + (d - 48)) most) = omega (arith, ints, c.min-number.ensures.value, int_min_is) in
    record {
      positive = omega (arith, ints);
      held = omega (arith, ints);
      left = rw z (sym (kept_more n c.loop-digit.digit-index c.in_ok-first.rest.now (omega arith) ∙ cond-true _ _ _ t) ∙ c.loop-digit.invariant.left);
    }

pub returns-clause-value : goal.returns-clause-value
returns-clause-value c =
    let n = nat_abs (to_z w32 c.loop-digit.number-bits) in
    let z : to_z w32 c.loop-digit.number-bits ≡ pos n = omega (arith, ints) in
    ap Some z ∙ ap (option_map pos) (sym (kept_end n c.loop-digit.digit-index c.in_ok-first.rest.now (omega arith)) ∙ c.loop-digit.invariant.left)
