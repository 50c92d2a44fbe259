use Rattle.std.proofs.Common.{◌≡◌, true, false, Some, None, refl, arith, rules, tests}
use Rattle.std.proofs.lemmas.Iterator.{YieldsList-from_slice, first_from_find}
use Rattle.std.proofs.lemmas.Iterator.Adapters.{YieldsList-from_skip}
use Rattle.std.proofs.lemmas.Iterator.Consumers.{YieldsList-from_enumerate}
use Rattle.bank.proofs.Records.{idle_found, idle_past, is_for}
use Rattle.bank.proofs.parts.RecordedSkill.idle_from.Goals as goal

pub returns-in-Some : goal.returns-in-Some
returns-in-Some c =
    let k = c.args.skill in
    let rows = YieldsList-from_skip c.args.from (YieldsList-from_enumerate (YieldsList-from_slice c.args.rows.now (cc)) (cc)) (cc) in
    let found = first_from_find c.find-found.new.self _ (Some (c.in-Some.at, c.in-Some.row)) (λ y. is_for k y.1 ≡ true) (λ y. is_for k y.1 ≡ false) c.in-Some.ensures.ran rows (λ x q h. search (rules, tests)) (λ x q h. search (rules, tests)) in
    idle_found k c.args.rows.now c.args.from c.idle.result _ c.in-Some.at c.in-Some.row.now found.0 found.1 found.2 found.3 found.4
    c.idle.ensures.first c.idle.ensures.idle (omega arith)

pub returns-in-None : goal.returns-in-None
returns-in-None c =
    let k = c.args.skill in
    let rows = YieldsList-from_skip c.args.from (YieldsList-from_enumerate (YieldsList-from_slice c.args.rows.now (cc)) (cc)) (cc) in
    let none = first_from_find c.find-found.new.self _ None (λ y. is_for k y.1 ≡ true) (λ y. is_for k y.1 ≡ false) c.in-None.ensures.ran rows (λ x q h. search (rules, tests)) (λ x q h. search (rules, tests)) in
    let e = c.default.ensures in
    idle_past k c.args.rows.now c.args.from c.default.result _ none e.0 e.1 e.2 refl
