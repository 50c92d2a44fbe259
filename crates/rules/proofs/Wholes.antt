-- The law of whole runs.
use Rattle.std.proofs.Common.{◌≡◌, ℕ, ◌≤◌, Bool, true, false, ◌||◌, ltb, List, [], ◌∷◌, Some, None, Option, sym, refl, ap, ◌∙◌}
use Rattle.std.specs.List.{AllByRecursion}
use Rattle.rules.specs.declared.sitting_fault.SittingFault.{SittingFault}
use Rattle.rules.specs.Laws.{points, Sight, sight, seen, Alike, WholeRuns, LawOfWholeRuns}
use Rattle.rules.specs.Leaves.{users}
use Rattle.rules.specs.Missions.{Plan, plan, names, Joined}
use Rattle.rules.specs.Sittings.{State, Answer, opened, any_runs, is_open, tick_room, opening_checks, first_of, unless, begun, opening}
use Rattle.rules.proofs.Accounts.{begun_accounted}
use Rattle.rules.proofs.Distinct.{once}
use Rattle.rules.proofs.Naming.{chain_users}
use Rattle.rules.proofs.Twins.{planned, chain_played}

-- an accepted opening

none_held : (c : Option SittingFault) (n : ℕ) (s r : State) → (unless c s (opened n, r)).0 ≡ opened n → c ≡ None
none_held None n s r h = refl
none_held (Some fault) n s r h = absurd cc

-- no check holds of a call that is not refused
pub none_hold : (cs : List (Bool × SittingFault)) → first_of cs ≡ None → AllByRecursion (λ c. c.0 ≡ false) cs
none_hold [] h = tt
none_hold ((true, fault) ∷ cs) h = absurd cc
none_hold ((false, fault) ∷ cs) h = (refl, none_hold cs h)

module _ (p : Plan) (n : ℕ) (s : State) (h : (opening p n s).0 ≡ opened n) where
  passes_checks : first_of (opening_checks (users p.tree) p s) ≡ None
  passes_checks = none_held (first_of (opening_checks (users p.tree) p s)) n s (begun p n s) h

  pub accepted : opening p n s ≡ (opened n, begun p n s)
  accepted = ap (λ (c : Option SittingFault). unless c s (opened n, begun p n s)) passes_checks

  is_shut : is_open s.place ≡ false
  is_shut = (none_hold (opening_checks (users p.tree) p s) passes_checks).0

  none_runs : any_runs (users p.tree) s.world.bank ≡ false
  none_runs = (none_hold (opening_checks (users p.tree) p s) passes_checks).1.1.0

  pub in_range : ltb s.length (tick_room (users p.tree)) || ltb 65536 s.length ≡ false
  in_range = (none_hold (opening_checks (users p.tree) p s) passes_checks).1.1.1.1.0

-- a second opening, of a mission joined to the first and of a state alike
module _ (p q : Plan) (n : ℕ) (s z : State) (j : Joined p q) (a : Alike (begun p n s) z) (ok : first_of (opening_checks (users p.tree) p s) ≡ None) (free : is_open s.place ≡ false) where
  same_judged : first_of (opening_checks (users q.tree) q z) ≡ None
  same_judged =
      rw (a.place, a.bank, a.counts, a.abilities, a.length, sym (chain_users j.chain), j.counts, j.abilities) (rw free at ok)

  same_begun : begun (planned q.counts q.abilities q.tree) n z ≡ begun (planned p.counts p.abilities q.tree) n s
  same_begun = rw (a.bank, a.counts, a.abilities, a.length, j.counts, j.abilities) refl

  pub second : opening q n z ≡ (opened n, begun (planned p.counts p.abilities q.tree) n s)
  second =
      ap (λ (c : Option SittingFault). unless c z (opened n, begun q n z)) same_judged ∙ ap (λ (v : State). (opened n, v)) same_begun

whole : (p : Plan) → ((k : ℕ) → names p.tree k ≤ 1) → (n : ℕ) (s : State) → (opening p n s).0 ≡ opened n → WholeRuns p n (opened n, begun p n s)
whole p single n s h =
    record {
      accounted = λ k i cs. begun_accounted p single n s (none_runs p n s h) k i (opened n) cs;
      regrouped = λ q j z a cs.
          ap (λ (v : Answer × State). seen (points v cs)) (second p q n s z j a (passes_checks p n s h) (is_shut p n s h))
          ∙ ap (λ (l : List Sight). sight (opened n, begun p n s) ∷ l) (chain_played p.counts p.abilities j.chain n s cs);
    }

pub law_of_whole_runs : LawOfWholeRuns
law_of_whole_runs m n s h = rw (accepted (plan m) n s h) (whole (plan m) (once m) n s h)
