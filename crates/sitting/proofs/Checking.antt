-- A test of each named skill, asked of each node.
use Rattle.std.proofs.Common.{◌≡◌, ℕ, Bool, true, false, not, ◌||◌, nat_lt, List, [], ◌∷◌, ◌++◌, Option, refl, sym, ap, ◌∙◌, inl, inr}
use Rattle.std.specs.List.{list_any}
use Rattle.bank.specs.Skills.{Skill}
use Rattle.mission.specs.Missions.{meaning}
use Rattle.mission.specs.Nodes.{skill_of}
use Rattle.mission.specs.Trees.{skill, count, ability, Tree, leaf, group, par, neg, again, Trees, nil, cons, flatten, flattens}
use Rattle.mission.specs.declared.node.Node.{Node}
use Rattle.rules.specs.Leaves.{Users, users_of, users_of_all, runs_in}
use Rattle.rules.specs.Missions.{plan}
use Rattle.rules.specs.Sittings.{any_beyond, any_runs, any_differs, unlike, has}
use Rattle.sitting.specs.Agreeing.{Named}
use Rattle.sitting.specs.Checks.{of_named, any_named}
use Rattle.sitting.specs.Desks.{state_of, is_running}
use Rattle.sitting.specs.Fronts.{front_of}
use Rattle.sitting.specs.Ruled.{named}
use Rattle.sitting.specs.declared.executive.Executive.{Executive}
use Rattle.sitting.proofs.Fronting.{fronted_running}
use Rattle.sitting.proofs.Seating.{plan_written}

or_none : (b : Bool) → (b || false) ≡ b
or_none true = refl
or_none false = refl

or_more : (a b c : Bool) → (a || (b || c)) ≡ ((a || b) || c)
or_more true b c = refl
or_more false b c = refl

any_both : (p : ℕ → Bool) (ns ms : List Node) → (any_named p ns || any_named p ms) ≡ any_named p (ns ++ ms)
any_both p [] ms = refl
any_both p (n ∷ ns) ms =
    let first = of_named p (skill_of n) in
    sym (or_more first (any_named p ns) (any_named p ms)) ∙ ap (λ b. first || b) (any_both p ns ms)

module _ (p : ℕ → Bool) where
  abbrev any_user : Users → Bool
  any_user us = list_any (λ u. p u.0) us

  mutual
    any_of : (t : Tree) (us : Users) → any_user (users_of t us) ≡ (any_named p (flatten t) || any_user us)
    any_of (leaf (skill k device target)) us = ap (λ b. b || any_user us) (sym (or_none (p k)))
    any_of (leaf (count key least)) us = refl
    any_of (leaf (ability key least)) us = refl
    any_of (group kind ts) us = any_of_all ts us
    any_of (par need ts) us = any_of_all ts us
    any_of (neg t) us = any_of t us
    any_of (again kind times t) us = any_of t us

    any_of_all : (ts : Trees) (us : Users) → any_user (users_of_all ts us) ≡ (any_named p (flattens ts) || any_user us)
    any_of_all nil us = refl
    any_of_all (cons t ts) us =
        any_of t (users_of_all ts us)
        ∙ ap (λ b. any_named p (flatten t) || b) (any_of_all ts us)
        ∙ or_more (any_named p (flatten t)) (any_named p (flattens ts)) (any_user us)
        ∙ ap (λ b. b || any_user us) (any_both p (flatten t) (flattens ts))

  -- of an executive's mission
  pub asked_of_nodes : (e : Executive) → list_any (λ u. p u.0) (named e) ≡ any_named p (meaning e.mission).nodes
  asked_of_nodes e = any_of (plan e.mission).tree [] ∙ or_none _ ∙ ap (any_named p) (plan_written e.mission)

pub beyond_is : (e : Executive) (width : ℕ) → any_named (λ k. not (nat_lt k width)) (meaning e.mission).nodes ≡ any_beyond (named e) width
beyond_is e width = sym (asked_of_nodes (λ k. not (nat_lt k width)) e)

pub runs_is : (e : Executive) (bank : List Skill) → any_named (λ k. runs_in bank k) (meaning e.mission).nodes ≡ any_runs (named e) bank
runs_is e bank = sym (asked_of_nodes (λ k. runs_in bank k) e)

any_same : (us vs : Users) (p q : ℕ → Bool) → ((k : ℕ) (d : Option ℕ) → Named us k d → p k ≡ q k) → list_any (λ u. p u.0) us ≡ list_any (λ u. q u.0) us
any_same [] vs p q h = refl
any_same (u ∷ us) vs p q h =
    ap (λ b. b || list_any (λ v. p v.0) us) (h u.0 u.1 (inl (refl, refl))) ∙ ap (λ b. q u.0 || b) (any_same us vs p q (λ k d n. h k d (inr n)))

pub differs_is : (e : Executive) (bank : List Skill) → any_named (λ k. unlike (runs_in bank k) (is_running (state_of e.ledger k))) (meaning e.mission).nodes ≡ any_differs (named e) bank (front_of e)
differs_is e bank =
    sym (asked_of_nodes (λ k. unlike (runs_in bank k) (is_running (state_of e.ledger k))) e)
    ∙ any_same (named e) [] (λ k. unlike (runs_in bank k) (is_running (state_of e.ledger k))) (λ k. unlike (runs_in bank k) (has k (front_of e)))
    (λ k d n. ap (unlike (runs_in bank k)) ((fronted_running (named e) e.ledger).is k d n))
