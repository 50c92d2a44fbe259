-- The named skills of a tree: regrouping keeps them, their order and their devices.
use Rattle.std.proofs.Common.{◌≡◌, ℕ, ◌+◌, ◌≤◌, Bool, true, false, ◌&&◌, eqb, List, [], map, Option, sym, refl, ap, ◌∙◌, arith, eqb-true}
use Rattle.std.proofs.lemmas.Bool.{or_parts}
use Rattle.std.proofs.lemmas.Map.Views.{any-filter_same}
use Rattle.std.proofs.Math.Bool.{or-true, and-true}
use Rattle.bank.specs.Skills.{Skill}
use Rattle.mission.specs.Trees.{Leaf, skill, count, ability, Tree, leaf, group, par, neg, again, Trees, nil, cons}
use Rattle.rules.specs.Leaves.{Users, runs_in, user_of, users_of, users_of_all, users}
use Rattle.rules.specs.Missions.{leaf_names, names, names_all}
use Rattle.rules.specs.Regrouping.{negated, followed_by, Step, StepIn, Chain, done, step, step_back}
use Rattle.rules.specs.Sittings.{has, any_runs, named_on}

users_followed : (ts us : Trees) (es : Users) → users_of_all (followed_by ts us) es ≡ users_of_all ts (users_of_all us es)
users_followed nil us es = refl
users_followed (cons t ts) us es = ap (users_of t) (users_followed ts us es)

users_negated : (ts : Trees) (es : Users) → users_of_all (negated ts) es ≡ users_of_all ts es
users_negated nil es = refl
users_negated (cons t ts) es = ap (users_of t) (users_negated ts es)

mutual
  users_step : {t u : Tree} → Step t u → (es : Users) → users_of t es ≡ users_of u es
  users_step (Step.not_below_group kind ts) es = sym (users_negated ts es)
  users_step (Step.not_below_loop kind times t) es = refl
  users_step (Step.not_below_par need ts h i) es = sym (users_negated ts es)
  users_step (Step.not_not t) es = refl
  users_step (Step.only_child kind t) es = refl
  users_step (Step.group_in_group kind ts us vs) es =
      users_followed ts (cons (group kind us) vs) es ∙ ap (users_of_all ts) (sym (users_followed us vs es)) ∙ sym (users_followed ts (followed_by us vs) es)
  users_step (Step.in_group kind s) es = users_step_in s es
  users_step (Step.in_par need s) es = users_step_in s es
  users_step (Step.in_not s) es = users_step s es
  users_step (Step.in_loop kind times s) es = users_step s es

  users_step_in : {ts us : Trees} → StepIn ts us → (es : Users) → users_of_all ts es ≡ users_of_all us es
  users_step_in (StepIn.here ts s) es = users_step s (users_of_all ts es)
  users_step_in (StepIn.there t s) es = ap (users_of t) (users_step_in s es)

pub same_users : {t u : Tree} → Step t u → users t ≡ users u
same_users s = users_step s []

pub chain_users : {t u : Tree} → Chain t u → users t ≡ users u
chain_users (done t) = refl
chain_users (step s c) = same_users s ∙ chain_users c
chain_users (step_back s c) = sym (same_users s) ∙ chain_users c

-- skills by their numbers

abbrev pub numbers : Users → List ℕ
numbers us = map (λ (u : ℕ × Option ℕ). u.0) us

-- a named skill is among them
abbrev Among : ℕ → ℕ → Users → Users → Type 0
Among k n es ds = (has k (numbers es) ≡ true → has k (numbers ds) ≡ true) × (1 ≤ n → has k (numbers ds) ≡ true)

among_leaf : (k : ℕ) (l : Leaf) (es : Users) → Among k (leaf_names k l) es (user_of l es)
among_leaf k (skill j d t) es = ((λ h. rw h (or-true (eqb j k))), (λ h. grind arith))
among_leaf k (count key least) es = ((λ h. h), (λ h. absurd (omega arith)))
among_leaf k (ability key least) es = ((λ h. h), (λ h. absurd (omega arith)))

among_sum : (q : Bool) (a b : ℕ) → (1 ≤ a → q ≡ true) → (1 ≤ b → q ≡ true) → 1 ≤ a + b → q ≡ true
among_sum q a b h i j = grind arith

mutual
  among : (k : ℕ) (t : Tree) (es : Users) → Among k (names t k) es (users_of t es)
  among k (leaf l) es = among_leaf k l es
  among k (group kind ts) es = among_all k ts es
  among k (par need ts) es = among_all k ts es
  among k (neg t) es = among k t es
  among k (again kind times t) es = among k t es

  among_all : (k : ℕ) (ts : Trees) (es : Users) → Among k (names_all ts k) es (users_of_all ts es)
  among_all k nil es = ((λ h. h), (λ h. absurd (omega arith)))
  among_all k (cons t ts) es =
      let a = among k t (users_of_all ts es) in
      let b = among_all k ts es in
      ((λ h. a.0 (b.0 h)), among_sum (has k (numbers (users_of t (users_of_all ts es)))) (names t k) (names_all ts k) a.1 (λ h. a.0 (b.1 h)))

pub named : (k : ℕ) (t : Tree) → 1 ≤ names t k → has k (numbers (users t)) ≡ true
named k t h = (among k t []).1 h

-- where no named skill runs, a given one does not

abbrev Idle : List Skill → ℕ → ℕ → Type 0
Idle l k n = 1 ≤ n → runs_in l k ≡ false

idle_leaf : (l : List Skill) (k : ℕ) (f : Leaf) (es : Users) → any_runs (user_of f es) l ≡ false → (any_runs es l ≡ false) × Idle l k (leaf_names k f)
idle_leaf l k (skill j d t) es h =
    let q = or_parts (runs_in l j) (any_runs es l) h in
    (q.1, λ i. rw (sym (eqb-true j k (grind arith))) q.0)
idle_leaf l k (count key least) es h = (h, λ z. absurd (omega arith))
idle_leaf l k (ability key least) es h = (h, λ z. absurd (omega arith))

idle_sum : (l : List Skill) (k a b : ℕ) → Idle l k a → Idle l k b → Idle l k (a + b)
idle_sum l k a b h i j = grind arith

mutual
  idle : (l : List Skill) (k : ℕ) (t : Tree) (es : Users) → any_runs (users_of t es) l ≡ false → (any_runs es l ≡ false) × Idle l k (names t k)
  idle l k (leaf f) es h = idle_leaf l k f es h
  idle l k (group kind ts) es h = idle_all l k ts es h
  idle l k (par need ts) es h = idle_all l k ts es h
  idle l k (neg t) es h = idle l k t es h
  idle l k (again kind times t) es h = idle l k t es h

  idle_all : (l : List Skill) (k : ℕ) (ts : Trees) (es : Users) → any_runs (users_of_all ts es) l ≡ false → (any_runs es l ≡ false) × Idle l k (names_all ts k)
  idle_all l k nil es h = (h, λ z. absurd (omega arith))
  idle_all l k (cons t ts) es h =
      let q = idle l k t (users_of_all ts es) h in
      let r = idle_all l k ts es q.0 in
      (r.0, idle_sum l k (names t k) (names_all ts k) q.1 r.1)

pub named_idle : (l : List Skill) (k : ℕ) (t : Tree) → any_runs (users t) l ≡ false → 1 ≤ names t k → runs_in l k ≡ false
named_idle l k t h i = (idle l k t [] h).1 i

-- a named skill is on a front exactly if it is among the named ones on it

pub has_named_on : (us : Users) (f : List ℕ) (k : ℕ) → has k (numbers us) ≡ true → has k (named_on us f) ≡ has k f
has_named_on us f k i =
    any-filter_same (λ j. eqb j k) (λ j. has j f) (has k f) (λ j e. ap (λ n. has n f) (eqb-true j k e)) (numbers us)
    ∙ ap (λ b. has k f && b) i
    ∙ and-true (has k f)
