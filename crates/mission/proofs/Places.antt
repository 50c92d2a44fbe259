-- Open places and named skills, one node further.
use Rattle.std.proofs.Common.{◌≡◌, ℕ, zero, suc, ◌+◌, ◌<◌, ◌≤◌, Bool, true, false, ◌⊎◌, List, [], ◌∷◌, length, get_or, set, replicate, pos, Some, None, Option, sym, refl, ap, ◌∙◌, inl, inr, ⊎_elim, add-one, length-append, drop, arith}
use Rattle.std.proofs.lemmas.List.{length-set, length-replicate, get_or-replicate, get_or-set_same, get_or-set_other, get_or_past}
use Rattle.std.proofs.lemmas.List.Sums.{AllPass-from_list_all}
use Rattle.std.specs.Prelude.{int_le}
use Rattle.std.proofs.lemmas.Int.{ints}
use Rattle.std.proofs.lemmas.Bool.{and_parts, cases_eq, cases_lt, both_ways}
use Rattle.text.specs.Numeral.{within}
use Rattle.mission.specs.declared.node.Node.{Node}
use Rattle.mission.specs.declared.node.Node.TheVariants.{Group, Par, Not, Loop, Skill, Count, Ability}
use Rattle.mission.specs.Lines.{ranged, raw, all_ranged}
use Rattle.mission.specs.Nodes.{arity, skill_of}
use Rattle.mission.specs.Places.{node_at, taken, places}
use Rattle.mission.specs.Seen.{noted, row}
use Rattle.mission.specs.Judging.{Next}

pub places_more : (ns : List Node) (i : ℕ) → places ns (i + 1) ≡ taken (places ns i) (node_at ns i)
unfolding places
places_more ns i = rw add-one refl

pub row_more : (ns : List Node) (i : ℕ) → row ns (i + 1) ≡ noted (row ns i) (skill_of (node_at ns i))
unfolding row
row_more ns i = rw add-one refl

pub places_none : (ns : List Node) → places ns 0 ≡ 1 ∷ []
unfolding places
places_none ns = refl

pub row_none : (ns : List Node) → row ns 0 ≡ replicate 64 false
unfolding row
row_none ns = refl

noted_length : (xs : List Bool) (o : Option ℕ) → length (noted xs o) ≡ length xs
noted_length xs None = refl
noted_length xs (Some k) = length-set xs k true

pub row_length : (ns : List Node) (i : ℕ) → length (row ns i) ≡ 64
unfolding row
row_length ns zero = length-replicate 64 false
row_length ns (suc i) = noted_length (row ns i) (skill_of (node_at ns i)) ∙ row_length ns i

-- a skill is in the row exactly if an earlier node names it
noted_has : (xs : List Bool) (o : Option ℕ) (k : ℕ) → k < length xs → get_or (noted xs o) k false ≡ true → (get_or xs k false ≡ true) ⊎ (o ≡ Some k)
noted_has xs None k h t = inl t
noted_has xs (Some j) k h t =
    ⊎_elim (λ e. inr (ap Some (sym e))) (λ ne. inl (sym (get_or-set_other xs j k true false ne) ∙ t)) (cases_eq k j)

pub row_has : (ns : List Node) (i k : ℕ) → k < 64 → get_or (row ns i) k false ≡ true → (j : ℕ) × (j < i) × (skill_of (node_at ns j) ≡ Some k)
unfolding row
row_has ns zero k h t = absurd (both_ways (get_or (replicate 64 false) k false) (get_or-replicate 64 k false false h) t)
row_has ns (suc i) k h t =
    ⊎_elim
    (λ e. let r = row_has ns i k h e in (r.0, (let l = r.1 in omega arith), r.2))
    (λ e. (i, omega arith, e))
    (noted_has (row ns i) (skill_of (node_at ns i)) k (let l = row_length ns i in omega arith) t)

noted_keeps : (xs : List Bool) (o : Option ℕ) (k : ℕ) → k < length xs → get_or xs k false ≡ true → get_or (noted xs o) k false ≡ true
noted_keeps xs None k h t = t
noted_keeps xs (Some j) k h t =
    ⊎_elim (λ e. ap (λ x. get_or (set xs x true) k false) (sym e) ∙ get_or-set_same xs k true false h) (λ ne. get_or-set_other xs j k true false ne ∙ t) (cases_eq k j)

noted_here : (xs : List Bool) (o : Option ℕ) (k : ℕ) → k < length xs → o ≡ Some k → get_or (noted xs o) k false ≡ true
noted_here xs None k h e = cc
noted_here xs (Some j) k h e = let same : j ≡ k = cc in ap (λ x. get_or (set xs x true) k false) same ∙ get_or-set_same xs k true false h

pub row_had : (ns : List Node) (i j k : ℕ) → k < 64 → j < i → skill_of (node_at ns j) ≡ Some k → get_or (row ns i) k false ≡ true
unfolding row
row_had ns zero j k h l e = absurd (omega arith)
row_had ns (suc i) j k h l e =
    let long : k < length (row ns i) = let r = row_length ns i in omega arith in
    ⊎_elim
    (λ same. noted_here (row ns i) (skill_of (node_at ns i)) k long (ap (λ x. skill_of (node_at ns x)) (sym same) ∙ e))
    (λ ne. noted_keeps (row ns i) (skill_of (node_at ns i)) k long (row_had ns i j k h (omega (arith, ne)) e))
    (cases_eq j i)

-- what the range of a node says of its skill
pub ranged_at : (ns : List Node) (i : ℕ) → all_ranged ns ≡ true → ranged (raw (node_at ns i)) ≡ true
ranged_at ns i h =
    let test : Node → Bool = λ n. ranged (raw n) in
    ⊎_elim (λ l. AllPass-from_list_all test ns h i Not l) (λ g. ap test (get_or_past ns i Not g)) (cases_lt i (length ns))

pub skill_small : (n : Node) (k : ℕ) → ranged (raw n) ≡ true → skill_of n ≡ Some k → k < 64
skill_small (Group kind kids) k h e = cc
skill_small (Par kids need) k h e = cc
skill_small Not k h e = cc
skill_small (Loop kind times) k h e = cc
skill_small (Skill skill device target) k h e =
    let a = and_parts (within (pos 0) (pos 63) (pos skill)) _ h in
    let b = (and_parts (int_le (pos 0) (pos skill)) _ a.0).1 in
    let s : skill ≡ k = cc in
    let small : skill ≤ 63 = grind (arith, ints) in
    omega arith
skill_small (Count key least) k h e = cc
skill_small (Ability key least) k h e = cc

-- how many places a node leaves open: it fills one, and opens one for each child
pub taken_length : (level : ℕ) (others : List ℕ) (n : Node) → length (taken (level ∷ others) n) ≡ arity n + length others
taken_length level others n = length-append (replicate (arity n) (suc level)) others ∙ ap (λ k. k + length others) (length-replicate (arity n) (suc level))

pub places_count : (ns : List Node) (i : ℕ) → 0 < length (places ns i) → length (places ns (i + 1)) + 1 ≡ length (places ns i) + arity (node_at ns i)
places_count ns i h = counted (places ns i) h (ap length (places_more ns i))
  where
    counted : (ls : List ℕ) → 0 < length ls → length (places ns (i + 1)) ≡ length (taken ls (node_at ns i)) → length (places ns (i + 1)) + 1 ≡ length ls + arity (node_at ns i)
    counted [] h e = absurd (omega arith)
    counted (l ∷ ls) h e = let t = taken_length l ls (node_at ns i) in omega arith

-- a place that is next is open
pub next_open : {ns : List Node} {i kids level : ℕ} → Next ns i kids level → 0 < kids → 0 < length (places ns i)
next_open {ns} {i} {kids} {level} next h =
    let l : length (places ns i) ≡ kids + length (drop kids (places ns i)) =
    ap length next.first ∙ length-append (replicate kids level) (drop kids (places ns i)) ∙ ap (λ k. k + length (drop kids (places ns i))) (length-replicate kids level) in
    omega arith
