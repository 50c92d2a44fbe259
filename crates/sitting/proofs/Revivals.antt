-- The live tree that an executive is seated on is the one that its mission and its memory mean.
use Rattle.std.proofs.Common.{◌≡◌, ℕ, zero, suc, ◌+◌, ◌-◌, ◌<◌, Bool, true, false, cond, ltb, eqb, List, [], ◌∷◌, ◌++◌, length, sym, refl, ap, ap₂, ◌∙◌, append_assoc, length-append, arith}
use Rattle.std.proofs.lemmas.Bool.{lt-ltb, le-ltb}
use Rattle.mission.specs.Trees.{Leaf, Tree}
use Rattle.rules.specs.Live.{Polarity, on_pass, on_fail, goes_on, remembers, counts_on, Kept, pending, ended, Live, live_leaf, live_group, live_par, live_not, live_loop, Kids, no_kids, kid}
use Rattle.rules.specs.Missions.{plan}
use Rattle.rules.specs.Visiting.{behind, is_pass, is_fail}
use Rattle.rules.proofs.Shapes.{kind_of, loop_of, bare, bare_kids}
use Rattle.sitting.specs.Cells.{marks, masks, ahead_cell, group_cell, results_cell, loop_cell}
use Rattle.sitting.specs.Ends.{span}
use Rattle.sitting.specs.Reviving.{mark_at, revived, revived_group, revived_par, live_of}
use Rattle.sitting.specs.Seats.{cell_at, Laid, LaidIn, Seated}
use Rattle.sitting.specs.Tables.{ahead_of, results_of, count_of}
use Rattle.sitting.specs.Tidy.{Tidy, AllTidy, Even, TidyGroup}
use Rattle.sitting.specs.Zipper.{leading, nodes, nodes_in}
use Rattle.sitting.specs.declared.memory.Memory.{Memory}
use Rattle.sitting.specs.declared.memory.Results.{Results}
use Rattle.sitting.specs.declared.executive.Executive.{Executive}
use Rattle.sitting.proofs.Masks.{results_are, bit_here}
use Rattle.sitting.proofs.Seated.{span_is}

-- kinds

polarity_is : (p : Polarity) (m : Bool) → goes_on (kind_of p m) ≡ p
polarity_is on_pass true = refl
polarity_is on_pass false = refl
polarity_is on_fail true = refl
polarity_is on_fail false = refl

remembers_is : (p : Polarity) (m : Bool) → remembers (kind_of p m) ≡ m
remembers_is on_pass true = refl
remembers_is on_pass false = refl
remembers_is on_fail true = refl
remembers_is on_fail false = refl

counted_is : (p : Polarity) → counts_on (loop_of p) ≡ p
counted_is on_pass = refl
counted_is on_fail = refl

count_is : (n : ℕ) → count_of (loop_cell n) ≡ n
count_is zero = refl
count_is (suc n) = refl

-- what a par's results say of one child

mark_of_bits : (r : Kept) (a b : ℕ) → a ≡ cond (is_pass r) 1 0 → b ≡ cond (is_fail r) 1 0 → cond (eqb a 1) (ended true) (cond (eqb b 1) (ended false) pending) ≡ r
mark_of_bits pending a b e f = rw (e, f) refl
mark_of_bits (ended true) a b e f = rw e refl
mark_of_bits (ended false) a b e f = rw (e, f) refl

mark_is : (zs : List Kept) (r : Kept) (ws : List Kept) (j : ℕ) → j ≡ length zs → mark_at (masks (zs ++ (r ∷ ws))) j ≡ r
mark_is zs r ws j e = mark_of_bits r _ _ (bit_here is_pass zs r ws j e) (bit_here is_fail zs r ws j e)

-- one node more

same_kid : {r s : Kept} {x y : Live} {ks ls : Kids} → r ≡ s → x ≡ y → ks ≡ ls → kid r x ks ≡ kid s y ls
same_kid e f g = cc

span_pos : (x : Live) → 0 < span (bare x)
span_pos (live_leaf l) = omega arith
span_pos (live_group p m ks) = omega arith
span_pos (live_par n ks) = omega arith
span_pos (live_not x) = omega arith
span_pos (live_loop p times n x) = omega arith

-- a child of which nothing is remembered, behind which none of a group's nodes are counted
none_left : (r : Kept) (x : Live) → cond (ltb 0 (span (bare x))) pending r ≡ pending
none_left r x = rw (lt-ltb 0 (span (bare x)) (span_pos x)) refl

-- a child that is counted
one_left : (r : Kept) (x : Live) (n : ℕ) → cond (ltb (nodes x + n) (span (bare x))) pending r ≡ r
one_left r x n = let e = span_is x in rw (le-ltb (nodes x + n) (span (bare x)) (omega arith)) refl

-- a group without memory remembers nothing
all_pending : (p : Polarity) (ks : Kids) → TidyGroup p false ks → Even pending ks
all_pending p no_kids t = tt
all_pending p (kid pending x ks) t = (refl, t.0, t.1)
all_pending p (kid (ended b) x ks) t = absurd (cc (t.0))

group_is : (p : Polarity) (m : Bool) (ks : Kids) (f : ℕ → Memory) (i : ℕ) → f i ≡ group_cell m ks → revived_group (behind p m) (ahead_of (group_cell m ks)) (bare_kids ks) (suc i) f ≡ ks →
    revived (bare (live_group p m ks)) i f ≡ live_group p m ks
group_is p m ks f i c e = rw (polarity_is p m, remembers_is p m, c) (ap (live_group p m) e)

ahead_of_is : (ks : Kids) → ahead_of (ahead_cell ks) ≡ nodes_in ks
ahead_of_is no_kids = refl
ahead_of_is (kid r x ks) = refl

module _ (s : Executive) (P : Leaf → Type 0) where
  mutual
    pub revived_is : (x : Live) (ms : List Memory) (i : ℕ) → Laid s P ms i x → Tidy x → revived (bare x) i (cell_at ms) ≡ x
    revived_is (live_leaf l) ms i h t = refl
    revived_is (live_group p true ks) ms i h t = group_is p true ks (cell_at ms) i h.0.cell (rw (ahead_of_is (leading ks)) (ahead_is p ks ms (suc i) h.1 t))
    revived_is (live_group p false ks) ms i h t = group_is p false ks (cell_at ms) i h.0.cell (still_is pending ks ms (suc i) h.1 (all_pending p ks t))
    revived_is (live_par n ks) ms i h t =
        ap (λ (c : Memory). live_par n (revived_par (results_of c) 0 (bare_kids ks) (suc i) (cell_at ms))) h.0.cell
        ∙ ap (live_par n) (par_is [] 0 (results_of (results_cell (marks ks))) ks ms (suc i) (results_are (marks ks)) refl h.2 t)
    revived_is (live_not x) ms i h t = ap live_not (revived_is x ms (suc i) h.1 t)
    revived_is (live_loop p times n x) ms i h t =
        ap₂ (λ (q : Polarity) (k : ℕ). live_loop q times k (revived (bare x) (suc i) (cell_at ms))) (counted_is p) (ap count_of h.0.cell ∙ count_is n)
        ∙ ap (live_loop p times n) (revived_is x ms (suc i) h.3 t)

    -- none of which is remembered
    still_is : (r : Kept) (ks : Kids) (ms : List Memory) (i : ℕ) → LaidIn s P ms i ks → Even pending ks → revived_group r 0 (bare_kids ks) i (cell_at ms) ≡ ks
    still_is r no_kids ms i h t = refl
    still_is r (kid q x ks) ms i h t =
        let n : 0 - span (bare x) ≡ 0 = omega arith in
        same_kid (none_left r x ∙ sym t.0) (revived_is x ms i h.0 t.1)
        (rw (n, span_is x) (still_is r ks ms (i + nodes x) h.1 t.2))

    ahead_is : (p : Polarity) (ks : Kids) (ms : List Memory) (i : ℕ) → LaidIn s P ms i ks → TidyGroup p true ks →
        revived_group (behind p true) (nodes_in (leading ks)) (bare_kids ks) i (cell_at ms) ≡ ks
    ahead_is p no_kids ms i h t = refl
    ahead_is p (kid pending x ks) ms i h t =
        let n : 0 - span (bare x) ≡ 0 = omega arith in
        same_kid (none_left (behind p true) x) (revived_is x ms i h.0 t.0)
        (rw (n, span_is x) (still_is (behind p true) ks ms (i + nodes x) h.1 t.1))
    ahead_is p (kid (ended b) x ks) ms i h t =
        let n : (nodes x + nodes_in (leading ks)) - nodes x ≡ nodes_in (leading ks) = omega arith in
        same_kid (one_left (behind p true) x (nodes_in (leading ks)) ∙ sym t.0) (revived_is x ms i h.0 t.1)
        (rw (span_is x, n) (ahead_is p ks ms (i + nodes x) h.1 t.2))

    par_is : (zs : List Kept) (j : ℕ) (r : Results) (ks : Kids) (ms : List Memory) (i : ℕ) → r ≡ masks (zs ++ marks ks) → j ≡ length zs → LaidIn s P ms i ks → AllTidy ks →
        revived_par r j (bare_kids ks) i (cell_at ms) ≡ ks
    par_is zs j r no_kids ms i e l h t = refl
    par_is zs j r (kid q x ks) ms i e l h t =
        let n = length-append zs (q ∷ []) in
        same_kid (ap (λ (c : Results). mark_at c j) e ∙ mark_is zs q (marks ks) j l) (revived_is x ms i h.0 t.0)
        (rw (span_is x) (par_is (zs ++ (q ∷ [])) (suc j) r ks ms (i + nodes x) (e ∙ ap masks (sym (append_assoc zs (q ∷ []) (marks ks)))) (omega arith) h.1 t.1))

  pub live_is : (x : Live) → bare x ≡ (plan s.mission).tree → Seated s P x → live_of s ≡ x
  live_is x e h = ap (λ (t : Tree). revived t 0 (cell_at s.memories)) (sym e) ∙ revived_is x s.memories 0 h.laid h.tidy
