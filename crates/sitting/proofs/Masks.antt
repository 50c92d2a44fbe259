-- The results of a par as two masks.
use Rattle.std.proofs.Common.{◌≡◌, ℕ, zero, suc, ◌+◌, ◌*◌, ◌^◌, ◌<◌, max, Bool, true, false, not, cond, List, [], ◌∷◌, ◌++◌, length, map, sym, refl, ap, ap₂, ◌∙◌, ◌==◌, get_or, arith}
use Rattle.std.specs.Simd.Lanes.{mask_l}
use Rattle.std.specs.Prelude.{bit_and, bit_or, count_ones}
use Rattle.std.specs.Int.{bit_at}
use Rattle.std.proofs.Math.Nat.{pow-suc}
use Rattle.std.proofs.lemmas.Bool.{lt-ltb, eq-eqb, ne_eqb}
use Rattle.std.proofs.lemmas.Nat.{pow_pos, or_disjoint, ones_le_self}
use Rattle.std.proofs.lemmas.Nat.Bits.{and_pow, bit_at_or}
use Rattle.std.proofs.lemmas.Simd.{bit_mask_l, ones-mask_l_cons}
use Rattle.rules.specs.declared.status.Status.TheVariants.{Pass, Fail}
use Rattle.rules.specs.Live.{Kept, pending, ended, Kids, no_kids, kid}
use Rattle.rules.specs.Visiting.{is_pass, is_fail, passes, fails, size, verdict}
use Rattle.sitting.specs.Cells.{marks, any_ended, masks, results_cell}
use Rattle.sitting.specs.Tables.{no_results, results_of}
use Rattle.sitting.specs.Turns.{bit_of, has_result, kept, par_verdict}
use Rattle.sitting.specs.declared.memory.Memory.TheVariants.{Nothing, Results as KeptResults}
use Rattle.sitting.specs.declared.memory.Results.{Results}

abbrev pub is_ended : Kept → Bool
is_ended pending = false
is_ended (ended b) = true

-- with no result both masks are 0
no_mask : (rs : List Kept) → any_ended rs ≡ false → masks rs ≡ no_results
no_mask [] e = refl
no_mask (pending ∷ rs) e = ap (λ (r : Results). record { passed = 0 + 2 * r.passed; failed = 0 + 2 * r.failed }) (no_mask rs e)
no_mask (ended b ∷ rs) e = absurd (cc)

pub results_are : (rs : List Kept) → results_of (results_cell rs) ≡ masks rs
results_are rs = go (any_ended rs) refl
  where
    go : (b : Bool) → any_ended rs ≡ b → results_of (cond b (KeptResults (masks rs)) Nothing) ≡ masks rs
    go true e = refl
    go false e = sym (no_mask rs e)

-- counts

pub passes_are : (ks : Kids) → count_ones (mask_l (map is_pass (marks ks))) ≡ passes ks
passes_are no_kids = let h = ones_le_self 0 in omega arith
passes_are (kid r x ks) = ones-mask_l_cons (is_pass r) (map is_pass (marks ks)) ∙ ap (λ n. cond (is_pass r) 1 0 + n) (passes_are ks)

pub fails_are : (ks : Kids) → count_ones (mask_l (map is_fail (marks ks))) ≡ fails ks
fails_are no_kids = let h = ones_le_self 0 in omega arith
fails_are (kid r x ks) = ones-mask_l_cons (is_fail r) (map is_fail (marks ks)) ∙ ap (λ n. cond (is_fail r) 1 0 + n) (fails_are ks)

pub verdict_is : (need : ℕ) (ks : Kids) → par_verdict (size ks) need (masks (marks ks)) ≡ verdict need (size ks) (passes ks) (fails ks)
verdict_is need ks = ap₂ (λ (a b : ℕ). verdict need (size ks) a b) (passes_are ks) (fails_are ks)

-- the bit of one child

here_is : (p : Kept → Bool) (zs : List Kept) (r : Kept) (ws : List Kept) (j : ℕ) → j ≡ length zs → get_or (map p (zs ++ (r ∷ ws))) j false ≡ p r
here_is p [] r ws zero e = refl
here_is p [] r ws (suc j) e = absurd (omega arith)
here_is p (z ∷ zs) r ws zero e = absurd (omega arith)
here_is p (z ∷ zs) r ws (suc j) e = here_is p zs r ws j (omega arith)

pub bit_here : (p : Kept → Bool) (zs : List Kept) (r : Kept) (ws : List Kept) (j : ℕ) → j ≡ length zs → bit_at (mask_l (map p (zs ++ (r ∷ ws)))) j ≡ cond (p r) 1 0
bit_here p zs r ws j e = bit_mask_l (map p (zs ++ (r ∷ ws))) j ∙ ap (λ b. cond b 1 0) (here_is p zs r ws j e)

bit_of_is : (j : ℕ) → j < 32 → bit_of j ≡ 2 ^ j
bit_of_is j h = rw (lt-ltb j 32 h) refl

tested : (n j : ℕ) → bit_at n j ≡ 0 → (bit_and n (2 ^ j) == 0) ≡ true
tested n j e = eq-eqb _ 0 (and_pow n j ∙ ap (λ b. b * 2 ^ j) e ∙ omega arith)

tested_set : (n j : ℕ) → bit_at n j ≡ 1 → (bit_and n (2 ^ j) == 0) ≡ false
tested_set n j e =
    let q : bit_and n (2 ^ j) ≡ 1 * 2 ^ j = and_pow n j ∙ ap (λ b. b * 2 ^ j) e in
    let h = pow_pos j in
    ne_eqb _ 0 (λ z. omega arith)

either_bit : (r : Kept) → max (cond (is_pass r) 1 0) (cond (is_fail r) 1 0) ≡ cond (is_ended r) 1 0
either_bit pending = refl
either_bit (ended true) = refl
either_bit (ended false) = refl

both_at : (zs : List Kept) (r : Kept) (ws : List Kept) (j : ℕ) → j ≡ length zs →
    bit_at (bit_or (masks (zs ++ (r ∷ ws))).passed (masks (zs ++ (r ∷ ws))).failed) j ≡ cond (is_ended r) 1 0
both_at zs r ws j e =
    bit_at_or _ _ j ∙ ap₂ (λ (a b : ℕ). max a b) (bit_here is_pass zs r ws j e) (bit_here is_fail zs r ws j e) ∙ either_bit r

has_at : (c : Bool) (n j : ℕ) → bit_at n j ≡ cond c 1 0 → not (bit_and n (2 ^ j) == 0) ≡ c
has_at true n j e = ap not (tested_set n j e)
has_at false n j e = ap not (tested n j e)

pub has_is : (zs : List Kept) (r : Kept) (ws : List Kept) (j : ℕ) → j ≡ length zs → j < 32 → has_result (masks (zs ++ (r ∷ ws))) j ≡ is_ended r
has_is zs r ws j e h =
    let m = masks (zs ++ (r ∷ ws)) in
    ap (λ n. not (bit_and (bit_or m.passed m.failed) n == 0)) (bit_of_is j h)
    ∙ has_at (is_ended r) (bit_or m.passed m.failed) j (both_at zs r ws j e)

-- a result is kept

one_more : (p : Kept → Bool) (zs : List Kept) (r q : Kept) (ws : List Kept) (j : ℕ) → j ≡ length zs → p r ≡ false → p q ≡ true →
    mask_l (map p (zs ++ (q ∷ ws))) ≡ mask_l (map p (zs ++ (r ∷ ws))) + 2 ^ j
one_more p [] r q ws zero e f g = rw (f, g) (omega arith)
one_more p [] r q ws (suc j) e f g = absurd (omega arith)
one_more p (z ∷ zs) r q ws zero e f g = absurd (omega arith)
one_more p (z ∷ zs) r q ws (suc j) e f g =
    let i = one_more p zs r q ws j (omega arith) f g in
    let k = pow-suc 2 j in
    omega arith

set_bit : (p : Kept → Bool) (zs : List Kept) (r q : Kept) (ws : List Kept) (j : ℕ) → j ≡ length zs → p r ≡ false → p q ≡ true →
    bit_or (mask_l (map p (zs ++ (r ∷ ws)))) (2 ^ j) ≡ mask_l (map p (zs ++ (q ∷ ws)))
set_bit p zs r q ws j e f g =
    let n = mask_l (map p (zs ++ (r ∷ ws))) in
    let o : bit_at n j ≡ 0 = bit_here p zs r ws j e ∙ ap (λ b. cond b 1 0) f in
    let a : bit_and n (2 ^ j) ≡ 0 = and_pow n j ∙ ap (λ b. b * 2 ^ j) o ∙ omega arith in
    or_disjoint n (2 ^ j) a ∙ sym (one_more p zs r q ws j e f g)

same_mask : (p : Kept → Bool) (zs : List Kept) (r q : Kept) (ws : List Kept) → p r ≡ p q → mask_l (map p (zs ++ (r ∷ ws))) ≡ mask_l (map p (zs ++ (q ∷ ws)))
same_mask p [] r q ws e = ap (λ (b : Bool). mask_l (b ∷ map p ws)) e
same_mask p (z ∷ zs) r q ws e = ap (λ (n : ℕ). cond (p z) 1 0 + 2 * n) (same_mask p zs r q ws e)

now_ended : (zs : List Kept) (b : Bool) (ws : List Kept) → any_ended (zs ++ (ended b ∷ ws)) ≡ true
now_ended [] b ws = refl
now_ended (pending ∷ zs) b ws = now_ended zs b ws
now_ended (ended c ∷ zs) b ws = refl

cell_now : (zs : List Kept) (b : Bool) (ws : List Kept) → KeptResults (masks (zs ++ (ended b ∷ ws))) ≡ results_cell (zs ++ (ended b ∷ ws))
cell_now zs b ws = rw (now_ended zs b ws) refl

pub pass_kept : (zs ws : List Kept) (j : ℕ) → j ≡ length zs → j < 32 →
    KeptResults (kept (results_of (results_cell (zs ++ (pending ∷ ws)))) j Pass) ≡ results_cell (zs ++ (ended true ∷ ws))
pass_kept zs ws j e h =
    ap (λ (r : Results). KeptResults (kept r j Pass)) (results_are (zs ++ (pending ∷ ws)))
    ∙ ap₂ (λ (a b : ℕ). KeptResults (record { passed = a; failed = b }))
    (ap (λ n. bit_or (mask_l (map is_pass (zs ++ (pending ∷ ws)))) n) (bit_of_is j h) ∙ set_bit is_pass zs pending (ended true) ws j e refl refl)
    (same_mask is_fail zs pending (ended true) ws refl)
    ∙ cell_now zs true ws

pub fail_kept : (zs ws : List Kept) (j : ℕ) → j ≡ length zs → j < 32 →
    KeptResults (kept (results_of (results_cell (zs ++ (pending ∷ ws)))) j Fail) ≡ results_cell (zs ++ (ended false ∷ ws))
fail_kept zs ws j e h =
    ap (λ (r : Results). KeptResults (kept r j Fail)) (results_are (zs ++ (pending ∷ ws)))
    ∙ ap₂ (λ (a b : ℕ). KeptResults (record { passed = a; failed = b }))
    (same_mask is_pass zs pending (ended false) ws refl)
    (ap (λ n. bit_or (mask_l (map is_fail (zs ++ (pending ∷ ws)))) n) (bit_of_is j h) ∙ set_bit is_fail zs pending (ended false) ws j e refl refl)
    ∙ cell_now zs false ws
