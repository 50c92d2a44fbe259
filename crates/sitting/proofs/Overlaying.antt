-- Lines laid over rows.
use Rattle.std.proofs.Common.{◌≡◌, ℕ, zero, suc, ◌≤◌, min, List, [], ◌∷◌, ◌++◌, length, set, take, drop, sym, refl, ap, ◌∙◌, arith}
use Rattle.rules.specs.declared.line.Line.{Line}
use Rattle.sitting.specs.Agreeing.{laid_over}

pub laid_none : (base : List Line) → laid_over base [] ≡ base
laid_none [] = refl
laid_none (r ∷ rs) = refl

pub length_laid : (base ls : List Line) → length (laid_over base ls) ≡ length base
length_laid [] ls = refl
length_laid (r ∷ rs) [] = refl
length_laid (r ∷ rs) (l ∷ ls) = ap suc (length_laid rs ls)

-- one line more
pub laid_more : (base ls : List Line) (x : Line) → set (laid_over base ls) (min (length ls) (length base)) x ≡ laid_over base (ls ++ x ∷ [])
laid_more [] ls x = refl
laid_more (r ∷ rs) [] x =
    let e : min 0 (length (r ∷ rs)) ≡ 0 = omega arith in
    ap (λ (n : ℕ). set (r ∷ rs) n x) e ∙ ap (λ (xs : List Line). x ∷ xs) (sym (laid_none rs))
laid_more (r ∷ rs) (l ∷ ls) x =
    let e : min (length (l ∷ ls)) (length (r ∷ rs)) ≡ suc (min (length ls) (length rs)) = omega arith in
    ap (λ (n : ℕ). set (laid_over (r ∷ rs) (l ∷ ls)) n x) e ∙ ap (λ (xs : List Line). l ∷ xs) (laid_more rs ls x)

-- rows laid over themselves
pub laid_again : (n : ℕ) (base : List Line) → laid_over base (take n base) ≡ base
laid_again zero base = laid_none base
laid_again (suc n) [] = refl
laid_again (suc n) (r ∷ rs) = ap (λ (xs : List Line). r ∷ xs) (laid_again n rs)

-- the lines stand first
pub take_laid : (base ls : List Line) → length ls ≤ length base → take (length ls) (laid_over base ls) ≡ ls
take_laid [] [] h = refl
take_laid [] (l ∷ ls) h = absurd (omega arith)
take_laid (r ∷ rs) [] h = refl
take_laid (r ∷ rs) (l ∷ ls) h = ap (λ (xs : List Line). l ∷ xs) (take_laid rs ls (omega arith))

-- and the rows past them are as they were
pub drop_laid : (n : ℕ) (base ls : List Line) → length ls ≤ n → drop n (laid_over base ls) ≡ drop n base
drop_laid n [] ls h = refl
drop_laid n (r ∷ rs) [] h = refl
drop_laid zero (r ∷ rs) (l ∷ ls) h = absurd (omega arith)
drop_laid (suc n) (r ∷ rs) (l ∷ ls) h = drop_laid n rs ls (omega arith)
