-- What a cap's calls do to its meaning.
use Rattle.std.proofs.Common.{◌≡◌, ℕ, zero, suc, ◌+◌, ◌-◌, ◌<◌, ◌≤◌, true, false, ltb, List, [], ◌∷◌, length, get_or, replicate, set, is_some, Some, None, Ok, Option, Result, refl, sym, ap, ◌∙◌, arith, ⊎_elim}
use Rattle.std.proofs.Math.Path.{fun_ext}
use Rattle.std.proofs.lemmas.Bool.{cond-true, cond-false, cond_both, ltb-true, ltb-false, lt-ltb, le-ltb, cases_Bool}
use Rattle.bank.specs.declared.kinds.Ending.{Ending}
use Rattle.bank.specs.declared.kinds.Ending.TheVariants.{Fail}
use Rattle.bank.specs.Skills.{Skill, Take, runs_now, started, struck, poll_reply, polled, front}
use Rattle.bank.specs.declared.kinds.Reply.{Reply}
use Rattle.bank.specs.declared.kinds.Reply.TheVariants.{Run, Ended}
use Rattle.bank.specs.declared.bank_fault.BankFault.{BankFault}
use Rattle.bank.proofs.Calls.{poll_run, poll_end, skill_of, taking}
use Rattle.bank.specs.Capping.{capped, capped_skills, capped_take, capped_first, capped_at}

abbrev ended : Ending → Result Reply BankFault
ended x = Ok (Ended x)

-- counters at the start
pub held_zero : (m n k : ℕ) → get_or (replicate n 0) k 0 ≤ m
held_zero m zero k = omega arith
held_zero m (suc n) zero = omega arith
held_zero m (suc n) (suc k) = held_zero m n k

-- and one of them written, within the limit
pub held_set : (m : ℕ) (cs : List ℕ) (i c : ℕ) → ((k : ℕ) → get_or cs k 0 ≤ m) → c ≤ m → (k : ℕ) → get_or (set cs i c) k 0 ≤ m
held_set m [] i c h le k = h k
held_set m (x ∷ cs) zero c h le zero = le
held_set m (x ∷ cs) zero c h le (suc k) = h (suc k)
held_set m (x ∷ cs) (suc i) c h le zero = h zero
held_set m (x ∷ cs) (suc i) c h le (suc k) = held_set m cs i c (λ j. h (suc j)) le k

-- the skill below changes
pub caps_set : (m : ℕ) (cs : List ℕ) (l : List Skill) (k : ℕ) (s : Skill) → capped_skills m cs (set l k s) ≡ set (capped_skills m cs l) k (capped m (get_or cs k 0) s)
caps_set m cs [] k s = refl
caps_set m [] (t ∷ l) zero s = refl
caps_set m [] (t ∷ l) (suc k) s = ap (λ r. capped m 0 t ∷ r) (caps_set m [] l k s)
caps_set m (c ∷ cs) (t ∷ l) zero s = refl
caps_set m (c ∷ cs) (t ∷ l) (suc k) s = ap (λ r. capped m c t ∷ r) (caps_set m cs l k s)

-- the skill below and the counter change
pub caps_both : (m : ℕ) (cs : List ℕ) (l : List Skill) (k c : ℕ) (s : Skill) → k < length cs → capped_skills m (set cs k c) (set l k s) ≡ set (capped_skills m cs l) k (capped m c s)
caps_both m cs [] k c s h = refl
caps_both m [] (t ∷ l) k c s h = absurd (omega arith)
caps_both m (d ∷ cs) (t ∷ l) zero c s h = refl
caps_both m (d ∷ cs) (t ∷ l) (suc k) c s h = ap (λ r. capped m d t ∷ r) (caps_both m cs l k c s (omega arith))

-- one skill under a cap: m the limit, c the own counter
module _ (m c : ℕ) where
  pub capped_runs : (o : Option ℕ) (s : Skill) → is_some (capped_at m c o s).given ≡ is_some o
  capped_runs None s = refl
  capped_runs (Some g) s = refl

  started_at : (o : Option ℕ) (s : Skill) → is_some o ≡ false → (n : ℕ) → (capped_at m 0 (Some 0) s).takes n ≡ (capped_at m c o s).takes n
  started_at (Some g) s e n = absurd cc
  started_at None s e (suc n) = refl
  started_at None s e zero =
      let r = (s.takes 0).runs in
      cond_both (ltb m r) _ _ (λ t. (capped_at m 0 (Some 0) s).takes 0 ≡ t)
      (λ h. let lt = ltb-true m r h in
      cond-true (ltb (m - 0) (r - 0)) _ _ (lt-ltb (m - 0) (r - 0) (omega arith)) ∙ ap (λ x. taking x Fail) (omega arith))
      (λ h. let le = ltb-false m r h in
      cond-false (ltb (m - 0) (r - 0)) _ _ (le-ltb (m - 0) (r - 0) (omega arith)) ∙ ap (λ x. taking x (s.takes 0).ending) (omega arith))

  pub capped_started : (s : Skill) → runs_now s ≡ false → capped m 0 (started s) ≡ started (capped m c s)
  capped_started s e = ap (λ t. skill_of t (Some 0)) (fun_ext (started_at s.given s e))

  struck_at : (o : Option ℕ) (s : Skill) → is_some o ≡ true → capped_at m c None (struck s) ≡ struck (capped_at m c o s)
  struck_at None s e = absurd cc
  struck_at (Some g) s e = refl

  pub capped_struck : (s : Skill) → runs_now s ≡ true → capped m c (struck s) ≡ struck (capped m c s)
  capped_struck s e = struck_at s.given s e

  module _ (s : Skill) (g : ℕ) (e : s.given ≡ Some g) where
    abbrev r : ℕ
    r = (s.takes 0).runs

    abbrev now_capped : Skill
    now_capped = capped_at m c (Some g) s

    is_capped : capped m c s ≡ now_capped
    is_capped = ap (λ o. capped_at m c o s) e

    abbrev first : Take
    first = capped_first m c (r - g) (s.takes 0).ending

    first_more : g < r → c < m → c < first.runs
    first_more a b = cond_both (ltb (m - c) (r - g)) _ _ (λ (t : Take). c < t.runs) (λ _. omega arith) (λ _. omega arith)

    first_next : g < r → c < m → first ≡ capped_first m (c + 1) (r - (g + 1)) (s.takes 0).ending
    first_next a b =
        let x = (s.takes 0).ending in
        ⊎_elim
        (λ h. let l = ltb-true (m - c) (r - g) h in
        cond-true (ltb (m - c) (r - g)) _ _ h ∙ ap (λ n. taking n Fail) (omega arith) ∙ sym (cond-true (ltb (m - (c + 1)) (r - (g + 1))) _ _ (lt-ltb _ _ (omega arith))))
        (λ h. let l = ltb-false (m - c) (r - g) h in
        cond-false (ltb (m - c) (r - g)) _ _ h ∙ ap (λ n. taking n x) (omega arith) ∙ sym (cond-false (ltb (m - (c + 1)) (r - (g + 1))) _ _ (le-ltb _ _ (omega arith))))
        (cases_Bool (ltb (m - c) (r - g)))

    pub goes_on : g < r → c < m → (poll_reply (capped m c s) ≡ Ok Run) × (polled (capped m c s) ≡ capped m (c + 1) (polled s))
    goes_on a b =
        let p = poll_run now_capped c refl (first_more a b) in
        let q = poll_run s g e a in
        let rest : ℕ → Take = λ n. capped_take m (s.takes (suc n)) in (
          ap poll_reply is_capped ∙ p.0,
          ap polled is_capped ∙ p.1 ∙ ap (λ t. skill_of (front t rest) (Some (c + 1))) (first_next a b) ∙ sym (ap (capped m (c + 1)) q.1),
        )

    pub cut_off : g < r → m ≤ c → (poll_reply (capped m c s) ≡ Ok (Ended Fail)) × (polled (capped m c s) ≡ struck (capped m c s))
    cut_off a b =
        let f : first ≡ taking (c + (m - c)) Fail = cond-true (ltb (m - c) (r - g)) _ _ (lt-ltb _ _ (omega arith)) in
        let p = poll_end now_capped c refl (omega (arith, ap (λ (t : Take). t.runs) f)) in
        (ap poll_reply is_capped ∙ p.0 ∙ ap (λ (t : Take). ended t.ending) f, ap polled is_capped ∙ p.1 ∙ ap struck (sym is_capped))

    pub comes_up : r ≤ g → (poll_reply (capped m c s) ≡ Ok (Ended (s.takes 0).ending)) × (polled (capped m c s) ≡ struck (capped m c s))
    comes_up a =
        let f : first ≡ taking (c + (r - g)) (s.takes 0).ending = cond-false (ltb (m - c) (r - g)) _ _ (le-ltb _ _ (omega arith)) in
        let p = poll_end now_capped c refl (omega (arith, ap (λ (t : Take). t.runs) f)) in
        (ap poll_reply is_capped ∙ p.0 ∙ ap (λ (t : Take). ended t.ending) f, ap polled is_capped ∙ p.1 ∙ ap struck (sym is_capped))
