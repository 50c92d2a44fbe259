-- A call's answer and what it leaves, below the width and past it.
use Rattle.std.proofs.Common.{◌≡◌, ◌≢◌, ℕ, ◌+◌, ◌<◌, ◌≤◌, Bool, true, false, cond, ltb, List, length, get_or, set, is_some, Some, None, Ok, Err, Option, Result, refl, sym, ap, ◌∙◌, lt-ltb, le-ltb, ltb-true, ltb-false, ⊎_elim}
use Rattle.std.proofs.lemmas.Bool.{cases_lt, cases_Bool}
use Rattle.std.proofs.lemmas.List.{get_or_past, get_or-set_other, length-set}
use Rattle.bank.specs.declared.kinds.Ending.{Ending}
use Rattle.bank.specs.declared.kinds.Reply.{Reply}
use Rattle.bank.specs.declared.kinds.Reply.TheVariants.{Run, Ended}
use Rattle.bank.specs.declared.bank_fault.BankFault.{BankFault}
use Rattle.bank.specs.declared.bank_fault.BankFault.TheVariants.{Beyond, Idle}
use Rattle.bank.specs.Laws.{OnlyAt}
use Rattle.bank.specs.Skills.{Skill, Take, asked, leaves, no_skill, runs_now, poll_reply, poll_at, polled, poll_leaves, halt_reply, with_given, struck}

-- a take and a skill as functions of their parts
abbrev pub taking : ℕ → Ending → Take
taking n e = record { runs = n; ending = e }

abbrev pub skill_of : (ℕ → Take) → Option ℕ → Skill
skill_of t g = record { takes = t; given = g }

module _ {A : Type 0} (f : Skill → Result A BankFault) (l : List Skill) (k : ℕ) where
  pub asked_in : k < length l → asked f l k ≡ f (get_or l k no_skill)
  asked_in h = ap (λ b. cond b (f (get_or l k no_skill)) (Err Beyond)) (lt-ltb k (length l) h)

  pub asked_out : length l ≤ k → asked f l k ≡ Err Beyond
  asked_out h = ap (λ b. cond b (f (get_or l k no_skill)) (Err Beyond)) (le-ltb k (length l) h)

-- what an answer says of the skill
pub asked_ok : {A : Type 0} (f : Skill → Result A BankFault) (l : List Skill) (k : ℕ) (a : A) → asked f l k ≡ Ok a → (k < length l) × (f (get_or l k no_skill) ≡ Ok a)
asked_ok f l k a e =
    ⊎_elim (λ h. (h, sym (asked_in f l k h) ∙ e)) (λ h. let o = sym (asked_out f l k h) ∙ e in absurd cc) (cases_lt k (length l))

pub runs_some : (s : Skill) (g : ℕ) → s.given ≡ Some g → runs_now s ≡ true
runs_some s g e = ap is_some e

pub runs_none : (s : Skill) → s.given ≡ None → runs_now s ≡ false
runs_none s e = ap is_some e

-- what runs is below the width
pub runs_below : (l : List Skill) (k : ℕ) → runs_now (get_or l k no_skill) ≡ true → k < length l
runs_below l k e =
    ⊎_elim (λ h. h) (λ h. let p = sym (ap runs_now (get_or_past l k no_skill h)) ∙ e in absurd cc) (cases_lt k (length l))

-- so a halt of it is answered
pub halt_runs : (l m : List Skill) (k : ℕ) (r : Result Unit BankFault) → runs_now (get_or l k no_skill) ≡ true → r ≡ asked halt_reply l k → m ≡ leaves struck r l k
    → m ≡ set l k (struck (get_or l k no_skill))
halt_runs l m k r e a b =
    let ok : r ≡ Ok tt = a ∙ asked_in halt_reply l k (runs_below l k e) ∙ ap (λ t. cond t (Ok tt) (Err Idle)) e in
    b ∙ ap (λ q. leaves struck q l k) ok

pub poll_idle : (s : Skill) → s.given ≡ None → poll_reply s ≡ Err Idle
poll_idle s e = ap (λ o. poll_at o (s.takes 0)) e

module _ (s : Skill) (g : ℕ) (e : s.given ≡ Some g) where
  polls : (b : Bool) → ltb g (s.takes 0).runs ≡ b
      → (poll_reply s ≡ Ok (cond b Run (Ended (s.takes 0).ending))) × (polled s ≡ cond b (with_given s (Some (g + 1))) (struck s))
  polls b t = (
    ap (λ o. poll_at o (s.takes 0)) e ∙ ap (λ b. Ok (cond b Run (Ended (s.takes 0).ending))) t,
    ap (λ o. poll_leaves o s) e ∙ ap (λ b. cond b (with_given s (Some (g + 1))) (struck s)) t,
  )

  pub poll_run : g < (s.takes 0).runs → (poll_reply s ≡ Ok Run) × (polled s ≡ with_given s (Some (g + 1)))
  poll_run h = polls true (lt-ltb g (s.takes 0).runs h)

  pub poll_end : (s.takes 0).runs ≤ g → (poll_reply s ≡ Ok (Ended (s.takes 0).ending)) × (polled s ≡ struck s)
  poll_end h = polls false (le-ltb g (s.takes 0).runs h)

abbrev said : Take → Bool → Result Reply BankFault
said t b = Ok (cond b Run (Ended t.ending))

run_at : (o : Option ℕ) (t : Take) → poll_at o t ≡ Ok Run → (g : ℕ) × (o ≡ Some g) × (g < t.runs)
run_at None t e = absurd cc
run_at (Some g) t e = (
  g,
  refl,
  ⊎_elim (λ h. ltb-true g t.runs h) (λ h. let p = ap (said t) (sym h) ∙ e in absurd cc) (cases_Bool (ltb g t.runs)),
)

pub poll_said_run : (s : Skill) → poll_reply s ≡ Ok Run → (g : ℕ) × (s.given ≡ Some g) × (g < (s.takes 0).runs)
poll_said_run s e = run_at s.given (s.takes 0) e

end_at : (o : Option ℕ) (t : Take) (x : Ending) → poll_at o t ≡ Ok (Ended x) → (g : ℕ) × (o ≡ Some g) × (t.runs ≤ g) × (t.ending ≡ x)
end_at None t x e = absurd cc
end_at (Some g) t x e =
    ⊎_elim
    (λ h. let p = ap (said t) (sym h) ∙ e in absurd cc)
    (λ h. let p = ap (said t) (sym h) ∙ e in (g, refl, ltb-false g t.runs h, cc))
    (cases_Bool (ltb g t.runs))

pub poll_said_end : (s : Skill) (x : Ending) → poll_reply s ≡ Ok (Ended x) → (g : ℕ) × (s.given ≡ Some g) × ((s.takes 0).runs ≤ g) × ((s.takes 0).ending ≡ x)
poll_said_end s x e = end_at s.given (s.takes 0) x e

err_at : (o : Option ℕ) (t : Take) (x : BankFault) → poll_at o t ≡ Err x → (o ≡ None) × (x ≡ Idle)
err_at None t x e = (refl, cc)
err_at (Some g) t x e = absurd cc

pub poll_said_err : (s : Skill) (x : BankFault) → poll_reply s ≡ Err x → (s.given ≡ None) × (x ≡ Idle)
poll_said_err s x e = err_at s.given (s.takes 0) x e

-- no call changes the width, or another skill: for every step that a call may make of its skill,
-- where the laws of the three calls have their own
leaves_width : {A : Type 0} (F : Skill → Skill) (r : Result A BankFault) (l : List Skill) (k : ℕ) → length (leaves F r l k) ≡ length l
leaves_width F (Ok a) l k = length-set l k (F (get_or l k no_skill))
leaves_width F (Err x) l k = refl

leaves_other : {A : Type 0} (F : Skill → Skill) (r : Result A BankFault) (l : List Skill) (k j : ℕ) → j ≢ k → get_or (leaves F r l k) j no_skill ≡ get_or l j no_skill
leaves_other F (Ok a) l k j ne = get_or-set_other l k j (F (get_or l k no_skill)) no_skill ne
leaves_other F (Err x) l k j ne = refl

pub leaves_only : {A : Type 0} (F : Skill → Skill) (r : Result A BankFault) (l : List Skill) (k : ℕ) (m : List Skill) → m ≡ leaves F r l k → OnlyAt k l m
leaves_only F r l k m e =
    (ap length e ∙ leaves_width F r l k, λ j ne. ap (λ x. get_or x j no_skill) e ∙ leaves_other F r l k j ne)
