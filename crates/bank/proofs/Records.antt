-- The takes given for a skill: those that a search finds, and what calls leave of them.
use Rattle.std.proofs.Common.{◌≡◌, ℕ, zero, suc, ◌+◌, ◌-◌, ◌<◌, ◌≤◌, Bool, true, false, eqb, List, [], ◌∷◌, length, get_or, drop, None, Ok, Err, Result, refl, sym, ap, ◌∙◌, arith}
use Rattle.std.proofs.Math.Path.{fun_ext}
use Rattle.std.specs.List.{AllWithin, HoldsAt, enumerate_from}
use Rattle.std.proofs.lemmas.List.{drop-drop, get_or-drop, length-drop, drop_all}
use Rattle.std.proofs.lemmas.List.FromFn.{length-enumerate_from, get_or-enumerate_from}
use Rattle.std.proofs.lemmas.Bool.{cond-true, cond-false}
use Rattle.bank.specs.declared.bank_fault.BankFault.{BankFault}
use Rattle.bank.specs.declared.kinds.Ending.TheVariants.{Fail}
use Rattle.bank.specs.declared.parts.FirstTake.{FirstTake}
use Rattle.bank.specs.declared.parts.GivenTake.{GivenTake}
use Rattle.bank.specs.declared.parts.Take.{Take as StoredTake}
use Rattle.bank.specs.declared.parts.RecordedSkill.{RecordedSkill}
use Rattle.bank.proofs.Calls.{skill_of, taking}
use Rattle.bank.specs.Recording.{given_takes, given_skill, recorded_skill}
use Rattle.bank.specs.Skills.{Skill, Take, front, no_take, started, left_by}
use Rattle.bank.specs.Timing.{take_of, timed_skill}

-- a start of the first take, and the skill with its later takes
module _ (rows : List GivenTake) (s : RecordedSkill) (f : FirstTake) where
  abbrev with_later : Skill → Skill
  with_later q = record { takes = front (q.takes 0) (given_takes s.skill (drop s.next rows)); given = q.given }

  abbrev moved : Skill
  moved = recorded_skill rows (record { skill = s.skill; first = f; next = s.next })

  pub first_started : (r : Result Unit BankFault) → timed_skill f ≡ left_by started r (timed_skill s.first) → moved ≡ left_by started r (recorded_skill rows s)
  first_started (Ok u) e = ap with_later e
  first_started (Err x) e = ap with_later e

abbrev pub is_for : ℕ → GivenTake → Bool
is_for k t = eqb t.skill k

none_given : (k : ℕ) (rows : List GivenTake) → ((j : ℕ) (d : GivenTake) → j < length rows → is_for k (get_or rows j d) ≡ false) → given_takes k rows ≡ (λ _. no_take)
none_given k [] none = refl
none_given k (t ∷ rows) none = cond-false (is_for k t) _ _ (none 0 t (omega arith)) ∙ none_given k rows (λ j d l. none (suc j) d (omega arith))

first_given : (k : ℕ) (rows : List GivenTake) (i : ℕ) (d : GivenTake) → i < length rows → is_for k (get_or rows i d) ≡ true → ((j : ℕ) → j < i → is_for k (get_or rows j d) ≡ false)
    → given_takes k rows ≡ front (take_of (get_or rows i d).take) (given_takes k (drop (suc i) rows))
first_given k [] i d h at before = absurd (omega arith)
first_given k (t ∷ rows) zero d h at before = cond-true (is_for k t) _ _ at
first_given k (t ∷ rows) (suc i) d h at before =
    cond-false (is_for k t) _ _ (before 0 (omega arith)) ∙ first_given k rows i d (omega arith) at (λ j l. before (suc j) (omega arith))

always : (n : ℕ) → front no_take (λ _. no_take) n ≡ no_take
always zero = refl
always (suc n) = refl

-- a search from one row on: a row found, and none
module _ (k : ℕ) (rows : List GivenTake) (from : ℕ) (f : FirstTake) (next : ℕ) where
  abbrev made : Skill
  made = recorded_skill rows (record { skill = k; first = f; next = next })

  abbrev later : List GivenTake
  later = drop from rows

  -- the rows from that one on, each with its number
  abbrev numbered : List (ℕ × GivenTake)
  numbered = drop from (enumerate_from 0 rows)

  numbered_length : length numbered ≡ length later
  numbered_length = length-drop from (enumerate_from 0 rows) ∙ ap (λ n. n - from) (length-enumerate_from 0 rows) ∙ sym (length-drop from rows)

  numbered_at : (i : ℕ) (d : ℕ × GivenTake) → i < length numbered → get_or numbered i d ≡ (from + i, get_or later i d.1)
  numbered_at i d h =
      get_or-drop from (enumerate_from 0 rows) i d
      ∙ get_or-enumerate_from 0 rows (from + i) d (omega (arith, h, length-drop from (enumerate_from 0 rows), length-enumerate_from 0 rows))
      ∙ ap (λ (n : ℕ). (n, get_or rows (from + i) d.1)) {y = from + i} (omega arith) ∙ ap (λ (r : GivenTake). (from + i, r)) (sym (get_or-drop from rows i d.1))

  not_before : (n : ℕ) → n ≤ length numbered → AllWithin (λ y. is_for k y.1 ≡ false) numbered 0 n → (j : ℕ) (d : GivenTake) → j < n → is_for k (get_or later j d) ≡ false
  not_before n few none j d l = ap (λ (y : ℕ × GivenTake). is_for k y.1) (sym (numbered_at j (0, d) (omega (arith, few, l)))) ∙ none j (0, d) (omega arith) l

  pub idle_found : (at : ℕ) (row : GivenTake) → is_for k row ≡ true → (i : ℕ) → i < length numbered → HoldsAt (λ y. y ≡ (at, row)) numbered i
      → AllWithin (λ y. is_for k y.1 ≡ false) numbered 0 i → f.take ≡ row.take → f.given ≡ None → next ≡ suc at → made ≡ given_skill later k
  idle_found at row its i h found none t idle n =
      let e : (from + i, get_or later i row) ≡ (at, row) = sym (numbered_at i (at, row) h) ∙ found (at, row) in
      let place : from + i ≡ at = ap (λ (y : ℕ × GivenTake). y.0) e in
      let here : get_or later i row ≡ row = ap (λ (y : ℕ × GivenTake). y.1) e in
      let few : i < length later = omega (arith, h, numbered_length) in
      let g = first_given k later i row few (ap (is_for k) here ∙ its) (λ j l. not_before i (omega (arith, h)) none j row l) in
      let past : drop next rows ≡ drop (suc i) later = ap (λ i. drop i rows) {y = from + suc i} (omega (arith, n, place)) ∙ sym (drop-drop (suc i) from rows) in
      ap (λ (x : StoredTake). skill_of (front (take_of x) (given_takes k (drop next rows))) f.given) (t ∙ ap (λ (x : GivenTake). x.take) (sym here))
      ∙ ap (λ l. skill_of (front (take_of (get_or later i row).take) (given_takes k l)) f.given) past
      ∙ ap (λ x. skill_of x f.given) (sym g) ∙ ap (skill_of (given_takes k later)) idle

  pub idle_past : AllWithin (λ y. is_for k y.1 ≡ false) numbered 0 (length numbered) → f.take.runs ≡ 0 → f.take.ending ≡ Fail → f.given ≡ None → next ≡ length rows
      → made ≡ given_skill later k
  idle_past none r e idle n =
      let t : take_of f.take ≡ no_take = ap (λ m. taking m f.take.ending) r ∙ ap (taking 0) e in
      let all : (j : ℕ) (d : GivenTake) → j < length later → is_for k (get_or later j d) ≡ false = λ j d l. not_before (length numbered) (omega arith) none j d (omega (arith, l, numbered_length)) in
      ap (λ (x : Take). skill_of (front x (given_takes k (drop next rows))) f.given) t
      ∙ ap (λ l. skill_of (front no_take (given_takes k l)) f.given) (drop_all next rows (omega arith))
      ∙ ap (λ x. skill_of x f.given) (fun_ext always ∙ sym (none_given k later all)) ∙ ap (skill_of (given_takes k later)) idle
