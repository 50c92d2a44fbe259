-- A call on a bank whose skills stand in a list, each read by a function.
use Rattle.std.proofs.Common.{◌≡◌, ℕ, ◌<◌, ◌≤◌, List, map, length, get_or, set, take, Ok, Err, Result, sym, ap, ◌∙◌, arith}
use Rattle.std.proofs.lemmas.List.{get_or-map, map-set, set-get_or}
use Rattle.bank.specs.declared.bank_fault.BankFault.{BankFault}
use Rattle.bank.specs.declared.bank_fault.BankFault.TheVariants.{Beyond}
use Rattle.bank.specs.Skills.{Skill, asked, leaves, left_by, no_skill}
use Rattle.bank.proofs.Calls.{asked_in, asked_out}
use Rattle.bank.proofs.Rows.{rows_length, rows_at, rows_set}

module _ {X : Type 0} (read : X → Skill) (l : List X) (k : ℕ) where
  slot_leaves : {A : Type 0} (F : Skill → Skill) (r : Result A BankFault) (d x : X) → k < length l → read x ≡ left_by F r (read (get_or l k d))
      → map read (set l k x) ≡ leaves F r (map read l) k
  slot_leaves F (Ok a) d x h e = map-set read l k x ∙ ap (set (map read l) k) (e ∙ ap F (sym (get_or-map read l k d no_skill h)))
  slot_leaves F (Err b) d x h e = map-set read l k x ∙ ap (set (map read l) k) (e ∙ sym (get_or-map read l k d no_skill h)) ∙ set-get_or (map read l) k no_skill

  -- the slot d at k replaced by x, which a call left
  pub slot_after : {A : Type 0} (F : Skill → Skill) (r : Result A BankFault) (d x : X) (at : ℕ) → at ≡ k → at < length l → d ≡ get_or l at d → read x ≡ left_by F r (read d)
      → map read (set l at x) ≡ leaves F r (map read l) k
  slot_after F r d x at e h q left =
      let same : d ≡ get_or l k d = q ∙ ap (λ i. get_or l i d) e in
      ap (λ i. map read (set l i x)) e ∙ slot_leaves F r d x (omega arith) (left ∙ ap (λ y. left_by F r (read y)) same)

-- the same where the skills are the first n of a table; no bank lies so now
module _ {X : Type 0} (f : X → Skill) (n : ℕ) (t : List X) (w : n ≤ length t) (k : ℕ) where
  abbrev skills : List Skill
  skills = map f (take n t)

  pub slots_width : length skills ≡ n
  slots_width = rows_length f n t w

  pub slots_at : (d : X) → k < n → get_or skills k no_skill ≡ f (get_or t k d)
  slots_at d h = rows_at f n t k d no_skill w h

  pub slots_out : {A : Type 0} (q : Skill → Result A BankFault) → n ≤ k → Err Beyond ≡ asked q skills k
  slots_out q h = sym (asked_out q skills k (omega (arith, slots_width)))

  pub slots_in : {A : Type 0} (q : Skill → Result A BankFault) (r : Result A BankFault) (d : X) → k < n → q (f (get_or t k d)) ≡ r → r ≡ asked q skills k
  slots_in q r d h e = sym e ∙ ap q (sym (slots_at d h)) ∙ sym (asked_in q skills k (omega (arith, slots_width)))

  pub slots_set : (F : Skill → Skill) (d x : X) → k < n → F (f (get_or t k d)) ≡ f x
      → map f (take n (set t k x)) ≡ set skills k (F (get_or skills k no_skill))
  slots_set F d x h e = rows_set f n t k x ∙ ap (set skills k) (sym e ∙ ap F (sym (slots_at d h)))
