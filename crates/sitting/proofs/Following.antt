-- A ledger follows a world through its lines, and through the starts and ends of skills.
use Rattle.std.proofs.Common.{◌≡◌, ℕ, ◌<◌, true, false, ◌&&◌, List, [], ◌∷◌, ◌++◌, length, set, get_or, Some, None, Option, inl, inr, ⊎_elim, sym, refl, ap, ◌∙◌, arith}
use Rattle.std.proofs.lemmas.Bool.{cases_eq, cases_lt, cases_Bool, eq-eqb, eqb-true, or_cases, or_left, or_right, and_parts, and_from, false_from_ne_true, false≢true}
use Rattle.std.proofs.lemmas.Bool.Decides.{nat_tests}
use Rattle.std.proofs.lemmas.List.{get_or-set_same, get_or-set_other, get_or_past, length-set, length_push}
use Rattle.bank.specs.Skills.{Skill, no_skill, runs_now}
use Rattle.rules.specs.declared.line.Line.{Line}
use Rattle.rules.specs.Leaves.{Users, runs_in, has_device, in_use, is_blocked}
use Rattle.rules.proofs.Deeds.{runs_own}
use Rattle.sitting.specs.Agreeing.{Named, Once, Ranged, holder_of, Holds, Follows}
use Rattle.sitting.specs.Desks.{one_used, state_of, is_running, begun, ended, held, holder_runs, blocked}
use Rattle.sitting.specs.declared.leaf_state.LeafState.{LeafState}
use Rattle.sitting.specs.declared.leaf_state.LeafState.TheVariants.{Idle, Running}
use Rattle.sitting.specs.declared.ledger.Ledger.{Ledger}

-- states of leaves

pub is_idle : (q : LeafState) → is_running q ≡ false → q ≡ Idle
is_idle Idle e = refl
is_idle Running e = absurd cc

pub is_active : (q : LeafState) → is_running q ≡ true → q ≡ Running
is_active Idle e = absurd cc
is_active Running e = refl

-- a device in use

-- it is, where a named skill with it runs
used_by : (us : Users) (d k : ℕ) (bank : List Skill) → Named us k (Some d) → runs_in bank k ≡ true → in_use us d bank ≡ true
used_by [] d k bank n r = absurd n
used_by (u ∷ us) d k bank (inl e) r =
    or_left (has_device d u.1 && runs_in bank u.0) (in_use us d bank)
    (and_from (has_device d u.1) (runs_in bank u.0) (ap (has_device d) e.1 ∙ eq-eqb d d refl) (ap (runs_in bank) e.0 ∙ r))
used_by (u ∷ us) d k bank (inr n) r = or_right (has_device d u.1 && runs_in bank u.0) (in_use us d bank) (used_by us d k bank n r)

its_device : (d : ℕ) (o : Option ℕ) → has_device d o ≡ true → o ≡ Some d
its_device d None e = absurd cc
its_device d (Some c) e = ap Some (eqb-true c d e)

abbrev UserOf : Users → ℕ → List Skill → Type 0
UserOf us d bank = (k : ℕ) × Named us k (Some d) × (runs_in bank k ≡ true)

-- one that is in use has such a skill
user_of_device : (us : Users) (d : ℕ) (bank : List Skill) → in_use us d bank ≡ true → UserOf us d bank
user_of_device [] d bank e = absurd cc
user_of_device (u ∷ us) d bank e =
    ⊎_elim
    (λ h. let q = and_parts (has_device d u.1) (runs_in bank u.0) h in (u.0, inl (refl, its_device d u.1 q.0), q.1))
    (λ h. let q = user_of_device us d bank h in (q.0, inr q.1, q.2))
    (or_cases (has_device d u.1 && runs_in bank u.0) (in_use us d bank) e)

-- a skill that runs is below the width
pub runs_within : (bank : List Skill) (k : ℕ) → runs_in bank k ≡ true → k < length bank
runs_within bank k r =
    ⊎_elim (λ h. h) (λ h. absurd (false≢true (sym (ap runs_now (get_or_past bank k no_skill h)) ∙ r))) (cases_lt k (length bank))

-- one line more
pub line_follows : (us : Users) (t n : ℕ) (bank : List Skill) (lines : List Line) (l : Ledger) (x : Line) (rows : List Line) → length rows ≡ n → Follows us t n bank lines l →
    Follows us t n bank (lines ++ x ∷ []) (one_used l rows)
line_follows us t n bank lines l x rows e f = record {
  states = f.states;
  tick = f.tick;
  used = let p = length_push lines x in let u = f.used in grind (arith, nat_tests);
  runs = f.runs;
}

-- a line changes no holder
pub line_holds : (us : Users) (l : Ledger) (rows : List Line) → Holds us l → Holds us (one_used l rows)
line_holds us l rows o = record { holders = o.holders; held = o.held; named = o.named }

module _ (us : Users) (in_range : Ranged us) (t n : ℕ) (bank : List Skill) (lines : List Line) (l : Ledger) (f : Follows us t n bank lines l) where
  -- one skill changes
  module _ (k : ℕ) (d : Option ℕ) (s : Skill) (named : Named us k d) where
    bank_own : k < length bank → runs_in (set bank k s) k ≡ runs_now s
    bank_own h = runs_own bank k s h

    bank_else : (j : ℕ) → (j ≡ k → ⊥) → runs_in (set bank k s) j ≡ runs_in bank j
    bank_else j ne = ap runs_now (get_or-set_other bank k j s no_skill ne)

    state_own : (q : LeafState) → get_or (set l.states k q) k Idle ≡ q
    state_own q = let h : k < length l.states = rw f.states (in_range.skills k d named) in get_or-set_same l.states k q Idle h

    state_else : (q : LeafState) (j : ℕ) → (j ≡ k → ⊥) → is_running (get_or (set l.states k q) j Idle) ≡ is_running (state_of l j)
    state_else q j ne = ap is_running (get_or-set_other l.states k j q Idle ne)

    -- its state is to follow it
    both_set : (q : LeafState) → k < length bank → is_running q ≡ runs_now s → (j : ℕ) (c : Option ℕ) → Named us j c → is_running (get_or (set l.states k q) j Idle) ≡ runs_in (set bank k s) j
    both_set q h i j c m =
        ⊎_elim
        (λ e. rw e (ap is_running (state_own q) ∙ i ∙ sym (bank_own h)))
        (λ ne. state_else q j ne ∙ f.runs j c m ∙ sym (bank_else j ne))
        (cases_eq j k)

    its_place : is_running (state_of l k) ≡ true → k < length bank
    its_place r = runs_within bank k (sym (f.runs k d named) ∙ r)

    -- it runs on
    pub on_follows : is_running (state_of l k) ≡ true → runs_now s ≡ true → Follows us t n (set bank k s) lines l
    on_follows r i = record {
      states = f.states;
      tick = f.tick;
      used = f.used;
      runs = λ j c m. ⊎_elim (λ e. rw e (r ∙ sym i ∙ sym (bank_own (its_place r)))) (λ ne. f.runs j c m ∙ sym (bank_else j ne)) (cases_eq j k);
    }

    -- it ends
    pub end_follows : is_running (state_of l k) ≡ true → runs_now s ≡ false → Follows us t n (set bank k s) lines (ended l k)
    end_follows r i = record {
      states = length-set l.states k Idle ∙ f.states;
      tick = f.tick;
      used = f.used;
      runs = both_set Idle (its_place r) (sym i);
    }

    pub end_holds : Holds us l → Holds us (ended l k)
    end_holds o = record {
      holders = o.holders;
      held = λ j c m r.
          ⊎_elim
          (λ e. absurd (false≢true (sym (ap is_running (state_own Idle)) ∙ rw e at r)))
          (λ ne. o.held j c m (sym (state_else Idle j ne) ∙ r))
          (cases_eq j k);
      named = o.named;
    }

    -- it starts
    pub begin_follows : k < length bank → runs_now s ≡ true → Follows us t n (set bank k s) lines (begun l k d)
    begin_follows h i = record {
      states = length-set l.states k Running ∙ f.states;
      tick = f.tick;
      used = f.used;
      runs = both_set Running h (sym i);
    }

  module _ (o : Holds us l) where
    held_in_use : (d : ℕ) → in_use us d bank ≡ true → blocked l (Some d) ≡ true
    held_in_use d e =
        let q = user_of_device us d bank e in
        let r : is_running (state_of l q.0) ≡ true = f.runs q.0 (Some d) q.1 ∙ q.2 in
        ap (holder_runs l) (o.held q.0 d q.1 r) ∙ r

    held_by : (d : ℕ) (h : Option ℕ) → holder_of l d ≡ h → in_use us d bank ≡ false → holder_runs l h ≡ false
    held_by d None h e = refl
    held_by d (Some k) h e =
        let named = o.named d k h in
        f.runs k (Some d) named ∙ false_from_ne_true (runs_in bank k) (λ r. false≢true (sym e ∙ used_by us d k bank named r))

    -- a leaf is blocked by the ledger exactly if it is by the rules
    pub same_blocked : (device : Option ℕ) → blocked l device ≡ is_blocked us device bank
    same_blocked None = refl
    same_blocked (Some d) =
        ⊎_elim (λ e. held_in_use d e ∙ sym e) (λ e. held_by d (holder_of l d) refl e ∙ sym e) (cases_Bool (in_use us d bank))

    module _ (k : ℕ) (s : Skill) (once : Once us) where
      begin_held : (d : Option ℕ) → Named us k d → is_blocked us d bank ≡ false → (j e : ℕ) → Named us j (Some e) → is_running (state_of (begun l k d) j) ≡ true → holder_of (begun l k d) e ≡ Some j
      begin_held None named free j e m r =
          ⊎_elim
          (λ (q : j ≡ k). let z = once.device k None (Some e) named (rw q at m) in absurd cc)
          (λ (ne : j ≡ k → ⊥). o.held j e m (sym (state_else k None s named Running j ne) ∙ r))
          (cases_eq j k)
      begin_held (Some c) named free j e m r =
          let far : c < length l.holders = rw o.holders (in_range.devices k c named) in
          let own : get_or (set l.holders c (Some k)) c None ≡ Some k = get_or-set_same l.holders c (Some k) None far in
          ⊎_elim
          (λ (q : j ≡ k).
          let z = once.device k (Some c) (Some e) named (rw q at m) in
          let y : c ≡ e = cc in
          rw (q, sym y) own)
          (λ (ne : j ≡ k → ⊥).
          let old : is_running (state_of l j) ≡ true = sym (state_else k (Some c) s named Running j ne) ∙ r in
          let busy : runs_in bank j ≡ true = sym (f.runs j (Some e) m) ∙ old in
          ⊎_elim
          (λ (q : e ≡ c). absurd (false≢true (sym free ∙ used_by us c j bank (rw q at m) busy)))
          (λ (apart : e ≡ c → ⊥). get_or-set_other l.holders c e (Some k) None apart ∙ o.held j e m old)
          (cases_eq e c))
          (cases_eq j k)

      begin_named : (d : Option ℕ) → Named us k d → (e j : ℕ) → holder_of (begun l k d) e ≡ Some j → Named us j (Some e)
      begin_named None named e j h = o.named e j h
      begin_named (Some c) named e j h =
          let far : c < length l.holders = rw o.holders (in_range.devices k c named) in
          let own : get_or (set l.holders c (Some k)) c None ≡ Some k = get_or-set_same l.holders c (Some k) None far in
          ⊎_elim
          (λ (q : e ≡ c).
          let h' : get_or (set l.holders c (Some k)) c None ≡ Some j = rw q at h in
          let y : j ≡ k = cc (h', own) in
          rw (y, q) named)
          (λ (apart : e ≡ c → ⊥). o.named e j (sym (get_or-set_other l.holders c e (Some k) None apart) ∙ h))
          (cases_eq e c)

      holders_long : (d : Option ℕ) → length (held l.holders d k) ≡ 32
      holders_long None = o.holders
      holders_long (Some c) = length-set l.holders c (Some k) ∙ o.holders

      pub begin_holds : (d : Option ℕ) → Named us k d → is_blocked us d bank ≡ false → Holds us (begun l k d)
      begin_holds d named free = record { holders = holders_long d; held = begin_held d named free; named = begin_named d named }
