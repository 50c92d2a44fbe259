-- The calls of a cap, over the skills below.
use Rattle.std.proofs.Common.{◌≡◌, ℕ, ◌+◌, ◌<◌, ◌≤◌, Bool, true, false, cond, List, length, get_or, set, Ok, Err, Result, sym, refl, ap, ◌∙◌, ⊎_elim, arith}
use Rattle.std.proofs.lemmas.Bool.{cases_lt}
use Rattle.std.proofs.lemmas.List.{get_or_past, set-set}
use Rattle.bank.specs.declared.bank_fault.BankFault.{BankFault}
use Rattle.bank.specs.declared.bank_fault.BankFault.TheVariants.{Running, Idle}
use Rattle.bank.specs.declared.kinds.Ending.{Ending}
use Rattle.bank.specs.declared.kinds.Ending.TheVariants.{Fail}
use Rattle.bank.specs.declared.kinds.Reply.{Reply}
use Rattle.bank.specs.declared.kinds.Reply.TheVariants.{Run, Ended}
use Rattle.bank.specs.Skills.{Skill, no_skill, runs_now, asked, leaves, start_reply, halt_reply, poll_reply, started, struck, polled}
use Rattle.bank.proofs.Calls.{asked_in, asked_out, asked_ok, poll_said_run, poll_said_end, poll_said_err, poll_idle, runs_some, poll_run, poll_end}
use Rattle.bank.specs.Capping.{capped, capped_at, capped_skills}
use Rattle.bank.specs.CapSounds.{caps_length, caps_at}
use Rattle.bank.proofs.Caps.{caps_set, caps_both, capped_runs, capped_started, capped_struck, goes_on, cut_off, comes_up}

abbrev halted_said : Bool → Result Unit BankFault
halted_said b = cond b (Ok tt) (Err Idle)

abbrev started_said : Bool → Result Unit BankFault
started_said b = cond b (Err Running) (Ok tt)

module _ (m : ℕ) (cs : List ℕ) (l : List Skill) (k : ℕ) where
  abbrev caps : List Skill
  caps = capped_skills m cs l

  abbrev here : Skill
  here = get_or l k no_skill

  abbrev own : ℕ
  own = get_or cs k 0

  -- an answer that is the same of a capped skill
  same_answer : {A : Type 0} (f : Skill → Result A BankFault) → ((s : Skill) (c : ℕ) → f (capped m c s) ≡ f s) → asked f caps k ≡ asked f l k
  same_answer f h =
      ⊎_elim (λ lt. asked_in f caps k (omega (arith, caps_length m cs l)) ∙ ap f (caps_at m cs l k lt) ∙ h here own ∙ sym (asked_in f l k lt))
      (λ ge. asked_out f caps k (omega (arith, caps_length m cs l)) ∙ sym (asked_out f l k ge))
      (cases_lt k (length l))

  at_caps : {A : Type 0} (f : Skill → Result A BankFault) → k < length l → asked f caps k ≡ f (capped m own here)
  at_caps f lt = asked_in f caps k (omega (arith, caps_length m cs l)) ∙ ap f (caps_at m cs l k lt)

  pub running_answer : runs_now (get_or caps k no_skill) ≡ runs_now here
  running_answer =
      ⊎_elim (λ lt. ap runs_now (caps_at m cs l k lt) ∙ capped_runs m own here.given here)
      (λ ge. ap runs_now (get_or_past caps k no_skill (omega (arith, caps_length m cs l))) ∙ sym (ap runs_now (get_or_past l k no_skill ge)))
      (cases_lt k (length l))

  pub halt_answer : asked halt_reply caps k ≡ asked halt_reply l k
  halt_answer = same_answer halt_reply (λ s c. ap (λ b. cond b (Ok tt) (Err Idle)) (capped_runs m c s.given s))

  pub start_answer : asked start_reply caps k ≡ asked start_reply l k
  start_answer = same_answer start_reply (λ s c. ap (λ b. cond b (Err Running) (Ok tt)) (capped_runs m c s.given s))

  ok_halt : (s : Skill) (b : Bool) → runs_now s ≡ b → halted_said b ≡ Ok tt → runs_now s ≡ true
  ok_halt s true h e = h
  ok_halt s false h e = absurd cc

  ok_start : (s : Skill) (b : Bool) → runs_now s ≡ b → started_said b ≡ Ok tt → runs_now s ≡ false
  ok_start s false h e = h
  ok_start s true h e = absurd cc

  pub halt_after : (r : Result Unit BankFault) → r ≡ asked halt_reply l k → capped_skills m cs (leaves struck r l k) ≡ leaves struck r caps k
  halt_after (Err x) e = refl
  halt_after (Ok u) e =
      let p = asked_ok halt_reply l k u (sym e) in
      let run = ok_halt here (runs_now here) refl p.1 in
      caps_set m cs l k (struck here) ∙ ap (set caps k) (capped_struck m own here run ∙ ap struck (sym (caps_at m cs l k p.0)))

  pub start_after : (u : Unit {0}) → k < length cs → asked start_reply l k ≡ Ok u → capped_skills m (set cs k 0) (set l k (started here)) ≡ set caps k (started (get_or caps k no_skill))
  start_after u w e =
      let p = asked_ok start_reply l k u e in
      let idle = ok_start here (runs_now here) refl p.1 in
      caps_both m cs l k 0 (started here) w ∙ ap (set caps k) (capped_started m own here idle ∙ ap started (sym (caps_at m cs l k p.0)))

  pub poll_refused : (x : BankFault) → asked poll_reply l k ≡ Err x → Err x ≡ asked poll_reply caps k
  poll_refused x e =
      ⊎_elim
      (λ lt. let p = poll_said_err here x (sym (asked_in poll_reply l k lt) ∙ e) in
      ap Err p.1 ∙ sym (at_caps poll_reply lt ∙ poll_idle (capped m own here) (ap (λ o. (capped_at m own o here).given) p.0)))
      (λ ge. sym e ∙ asked_out poll_reply l k ge ∙ sym (asked_out poll_reply caps k (omega (arith, caps_length m cs l))))
      (cases_lt k (length l))

  poll_ended : (x : Ending) → asked poll_reply l k ≡ Ok (Ended x)
      → (Ok (Ended x) ≡ asked poll_reply caps k) × (capped_skills m cs (set l k (polled here)) ≡ set caps k (polled (get_or caps k no_skill)))
  poll_ended x e =
      let p = asked_ok poll_reply l k (Ended x) e in
      let q = poll_said_end here x p.1 in
      let u = comes_up m own here q.0 q.1 q.2 in
      let at = caps_at m cs l k p.0 in
      let b = poll_end here q.0 q.1 q.2 in (
        sym (at_caps poll_reply p.0 ∙ u.0 ∙ ap (λ y. Ok (Ended y)) q.3),
        ap (λ y. capped_skills m cs (set l k y)) b.1 ∙ caps_set m cs l k (struck here)
            ∙ ap (set caps k) (capped_struck m own here (runs_some here q.0 q.1) ∙ sym u.1 ∙ ap polled (sym at)),
      )

  pub poll_done : (x : Reply) → (x ≡ Run → ⊥) → asked poll_reply l k ≡ Ok x
      → (Ok x ≡ asked poll_reply caps k) × (capped_skills m cs (set l k (polled here)) ≡ set caps k (polled (get_or caps k no_skill)))
  poll_done Run f e = absurd (f refl)
  poll_done (Ended x) f e = poll_ended x e

  pub poll_goes_on : k < length cs → asked poll_reply l k ≡ Ok Run → own < m
      → (Ok Run ≡ asked poll_reply caps k) × (capped_skills m (set cs k (own + 1)) (set l k (polled here)) ≡ set caps k (polled (get_or caps k no_skill)))
  poll_goes_on w e lt =
      let p = asked_ok poll_reply l k Run e in
      let q = poll_said_run here p.1 in
      let u = goes_on m own here q.0 q.1 q.2 lt in
      let at = caps_at m cs l k p.0 in (
        sym (at_caps poll_reply p.0 ∙ u.0),
        caps_both m cs l k (own + 1) (polled here) w ∙ ap (set caps k) (sym u.1 ∙ ap polled (sym at)),
      )

  -- a poll below that goes on past the limit, then a halt below
  pub poll_cut : asked poll_reply l k ≡ Ok Run → m ≤ own
      → (Ok (Ended Fail) ≡ asked poll_reply caps k) × (capped_skills m cs (set (set l k (polled here)) k (struck (polled here))) ≡ set caps k (polled (get_or caps k no_skill)))
  poll_cut e le =
      let p = asked_ok poll_reply l k Run e in
      let q = poll_said_run here p.1 in
      let u = cut_off m own here q.0 q.1 q.2 le in
      let at = caps_at m cs l k p.0 in
      let b = poll_run here q.0 q.1 q.2 in (
        sym (at_caps poll_reply p.0 ∙ u.0),
        ap (capped_skills m cs) (set-set l k (polled here) (struck (polled here)) ∙ ap (λ y. set l k (struck y)) b.1) ∙ caps_set m cs l k (struck here)
            ∙ ap (set caps k) (capped_struck m own here (runs_some here q.0 q.1) ∙ sym u.1 ∙ ap polled (sym at)),
      )
