-- The skills below halted one after the other, and a cap over idle skills.
use Rattle.std.proofs.Common.{◌≡◌, ℕ, ◌+◌, ◌<◌, Bool, true, false, cond, List, [], ◌∷◌, ◌++◌, map, length, get_or, take, drop, set, is_some, Some, None, Ok, Err, Option, Result, sym, refl, ap, ◌∙◌, arith}
use Rattle.std.proofs.lemmas.Bool.{cond-true, cond-false}
use Rattle.std.proofs.lemmas.List.{append_assoc, length-append, length-drop, length-map, length-take-le, get_or_at, set_at, set-get_or, drop_more, map_more}
use Rattle.bank.specs.declared.bank_fault.BankFault.{BankFault}
use Rattle.bank.specs.declared.bank_fault.BankFault.TheVariants.{Idle}
use Rattle.bank.specs.Skills.{Skill, no_skill, runs_now, asked, leaves, halt_reply, struck}
use Rattle.bank.proofs.Calls.{asked_in, skill_of}
use Rattle.bank.specs.Capping.{capped, capped_at, capped_take, capped_skills, shortened, halted}

-- the first n halted
abbrev pub halted_first : ℕ → List Skill → List Skill
halted_first n l = map halted (take n l) ++ drop n l

-- a halt leaves the skill halted, also where it is refused
halt_by : (l : List Skill) (k : ℕ) (r : Result Unit BankFault) (b : Bool) → runs_now (get_or l k no_skill) ≡ b → r ≡ cond b (Ok tt) (Err Idle)
    → leaves struck r l k ≡ set l k (halted (get_or l k no_skill))
halt_by l k r true runs said = ap (λ q. leaves struck q l k) said ∙ ap (set l k) (sym (cond-true (runs_now (get_or l k no_skill)) _ _ runs))
halt_by l k r false runs said =
    ap (λ q. leaves struck q l k) said ∙ sym (set-get_or l k no_skill) ∙ ap (set l k) (sym (cond-false (runs_now (get_or l k no_skill)) _ _ runs))

module _ (l : List Skill) (n : ℕ) where
  abbrev done : List Skill
  done = map halted (take n l)

  abbrev one : Skill
  one = get_or l n no_skill

  one_more : n < length l → set (halted_first n l) n (halted (get_or (halted_first n l) n no_skill)) ≡ halted_first (n + 1) l
  one_more h =
      let rest = drop (n + 1) l in
      let p : length done ≡ n = length-map (take n l) halted ∙ length-take-le n l (omega arith) in
      ap (λ t. set (done ++ t) n (halted (get_or (done ++ t) n no_skill))) (drop_more l n no_skill h)
      ∙ ap (λ s. set (done ++ one ∷ rest) n (halted s)) (get_or_at done one rest no_skill n p)
      ∙ set_at done one rest (halted one) n p
      ∙ sym (append_assoc done (halted one ∷ []) rest)
      ∙ sym (ap (λ t. t ++ rest) (map_more halted l n no_skill h))

  pub halted_more : (m new : List Skill) (r : Result Unit BankFault) → n < length l → m ≡ halted_first n l → r ≡ asked halt_reply m n → new ≡ leaves struck r m n
      → new ≡ halted_first (n + 1) l
  halted_more m new r h so_far answer left =
      let p : length m ≡ length l = ap length so_far ∙ omega (arith, length-append done (drop n l), length-map (take n l) halted, length-take-le n l (omega arith), length-drop n l) in
      left ∙ halt_by m n r _ refl (answer ∙ asked_in halt_reply m n (omega arith))
      ∙ ap (λ t. set t n (halted (get_or t n no_skill))) so_far ∙ one_more h

pub halted_idle : (s : Skill) → (halted s).given ≡ None
halted_idle s = idle_at s.given refl
  where
    idle_at : (o : Option ℕ) → s.given ≡ o → (cond (is_some o) (struck s) s).given ≡ None
    idle_at None e = e
    idle_at (Some g) e = refl

pub capped_idle : (m c : ℕ) (s : Skill) → s.given ≡ None → capped m c s ≡ shortened m s
capped_idle m c s e = ap (λ o. capped_at m c o s) e ∙ sym (ap (skill_of (λ n. capped_take m (s.takes n))) e)

pub capped_all_idle : (m : ℕ) (cs : List ℕ) (l : List Skill) → capped_skills m cs (map halted l) ≡ map (shortened m) (map halted l)
capped_all_idle m cs [] = refl
capped_all_idle m [] (s ∷ l) = ap (λ x. x ∷ capped_skills m [] (map halted l)) (capped_idle m 0 (halted s) (halted_idle s)) ∙ ap (λ x. shortened m (halted s) ∷ x) (capped_all_idle m [] l)
capped_all_idle m (c ∷ cs) (s ∷ l) = ap (λ x. x ∷ capped_skills m cs (map halted l)) (capped_idle m c (halted s) (halted_idle s)) ∙ ap (λ x. shortened m (halted s) ∷ x) (capped_all_idle m cs l)
