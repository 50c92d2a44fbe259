-- A cap of 60,000 changes no take, and an idle bank is not changed by halting.
use Rattle.std.proofs.Common.{◌≡◌, ℕ, suc, ltb, List, [], ◌∷◌, map, get_or, refl, ap, ◌∙◌, arith}
use Rattle.std.proofs.Math.Path.{fun_ext}
use Rattle.std.proofs.lemmas.Bool.{cond-false, cond_both, le-ltb}
use Rattle.bank.specs.Skills.{Skill, Sound, no_skill, runs_now}
use Rattle.bank.specs.Capping.{halted, shortened}
use Rattle.bank.specs.Laws.{AllIdle}
use Rattle.bank.proofs.Calls.{skill_of}

halted_sound : (s : Skill) → Sound s → Sound (halted s)
halted_sound s h = cond_both (runs_now s) _ _ Sound (λ _. (λ n. h.0 (suc n), omega arith)) (λ _. h)

shortened_most : (s : Skill) → Sound s → shortened 60000 s ≡ s
shortened_most s h =
    ap (λ t. skill_of t s.given) (fun_ext (λ n. cond-false (ltb 60000 (s.takes n).runs) _ _ (le-ltb 60000 (s.takes n).runs (h.0 n).0)))

pub all_shortened_most : (l : List Skill) → ((k : ℕ) → Sound (get_or l k no_skill)) → map (shortened 60000) (map halted l) ≡ map halted l
all_shortened_most [] h = refl
all_shortened_most (s ∷ l) h =
    ap (λ x. x ∷ map (shortened 60000) (map halted l)) (shortened_most (halted s) (halted_sound s (h 0)))
    ∙ ap (λ x. halted s ∷ x) (all_shortened_most l (λ k. h (suc k)))

pub idle_halted : (l : List Skill) → AllIdle l → map halted l ≡ l
idle_halted [] h = refl
idle_halted (s ∷ l) h =
    ap (λ x. x ∷ map halted l) (cond-false (runs_now s) _ _ (h 0)) ∙ ap (λ x. s ∷ x) (idle_halted l (λ k. h (suc k)))
