-- The mission that a place begins with: one condition, lawful.
use Rattle.std.proofs.Common.{◌≡◌, ℕ, zero, suc, List, [], ◌∷◌, ◌++◌, pos, codes, sym, refl, ⊎_elim, arith}
use Rattle.text.specs.Numeral.{numeral, valued, above, reads}
use Rattle.text.proofs.Numerals.{valued_sound}
use Rattle.entry.specs.declared.parts.CountThreshold.{CountThreshold}
use Rattle.mission.specs.declared.breach.Breach.{Breach}
use Rattle.mission.specs.declared.breach.Breach.TheVariants.{Place, Level, Twice, Key, Need}
use Rattle.mission.specs.declared.node.Node.TheVariants.{Count}
use Rattle.mission.specs.Lawful.{Shape, Breaks, Unplaced, Deep, Lawful}
use Rattle.mission.specs.Missions.{first_text}
use Rattle.mission.specs.Places.{places}
use Rattle.mission.specs.Texts.{ended}

abbrev pub first_shape : CountThreshold → Shape
first_shape t = record { counts = 1; abilities = 0; nodes = Count 0 t ∷ [] }

placed : (t : CountThreshold) → Unplaced (Count 0 t ∷ []) 0 → ⊥
unfolding places
placed t u = ⊎_elim (λ e. cc) (λ e. e.1 refl) u

shallow : (t : CountThreshold) → Deep (Count 0 t ∷ []) 0 → ⊥
unfolding places
shallow t d = let e : ◌≡◌ {A = List ℕ} (1 ∷ []) (d.0 ∷ d.1) = d.2 in let same : 1 ≡ d.0 = cc in let l = d.3 in omega arith

sound : (t : CountThreshold) (b : Breach) → Breaks (first_shape t) b 0 → ⊥
sound t Place h = placed t h
sound t Level h = shallow t h
sound t Twice h = let l = h.2 in omega arith
sound t Key h = omega (arith, h)
sound t Need h = h

pub first_lawful : (t : CountThreshold) → Lawful (first_shape t)
first_lawful t b zero l h = sound t b h
first_lawful t b (suc i) l h = omega arith

one : numeral (pos 1) ≡ 49 ∷ []
unfolding valued above reads
one = sym (valued_sound (pos 1) (49 ∷ []) refl)

nought : numeral (pos 0) ≡ 48 ∷ []
unfolding valued above reads
nought = sym (valued_sound (pos 0) (48 ∷ []) refl)

-- the lines of that mission, by its numerals
abbrev written : List ℕ → List ℕ → List ℕ
written one nought =
    ended
    (codes "mission=1" ∷ (codes "counts=" ++ one) ∷ (codes "abilities=" ++ nought) ∷ (codes "nodes=" ++ one)
    ∷ (codes "node=count key=" ++ (nought ++ (codes " least=" ++ nought))) ∷ [])

pub first_written : written (numeral (pos 1)) (numeral (pos 0)) ≡ first_text
first_written = λ i. written (one i) (nought i)
