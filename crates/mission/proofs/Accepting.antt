-- A text is accepted exactly where no fault holds; else the reading finds the first.
use Rattle.std.proofs.Common.{◌≡◌, ℕ, ◌+◌, ◌<◌, List, length, pos, sym, ap, ◌∙◌, subst, inl, inr, ⊎_elim, arith}
use Rattle.mission.specs.declared.breach.Breach.{Breach}
use Rattle.mission.specs.declared.line_fault.LineFault.{LineFault}
use Rattle.mission.specs.declared.tree_fault.TreeFault.{TreeFault}
use Rattle.mission.specs.declared.tree_fault.TreeFault.TheVariants.{Line, Node as AtNode}
use Rattle.mission.specs.declared.outline.Outline.{Outline}
use Rattle.mission.specs.declared.mission.Mission.{Mission}
use Rattle.mission.specs.Lawful.{Shape, Breaks, Lawful}
use Rattle.mission.specs.Judging.{Refused}
use Rattle.mission.specs.Shapes.{shape}
use Rattle.mission.specs.Missions.{meaning}
use Rattle.mission.specs.Reading.{Caught}
use Rattle.mission.specs.Texts.{text, sized, InRange, Holds, Earlier, FirstFault, Faultless}
use Rattle.mission.proofs.OneText.{one_mission}
use Rattle.mission.proofs.Runs.{shape_long}
use Rattle.mission.proofs.TextFaults.{declared_ranged, no_flaw}

pub outline_ranged : (o : Outline) → InRange (shape o)
outline_ranged o =
    let d = declared_ranged o.declared in
    record { few_counts = d.0; few_abilities = d.1; size = ap (λ n. sized (pos n)) (shape_long o) ∙ d.2; each = o.in_range }

-- a breach of the one mission that has this text
breaks_here : (t : List ℕ) (m : Shape) → t ≡ text m → InRange m → (b : Breach) (line : ℕ) → Holds t (AtNode b line) → (i : ℕ) × (line ≡ i + 5) × (i < length m.nodes) × Breaks m b i
breaks_here t m e r b line h =
    let same : h.0 ≡ m = one_mission h.0 m h.2 r (sym h.1 ∙ e) in
    (h.3, h.4, subst (λ (k : Shape). h.3 < length k.nodes) same h.5, subst (λ (k : Shape). Breaks k b h.3) same h.6)

no_line_fault : (t : List ℕ) (m : Shape) → t ≡ text m → InRange m → (f : LineFault) → Holds t (Line f) → ⊥
no_line_fault t m e r f h = no_flaw t m e r h.0 f.flaw h.2

pub faultless : (t : List ℕ) (m : Shape) → t ≡ text m → InRange m → Lawful m → Faultless t
faultless t m e r l (Line f) h = no_line_fault t m e r f h
faultless t m e r l (AtNode b line) h = let k = breaks_here t m e r b line h in l b k.0 k.2 k.3

pub first_line_fault : (t : List ℕ) (f : LineFault) → Caught t f → FirstFault t (Line f)
first_line_fault t f c = ((c.0, c.1, c.2.0), earlier)
  where
    earlier : (g : TreeFault) → Earlier g (Line f) → Holds t g → ⊥
    earlier (Line g) s h =
        c.2.1 h.0 g.flaw
        (⊎_elim (λ (lt : g.line < f.line). let a = h.1 in let b = c.1 in inl (omega arith)) (λ q. let a = h.1 in let b = c.1 in let d = q.0 in inr (omega arith, q.1)) s)
        h.2
    earlier (AtNode b line) s h = s

pub first_tree_fault : (t : List ℕ) (m : Shape) (f : TreeFault) → t ≡ text m → InRange m → Refused m f → FirstFault t f
first_tree_fault t m (Line f) e r c = absurd c
first_tree_fault t m (AtNode b line) e r c = ((m, e, r, c.0, c.1, c.2.0, c.2.1), earlier)
  where
    earlier : (g : TreeFault) → Earlier g (AtNode b line) → Holds t g → ⊥
    earlier (Line g) s h = no_line_fault t m e r g h
    earlier (AtNode d at) s h =
        let k = breaks_here t m e r d at h in
        c.2.2 d k.0
        (⊎_elim (λ (lt : at < line). let x = k.1 in let y = c.1 in inl (omega arith)) (λ q. let x = k.1 in let y = c.1 in let z = q.0 in inr (omega arith, q.1)) s)
        k.3

pub not_refused : (t : List ℕ) (f : TreeFault) (m : Mission) → FirstFault t f → t ≡ text (meaning m) → ⊥
not_refused t f m h e = faultless t (meaning m) e (outline_ranged m.outline) m.lawful f h.0

pub given_back : (l m : Mission) → text (meaning l) ≡ text (meaning m) → meaning l ≡ meaning m
given_back l m e = one_mission (meaning l) (meaning m) (outline_ranged l.outline) (outline_ranged m.outline) e
