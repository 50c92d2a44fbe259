-- The text of a mission, and its faults, line by line.
use Rattle.std.specs.Prelude.{◌≡◌, ℕ, zero, suc, ◌+◌, ◌<◌, Bool, true, false, ◌⊎◌, List, [], ◌∷◌, ◌++◌, map, length, ℤ, pos, Some, codes, Option, ◌≢◌}
use Rattle.std.specs.Option.{option_map}
use Rattle.text.specs.Numeral.{within}
use Rattle.text.specs.Fields.{field, parted, then}
use Rattle.mission.specs.declared.node.Node.{Node}
use Rattle.mission.specs.declared.outline.Declared.{Declared}
use Rattle.mission.specs.declared.flaw.Flaw.{Flaw}
use Rattle.mission.specs.declared.flaw.Flaw.TheVariants.{Form, Range}
use Rattle.mission.specs.declared.tree_fault.TreeFault.{TreeFault}
use Rattle.mission.specs.declared.tree_fault.TreeFault.TheVariants.{Line, Node as AtNode}
use Rattle.mission.specs.Faults.{flaw_number}
use Rattle.mission.specs.Lawful.{Shape, Breaks, number}
use Rattle.mission.specs.Lines.{number_field, line, raw, ranged, all_ranged}

-- lines, each ended by byte 10
abbrev pub ended : List (List ℕ) → List ℕ
ended [] = []
ended (l ∷ ls) = l ++ (10 ∷ ended ls)

-- the four lines before the nodes
abbrev pub head_line : Unit {0} → List ℕ
head_line u = field (codes "mission") (codes "1")

abbrev pub counts_line : ℤ → List ℕ
counts_line z = number_field (codes "counts") z

abbrev pub abilities_line : ℤ → List ℕ
abilities_line z = number_field (codes "abilities") z

abbrev pub nodes_line : ℤ → List ℕ
nodes_line z = number_field (codes "nodes") z

abbrev pub node_line : Node → List ℕ
node_line n = line (raw n)

-- all four, with the declared numbers
abbrev pub heading : Declared → List (List ℕ)
heading d = head_line tt ∷ counts_line (pos d.counts) ∷ abilities_line (pos d.abilities) ∷ nodes_line (pos d.nodes) ∷ []

-- the lines of a mission that declares n nodes
abbrev pub lines : ℕ → ℕ → ℕ → List Node → List (List ℕ)
lines counts abilities n ns =
    head_line tt ∷ counts_line (pos counts) ∷ abilities_line (pos abilities) ∷ nodes_line (pos n) ∷ map node_line ns

-- the one text of a mission
abbrev pub text : Shape → List ℕ
text m = ended (lines m.counts m.abilities (length m.nodes) m.nodes)

-- a declared number of counts or abilities is 0 to 32, of nodes 1 to 256
abbrev pub declared : ℤ → Bool
declared z = within (pos 0) (pos 32) z

abbrev pub sized : ℤ → Bool
sized z = within (pos 1) (pos 256) z

-- every number of a mission is in its range
pub record InRange (m : Shape) : Type 0 where
  pub few_counts : declared (pos m.counts) ≡ true
  pub few_abilities : declared (pos m.abilities) ≡ true
  pub size : sized (pos (length m.nodes)) ≡ true
  pub each : all_ranged m.nodes ≡ true

-- what follows k lines, and line k, from 0: none where it is missing or has no end
unfoldable pub skip : ℕ → List ℕ → Option (List ℕ)
skip zero t = Some t
skip (suc k) t = then (parted 10 t) (λ p. skip k p.1)

abbrev pub first_of : List ℕ → Option (List ℕ)
first_of r = option_map (λ p. p.0) (parted 10 r)

abbrev pub nth : ℕ → List ℕ → Option (List ℕ)
nth k t = then (skip k t) first_of

-- a line that is to be of one of the forms, its numbers in range, is missing or not of its form (1), or out of range (2)
abbrev pub Wrong : {X : Type 0} → (X → List ℕ) → (X → Bool) → Option (List ℕ) → Flaw → Type 0
Wrong {X} form good l Form = (x : X) → l ≢ Some (form x)
Wrong {X} form good l Range = (x : X) × (l ≡ Some (form x)) × (good x ≡ false)

-- the line of node i of n, from 0; after the last nothing follows
abbrev pub NodeFlawed : List ℕ → ℕ → ℕ → Flaw → Type 0
NodeFlawed t n i f =
    ((i < n) × Wrong line ranged (nth (i + 4) t) f) ⊎ ((i ≡ n) × (f ≡ Form) × (skip (i + 4) t ≢ Some []))

-- line k, from 0, has this flaw; which node lines there are is told by the line that declares their number
abbrev pub Flawed : List ℕ → ℕ → Flaw → Type 0
Flawed t zero f = Wrong head_line (λ u. true) (nth 0 t) f
Flawed t (suc zero) f = Wrong counts_line declared (nth 1 t) f
Flawed t (suc (suc zero)) f = Wrong abilities_line declared (nth 2 t) f
Flawed t (suc (suc (suc zero))) f = Wrong nodes_line sized (nth 3 t) f
Flawed t (suc (suc (suc (suc i)))) f =
    (n : ℕ) × (nth 3 t ≡ Some (nodes_line (pos n))) × (sized (pos n) ≡ true) × NodeFlawed t n i f

-- the conditions of refusals 1 and 2, at the fault's line, and 3 to 7, of a text that has none of those
abbrev pub Holds : List ℕ → TreeFault → Type 0
Holds t (Line f) = (k : ℕ) × (f.line ≡ k + 1) × Flawed t k f.flaw
Holds t (AtNode b line) =
    (m : Shape) × (t ≡ text m) × InRange m × (i : ℕ) × (line ≡ i + 5) × (i < length m.nodes) × Breaks m b i

-- the text is judged first, then the tree; each by the lowest line, and on one line by the lowest number
abbrev pub Sooner : ℕ → ℕ → ℕ → ℕ → Type 0
Sooner line number line' number' = (line < line') ⊎ ((line ≡ line') × (number < number'))

abbrev pub Earlier : TreeFault → TreeFault → Type 0
Earlier (Line f) (Line g) = Sooner f.line (flaw_number f.flaw) g.line (flaw_number g.flaw)
Earlier (Line f) (AtNode b line) = Unit {0}
Earlier (AtNode b line) (Line f) = ⊥
Earlier (AtNode b line) (AtNode c line') = Sooner line (number b) line' (number c)

-- the first fault of a text: it holds, and none that comes earlier does
abbrev pub FirstFault : List ℕ → TreeFault → Type 0
FirstFault t f = Holds t f × ((g : TreeFault) → Earlier g f → Holds t g → ⊥)

-- no fault holds
abbrev pub Faultless : List ℕ → Type 0
Faultless t = (f : TreeFault) → Holds t f → ⊥

-- the first flaw of a text
abbrev pub FirstFlaw : List ℕ → ℕ → Flaw → Type 0
FirstFlaw t k f = Flawed t k f × ((j : ℕ) (g : Flaw) → Sooner j (flaw_number g) k (flaw_number f) → Flawed t j g → ⊥)
