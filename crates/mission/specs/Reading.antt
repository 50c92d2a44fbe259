-- What each part of the text reader answers.
use Rattle.std.specs.Prelude.{◌≡◌, ℕ, ◌+◌, ◌<◌, min, Bool, true, ◌&&◌, ◌⊎◌, List, [], ◌∷◌, ◌++◌, map, length, ℤ, Some, None, Ok, Err, Result, ◌≢◌}
use Rattle.text.specs.Numeral.{within}
use Rattle.text.specs.Fields.{free, parted}
use Rattle.text.specs.declared.line.Line.{Line}
use Rattle.mission.specs.declared.node.Node.{Node}
use Rattle.mission.specs.declared.flaw.Flaw.TheVariants.{Form}
use Rattle.mission.specs.declared.line_fault.LineFault.{LineFault}
use Rattle.mission.specs.declared.lines.Lines.{Lines}
use Rattle.mission.specs.declared.outline.Declared.{Declared}
use Rattle.mission.specs.Lines.{number_field, line, ranged, all_ranged}
use Rattle.mission.specs.Texts.{ended, heading, first_of, Wrong, node_line, FirstFlaw}

-- a name that holds no byte that ends a name, a field or a line
abbrev pub plain : List ℕ → Bool
plain name = free 61 name && (free 32 name && free 10 name)

-- the number of the line after this one; the last number of a line stays
abbrev pub next_number : ℕ → ℕ
next_number k = min (k + 1) 4294967295

-- the next line is taken, with its number; it is missing, or has no end, where there is none
abbrev pub LineTaken : Lines → Result Line LineFault → Lines → Type 0
LineTaken before (Ok l) after = (parted 10 before.rest.now ≡ Some (l.text.now, after.rest.now)) × (after.line ≡ next_number before.line) × (l.number ≡ after.line)
LineTaken before (Err f) after = (parted 10 before.rest.now ≡ None) × (f.flaw ≡ Form) × (f.line ≡ next_number before.line)

-- the next line is read: it is of this form, in range, and what follows it is left; or it has this flaw
abbrev pub LineRead : {X Y : Type 0} → (X → List ℕ) → (X → Bool) → (Y → X) → Lines → Result Y LineFault → Lines → Type 0
LineRead form good view before (Ok y) after =
    (before.rest.now ≡ form (view y) ++ (10 ∷ after.rest.now)) × (good (view y) ≡ true) × (after.line ≡ next_number before.line)
LineRead form good view before (Err f) after = (f.line ≡ next_number before.line) × Wrong form good (first_of before.rest.now) f.flaw

-- the number that the next line declares is read, in range, as what it converts to; or the line has this flaw
abbrev pub NumberRead : {T E : Type 0} → (ℤ → Result T E → Type 0) → List ℕ → ℤ → ℤ → Lines → Result T LineFault → Lines → Type 0
NumberRead gives name low high before (Ok n) after =
    (z : ℤ) × gives z (Ok n) × LineRead (number_field name) (within low high) (λ (y : ℤ). y) before (Ok z) after
NumberRead gives name low high before (Err f) after = LineRead (number_field name) (within low high) (λ (y : ℤ). y) before (Err f) after

-- the lines of nodes in range were taken, and this is left
abbrev pub Taken : List ℕ → List Node → List ℕ → Type 0
Taken t ns rest = (t ≡ ended (map node_line ns) ++ rest) × (all_ranged ns ≡ true)

-- the next line has a flaw, after fewer node lines in range than are wanted
abbrev pub NodesStopped : Lines → ℕ → LineFault → Type 0
NodesStopped before n f =
    (ns : List Node) × (rest : List ℕ) × Taken before.rest.now ns rest × (f.line ≡ before.line + length ns + 1)
    × (length ns < n) × Wrong line ranged (first_of rest) f.flaw

-- the next lines are read: they are those of the nodes; or they stop at one
abbrev pub NodesRead : Lines → List Node → Result (Unit {0}) LineFault → Lines → Type 0
NodesRead before ns (Ok u) after = Taken before.rest.now ns after.rest.now × (after.line ≡ before.line + length ns)
NodesRead before ns (Err f) after = NodesStopped before (length ns) f

-- the reading of n nodes stopped at a line of the text
abbrev pub Stopped : List ℕ → ℕ → LineFault → Type 0
Stopped t n f =
    (ns : List Node) × (rest : List ℕ) × Taken t ns rest × (f.line ≡ length ns + 5)
    × (((length ns < n) × Wrong line ranged (first_of rest) f.flaw) ⊎ ((length ns ≡ n) × (f.flaw ≡ Form) × (rest ≢ [])))

-- a line fault is the first flaw of a text
abbrev pub Caught : List ℕ → LineFault → Type 0
Caught t f = (k : ℕ) × (f.line ≡ k + 1) × FirstFlaw t k f.flaw

-- the lines before the nodes are read: they declare these numbers, and what follows them is left; or the text has this
-- first flaw
abbrev pub HeadRead : Lines → Result Declared LineFault → Lines → Type 0
HeadRead before (Ok d) after = (before.rest.now ≡ ended (heading d) ++ after.rest.now) × (after.line ≡ 4)
HeadRead before (Err f) after = Caught before.rest.now f
