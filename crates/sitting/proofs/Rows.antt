-- Rows of children in the tables, put together and taken apart.
use Rattle.std.proofs.Common.{◌≡◌, ℕ, zero, suc, ◌+◌, ◌≤◌, Bool, true, false, List, ◌∷◌, ◌++◌, sym, refl, ap, ◌∙◌, arith}
use Rattle.mission.specs.Trees.{Leaf}
use Rattle.rules.specs.Live.{Polarity, on_pass, on_fail, remembers, Kept, pending, ended, Live, live_leaf, live_group, live_par, live_not, live_loop, Kids, no_kids, kid, forgotten}
use Rattle.rules.specs.Visiting.{behind, size}
use Rattle.rules.proofs.Shapes.{kind_of}
use Rattle.sitting.specs.Cells.{marks, ahead_cell, group_cell, loop_cell}
use Rattle.sitting.specs.Tables.{ahead_of, count_of}
use Rattle.sitting.specs.Tidy.{Even, TidyGroup}
use Rattle.sitting.specs.Zipper.{snoc, onto, leading, passed_by, rest, nodes, nodes_in}
use Rattle.sitting.specs.declared.memory.Memory.{Memory}
use Rattle.sitting.specs.declared.memory.Memory.TheVariants.{Nothing, Child}
use Rattle.sitting.specs.declared.executive.Executive.{Executive}
use Rattle.sitting.proofs.Laid.{past_cell, Laid, LaidIn}
use Rattle.sitting.proofs.Tidying.{passed_leading}

pub has_node : (x : Live) → 1 ≤ nodes x
has_node (live_leaf l) = omega arith
has_node (live_group p m ks) = omega arith
has_node (live_par n ks) = omega arith
has_node (live_not x) = omega arith
has_node (live_loop p times n x) = omega arith

pub kind_remembers : (p : Polarity) (m : Bool) → remembers (kind_of p m) ≡ m
kind_remembers on_pass true = refl
kind_remembers on_pass false = refl
kind_remembers on_fail true = refl
kind_remembers on_fail false = refl

-- sizes and nodes

pub size_onto : (bs ks : Kids) → size (onto bs ks) ≡ size bs + size ks
size_onto no_kids ks = omega arith
size_onto (kid r x bs) ks = let e = size_onto bs ks in omega arith

pub size_snoc : (bs : Kids) (r : Kept) (x : Live) → size (snoc bs r x) ≡ suc (size bs)
size_snoc no_kids r x = refl
size_snoc (kid s y bs) r x = ap suc (size_snoc bs r x)

pub nodes_onto : (bs ks : Kids) → nodes_in (onto bs ks) ≡ nodes_in bs + nodes_in ks
nodes_onto no_kids ks = omega arith
nodes_onto (kid r x bs) ks = let e = nodes_onto bs ks in omega arith

pub nodes_snoc : (bs : Kids) (r : Kept) (x : Live) → nodes_in (snoc bs r x) ≡ nodes_in bs + nodes x
nodes_snoc no_kids r x = omega arith
nodes_snoc (kid s y bs) r x = let e = nodes_snoc bs r x in omega arith

pub size_parts : (r : Kept) (ks : Kids) → size (passed_by r ks) + size (rest ks) ≡ size ks
size_parts r no_kids = omega arith
size_parts r (kid pending x ks) = omega arith
size_parts r (kid (ended b) x ks) = let e = size_parts r ks in omega arith

pub nodes_parts : (r : Kept) (ks : Kids) → nodes_in (passed_by r ks) + nodes_in (rest ks) ≡ nodes_in ks
nodes_parts r no_kids = omega arith
nodes_parts r (kid pending x ks) = omega arith
nodes_parts r (kid (ended b) x ks) = let e = nodes_parts r ks in omega arith

pub size_forgotten : (ks : Kids) → size (forgotten ks) ≡ size ks
size_forgotten no_kids = refl
size_forgotten (kid r x ks) = ap suc (size_forgotten ks)

pub nodes_forgotten : (ks : Kids) → nodes_in (forgotten ks) ≡ nodes_in ks
nodes_forgotten no_kids = refl
nodes_forgotten (kid r x ks) = ap (λ n. nodes x + n) (nodes_forgotten ks)

-- what is remembered

pub marks_snoc : (bs : Kids) (r : Kept) (x : Live) (rs : List Kept) → marks (snoc bs r x) ++ rs ≡ marks bs ++ (r ∷ rs)
marks_snoc no_kids r x rs = refl
marks_snoc (kid s y bs) r x rs = ap (λ (ks : List Kept). s ∷ ks) (marks_snoc bs r x rs)

pub forgotten_cell : (m : Bool) (ks : Kids) → group_cell m (forgotten ks) ≡ Nothing
forgotten_cell true no_kids = refl
forgotten_cell true (kid r x ks) = refl
forgotten_cell false ks = refl

pub snoc_cell : (bs : Kids) (r : Kept) (x : Live) → past_cell true (snoc bs r x) ≡ Child (nodes_in bs + nodes x)
snoc_cell no_kids r x = ap Child (omega arith)
snoc_cell (kid s y bs) r x = ap Child (let e = nodes_snoc bs r x in omega arith)

-- a group with memory is past what it remembers

lead_here : (p : Polarity) (bs : Kids) (x : Live) (ks : Kids) → Even (behind p true) bs → leading (onto bs (kid pending x ks)) ≡ bs
lead_here p no_kids x ks h = refl
lead_here on_pass (kid pending y bs) x ks h = let e = h.0 in absurd (cc)
lead_here on_fail (kid pending y bs) x ks h = let e = h.0 in absurd (cc)
lead_here p (kid (ended b) y bs) x ks h = ap (kid (ended b) y) (lead_here p bs x ks h.2)

lead_all : (p : Polarity) (bs : Kids) → Even (behind p true) bs → leading bs ≡ bs
lead_all p no_kids h = refl
lead_all on_pass (kid pending y bs) h = let e = h.0 in absurd (cc)
lead_all on_fail (kid pending y bs) h = let e = h.0 in absurd (cc)
lead_all p (kid (ended b) y bs) h = ap (kid (ended b) y) (lead_all p bs h.2)

pub cell_here : (p : Polarity) (m : Bool) (bs : Kids) (x : Live) (ks : Kids) → Even (behind p m) bs → past_cell m bs ≡ group_cell m (onto bs (kid pending x ks))
cell_here p true bs x ks h = ap ahead_cell (sym (lead_here p bs x ks h))
cell_here p false bs x ks h = refl

pub cell_all : (p : Polarity) (m : Bool) (bs : Kids) → Even (behind p m) bs → past_cell m bs ≡ group_cell m bs
cell_all p true bs h = ap ahead_cell (sym (lead_all p bs h))
cell_all p false bs h = refl

pub cell_entered : (p : Polarity) (m : Bool) (ks : Kids) → TidyGroup p m ks → group_cell m ks ≡ past_cell m (passed_by (behind p m) ks)
cell_entered p true ks h = ap ahead_cell (sym (passed_leading p true ks h))
cell_entered p false ks h = refl

ahead_is : (ks : Kids) → ahead_of (ahead_cell ks) ≡ nodes_in ks
ahead_is no_kids = refl
ahead_is (kid r x ks) = refl

pub entered_at : (p : Polarity) (m : Bool) (ks : Kids) → TidyGroup p m ks → ahead_of (group_cell m ks) ≡ nodes_in (passed_by (behind p m) ks)
entered_at p true ks h = ahead_is (leading ks) ∙ ap nodes_in (sym (passed_leading p true ks h))
entered_at p false no_kids h = refl
entered_at p false (kid pending x ks) h = refl
entered_at p false (kid (ended b) x ks) h = let e = h.0 in absurd (cc)

pub count_is : (n : ℕ) → count_of (loop_cell n) ≡ n
count_is zero = refl
count_is (suc n) = refl

module _ (s : Executive) (P : Leaf → Type 0) where
  pub laid_moved : (ms : List Memory) (i j : ℕ) (x : Live) → Laid s P ms i x → i ≡ j → Laid s P ms j x
  laid_moved ms i j x h e = rw (sym e) h

  pub laid_in_moved : (ms : List Memory) (i j : ℕ) (ks : Kids) → LaidIn s P ms i ks → i ≡ j → LaidIn s P ms j ks
  laid_in_moved ms i j ks h e = rw (sym e) h

  pub laid_onto : (ms : List Memory) (i : ℕ) (bs ks : Kids) → LaidIn s P ms i bs → LaidIn s P ms (i + nodes_in bs) ks → LaidIn s P ms i (onto bs ks)
  laid_onto ms i no_kids ks h k = laid_in_moved ms _ i ks k (omega arith)
  laid_onto ms i (kid r x bs) ks h k = (h.0, laid_onto ms (i + nodes x) bs ks h.1 (laid_in_moved ms _ _ ks k (omega arith)))

  pub laid_snoc : (ms : List Memory) (i : ℕ) (bs : Kids) (r : Kept) (x : Live) → LaidIn s P ms i bs → Laid s P ms (i + nodes_in bs) x → LaidIn s P ms i (snoc bs r x)
  laid_snoc ms i no_kids r x h k = (laid_moved ms _ i x k (omega arith), tt)
  laid_snoc ms i (kid q y bs) r x h k = (h.0, laid_snoc ms (i + nodes y) bs r x h.1 (laid_moved ms _ _ x k (omega arith)))

  pub laid_parts : (ms : List Memory) (i : ℕ) (r : Kept) (ks : Kids) → LaidIn s P ms i ks → LaidIn s P ms i (passed_by r ks) × LaidIn s P ms (i + nodes_in (passed_by r ks)) (rest ks)
  laid_parts ms i r no_kids h = (tt, tt)
  laid_parts ms i r (kid pending x ks) h = let e : i ≡ i + 0 = omega arith in (tt, laid_in_moved ms i (i + 0) (kid pending x ks) h e)
  laid_parts ms i r (kid (ended b) x ks) h =
      let e = laid_parts ms (i + nodes x) r ks h.1 in ((h.0, e.0), laid_in_moved ms _ _ (rest ks) e.1 (omega arith))

  pub laid_forgotten : (ms : List Memory) (i : ℕ) (ks : Kids) → LaidIn s P ms i ks → LaidIn s P ms i (forgotten ks)
  laid_forgotten ms i no_kids h = tt
  laid_forgotten ms i (kid r x ks) h = (h.0, laid_forgotten ms (i + nodes x) ks h.1)
