-- Where the nodes below each node end, as they are found from the last on.
use Rattle.std.proofs.Common.{◌≡◌, ℕ, zero, suc, ◌+◌, ◌-◌, ◌<◌, ◌≤◌, List, [], ◌∷◌, ◌++◌, length, take, drop, slice_index_or, slice_set, Some, Option, sym, refl, ap, ◌∙◌, subst, append_assoc, append-nil, arith}
use Rattle.std.proofs.lemmas.List.{length-append, length-drop, get_or-take, get_or-drop, drop_more, drop_all, length-take}
use Rattle.text.proofs.Options.{mapped_some, then_some}
use Rattle.text.proofs.Cuts.{some_same}
use Rattle.mission.specs.declared.node.Node.{Node}
use Rattle.mission.specs.declared.node.Node.TheVariants.{Group, Par, Not, Loop, Skill, Count, Ability}
use Rattle.mission.specs.Nodes.{arity}
use Rattle.mission.specs.declared.mission.Mission.{Mission}
use Rattle.mission.specs.Missions.{meaning}
use Rattle.rules.specs.Missions.{plan, made}
use Rattle.mission.specs.Trees.{Means, only, Leaf, skill, count, ability, Tree, leaf, group, par, neg, again, Trees, nil, cons, split, on_first, plant, grown}
use Rattle.sitting.specs.Ends.{span, spans, ends, all_ends, past}

-- one tree more is past
pub past_on : (n j : ℕ) (f : ℕ → ℕ) (i e w : ℕ) → j < n → e ≡ f i → past (n - j) f i ≡ w → past (n - (j + 1)) f e ≡ w
past_on n j f i e w h is all =
    let s : n - j ≡ suc (n - (j + 1)) = omega arith in
    ap (past (n - (j + 1)) f) is ∙ sym (ap (λ k. past k f i) s) ∙ all

mutual
  pub length_ends : (t : Tree) (i : ℕ) → length (ends t i) ≡ span t
  length_ends (leaf l) i = refl
  length_ends (group kind ts) i = ap suc (length_all_ends ts (i + 1))
  length_ends (par need ts) i = ap suc (length_all_ends ts (i + 1))
  length_ends (neg t) i = ap suc (length_ends t (i + 1))
  length_ends (again kind times t) i = ap suc (length_ends t (i + 1))

  pub length_all_ends : (ts : Trees) (i : ℕ) → length (all_ends ts i) ≡ spans ts
  length_all_ends nil i = refl
  length_all_ends (cons t ts) i = length-append (ends t i) (all_ends ts (i + span t)) ∙ (let a = length_ends t i in let b = length_all_ends ts (i + span t) in omega arith)

-- the first place of a tree ends where the tree does
first_end : (t : Tree) (xs : List ℕ) (i : ℕ) → slice_index_or (ends t i ++ xs) 0 0 ≡ i + span t
first_end (leaf l) xs i = refl
first_end (group kind ts) xs i = omega arith
first_end (par need ts) xs i = omega arith
first_end (neg t) xs i = omega arith
first_end (again kind times t) xs i = omega arith

-- the first n trees and the others
pub split_ends : (n : ℕ) (ts : Trees) (p : Trees × Trees) → split n ts ≡ Some p → (i : ℕ) → all_ends ts i ≡ all_ends p.0 i ++ all_ends p.1 (i + spans p.0)
split_ends zero ts p e i =
    let q = some_same (nil, ts) p e in
    ap (all_ends ts) (let z : i ≡ i + 0 = omega arith in z) ∙ ap (λ (x : Trees × Trees). all_ends x.0 i ++ all_ends x.1 (i + spans x.0)) q
split_ends (suc n) nil p e i = cc
split_ends (suc n) (cons t ts) p e i =
    let m = mapped_some (λ (q : Trees × Trees). (cons t q.0, q.1)) (split n ts) p e in
    let r = split_ends n ts m.0 m.1 (i + span t) in
    let far : (i + span t) + spans m.0.0 ≡ i + (span t + spans m.0.0) = omega arith in
    ap (λ xs. ends t i ++ xs) r
    ∙ ap (λ k. ends t i ++ (all_ends m.0.0 (i + span t) ++ all_ends m.0.1 k)) far
    ∙ sym (append_assoc (ends t i) (all_ends m.0.0 (i + span t)) (all_ends m.0.1 (i + (span t + spans m.0.0))))
    ∙ ap (λ (x : Trees × Trees). all_ends x.0 i ++ all_ends x.1 (i + spans x.0)) m.2

-- behind a tree the ends are those of the others
behind_end : (xs ys : List ℕ) (j : ℕ) → slice_index_or (xs ++ ys) (length xs + j) 0 ≡ slice_index_or ys j 0
behind_end [] ys j = ap (λ k. slice_index_or ys k 0) (let z : 0 + j ≡ j = omega arith in z)
behind_end (x ∷ xs) ys j = ap (λ k. slice_index_or (x ∷ (xs ++ ys)) k 0) (let z : suc (length xs) + j ≡ suc (length xs + j) = omega arith in z) ∙ behind_end xs ys j

-- the ends of some trees, read by a function
abbrev Reads : (ℕ → ℕ) → Trees → ℕ → Type 0
Reads f ts i = (j : ℕ) → j < spans ts → f (i + j) ≡ slice_index_or (all_ends ts i) j 0

reads_rest : (f : ℕ → ℕ) (t : Tree) (ts : Trees) (i : ℕ) → Reads f (cons t ts) i → Reads f ts (i + span t)
reads_rest f t ts i h j l =
    let far : (i + span t) + j ≡ i + (span t + j) = omega arith in
    let len = length_ends t i in
    ap f far ∙ h (span t + j) (omega arith) ∙ ap (λ k. slice_index_or (ends t i ++ all_ends ts (i + span t)) (k + j) 0) (sym len) ∙ behind_end (ends t i) (all_ends ts (i + span t)) j

span_some : (t : Tree) → 0 < span t
span_some (leaf l) = omega arith
span_some (group kind ts) = omega arith
span_some (par need ts) = omega arith
span_some (neg t) = omega arith
span_some (again kind times t) = omega arith

-- past the first n trees
pub past_split : (n : ℕ) (ts : Trees) (p : Trees × Trees) → split n ts ≡ Some p → (f : ℕ → ℕ) (i : ℕ) → Reads f ts i → past n f i ≡ i + spans p.0
past_split zero ts p e f i h =
    let q = some_same (nil, ts) p e in
    (let z : i ≡ i + 0 = omega arith in z) ∙ ap (λ (x : Trees × Trees). i + spans x.0) q
past_split (suc n) nil p e f i h = cc
past_split (suc n) (cons t ts) p e f i h =
    let m = mapped_some (λ (q : Trees × Trees). (cons t q.0, q.1)) (split n ts) p e in
    let some = span_some t in
    let first : f i ≡ i + span t = ap f (let z : i ≡ i + 0 = omega arith in z) ∙ h 0 (omega arith) ∙ first_end t (all_ends ts (i + span t)) i in
    let far : (i + span t) + spans m.0.0 ≡ i + (span t + spans m.0.0) = omega arith in
    ap (past n f) first
    ∙ past_split n ts m.0 m.1 f (i + span t) (reads_rest f t ts i h)
    ∙ far
    ∙ ap (λ (x : Trees × Trees). i + spans x.0) m.2

split_spans : (n : ℕ) (ts : Trees) (p : Trees × Trees) → split n ts ≡ Some p → spans p.0 + spans p.1 ≡ spans ts
split_spans zero ts p e = ap (λ (x : Trees × Trees). spans x.0 + spans x.1) (sym (some_same (nil, ts) p e)) ∙ (let z : 0 + spans ts ≡ spans ts = omega arith in z)
split_spans (suc n) nil p e = cc
split_spans (suc n) (cons t ts) p e =
    let m = mapped_some (λ (q : Trees × Trees). (cons t q.0, q.1)) (split n ts) p e in
    let r = split_spans n ts m.0 m.1 in
    ap (λ (x : Trees × Trees). spans x.0 + spans x.1) (sym m.2) ∙ (let z : (span t + spans m.0.0) + spans m.0.1 ≡ span t + spans ts = omega arith in z)

first_spans : (g : Tree → Tree) (ts us : Trees) → ((t : Tree) → span (g t) ≡ suc (span t)) → on_first g ts ≡ Some us → spans us ≡ suc (spans ts)
first_spans g nil us size e = cc
first_spans g (cons t ts) us size e = let s = size t in ap spans (sym (some_same (cons (g t) ts) us e)) ∙ (let z : span (g t) + spans ts ≡ suc (span t + spans ts) = omega arith in z)

leaf_spans : (l : Leaf) (ts us : Trees) → ◌≡◌ {A = Option Trees} (Some (cons (leaf l) ts)) (Some us) → spans us ≡ suc (spans ts)
leaf_spans l ts us e = ap spans (sym (some_same (cons (leaf l) ts) us e)) ∙ (let z : 1 + spans ts ≡ suc (spans ts) = omega arith in z)

plant_spans : (n : Node) (ts us : Trees) → plant n ts ≡ Some us → spans us ≡ suc (spans ts)
plant_spans (Group k kids) ts us e =
    let m = mapped_some (λ (p : Trees × Trees). cons (group k p.0) p.1) (split kids ts) us e in
    let r = split_spans kids ts m.0 m.1 in
    ap spans (sym m.2) ∙ (let z : suc (spans m.0.0) + spans m.0.1 ≡ suc (spans ts) = omega arith in z)
plant_spans (Par kids need) ts us e =
    let m = mapped_some (λ (p : Trees × Trees). cons (par need p.0) p.1) (split kids ts) us e in
    let r = split_spans kids ts m.0 m.1 in
    ap spans (sym m.2) ∙ (let z : suc (spans m.0.0) + spans m.0.1 ≡ suc (spans ts) = omega arith in z)
plant_spans Not ts us e = first_spans neg ts us (λ t. refl) e
plant_spans (Loop k n) ts us e = first_spans (again k n) ts us (λ t. refl) e
plant_spans (Skill k d t) ts us e = leaf_spans (skill k d t) ts us e
plant_spans (Count k t) ts us e = leaf_spans (count k t) ts us e
plant_spans (Ability k t) ts us e = leaf_spans (ability k t) ts us e

grown_spans : (ns : List Node) (ts : Trees) → grown ns ≡ Some ts → spans ts ≡ length ns
grown_spans [] ts e = ap spans (sym (some_same nil ts e))
grown_spans (n ∷ ns) ts e =
    let s = then_some (grown ns) (plant n) ts e in
    plant_spans n s.0 ts s.2 ∙ ap suc (grown_spans ns s.0 s.1)

row_ends : (kids : ℕ) (ts : Trees) (p : Trees × Trees) → split kids ts ≡ Some p → (f : ℕ → ℕ) (i : ℕ) → Reads f ts (i + 1) → ((i + 1) + spans p.0) ∷ (all_ends p.0 (i + 1) ++ all_ends p.1 (i + suc (spans p.0))) ≡ past kids f (i + 1) ∷ all_ends ts (i + 1)
row_ends kids ts p e f i h =
    let far : i + suc (spans p.0) ≡ (i + 1) + spans p.0 = omega arith in
    ap (λ k. ((i + 1) + spans p.0) ∷ (all_ends p.0 (i + 1) ++ all_ends p.1 k)) far
    ∙ ap (λ xs. ((i + 1) + spans p.0) ∷ xs) (sym (split_ends kids ts p e (i + 1)))
    ∙ ap (λ k. k ∷ all_ends ts (i + 1)) (sym (past_split kids ts p e f (i + 1) h))

first_ends : (g : Tree → Tree) (ts us : Trees) (f : ℕ → ℕ) (i : ℕ) → ((t : Tree) (xs : List ℕ) → ends (g t) i ++ xs ≡ ((i + 1) + span t) ∷ (ends t (i + 1) ++ xs)) → ((t : Tree) → span (g t) ≡ suc (span t)) → on_first g ts ≡ Some us → Reads f ts (i + 1) → all_ends us i ≡ past 1 f (i + 1) ∷ all_ends ts (i + 1)
first_ends g nil us f i own size e h = cc
first_ends g (cons t ts) us f i own size e h =
    let some = span_some t in
    let q = some_same (cons (g t) ts) us e in
    let first : f (i + 1) ≡ (i + 1) + span t = ap f (let z : i + 1 ≡ (i + 1) + 0 = omega arith in z) ∙ h 0 (omega arith) ∙ first_end t (all_ends ts ((i + 1) + span t)) (i + 1) in
    let s = size t in
    let far : i + span (g t) ≡ (i + 1) + span t = omega arith in
    ap (λ x. all_ends x i) (sym q)
    ∙ own t (all_ends ts (i + span (g t)))
    ∙ ap (λ k. ((i + 1) + span t) ∷ (ends t (i + 1) ++ all_ends ts k)) far
    ∙ ap (λ k. k ∷ (ends t (i + 1) ++ all_ends ts ((i + 1) + span t))) (sym first)

leaf_ends : (l : Leaf) (ts us : Trees) (i : ℕ) → ◌≡◌ {A = Option Trees} (Some (cons (leaf l) ts)) (Some us) → all_ends us i ≡ (i + 1) ∷ all_ends ts (i + 1)
leaf_ends l ts us i e = ap (λ x. all_ends x i) (sym (some_same (cons (leaf l) ts) us e))

-- a node before the trees that follow it
pub plant_ends : (n : Node) (ts us : Trees) (f : ℕ → ℕ) (i : ℕ) → plant n ts ≡ Some us → Reads f ts (i + 1) → all_ends us i ≡ past (arity n) f (i + 1) ∷ all_ends ts (i + 1)
plant_ends (Group k kids) ts us f i e h =
    let m = mapped_some (λ (p : Trees × Trees). cons (group k p.0) p.1) (split kids ts) us e in
    ap (λ x. all_ends x i) (sym m.2) ∙ row_ends kids ts m.0 m.1 f i h
plant_ends (Par kids need) ts us f i e h =
    let m = mapped_some (λ (p : Trees × Trees). cons (par need p.0) p.1) (split kids ts) us e in
    ap (λ x. all_ends x i) (sym m.2) ∙ row_ends kids ts m.0 m.1 f i h
plant_ends Not ts us f i e h = first_ends neg ts us f i (λ t xs. refl) (λ t. refl) e h
plant_ends (Loop k n) ts us f i e h = first_ends (again k n) ts us f i (λ t xs. refl) (λ t. refl) e h
plant_ends (Skill k d t) ts us f i e h = leaf_ends (skill k d t) ts us i e
plant_ends (Count k t) ts us f i e h = leaf_ends (count k t) ts us i e
plant_ends (Ability k t) ts us f i e h = leaf_ends (ability k t) ts us i e

-- the ends of the places from i on are found
abbrev pub Found : List Node → List ℕ → ℕ → Type 0
Found ns es i = (ts : Trees) → grown (drop i ns) ≡ Some ts → drop i (take (length ns) es) ≡ all_ends ts i

found_list : (n i e : ℕ) (es : List ℕ) → i < n → n ≤ length es → drop i (take n (slice_set es i e)) ≡ e ∷ drop (i + 1) (take n es)
found_list zero i e es h l = absurd (omega arith)
found_list (suc n) i e [] h l = absurd (omega arith)
found_list (suc n) zero e (x ∷ es) h l = refl
found_list (suc n) (suc i) e (x ∷ es) h l =
    found_list n i e es (omega arith) (omega arith) ∙ ap (λ k. e ∷ drop k (x ∷ take n es)) (let z : suc (i + 1) ≡ suc i + 1 = omega arith in z)

found_reads : (ns : List Node) (es : List ℕ) (i : ℕ) (ts : Trees) → i ≤ length ns → grown (drop i ns) ≡ Some ts → drop i (take (length ns) es) ≡ all_ends ts i → Reads (λ j. slice_index_or es j 0) ts i
found_reads ns es i ts h g found j b =
    let long = grown_spans (drop i ns) ts g ∙ length-drop i ns in
    sym (get_or-take (length ns) es (i + j) 0 (omega arith)) ∙ sym (get_or-drop i (take (length ns) es) j 0) ∙ ap (λ xs. slice_index_or xs j 0) found

-- one place more
pub found_more : (ns : List Node) (es : List ℕ) (a i e : ℕ) → a ≡ i + 1 → i < length ns → length ns ≤ length es → e ≡ past (arity (slice_index_or ns i Not)) (λ j. slice_index_or es j 0) (i + 1) → Found ns es a → Found ns (slice_set es i e) i
found_more ns es a i e at h l is found us g =
    let n = slice_index_or ns i Not in
    let s = then_some (grown (drop (i + 1) ns)) (plant n) us (ap grown (sym (drop_more ns i Not h)) ∙ g) in
    let f = found s.0 (ap (λ k. grown (drop k ns)) at ∙ s.1) in
    let g : drop (i + 1) (take (length ns) es) ≡ all_ends s.0 (i + 1) = subst (λ k. drop k (take (length ns) es) ≡ all_ends s.0 k) at f in
    let r = found_reads ns es (i + 1) s.0 (omega arith) s.1 g in
    found_list (length ns) i e es h l
    ∙ ap (λ k. k ∷ drop (i + 1) (take (length ns) es)) is
    ∙ ap (λ xs. past (arity n) (λ j. slice_index_or es j 0) (i + 1) ∷ xs) g
    ∙ sym (plant_ends n s.0 us (λ j. slice_index_or es j 0) i s.2 r)

-- no place is left
pub found_none : (ns : List Node) (es : List ℕ) → Found ns es (length ns)
found_none ns es ts g =
    let q = some_same nil ts (ap grown (sym (drop_all (length ns) ns (omega arith))) ∙ g) in
    drop_all (length ns) (take (length ns) es) (let z = length-take (length ns) es in omega arith) ∙ ap (λ x. all_ends x (length ns)) q

only_ends : (ts : Trees) (t : Tree) → only ts ≡ Some t → all_ends ts 0 ≡ ends t 0
only_ends nil t e = cc
only_ends (cons u nil) t e = append-nil (ends u 0) ∙ ap (λ x. ends x 0) (some_same u t e)
only_ends (cons u (cons v vs)) t e = cc

-- the ends of the nodes of a mission
pub mission_ends : (m : Mission) (ns : List Node) (es : List ℕ) → ns ≡ (meaning m).nodes → ((ts : Trees) → grown ns ≡ Some ts → take (length ns) es ≡ all_ends ts 0) → Means (meaning m).nodes → take (length (meaning m).nodes) es ≡ ends (plan m).tree 0
mission_ends m ns es is h means =
    let s = then_some (grown (meaning m).nodes) only means.tree means.read in
    ap (λ (xs : List Node). take (length xs) es) (sym is) ∙ h s.0 (ap grown is ∙ s.1) ∙ only_ends s.0 means.tree s.2 ∙ sym (ap (λ o. ends (made o) 0) means.read)
