-- Flattening a tree and reading it back are inverse, and the nodes of a lawful mission make one tree.
use Rattle.std.proofs.Common.{◌≡◌, ℕ, zero, suc, ◌+◌, ◌-◌, ◌<◌, true, ◌⊎◌, List, [], ◌∷◌, ◌++◌, length, drop, replicate, pos, Some, None, Option, sym, refl, ap, ◌∙◌, subst, inl, inr, ⊎_elim, append_assoc, append-nil, arith}
use Rattle.std.specs.Prelude.{int_le}
use Rattle.std.specs.Option.{option_map}
use Rattle.std.proofs.lemmas.List.{drop_more, drop_all, length-append, length-replicate}
use Rattle.std.proofs.lemmas.List.Folds.{list_all-append}
use Rattle.std.proofs.lemmas.Int.{ints}
use Rattle.std.proofs.lemmas.Bool.{and_parts}
use Rattle.text.specs.Fields.{then}
use Rattle.text.specs.Numeral.{within}
use Rattle.text.proofs.Cuts.{some_same, then_some, mapped_some}
use Rattle.mission.specs.declared.breach.Breach.TheVariants.{Place}
use Rattle.mission.specs.declared.node.Node.{Node}
use Rattle.mission.specs.declared.node.Node.TheVariants.{Group, Par, Not, Loop, Skill, Count, Ability}
use Rattle.mission.specs.Lawful.{Shape, Lawful}
use Rattle.mission.specs.Lines.{raw, ranged, all_ranged}
use Rattle.mission.specs.Nodes.{arity}
use Rattle.mission.specs.Places.{node_at, taken, places}
use Rattle.mission.specs.Trees.{Leaf, skill, count, ability, Tree, leaf, group, par, neg, again, Trees, nil, cons, width, leaf_node, flatten, flattens, Populated, AllPopulated, split, on_first, plant, grown, only, tree_of, Means, Inverse}
use Rattle.mission.proofs.Places.{places_more, places_none}

abbrev join : Trees → Trees → Trees
join nil us = us
join (cons t ts) us = cons t (join ts us)

split_join : (ts us : Trees) → split (width ts) (join ts us) ≡ Some (ts, us)
split_join nil us = refl
split_join (cons t ts) us = ap (option_map (λ p. (cons t p.0, p.1))) (split_join ts us)

-- what is flattened is read back
planted_group : (k : _) (ts : Trees) (o : Option Trees) → then (option_map (join ts) o) (plant (Group k (width ts))) ≡ option_map (cons (group k ts)) o
planted_group k ts None = refl
planted_group k ts (Some us) = ap (option_map (λ p. cons (group k p.0) p.1)) (split_join ts us)

planted_par : (m : ℕ) (ts : Trees) (o : Option Trees) → then (option_map (join ts) o) (plant (Par (width ts) m)) ≡ option_map (cons (par m ts)) o
planted_par m ts None = refl
planted_par m ts (Some us) = ap (option_map (λ p. cons (par m p.0) p.1)) (split_join ts us)

planted_neg : (t : Tree) (o : Option Trees) → then (option_map (cons t) o) (plant Not) ≡ option_map (cons (neg t)) o
planted_neg t None = refl
planted_neg t (Some us) = refl

planted_again : (k : _) (n : ℕ) (t : Tree) (o : Option Trees) → then (option_map (cons t) o) (plant (Loop k n)) ≡ option_map (cons (again k n t)) o
planted_again k n t None = refl
planted_again k n t (Some us) = refl

planted_leaf : (l : Leaf) (o : Option Trees) → then o (plant (leaf_node l)) ≡ option_map (cons (leaf l)) o
planted_leaf (skill k d t) None = refl
planted_leaf (skill k d t) (Some us) = refl
planted_leaf (count k t) None = refl
planted_leaf (count k t) (Some us) = refl
planted_leaf (ability k t) None = refl
planted_leaf (ability k t) (Some us) = refl

joined_cons : (t : Tree) (ts : Trees) (o : Option Trees) → option_map (cons t) (option_map (join ts) o) ≡ option_map (join (cons t ts)) o
joined_cons t ts None = refl
joined_cons t ts (Some us) = refl

joined_nil : (o : Option Trees) → o ≡ option_map (join nil) o
joined_nil None = refl
joined_nil (Some us) = refl

mutual
  pub grown_flatten : (t : Tree) (ns : List Node) → grown (flatten t ++ ns) ≡ option_map (cons t) (grown ns)
  grown_flatten (leaf l) ns = planted_leaf l (grown ns)
  grown_flatten (group k ts) ns = ap (λ o. then o (plant (Group k (width ts)))) (grown_flattens ts ns) ∙ planted_group k ts (grown ns)
  grown_flatten (par m ts) ns = ap (λ o. then o (plant (Par (width ts) m))) (grown_flattens ts ns) ∙ planted_par m ts (grown ns)
  grown_flatten (neg t) ns = ap (λ o. then o (plant Not)) (grown_flatten t ns) ∙ planted_neg t (grown ns)
  grown_flatten (again k n t) ns = ap (λ o. then o (plant (Loop k n))) (grown_flatten t ns) ∙ planted_again k n t (grown ns)

  grown_flattens : (ts : Trees) (ns : List Node) → grown (flattens ts ++ ns) ≡ option_map (join ts) (grown ns)
  grown_flattens nil ns = joined_nil (grown ns)
  grown_flattens (cons t ts) ns =
      ap grown (append_assoc (flatten t) (flattens ts) ns) ∙ grown_flatten t (flattens ts ++ ns) ∙ ap (option_map (cons t)) (grown_flattens ts ns) ∙ joined_cons t ts (grown ns)

pub tree_back : (t : Tree) → tree_of (flatten t) ≡ Some t
tree_back t = ap (λ ns. then (grown ns) only) (sym (append-nil (flatten t))) ∙ ap (λ o. then o only) (grown_flatten t [])

-- what is read flattens to it
split_sound : (n : ℕ) (ts : Trees) (p : Trees × Trees) → split n ts ≡ Some p → (width p.0 ≡ n) × (flattens p.0 ++ flattens p.1 ≡ flattens ts)
split_sound zero ts p e = let q = some_same (nil, ts) p e in (ap (λ (x : Trees × Trees). width x.0) (sym q), ap (λ (x : Trees × Trees). flattens x.0 ++ flattens x.1) (sym q))
split_sound (suc n) nil p e = cc
split_sound (suc n) (cons t ts) p e =
    let m = mapped_some (λ (q : Trees × Trees). (cons t q.0, q.1)) (split n ts) p e in
    let r = split_sound n ts m.0 m.1 in (
      ap (λ (x : Trees × Trees). width x.0) (sym m.2) ∙ ap suc r.0,
      ap (λ (x : Trees × Trees). flattens x.0 ++ flattens x.1) (sym m.2) ∙ append_assoc (flatten t) (flattens m.0.0) (flattens m.0.1) ∙ ap (λ xs. flatten t ++ xs) r.1,
    )

on_first_sound : (f : Tree → Tree) (n : Node) (ts us : Trees) → ((t : Tree) → flatten (f t) ≡ n ∷ flatten t) → on_first f ts ≡ Some us → flattens us ≡ n ∷ flattens ts
on_first_sound f n nil us h e = cc
on_first_sound f n (cons t ts) us h e = ap flattens (sym (some_same (cons (f t) ts) us e)) ∙ ap (λ xs. xs ++ flattens ts) (h t)

plant_sound : (n : Node) (ts us : Trees) → plant n ts ≡ Some us → flattens us ≡ n ∷ flattens ts
plant_sound (Group k kids) ts us e =
    let m = mapped_some (λ (p : Trees × Trees). cons (group k p.0) p.1) (split kids ts) us e in
    let s = split_sound kids ts m.0 m.1 in
    ap flattens (sym m.2) ∙ ap (λ w. Group k w ∷ (flattens m.0.0 ++ flattens m.0.1)) s.0 ∙ ap (λ xs. Group k kids ∷ xs) s.1
plant_sound (Par kids need) ts us e =
    let m = mapped_some (λ (p : Trees × Trees). cons (par need p.0) p.1) (split kids ts) us e in
    let s = split_sound kids ts m.0 m.1 in
    ap flattens (sym m.2) ∙ ap (λ w. Par w need ∷ (flattens m.0.0 ++ flattens m.0.1)) s.0 ∙ ap (λ xs. Par kids need ∷ xs) s.1
plant_sound Not ts us e = on_first_sound neg Not ts us (λ t. refl) e
plant_sound (Loop k n) ts us e = on_first_sound (again k n) (Loop k n) ts us (λ t. refl) e
plant_sound (Skill k d t) ts us e = ap flattens (sym (some_same (cons (leaf (skill k d t)) ts) us e))
plant_sound (Count k t) ts us e = ap flattens (sym (some_same (cons (leaf (count k t)) ts) us e))
plant_sound (Ability k t) ts us e = ap flattens (sym (some_same (cons (leaf (ability k t)) ts) us e))

grown_sound : (ns : List Node) (ts : Trees) → grown ns ≡ Some ts → flattens ts ≡ ns
grown_sound [] ts e = ap flattens (sym (some_same nil ts e))
grown_sound (n ∷ ns) ts e =
    let s = then_some (grown ns) (plant n) ts e in
    plant_sound n s.0 ts s.2 ∙ ap (λ xs. n ∷ xs) (grown_sound ns s.0 s.1)

only_sound : (ts : Trees) (t : Tree) → only ts ≡ Some t → ts ≡ cons t nil
only_sound nil t e = cc
only_sound (cons u nil) t e = ap (λ x. cons x nil) (some_same u t e)
only_sound (cons u (cons v vs)) t e = cc

pub tree_forth : (ns : List Node) (t : Tree) → tree_of ns ≡ Some t → flatten t ≡ ns
tree_forth ns t e =
    let s = then_some (grown ns) only t e in
    sym (append-nil (flatten t)) ∙ ap flattens (sym (only_sound s.0 t s.2)) ∙ grown_sound ns s.0 s.1

pub inverse : Inverse
inverse = record { back = tree_back; forth = tree_forth }

-- nodes that fill open places make as many trees
abbrev Covers : List ℕ → List Node → Type 0
Covers [] [] = Unit {0}
Covers [] (n ∷ ns) = ⊥
Covers (l ∷ ls) [] = ⊥
Covers (l ∷ ls) (n ∷ ns) = Covers (taken (l ∷ ls) n) ns

split_some : (n : ℕ) (ts : Trees) (rest : ℕ) → width ts ≡ n + rest → (p : Trees × Trees) × (split n ts ≡ Some p) × (width p.1 ≡ rest)
split_some zero ts rest e = ((nil, ts), refl, (let q = e in omega arith))
split_some (suc n) nil rest e = absurd (omega arith)
split_some (suc n) (cons t ts) rest e =
    let r = split_some n ts rest (omega arith) in
    ((cons t r.0.0, r.0.1), ap (option_map (λ (p : Trees × Trees). (cons t p.0, p.1))) r.1, r.2)

on_first_some : (f : Tree → Tree) (ts : Trees) (rest : ℕ) → width ts ≡ 1 + rest → (us : Trees) × (on_first f ts ≡ Some us) × (width us ≡ suc rest)
on_first_some f nil rest e = absurd (omega arith)
on_first_some f (cons t ts) rest e = (cons (f t) ts, refl, (let q = e in omega arith))

plant_some : (n : Node) (ts : Trees) (rest : ℕ) → width ts ≡ arity n + rest → (us : Trees) × (plant n ts ≡ Some us) × (width us ≡ suc rest)
plant_some (Group k kids) ts rest e =
    let s = split_some kids ts rest e in
    (cons (group k s.0.0) s.0.1, ap (option_map (λ (p : Trees × Trees). cons (group k p.0) p.1)) s.1, ap suc s.2)
plant_some (Par kids need) ts rest e =
    let s = split_some kids ts rest e in
    (cons (par need s.0.0) s.0.1, ap (option_map (λ (p : Trees × Trees). cons (par need p.0) p.1)) s.1, ap suc s.2)
plant_some Not ts rest e = on_first_some neg ts rest e
plant_some (Loop k n) ts rest e = on_first_some (again k n) ts rest e
plant_some (Skill k d t) ts rest e = (cons (leaf (skill k d t)) ts, refl, (let q = e in omega arith))
plant_some (Count k t) ts rest e = (cons (leaf (count k t)) ts, refl, (let q = e in omega arith))
plant_some (Ability k t) ts rest e = (cons (leaf (ability k t)) ts, refl, (let q = e in omega arith))

grown_some : (ls : List ℕ) (ns : List Node) → Covers ls ns → (ts : Trees) × (grown ns ≡ Some ts) × (width ts ≡ length ls)
grown_some [] [] c = (nil, refl, refl)
grown_some [] (n ∷ ns) c = absurd c
grown_some (l ∷ ls) [] c = absurd c
grown_some (l ∷ ls) (n ∷ ns) c =
    let r = grown_some (replicate (arity n) (suc l) ++ ls) ns c in
    let long : width r.0 ≡ arity n + length ls = r.2 ∙ length-append (replicate (arity n) (suc l)) ls ∙ ap (λ k. k + length ls) (length-replicate (arity n) (suc l)) in
    let p = plant_some n r.0 (length ls) long in
    (p.0, ap (λ o. then o (plant n)) r.1 ∙ p.1, p.2)

-- the nodes of a lawful mission fill the one place that it begins with
covers_cons : (ls : List ℕ) (n : Node) (ns : List Node) → (ls ≡ [] → ⊥) → Covers (taken ls n) ns → Covers ls (n ∷ ns)
covers_cons [] n ns h c = h refl
covers_cons (l ∷ ls) n ns h c = c

covers_nil : (ls : List ℕ) → (((ls ≡ []) → ⊥) → ⊥) → Covers ls []
covers_nil [] h = tt
covers_nil (l ∷ ls) h = h (λ e. cc)

covers_from : (m : Shape) → Lawful m → (k i : ℕ) → i + k ≡ length m.nodes → 0 < i ⊎ (0 < k) → Covers (places m.nodes i) (drop i m.nodes)
covers_from m l zero i e b =
    let ns = m.nodes in
    let some : 0 < i = ⊎_elim (λ h. h) (λ h. absurd (omega arith)) b in
    let end : suc (i - 1) ≡ length ns = omega arith in
    let here : suc (i - 1) ≡ i = omega arith in
    subst (Covers (places ns i)) (sym (drop_all i ns (omega arith)))
    (covers_nil (places ns i) (λ h. l Place (i - 1) (omega arith) (inr (end, λ z. h (ap (places ns) (sym here) ∙ z)))))
covers_from m l (suc k) i e b =
    let ns = m.nodes in
    let inside : i < length ns = omega arith in
    subst (Covers (places ns i)) (sym (drop_more ns i Not inside))
    (covers_cons (places ns i) (node_at ns i) (drop (i + 1) ns) (λ z. l Place i inside (inl z))
    (subst (λ ls. Covers ls (drop (i + 1) ns)) (places_more ns i) (covers_from m l k (i + 1) (omega arith) (inl (omega arith)))))

one_tree : (ts : Trees) → width ts ≡ 1 → (t : Tree) × (ts ≡ cons t nil)
one_tree nil e = absurd (omega arith)
one_tree (cons t nil) e = (t, refl)
one_tree (cons t (cons u us)) e = absurd (omega arith)

-- in range, each group has a child
some_kids : (w : ℕ) → within (pos 1) (pos 32) (pos w) ≡ true → 0 < w
some_kids w h = let a = (and_parts (int_le (pos 1) (pos w)) _ h).0 in grind (arith, ints)

mutual
  populated : (t : Tree) → all_ranged (flatten t) ≡ true → Populated t
  populated (leaf l) h = tt
  populated (group k ts) h = let p = and_parts (ranged (raw (Group k (width ts)))) (all_ranged (flattens ts)) h in (some_kids (width ts) p.0, all_populated ts p.1)
  populated (par m ts) h =
      let p = and_parts (ranged (raw (Par (width ts) m))) (all_ranged (flattens ts)) h in
      let q = and_parts (within (pos 1) (pos 32) (pos (width ts))) _ p.0 in
      (some_kids (width ts) q.0, all_populated ts p.1)
  populated (neg t) h = populated t (and_parts true (all_ranged (flatten t)) h).1
  populated (again k n t) h = populated t (and_parts (ranged (raw (Loop k n))) (all_ranged (flatten t)) h).1

  all_populated : (ts : Trees) → all_ranged (flattens ts) ≡ true → AllPopulated ts
  all_populated nil h = tt
  all_populated (cons t ts) h =
      let p = and_parts (all_ranged (flatten t)) (all_ranged (flattens ts)) (sym (list_all-append (λ n. ranged (raw n)) (flatten t) (flattens ts)) ∙ h) in
      (populated t p.0, all_populated ts p.1)

pub means : (m : Shape) → Lawful m → 0 < length m.nodes → all_ranged m.nodes ≡ true → Means m.nodes
means m l some r =
    let ns = m.nodes in
    let c = subst (λ ls. Covers ls ns) (places_none ns) (covers_from m l (length ns) 0 (omega arith) (inr some)) in
    let g = grown_some (1 ∷ []) ns c in
    let o = one_tree g.0 g.2 in
    let read : tree_of ns ≡ Some o.0 = ap (λ x. then x only) g.1 ∙ ap only o.1 in
    let written = tree_forth ns o.0 read in
    record { tree = o.0; read = read; written = written; populated = populated o.0 (ap all_ranged written ∙ r) }
