-- One mission a text: lines with their ends are told apart, and a line in range is the line of one node.
use Rattle.std.proofs.Common.{◌≡◌, ℕ, true, List, [], ◌∷◌, map, length, ℤ, pos, nat_abs, Some, None, codes, Option, sym, refl, ap, ◌∙◌, arith}
use Rattle.std.specs.Option.{option_map}
use Rattle.std.specs.List.{AllByRecursion}
use Rattle.std.proofs.lemmas.List.{append_cancel_left}
use Rattle.std.proofs.lemmas.Option.{some_pair_parts}
use Rattle.std.proofs.lemmas.Bool.{and_parts}
use Rattle.text.specs.Numeral.{numeral}
use Rattle.text.specs.Fields.{field, spaced, free, parted}
use Rattle.text.proofs.Cuts.{never, some_same, parted_here, free_append, free_numeral}
use Rattle.text.proofs.Numerals.{one_value}
use Rattle.entry.specs.declared.parts.Weight.{Weight}
use Rattle.entry.specs.declared.parts.CountThreshold.{CountThreshold}
use Rattle.entry.specs.declared.parts.AbilityThreshold.{AbilityThreshold}
use Rattle.entry.proofs.Same.{same_weight, same_count_threshold, same_ability_threshold}
use Rattle.mission.specs.declared.node.GroupKind.TheVariants.{Seq, Fall, Mseq, Mfall}
use Rattle.mission.specs.declared.node.LoopKind.TheVariants.{Retry, Repeat}
use Rattle.mission.specs.declared.node.Target.{Target}
use Rattle.mission.specs.declared.node.Target.TheVariants.{Nowhere, Count as CountKey, Ability as AbilityKey}
use Rattle.mission.specs.declared.node.Node.{Node}
use Rattle.mission.specs.declared.node.Node.TheVariants.{Group, Par, Not, Loop, Skill, Count, Ability}
use Rattle.mission.specs.declared.raw.NodeKind.{NodeKind}
use Rattle.mission.specs.declared.raw.NodeKind.TheVariants.{Group as KGroup, Par as KPar, Not as KNot, Loop as KLoop, Skill as KSkill, Count as KCount, Ability as KAbility}
use Rattle.mission.specs.declared.raw.RawTarget.{RawTarget}
use Rattle.mission.specs.declared.raw.RawTarget.TheVariants.{Nowhere as RNowhere, Count as RCountKey, Ability as RAbilityKey}
use Rattle.mission.specs.declared.raw.RawNode.{RawNode}
use Rattle.mission.specs.declared.raw.RawNode.TheVariants.{Group as RGroup, Par as RPar, Not as RNot, Loop as RLoop, Skill as RSkill, Count as RCount, Ability as RAbility}
use Rattle.mission.specs.Lawful.{Shape}
use Rattle.mission.specs.Lines.{kind_word, kind_line, number_field, or_none, into_word, key_of, weight_of, line, raw, raw_target, ranged, all_ranged}
use Rattle.mission.specs.Parsing.{parsed, kept_raw}
use Rattle.mission.specs.Texts.{ended, head_line, counts_line, abilities_line, nodes_line, node_line, lines, text, InRange}
use Rattle.mission.proofs.LineForms.{parsed_line, same_raw, ranged_kept}

-- no line holds the byte that ends it
free_spaced : (w : List ℕ) (fs : List (List ℕ)) → free 10 w ≡ true → AllByRecursion (λ f. free 10 f ≡ true) fs → free 10 (spaced w fs) ≡ true
free_spaced w [] h e = h
free_spaced w (f ∷ fs) h e = free_append 10 w (32 ∷ spaced f fs) h (free_spaced f fs e.0 e.1)

pub free_number : (name : List ℕ) (z : ℤ) → free 10 name ≡ true → free 10 (number_field name z) ≡ true
free_number name z h = free_append 10 name (61 ∷ numeral z) h (free_numeral 10 z (omega arith))

free_or_none : (name : List ℕ) (o : Option ℤ) → free 10 name ≡ true → free 10 (field name (or_none o)) ≡ true
free_or_none name None h = free_append 10 name (61 ∷ codes "none") h refl
free_or_none name (Some z) h = free_number name z h

free_kind : (k : NodeKind) → free 10 (field (codes "node") (kind_word k)) ≡ true
free_kind (KGroup Seq) = refl
free_kind (KGroup Fall) = refl
free_kind (KGroup Mseq) = refl
free_kind (KGroup Mfall) = refl
free_kind KPar = refl
free_kind KNot = refl
free_kind (KLoop Retry) = refl
free_kind (KLoop Repeat) = refl
free_kind KSkill = refl
free_kind KCount = refl
free_kind KAbility = refl

free_into : (t : RawTarget) → free 10 (field (codes "into") (into_word t)) ≡ true
free_into RNowhere = refl
free_into (RCountKey key) = refl
free_into (RAbilityKey key weight) = refl

free_kind_line : (k : NodeKind) (fs : List (List ℕ)) → AllByRecursion (λ f. free 10 f ≡ true) fs → free 10 (kind_line k fs) ≡ true
free_kind_line k fs e = free_spaced (field (codes "node") (kind_word k)) fs (free_kind k) e

pub free_line : (w : RawNode) → free 10 (line w) ≡ true
free_line (RGroup kind kids) = free_kind_line (KGroup kind) (number_field (codes "kids") kids ∷ []) (free_number (codes "kids") kids refl, tt)
free_line (RPar kids need) =
    free_kind_line KPar (number_field (codes "kids") kids ∷ number_field (codes "need") need ∷ []) (free_number (codes "kids") kids refl, (free_number (codes "need") need refl, tt))
free_line RNot = refl
free_line (RLoop kind times) = free_kind_line (KLoop kind) (number_field (codes "times") times ∷ []) (free_number (codes "times") times refl, tt)
free_line (RSkill skill device target) =
    free_kind_line KSkill
    (number_field (codes "skill") skill ∷ field (codes "device") (or_none device) ∷ field (codes "into") (into_word target)
    ∷ field (codes "key") (or_none (key_of target)) ∷ field (codes "weight") (or_none (weight_of target)) ∷ [])
    (free_number (codes "skill") skill refl, (free_or_none (codes "device") device refl, (free_into target, (free_or_none (codes "key") (key_of target) refl, (free_or_none (codes "weight") (weight_of target) refl, tt)))))
free_line (RCount key least) =
    free_kind_line KCount (number_field (codes "key") key ∷ number_field (codes "least") least ∷ []) (free_number (codes "key") key refl, (free_number (codes "least") least refl, tt))
free_line (RAbility key least over) =
    free_kind_line KAbility (number_field (codes "key") key ∷ number_field (codes "least") least ∷ number_field (codes "over") over ∷ [])
    (free_number (codes "key") key refl, (free_number (codes "least") least refl, (free_number (codes "over") over refl, tt)))

abbrev pub Clean : List (List ℕ) → Type 0
Clean ls = AllByRecursion (λ l. free 10 l ≡ true) ls

pub clean_nodes : (ns : List Node) → Clean (map node_line ns)
clean_nodes [] = tt
clean_nodes (n ∷ ns) = (free_line (raw n), clean_nodes ns)

clean_lines : (a b n : ℕ) (ns : List Node) → Clean (lines a b n ns)
clean_lines a b n ns =
    (refl, (free_number (codes "counts") (pos a) refl, (free_number (codes "abilities") (pos b) refl, (free_number (codes "nodes") (pos n) refl, clean_nodes ns))))

-- lines with their ends are told apart
pub one_lines : (ks ls : List (List ℕ)) → Clean ks → Clean ls → ended ks ≡ ended ls → ks ≡ ls
unfolding parted
one_lines [] [] c d e = refl
one_lines [] (l ∷ ls) c d e = never (ap (parted 10) e ∙ parted_here 10 l (ended ls) d.0)
one_lines (k ∷ ks) [] c d e = never (sym (ap (parted 10) e) ∙ parted_here 10 k (ended ks) c.0)
one_lines (k ∷ ks) (l ∷ ls) c d e =
    let q = some_pair_parts k l (ended ks) (ended ls) (sym (parted_here 10 k (ended ks) c.0) ∙ ap (parted 10) e ∙ parted_here 10 l (ended ls) d.0) in
    λ i. q.0 i ∷ one_lines ks ls c.1 d.1 q.1 i

-- a number field is told by its number
pub one_number : (name : List ℕ) (y z : ℤ) → number_field name y ≡ number_field name z → y ≡ z
one_number name y z e =
    let a = append_cancel_left name (61 ∷ numeral y) (61 ∷ numeral z) e in
    let b : numeral y ≡ numeral z = cc in
    one_value y z b

-- a raw line in range is that of one node: the parts of entries are told by their numbers
abbrev counted : Node → Option CountThreshold
counted (Group kind kids) = None
counted (Par kids need) = None
counted Not = None
counted (Loop kind times) = None
counted (Skill skill device target) = None
counted (Count key least) = Some least
counted (Ability key least) = None

abbrev able : Node → Option AbilityThreshold
able (Group kind kids) = None
able (Par kids need) = None
able Not = None
able (Loop kind times) = None
able (Skill skill device target) = None
able (Count key least) = None
able (Ability key least) = Some least

abbrev heavy : Target → Option Weight
heavy Nowhere = None
heavy (CountKey key) = None
heavy (AbilityKey key weight) = Some weight

abbrev weighed : Node → Option Weight
weighed (Group kind kids) = None
weighed (Par kids need) = None
weighed Not = None
weighed (Loop kind times) = None
weighed (Skill skill device target) = heavy target
weighed (Count key least) = None
weighed (Ability key least) = None

abbrev aimed : Option Weight → RawTarget → Option Target
aimed w RNowhere = Some Nowhere
aimed w (RCountKey key) = Some (CountKey (nat_abs key))
aimed w (RAbilityKey key weight) = option_map (AbilityKey (nat_abs key)) w

abbrev rebuilt : Option CountThreshold → Option AbilityThreshold → Option Weight → RawNode → Option Node
rebuilt c a w (RGroup kind kids) = Some (Group kind (nat_abs kids))
rebuilt c a w (RPar kids need) = Some (Par (nat_abs kids) (nat_abs need))
rebuilt c a w RNot = Some Not
rebuilt c a w (RLoop kind times) = Some (Loop kind (nat_abs times))
rebuilt c a w (RSkill skill device target) = option_map (Skill (nat_abs skill) (option_map nat_abs device)) (aimed w target)
rebuilt c a w (RCount key least) = option_map (Count (nat_abs key)) c
rebuilt c a w (RAbility key least over) = option_map (Ability (nat_abs key)) a

device_back : (o : Option ℕ) → option_map nat_abs (option_map pos o) ≡ o
device_back None = refl
device_back (Some d) = refl

aimed_back : (t : Target) → aimed (heavy t) (raw_target t) ≡ Some t
aimed_back Nowhere = refl
aimed_back (CountKey key) = refl
aimed_back (AbilityKey key weight) = refl

rebuilt_back : (n : Node) → rebuilt (counted n) (able n) (weighed n) (raw n) ≡ Some n
rebuilt_back (Group kind kids) = refl
rebuilt_back (Par kids need) = refl
rebuilt_back Not = refl
rebuilt_back (Loop kind times) = refl
rebuilt_back (Skill skill device target) =
    ap (λ d. option_map (Skill skill d) (aimed (heavy target) (raw_target target))) (device_back device) ∙ ap (option_map (Skill skill device)) (aimed_back target)
rebuilt_back (Count key least) = refl
rebuilt_back (Ability key least) = refl

abbrev least_of : RawNode → Option ℤ
least_of (RGroup kind kids) = None
least_of (RPar kids need) = None
least_of RNot = None
least_of (RLoop kind times) = None
least_of (RSkill skill device target) = None
least_of (RCount key least) = Some least
least_of (RAbility key least over) = None

abbrev ratio_of : RawNode → Option (ℤ × ℤ)
ratio_of (RGroup kind kids) = None
ratio_of (RPar kids need) = None
ratio_of RNot = None
ratio_of (RLoop kind times) = None
ratio_of (RSkill skill device target) = None
ratio_of (RCount key least) = None
ratio_of (RAbility key least over) = Some (least, over)

abbrev load_of : RawNode → Option ℤ
load_of (RGroup kind kids) = None
load_of (RPar kids need) = None
load_of RNot = None
load_of (RLoop kind times) = None
load_of (RSkill skill device target) = weight_of target
load_of (RCount key least) = None
load_of (RAbility key least over) = None

counted_least : (n : Node) → option_map (λ (t : CountThreshold). t.least.value) (counted n) ≡ least_of (raw n)
counted_least (Group kind kids) = refl
counted_least (Par kids need) = refl
counted_least Not = refl
counted_least (Loop kind times) = refl
counted_least (Skill skill device target) = refl
counted_least (Count key least) = refl
counted_least (Ability key least) = refl

able_ratio : (n : Node) → option_map (λ (t : AbilityThreshold). (t.least.value, pos t.over.value)) (able n) ≡ ratio_of (raw n)
able_ratio (Group kind kids) = refl
able_ratio (Par kids need) = refl
able_ratio Not = refl
able_ratio (Loop kind times) = refl
able_ratio (Skill skill device target) = refl
able_ratio (Count key least) = refl
able_ratio (Ability key least) = refl

heavy_load : (t : Target) → option_map (λ (w : Weight). pos w.value) (heavy t) ≡ weight_of (raw_target t)
heavy_load Nowhere = refl
heavy_load (CountKey key) = refl
heavy_load (AbilityKey key weight) = refl

weighed_load : (n : Node) → option_map (λ (w : Weight). pos w.value) (weighed n) ≡ load_of (raw n)
weighed_load (Group kind kids) = refl
weighed_load (Par kids need) = refl
weighed_load Not = refl
weighed_load (Loop kind times) = refl
weighed_load (Skill skill device target) = heavy_load target
weighed_load (Count key least) = refl
weighed_load (Ability key least) = refl

-- an optional part is told by what a function tells it by
same_mapped : {X Y : Type 0} (f : X → Y) → ((x y : X) → f x ≡ f y → x ≡ y) → (o p : Option X) → option_map f o ≡ option_map f p → o ≡ p
same_mapped f one None None e = refl
same_mapped f one None (Some y) e = never e
same_mapped f one (Some x) None e = never (sym e)
same_mapped f one (Some x) (Some y) e = ap Some (one x y (some_same (f x) (f y) e))

pos_same : (a b : ℕ) → pos a ≡ pos b → a ≡ b
pos_same a b e = ap nat_abs e

pub one_node : (n m : Node) → raw n ≡ raw m → n ≡ m
one_node n m e =
    let c = same_mapped (λ (t : CountThreshold). t.least.value) same_count_threshold (counted n) (counted m) (counted_least n ∙ ap least_of e ∙ sym (counted_least m)) in
    let a = same_mapped (λ (t : AbilityThreshold). (t.least.value, pos t.over.value))
    (λ s t q. same_ability_threshold s t (ap (λ (p : ℤ × ℤ). p.0) q) (pos_same s.over.value t.over.value (ap (λ (p : ℤ × ℤ). p.1) q)))
    (able n) (able m) (able_ratio n ∙ ap ratio_of e ∙ sym (able_ratio m)) in
    let w = same_mapped (λ (w : Weight). pos w.value) (λ v w q. same_weight v w (pos_same v.value w.value q)) (weighed n) (weighed m) (weighed_load n ∙ ap load_of e ∙ sym (weighed_load m)) in
    some_same n m (sym (rebuilt_back n) ∙ (λ i. rebuilt (c i) (a i) (w i) (e i)) ∙ rebuilt_back m)

-- and of a line in range
pub one_raw : (v w : RawNode) → line v ≡ line w → kept_raw v ≡ kept_raw w
one_raw v w e = some_same (kept_raw v) (kept_raw w) (sym (parsed_line v) ∙ ap parsed e ∙ parsed_line w)

pub same_range : (v w : RawNode) → line v ≡ line w → ranged v ≡ ranged w
same_range v w e = sym (ranged_kept v) ∙ ap ranged (one_raw v w e) ∙ ranged_kept w

one_node_line : (n m : Node) → ranged (raw n) ≡ true → ranged (raw m) ≡ true → node_line n ≡ node_line m → n ≡ m
one_node_line n m g h e = one_node n m (sym (same_raw (raw n) g) ∙ one_raw (raw n) (raw m) e ∙ same_raw (raw m) h)

cons_same : {X : Type 0} (x y : X) (xs ys : List X) → ◌≡◌ {A = List X} (x ∷ xs) (y ∷ ys) → (x ≡ y) × (xs ≡ ys)
cons_same x y xs ys e = (cc, cc)

no_cons : {X Y : Type 0} (x : X) (xs : List X) → ◌≡◌ {A = List X} [] (x ∷ xs) → Y
no_cons x xs e = absurd cc

one_nodes : (ns ms : List Node) → all_ranged ns ≡ true → all_ranged ms ≡ true → map node_line ns ≡ map node_line ms → ns ≡ ms
one_nodes [] [] g h e = refl
one_nodes [] (m ∷ ms) g h e = no_cons (node_line m) (map node_line ms) e
one_nodes (n ∷ ns) [] g h e = no_cons (node_line n) (map node_line ns) (sym e)
one_nodes (n ∷ ns) (m ∷ ms) g h e =
    let p = cons_same (node_line n) (node_line m) (map node_line ns) (map node_line ms) e in
    let a = and_parts (ranged (raw n)) (all_ranged ns) g in
    let b = and_parts (ranged (raw m)) (all_ranged ms) h in
    λ i. one_node_line n m a.0 b.0 p.0 i ∷ one_nodes ns ms a.1 b.1 p.1 i

-- one mission a text
pub one_mission : (l m : Shape) → InRange l → InRange m → text l ≡ text m → l ≡ m
one_mission l m g h e =
    let ls = lines l.counts l.abilities (length l.nodes) l.nodes in
    let ms = lines m.counts m.abilities (length m.nodes) m.nodes in
    let all = one_lines ls ms (clean_lines l.counts l.abilities (length l.nodes) l.nodes) (clean_lines m.counts m.abilities (length m.nodes) m.nodes) e in
    let p = cons_same (head_line tt) (head_line tt) _ _ all in
    let q = cons_same (counts_line (pos l.counts)) (counts_line (pos m.counts)) _ _ p.1 in
    let r = cons_same (abilities_line (pos l.abilities)) (abilities_line (pos m.abilities)) _ _ q.1 in
    let s = cons_same (nodes_line (pos (length l.nodes))) (nodes_line (pos (length m.nodes))) (map node_line l.nodes) (map node_line m.nodes) r.1 in
    let a = pos_same l.counts m.counts (one_number (codes "counts") (pos l.counts) (pos m.counts) q.0) in
    let b = pos_same l.abilities m.abilities (one_number (codes "abilities") (pos l.abilities) (pos m.abilities) r.0) in
    let n = one_nodes l.nodes m.nodes g.each h.each s.1 in
    λ i. record { counts = a i; abilities = b i; nodes = n i }
