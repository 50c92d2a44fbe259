-- The first fault of a text, from what each part of the reading says.
use Rattle.std.proofs.Common.{◌≡◌, ℕ, zero, suc, ◌+◌, ◌<◌, ◌≤◌, Bool, true, List, [], ◌∷◌, ◌++◌, map, length, get_or, ℤ, pos, nat_abs, Some, codes, Option, sym, refl, ap, ◌∙◌, subst, inl, inr, ⊎_elim, append_assoc, append-nil, arith}
use Rattle.std.specs.Option.{option_map}
use Rattle.std.proofs.lemmas.List.{length-map, get_or-map, length_push}
use Rattle.std.proofs.lemmas.Bool.{cases_lt, and_from}
use Rattle.std.proofs.lemmas.Int.{ints}
use Rattle.std.specs.Prelude.{int_le}
use Rattle.text.specs.Numeral.{within}
use Rattle.text.specs.Fields.{free, parted, then}
use Rattle.text.proofs.Cuts.{some_same, parted_here}
use Rattle.text.proofs.Ranges.{true_not_false}
use Rattle.mission.specs.declared.flaw.Flaw.{Flaw}
use Rattle.mission.specs.declared.flaw.Flaw.TheVariants.{Form, Range}
use Rattle.mission.specs.declared.line_fault.LineFault.{LineFault}
use Rattle.mission.specs.declared.node.Node.{Node}
use Rattle.mission.specs.declared.outline.Declared.{Declared}
use Rattle.mission.specs.declared.node.Node.TheVariants.{Not}
use Rattle.mission.specs.Faults.{flaw_number}
use Rattle.mission.specs.Lawful.{Shape}
use Rattle.mission.specs.Lines.{number_field, line, raw, ranged, all_ranged, Bad}
use Rattle.mission.specs.Texts.{ended, head_line, counts_line, abilities_line, nodes_line, node_line, heading, lines, text, declared, sized, InRange, skip, first_of, nth, Wrong, NodeFlawed, Flawed, FirstFlaw}
use Rattle.mission.specs.Reading.{Taken, Stopped, Caught}
use Rattle.mission.proofs.Places.{ranged_at}
use Rattle.mission.proofs.NodeLines.{ended_both, ended_append}
use Rattle.mission.proofs.OneText.{Clean, clean_nodes, free_number, one_number, same_range}

-- the first line of a text is cut off
first_cut : (l : List ℕ) (ls : List (List ℕ)) (t : List ℕ) → free 10 l ≡ true → parted 10 (ended (l ∷ ls) ++ t) ≡ Some (l, ended ls ++ t)
first_cut l ls t f = ap (parted 10) (append_assoc l (10 ∷ ended ls) t) ∙ parted_here 10 l (ended ls ++ t) f

-- the lines of a text that begins with them, and what follows them
pub skip_ended : (ls : List (List ℕ)) (t : List ℕ) → Clean ls → skip (length ls) (ended ls ++ t) ≡ Some t
unfolding skip
skip_ended [] t c = refl
skip_ended (l ∷ ls) t c = ap (λ o. then o (λ p. skip (length ls) p.1)) (first_cut l ls t c.0) ∙ skip_ended ls t c.1

pub nth_ended : (ls : List (List ℕ)) (t : List ℕ) (k : ℕ) → Clean ls → k < length ls → nth k (ended ls ++ t) ≡ Some (get_or ls k [])
unfolding skip
nth_ended [] t k c h = absurd (omega arith)
nth_ended (l ∷ ls) t zero c h = ap (option_map (λ p. p.0)) (first_cut l ls t c.0)
nth_ended (l ∷ ls) t (suc k) c h = ap (λ o. then (then o (λ p. skip k p.1)) first_of) (first_cut l ls t c.0) ∙ nth_ended ls t k c.1 (omega arith)

-- a text begins with clean lines, and this is left
pub record Begins (t : List ℕ) (ls : List (List ℕ)) (rest : List ℕ) : Type 0 where
  pub clean : Clean ls
  pub is : t ≡ ended ls ++ rest

clean_append : (ks ls : List (List ℕ)) → Clean ks → Clean ls → Clean (ks ++ ls)
clean_append [] ls c d = d
clean_append (k ∷ ks) ls c d = (c.0, clean_append ks ls c.1 d)

pub begin_all : (t rest after : List ℕ) (ks ls : List (List ℕ)) → Begins t ks rest → Clean ls → rest ≡ ended ls ++ after → Begins t (ks ++ ls) after
begin_all t rest after ks ls b c e =
    record { clean = clean_append ks ls b.clean c; is = b.is ∙ ap (λ r. ended ks ++ r) e ∙ ended_append ks ls after }

pub line_at : {t rest : List ℕ} {ls : List (List ℕ)} (k : ℕ) → Begins t ls rest → k < length ls → nth k t ≡ Some (get_or ls k [])
line_at {t} {rest} {ls} k b h = ap (nth k) b.is ∙ nth_ended ls rest k b.clean h

pub line_next : {t rest : List ℕ} {ls : List (List ℕ)} → Begins t ls rest → nth (length ls) t ≡ first_of rest
line_next {t} {rest} {ls} b = ap (nth (length ls)) b.is ∙ ap (λ o. then o first_of) (skip_ended ls rest b.clean)

pub rest_next : {t rest : List ℕ} {ls : List (List ℕ)} → Begins t ls rest → skip (length ls) t ≡ Some rest
rest_next {t} {rest} {ls} b = ap (skip (length ls)) b.is ∙ skip_ended ls rest b.clean

-- a line of its form, in range, has no flaw
pub not_wrong : {X : Type 0} (form : X → List ℕ) (good : X → Bool) (same : (x y : X) → form x ≡ form y → good x ≡ good y) (x : X) (l : Option (List ℕ)) (f : Flaw)
    → l ≡ Some (form x) → good x ≡ true → Wrong form good l f → ⊥
not_wrong form good same x l Form e g w = w x e
not_wrong form good same x l Range e g w =
    true_not_false (good x) g (same x w.0 (some_same (form x) (form w.0) (sym e ∙ w.1)) ∙ w.2)

-- on one line form comes before range
pub wrong_order : {X : Type 0} (form : X → List ℕ) (good : X → Bool) (l : Option (List ℕ)) (f g : Flaw) → Wrong form good l f → flaw_number g < flaw_number f → Wrong form good l g → ⊥
wrong_order form good l Form Form w h v = absurd (omega arith)
wrong_order form good l Form Range w h v = absurd (omega arith)
wrong_order form good l Range Form w h v = v w.0 w.1
wrong_order form good l Range Range w h v = absurd (omega arith)

pub wrong_at : {X : Type 0} (form : X → List ℕ) (good : X → Bool) (xs : List ℕ) (l : Option (List ℕ)) (f : Flaw) → l ≡ Some xs → Bad form good xs f → Wrong form good l f
wrong_at form good xs l Form e b = λ x q. b x (some_same xs (form x) (sym e ∙ q))
wrong_at form good xs l Range e b = (b.0, e ∙ ap Some b.1, b.2)

-- the first flaw, where no line before it has one
pub first_at : (t : List ℕ) (k : ℕ) (f : Flaw) → ((j : ℕ) (g : Flaw) → j < k → Flawed t j g → ⊥) → Flawed t k f
    → ((g : Flaw) → flaw_number g < flaw_number f → Flawed t k g → ⊥) → FirstFlaw t k f
first_at t k f before here lower =
    (here, λ j g s w. ⊎_elim (λ h. before j g h w) (λ h. lower g h.1 (subst (λ i. Flawed t i g) h.0 w)) s)

-- a text begins with clean lines that have no flaw, and this is left
pub record Headed (t : List ℕ) (ls : List (List ℕ)) (rest : List ℕ) : Type 0 where
  pub begins : Begins t ls rest
  pub before : (j : ℕ) (g : Flaw) → j < length ls → Flawed t j g → ⊥

pub headed : (t : List ℕ) → Headed t [] t
headed t = record { begins = record { clean = tt; is = refl }; before = λ j g h w. omega arith }

-- one line more, of its form and in range
pub headed_more : {X : Type 0} (form : X → List ℕ) (good : X → Bool) {t rest after : List ℕ} {ls : List (List ℕ)} (x : X) → ((x y : X) → form x ≡ form y → good x ≡ good y)
    → ((g : Flaw) → Flawed t (length ls) g → Wrong form good (nth (length ls) t) g)
    → Headed t ls rest → free 10 (form x) ≡ true → rest ≡ form x ++ (10 ∷ after) → good x ≡ true → Headed t (ls ++ (form x ∷ [])) after
headed_more form good {t} {rest} {after} {ls} x same flawed h f e d =
    let here : nth (length ls) t ≡ Some (form x) = line_next h.begins ∙ ap first_of e ∙ ap (option_map (λ p. p.0)) (parted_here 10 (form x) after f) in
    record {
      begins = begin_all t rest after ls (form x ∷ []) h.begins (f, tt) (e ∙ sym (append_assoc (form x) (10 ∷ []) after));
      before = λ j g l w.
          ⊎_elim
          (λ (lt : j < length ls). h.before j g lt w)
          (λ (ge : length ls ≤ j).
          let at : j ≡ length ls = omega (arith, length_push ls (form x)) in
          not_wrong form good same x (nth (length ls) t) g here d (flawed g (subst (λ i. Flawed t i g) at w)))
          (cases_lt j (length ls));
    }

pub number_more : (name : List ℕ) (good : ℤ → Bool) {t rest after : List ℕ} {ls : List (List ℕ)} (z : ℤ) → ((g : Flaw) → Flawed t (length ls) g → Wrong (number_field name) good (nth (length ls) t) g)
    → Headed t ls rest → free 10 name ≡ true → rest ≡ number_field name z ++ (10 ∷ after) → good z ≡ true → Headed t (ls ++ (number_field name z ∷ [])) after
number_more name good z flawed h f e d = headed_more (number_field name) good z (λ x y q. ap good (one_number name x y q)) flawed h (free_number name z f) e d

pub head_1 : (t after : List ℕ) → t ≡ head_line tt ++ (10 ∷ after) → Headed t (head_line tt ∷ []) after
head_1 t after e = headed_more head_line (λ u. true) tt (λ x y q. refl) (λ g w. w) (headed t) refl e refl

-- the next line has a flaw, which is the first
pub flaw_line : {X : Type 0} (form : X → List ℕ) (good : X → Bool) {t rest : List ℕ} {ls : List (List ℕ)} (f : LineFault) → ((g : Flaw) → Flawed t (length ls) g → Wrong form good (nth (length ls) t) g)
    → ((g : Flaw) → Wrong form good (nth (length ls) t) g → Flawed t (length ls) g) → Headed t ls rest → f.line ≡ length ls + 1 → Wrong form good (first_of rest) f.flaw → Caught t f
flaw_line form good {t} {rest} {ls} f flawed wrong h l w =
    let v = subst (λ o. Wrong form good o f.flaw) (sym (line_next h.begins)) w in
    (length ls, l, first_at t (length ls) f.flaw h.before (wrong f.flaw v) (λ g less u. wrong_order form good (nth (length ls) t) f.flaw g v less (flawed g u)))

-- the lines before the nodes, which declare a number of nodes in range
abbrev pub Head : List ℕ → ℕ → ℕ → ℕ → List ℕ → Type 0
Head t a b n rest = Headed t (lines a b n []) rest × (sized (pos n) ≡ true)

in_span : (lo hi n : ℕ) → lo ≤ n → n ≤ hi → within (pos lo) (pos hi) (pos n) ≡ true
in_span lo hi n l h =
    let a : int_le (pos lo) (pos n) ≡ true = grind (arith, ints) in
    let b : int_le (pos n) (pos hi) ≡ true = grind (arith, ints) in
    and_from _ _ a b

pub declared_ranged : (d : Declared) → (declared (pos d.counts) ≡ true) × (declared (pos d.abilities) ≡ true) × (sized (pos d.nodes) ≡ true)
declared_ranged d =
    (in_span 0 32 d.counts (omega arith) d.few_counts, in_span 0 32 d.abilities (omega arith) d.few_abilities, in_span 1 256 d.nodes d.some d.fits)

-- a text that begins with the lines of numbers in range
pub head_of : (t rest : List ℕ) (a b n : ℕ) → t ≡ ended (lines a b n []) ++ rest → declared (pos a) ≡ true → declared (pos b) ≡ true → sized (pos n) ≡ true → Head t a b n rest
head_of t rest a b n e c d s =
    let x = ended (nodes_line (pos n) ∷ []) in
    let y = ended (abilities_line (pos b) ∷ nodes_line (pos n) ∷ []) in
    let z = ended (counts_line (pos a) ∷ abilities_line (pos b) ∷ nodes_line (pos n) ∷ []) in
    let h₁ = head_1 t (z ++ rest) (e ∙ append_assoc (head_line tt) (10 ∷ z) rest) in
    let h₂ = number_more (codes "counts") declared (pos a) (λ g w. w) h₁ refl (append_assoc (counts_line (pos a)) (10 ∷ y) rest) c in
    let h₃ = number_more (codes "abilities") declared (pos b) (λ g w. w) h₂ refl (append_assoc (abilities_line (pos b)) (10 ∷ x) rest) d in
    (number_more (codes "nodes") sized (pos n) (λ g w. w) h₃ refl (append_assoc (nodes_line (pos n)) (10 ∷ []) rest) s, s)

pub head_read : (t rest : List ℕ) (d : Declared) → t ≡ ended (heading d) ++ rest → Head t d.counts d.abilities d.nodes rest
head_read t rest d e = let r = declared_ranged d in head_of t rest d.counts d.abilities d.nodes e r.0 r.1 r.2

-- node lines after the four
pub record Noded (t : List ℕ) (a b n : ℕ) (ns : List Node) (rest : List ℕ) : Type 0 where
  pub begins : Begins t (lines a b n ns) rest
  pub before : (j : ℕ) (g : Flaw) → j < 4 → Flawed t j g → ⊥
  pub size : sized (pos n) ≡ true
  pub each : all_ranged ns ≡ true

pub noded : (t start rest : List ℕ) (a b n : ℕ) (ns : List Node) → Head t a b n start → Taken start ns rest → Noded t a b n ns rest
noded t start rest a b n ns h k =
    record {
      begins = begin_all t start rest _ (map node_line ns) h.0.begins (clean_nodes ns) k.0;
      before = h.0.before;
      size = h.1;
      each = k.1;
    }

lines_long : (a b n : ℕ) (ns : List Node) → length (lines a b n ns) ≡ length ns + 4
lines_long a b n ns = let l = length-map ns node_line in omega arith

node_line_at : {t rest : List ℕ} {a b n : ℕ} {ns : List Node} (i : ℕ) → Noded t a b n ns rest → i < length ns → nth (i + 4) t ≡ Some (node_line (get_or ns i Not))
node_line_at {t} {rest} {a} {b} {n} {ns} i k h =
    let l = lines_long a b n ns in
    let e : i + 4 ≡ suc (suc (suc (suc i))) = omega arith in
    line_at (i + 4) k.begins (omega arith) ∙ ap (λ j. Some (get_or (lines a b n ns) j [])) e ∙ ap Some (get_or-map node_line ns i Not [] h)

declared_once : (t : List ℕ) (m n : ℕ) → nth 3 t ≡ Some (nodes_line (pos m)) → nth 3 t ≡ Some (nodes_line (pos n)) → m ≡ n
declared_once t m n e f = ap nat_abs (one_number (codes "nodes") (pos m) (pos n) (some_same _ _ (sym e ∙ f)))

-- no line that was taken has a flaw
pub none_before : {t rest : List ℕ} {a b n : ℕ} {ns : List Node} → Noded t a b n ns rest → length ns ≤ n → (j : ℕ) (g : Flaw) → j < length ns + 4 → Flawed t j g → ⊥
none_before k le zero g h w = k.before 0 g (omega arith) w
none_before k le (suc zero) g h w = k.before 1 g (omega arith) w
none_before k le (suc (suc zero)) g h w = k.before 2 g (omega arith) w
none_before k le (suc (suc (suc zero))) g h w = k.before 3 g (omega arith) w
none_before {t} {rest} {a} {b} {n} {ns} k le (suc (suc (suc (suc i)))) g h w =
    let inside : i < length ns = omega arith in
    let same = declared_once t n w.0 (line_at 3 k.begins (omega arith)) w.1 in
    ⊎_elim
    (λ x. not_wrong line ranged same_range (raw (get_or ns i Not)) (nth (i + 4) t) g (node_line_at i k inside) (ranged_at ns i k.each) x.1)
    (λ y. let eq = y.0 in absurd (omega arith))
    w.3

-- a flaw of the next node line is the first
pub flaw_next : {t rest : List ℕ} {a b n : ℕ} {ns : List Node} (f : Flaw) → Noded t a b n ns rest → length ns ≤ n → NodeFlawed t n (length ns) f
    → ((g : Flaw) → flaw_number g < flaw_number f → NodeFlawed t n (length ns) g → ⊥) → FirstFlaw t (suc (suc (suc (suc (length ns))))) f
flaw_next {t} {rest} {a} {b} {n} {ns} f k le w lower =
    let third = line_at 3 k.begins (omega arith) in
    first_at t (suc (suc (suc (suc (length ns))))) f (λ j g h v. none_before k le j g (omega arith) v) (n, third, k.size, w)
    (λ g h v. lower g h (subst (λ m. NodeFlawed t m (length ns) g) (declared_once t v.0 n v.1 third) v.3))

next_is : {t rest : List ℕ} {a b n : ℕ} {ns : List Node} → Noded t a b n ns rest → nth (length ns + 4) t ≡ first_of rest
next_is {t} {rest} {a} {b} {n} {ns} k = ap (λ j. nth j t) (sym (lines_long a b n ns)) ∙ line_next k.begins

rest_is : {t rest : List ℕ} {a b n : ℕ} {ns : List Node} → Noded t a b n ns rest → skip (length ns + 4) t ≡ Some rest
rest_is {t} {rest} {a} {b} {n} {ns} k = ap (λ j. skip j t) (sym (lines_long a b n ns)) ∙ rest_next k.begins

pub flaw_later : (t start : List ℕ) (a b n : ℕ) (f : LineFault) → Head t a b n start → Stopped start n f → Caught t f
flaw_later t start a b n f h s =
    let ns = s.0 in
    let rest = s.1 in
    let k = noded t start rest a b n ns h s.2 in
    let place : suc (suc (suc (suc (length ns)))) + 1 ≡ length ns + 5 = omega arith in (
      suc (suc (suc (suc (length ns)))),
      s.3 ∙ sym place,
      ⊎_elim
          (λ x.
          let lt = x.0 in
          let w = subst (λ l. Wrong line ranged l f.flaw) (sym (next_is k)) x.1 in
          flaw_next f.flaw k (omega arith) (inl (lt, w))
          (λ g less v. ⊎_elim (λ u. wrong_order line ranged (nth (length ns + 4) t) f.flaw g w less u.1) (λ u. let eq = u.0 in absurd (omega arith)) v))
          (λ y.
          let eq = y.0 in
          let one : flaw_number f.flaw ≡ 1 = ap flaw_number y.1 in
          flaw_next f.flaw k (omega arith) (inr (y.0, y.1, λ q. y.2 (some_same rest [] (sym (rest_is k) ∙ q))))
          (λ g less v. ⊎_elim (λ u. let lt = u.0 in absurd (omega arith)) (λ u. let two : flaw_number g ≡ 1 = ap flaw_number u.1 in absurd (omega arith)) v))
          s.4,
    )

-- the text of a mission in range has no flaw
pub whole_noded : (t : List ℕ) (m : Shape) → t ≡ text m → InRange m → Noded t m.counts m.abilities (length m.nodes) m.nodes []
whole_noded t m e r =
    let ns = ended (map node_line m.nodes) in
    let ls = lines m.counts m.abilities (length m.nodes) [] in
    noded t ns [] m.counts m.abilities (length m.nodes) m.nodes
    (head_of t ns m.counts m.abilities (length m.nodes) (e ∙ sym (ended_both ls (map node_line m.nodes))) r.few_counts r.few_abilities r.size)
    (sym (append-nil ns), r.each)

past_last : {t : List ℕ} {a b n : ℕ} {ns : List Node} → Noded t a b n ns [] → length ns ≡ n → (j : ℕ) (g : Flaw) → length ns + 4 ≤ j → Flawed t j g → ⊥
past_last k eq zero g h w = absurd (omega arith)
past_last k eq (suc zero) g h w = absurd (omega arith)
past_last k eq (suc (suc zero)) g h w = absurd (omega arith)
past_last k eq (suc (suc (suc zero))) g h w = absurd (omega arith)
past_last {t} {a} {b} {n} {ns} k eq (suc (suc (suc (suc i)))) g h w =
    let same = declared_once t n w.0 (line_at 3 k.begins (omega arith)) w.1 in
    ⊎_elim
    (λ x. let lt = x.0 in absurd (omega arith))
    (λ y. let i-is : i + 4 ≡ length ns + 4 = let q = y.0 in omega arith in y.2 (ap (λ j. skip j t) i-is ∙ rest_is k))
    w.3

pub no_flaw : (t : List ℕ) (m : Shape) → t ≡ text m → InRange m → (j : ℕ) (g : Flaw) → Flawed t j g → ⊥
no_flaw t m e r j g w =
    let k = whole_noded t m e r in
    ⊎_elim (λ (lt : j < length m.nodes + 4). none_before k (omega arith) j g lt w) (λ (ge : length m.nodes + 4 ≤ j). past_last k refl j g ge w) (cases_lt j (length m.nodes + 4))

-- nothing left after the nodes: the text is that of the mission
pub all_read : (t start : List ℕ) (a b n : ℕ) (ns : List Node) → Head t a b n start → Taken start ns [] → length ns ≡ n → t ≡ ended (lines a b (length ns) ns)
all_read t start a b n ns h k e =
    let d = noded t start [] a b n ns h k in
    d.begins.is ∙ append-nil (ended (lines a b n ns)) ∙ ap (λ l. ended (lines a b l ns)) (sym e)
