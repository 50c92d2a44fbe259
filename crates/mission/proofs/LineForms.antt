-- One line a node: a line is read as w, as numbers are held, exactly when it is the line of w.
use Rattle.std.proofs.Common.{◌≡◌, ℕ, Bool, true, ◌&&◌, List, [], ◌∷◌, ℤ, pos, negsuc, Some, None, Ok, Err, codes, Option, Result, sym, refl, ap, ◌∙◌, subst, ⊎_elim}
use Rattle.std.specs.List.{find}
use Rattle.std.specs.Option.{option_map}
use Rattle.std.specs.Str.{bytes_eq}
use Rattle.std.proofs.lemmas.Slice.Eq.{bytes_eq-Decides}
use Rattle.std.proofs.lemmas.Bool.{cond-true, cond-false, cases_Bool, and_parts}
use Rattle.text.specs.Numeral.{kept, within, valued, above}
use Rattle.text.specs.Fields.{Rest, onto, field, spaced, free, then, word, number, last, one_ended, pair_ended}
use Rattle.text.proofs.Cuts.{never, some_same, then_some, mapped_some, word_onto, word_sound, number_onto, number_sound, number_or_onto_number, number_or_onto_word, number_or_sound, last_some, one_ended_onto, one_ended_sound, pair_ended_onto, pair_ended_sound}
use Rattle.text.proofs.Ranges.{within_kept, same_kept}
use Rattle.mission.specs.declared.flaw.Flaw.{Flaw}
use Rattle.mission.specs.declared.node.GroupKind.TheVariants.{Seq, Fall, Mseq, Mfall}
use Rattle.mission.specs.declared.node.LoopKind.TheVariants.{Retry, Repeat}
use Rattle.mission.specs.declared.node.Node.{Node}
use Rattle.mission.specs.declared.raw.NodeKind.{NodeKind}
use Rattle.mission.specs.declared.raw.NodeKind.TheVariants.{Group as KGroup, Par as KPar, Not as KNot, Loop as KLoop, Skill as KSkill, Count as KCount, Ability as KAbility}
use Rattle.mission.specs.declared.raw.RawTarget.{RawTarget}
use Rattle.mission.specs.declared.raw.RawTarget.TheVariants.{Nowhere as RNowhere, Count as RCountKey, Ability as RAbilityKey}
use Rattle.mission.specs.declared.raw.RawNode.{RawNode}
use Rattle.mission.specs.declared.raw.RawNode.TheVariants.{Group as RGroup, Par as RPar, Not as RNot, Loop as RLoop, Skill as RSkill, Count as RCount, Ability as RAbility}
use Rattle.mission.specs.Lines.{kind_word, number_field, or_none, into_word, key_of, weight_of, kind_line, line, key_ranged, device_ranged, target_ranged, ranged, raw, RangeJudged, Bad, LineJudged}
use Rattle.mission.specs.Parsing.{kinds, kind, target_of, maybe, target, skill, ability, filled, parsed, kept_target, kept_raw}

-- each kind is named by its word, and by no other
pub kind_named : (k : NodeKind) → kind (kind_word k) ≡ Some k
kind_named (KGroup Seq) = refl
kind_named (KGroup Fall) = refl
kind_named (KGroup Mseq) = refl
kind_named (KGroup Mfall) = refl
kind_named KPar = refl
kind_named KNot = refl
kind_named (KLoop Retry) = refl
kind_named (KLoop Repeat) = refl
kind_named KSkill = refl
kind_named KCount = refl
kind_named KAbility = refl

among_sound : (ks : List NodeKind) (w : List ℕ) (k : NodeKind) → find (λ j. bytes_eq w (kind_word j)) ks ≡ Some k → w ≡ kind_word k
among_sound [] w k e = never e
among_sound (j ∷ ks) w k e =
    ⊎_elim
    (λ t. (bytes_eq-Decides w (kind_word j)).0 t ∙ ap kind_word (some_same j k (sym (cond-true _ _ _ t) ∙ e)))
    (λ f. among_sound ks w k (sym (cond-false _ _ _ f) ∙ e))
    (cases_Bool (bytes_eq w (kind_word j)))

pub kind_sound : (w : List ℕ) (k : NodeKind) → kind w ≡ Some k → w ≡ kind_word k
kind_sound w k e = among_sound kinds w k e

free_kind : (k : NodeKind) → free 32 (field (codes "node") (kind_word k)) ≡ true
free_kind (KGroup Seq) = refl
free_kind (KGroup Fall) = refl
free_kind (KGroup Mseq) = refl
free_kind (KGroup Mfall) = refl
free_kind KPar = refl
free_kind KNot = refl
free_kind (KLoop Retry) = refl
free_kind (KLoop Repeat) = refl
free_kind KSkill = refl
free_kind KCount = refl
free_kind KAbility = refl

-- a line that begins with its kind is read on by that kind
parsed_onto : (k : NodeKind) (r : Rest) → parsed (onto (field (codes "node") (kind_word k)) r) ≡ filled r k
parsed_onto k r =
    ap (λ o. then o (λ p. then (kind p.0) (filled p.1))) (word_onto (codes "node") (kind_word k) r refl (free_kind k))
    ∙ ap (λ o. then o (filled r)) (kind_named k)

-- number or none
valued_none : valued (codes "none") ≡ None
unfolding valued above
valued_none = refl

maybe_onto : (name : List ℕ) (o : Option ℤ) (r : Rest) → free 61 name ≡ true → free 32 name ≡ true → free 32 (field name (codes "none")) ≡ true
    → maybe name (Some (onto (field name (or_none o)) r)) ≡ Some (option_map kept o, r)
maybe_onto name None r f g h = number_or_onto_word name (codes "none") r f h
maybe_onto name (Some z) r f g h = number_or_onto_number name (codes "none") z r f g valued_none

target_named : (t : RawTarget) → target_of (option_map kept (key_of t)) (option_map kept (weight_of t)) (into_word t) ≡ Some (kept_target t)
target_named RNowhere = refl
target_named (RCountKey key) = refl
target_named (RAbilityKey key weight) = refl

free_into : (t : RawTarget) → free 32 (field (codes "into") (into_word t)) ≡ true
free_into RNowhere = refl
free_into (RCountKey key) = refl
free_into (RAbilityKey key weight) = refl

target_line : (t : RawTarget) → target (Some (spaced (field (codes "into") (into_word t)) (field (codes "key") (or_none (key_of t)) ∷ field (codes "weight") (or_none (weight_of t)) ∷ []))) ≡ Some (kept_target t)
target_line t =
    ap (λ o. then o (λ (w : List ℕ × Rest). then (maybe (codes "key") w.1) (λ j. then (maybe (codes "weight") j.1) (λ v. then (last v.0 v.1) (λ u. target_of j.0 u w.0)))))
    (word_onto (codes "into") (into_word t) (Some (spaced (field (codes "key") (or_none (key_of t))) (field (codes "weight") (or_none (weight_of t)) ∷ []))) refl (free_into t))
    ∙ ap (λ o. then o (λ (j : Option ℤ × Rest). then (maybe (codes "weight") j.1) (λ v. then (last v.0 v.1) (λ u. target_of j.0 u (into_word t)))))
    (maybe_onto (codes "key") (key_of t) (Some (field (codes "weight") (or_none (weight_of t)))) refl refl refl)
    ∙ ap (λ o. then o (λ (v : Option ℤ × Rest). then (last v.0 v.1) (λ u. target_of (option_map kept (key_of t)) u (into_word t))))
    (maybe_onto (codes "weight") (weight_of t) None refl refl refl)
    ∙ target_named t

-- what stands after the first fields of a line
abbrev one_field : List ℕ → ℤ → Rest
one_field a z = Some (spaced (number_field a z) [])

abbrev two_fields : List ℕ → List ℕ → ℤ → ℤ → Rest
two_fields a b y z = Some (spaced (number_field a y) (number_field b z ∷ []))

abbrev target_text : RawTarget → List ℕ
target_text t = spaced (field (codes "into") (into_word t)) (field (codes "key") (or_none (key_of t)) ∷ field (codes "weight") (or_none (weight_of t)) ∷ [])

abbrev device_text : Option ℤ → RawTarget → List ℕ
device_text d t = onto (field (codes "device") (or_none d)) (Some (target_text t))

parsed_skill : (k : ℤ) (d : Option ℤ) (t : RawTarget) → skill (Some (onto (number_field (codes "skill") k) (Some (device_text d t)))) ≡ Some (kept_raw (RSkill k d t))
parsed_skill k d t =
    ap (λ o. then o (λ (k : ℤ × Rest). then (maybe (codes "device") k.1) (λ d. option_map (RSkill k.0 d.0) (target d.1))))
    (number_onto (codes "skill") k (Some (device_text d t)) refl refl)
    ∙ ap (λ o. then o (λ (d : Option ℤ × Rest). option_map (RSkill (kept k) d.0) (target d.1)))
    (maybe_onto (codes "device") d (Some (target_text t)) refl refl refl)
    ∙ ap (option_map (RSkill (kept k) (option_map kept d))) (target_line t)

parsed_ability : (key least over : ℤ) → ability (Some (onto (number_field (codes "key") key) (two_fields (codes "least") (codes "over") least over))) ≡ Some (kept_raw (RAbility key least over))
parsed_ability key least over =
    ap (λ o. then o (λ (p : ℤ × Rest). option_map (λ (q : ℤ × ℤ). RAbility p.0 q.0 q.1) (pair_ended (codes "least") (codes "over") p.1)))
    (number_onto (codes "key") key (two_fields (codes "least") (codes "over") least over) refl refl)
    ∙ ap (option_map (λ (q : ℤ × ℤ). RAbility (kept key) q.0 q.1)) (pair_ended_onto (codes "least") (codes "over") least over refl refl refl refl)

pub parsed_line : (w : RawNode) → parsed (line w) ≡ Some (kept_raw w)
parsed_line (RGroup kind kids) = parsed_onto (KGroup kind) (one_field (codes "kids") kids) ∙ ap (option_map (RGroup kind)) (one_ended_onto (codes "kids") kids refl refl)
parsed_line (RPar kids need) =
    parsed_onto KPar (two_fields (codes "kids") (codes "need") kids need)
    ∙ ap (option_map (λ (p : ℤ × ℤ). RPar p.0 p.1)) (pair_ended_onto (codes "kids") (codes "need") kids need refl refl refl refl)
parsed_line RNot = parsed_onto KNot None
parsed_line (RLoop kind times) = parsed_onto (KLoop kind) (one_field (codes "times") times) ∙ ap (option_map (RLoop kind)) (one_ended_onto (codes "times") times refl refl)
parsed_line (RSkill k d t) = parsed_onto KSkill (Some (onto (number_field (codes "skill") k) (Some (device_text d t)))) ∙ parsed_skill k d t
parsed_line (RCount key least) =
    parsed_onto KCount (two_fields (codes "key") (codes "least") key least)
    ∙ ap (option_map (λ (p : ℤ × ℤ). RCount p.0 p.1)) (pair_ended_onto (codes "key") (codes "least") key least refl refl refl refl)
parsed_line (RAbility key least over) =
    parsed_onto KAbility (Some (onto (number_field (codes "key") key) (two_fields (codes "least") (codes "over") least over))) ∙ parsed_ability key least over

-- and back
maybe_sound : (name : List ℕ) (r : Rest) (p : Option ℤ × Rest) → maybe name r ≡ Some p → (o : Option ℤ) × (r ≡ Some (onto (field name (or_none o)) p.1)) × (p.0 ≡ option_map kept o)
maybe_sound name r p e =
    ⊎_elim
    (λ w. (None, w.0, w.1))
    (λ z. (Some z.0, z.1, z.2))
    (number_or_sound name (codes "none") r p e)

target_of_sound : (o p : Option ℤ) (w : List ℕ) (t : RawTarget) → target_of (option_map kept o) (option_map kept p) w ≡ Some t
    → (u : RawTarget) × (w ≡ into_word u) × (o ≡ key_of u) × (p ≡ weight_of u) × (t ≡ kept_target u)
target_of_sound None None w t e =
    ⊎_elim
    (λ y. (RNowhere, (bytes_eq-Decides w (codes "none")).0 y, refl, refl, sym (some_same RNowhere t (sym (cond-true _ _ _ y) ∙ e))))
    (λ n. never (sym (cond-false _ _ _ n) ∙ e))
    (cases_Bool (bytes_eq w (codes "none")))
target_of_sound (Some key) None w t e =
    ⊎_elim
    (λ y. (RCountKey key, (bytes_eq-Decides w (codes "count")).0 y, refl, refl, sym (some_same (RCountKey (kept key)) t (sym (cond-true _ _ _ y) ∙ e))))
    (λ n. never (sym (cond-false _ _ _ n) ∙ e))
    (cases_Bool (bytes_eq w (codes "count")))
target_of_sound (Some key) (Some weight) w t e =
    ⊎_elim
    (λ y. (RAbilityKey key weight, (bytes_eq-Decides w (codes "ability")).0 y, refl, refl, sym (some_same (RAbilityKey (kept key) (kept weight)) t (sym (cond-true _ _ _ y) ∙ e))))
    (λ n. never (sym (cond-false _ _ _ n) ∙ e))
    (cases_Bool (bytes_eq w (codes "ability")))
target_of_sound None (Some weight) w t e = never e

target_sound : (r : Rest) (t : RawTarget) → target r ≡ Some t → (u : RawTarget) × (r ≡ Some (target_text u)) × (t ≡ kept_target u)
target_sound r t e =
    let a = then_some (word (codes "into") r) (λ w. then (maybe (codes "key") w.1) (λ j. then (maybe (codes "weight") j.1) (λ v. then (last v.0 v.1) (λ u. target_of j.0 u w.0)))) t e in
    let w = a.0 in
    let b = then_some (maybe (codes "key") w.1) (λ j. then (maybe (codes "weight") j.1) (λ v. then (last v.0 v.1) (λ u. target_of j.0 u w.0))) t a.2 in
    let j = b.0 in
    let c = then_some (maybe (codes "weight") j.1) (λ v. then (last v.0 v.1) (λ u. target_of j.0 u w.0)) t b.2 in
    let v = c.0 in
    let d = then_some (last v.0 v.1) (λ u. target_of j.0 u w.0) t c.2 in
    let l = last_some v.0 d.0 v.1 d.1 in
    let kj = maybe_sound (codes "key") w.1 j b.1 in
    let kv = maybe_sound (codes "weight") j.1 v c.1 in
    let s = target_of_sound kj.0 kv.0 w.0 t
    (ap (λ o. target_of o (option_map kept kv.0) w.0) (sym kj.2) ∙ ap (λ o. target_of j.0 o w.0) (sym kv.2 ∙ l.1) ∙ d.2) in
    let u = s.0 in (
      u,
      word_sound (codes "into") r w a.1
          ∙ ap (λ x. Some (onto (field (codes "into") x) w.1)) s.1
          ∙ ap (λ q. Some (onto (field (codes "into") (into_word u)) q))
          (kj.1 ∙ ap (λ o. Some (onto (field (codes "key") (or_none o)) j.1)) s.2
          ∙ ap (λ q. Some (onto (field (codes "key") (or_none (key_of u))) q))
          (kv.1 ∙ ap (λ o. Some (onto (field (codes "weight") (or_none o)) v.1)) s.3 ∙ ap (λ q. Some (onto (field (codes "weight") (or_none (weight_of u))) q)) l.0)),
      s.4,
    )

-- what the fields after the first are read as
abbrev FilledAs : Rest → NodeKind → RawNode → Type 0
FilledAs r k w = (v : RawNode) × (onto (field (codes "node") (kind_word k)) r ≡ line v) × (w ≡ kept_raw v)

skill_sound : (r : Rest) (w : RawNode) → skill r ≡ Some w → FilledAs r KSkill w
skill_sound r w e =
    let a = then_some (number (codes "skill") r) (λ k. then (maybe (codes "device") k.1) (λ d. option_map (RSkill k.0 d.0) (target d.1))) w e in
    let k = a.0 in
    let b = then_some (maybe (codes "device") k.1) (λ d. option_map (RSkill k.0 d.0) (target d.1)) w a.2 in
    let d = b.0 in
    let c = mapped_some (RSkill k.0 d.0) (target d.1) w b.2 in
    let nk = number_sound (codes "skill") r k a.1 in
    let nd = maybe_sound (codes "device") k.1 d b.1 in
    let nt = target_sound d.1 c.0 c.1 in (
      RSkill nk.0 nd.0 nt.0,
      ap (onto (field (codes "node") (codes "skill")))
          (nk.1 ∙ ap (λ q. Some (onto (number_field (codes "skill") nk.0) q)) (nd.1 ∙ ap (λ q. Some (onto (field (codes "device") (or_none nd.0)) q)) nt.1)),
      sym c.2 ∙ (λ i. RSkill (nk.2 i) (nd.2 i) (nt.2 i)),
    )

ability_sound : (r : Rest) (w : RawNode) → ability r ≡ Some w → FilledAs r KAbility w
ability_sound r w e =
    let a = then_some (number (codes "key") r) (λ p. option_map (λ (q : ℤ × ℤ). RAbility p.0 q.0 q.1) (pair_ended (codes "least") (codes "over") p.1)) w e in
    let k = a.0 in
    let c = mapped_some (λ (q : ℤ × ℤ). RAbility k.0 q.0 q.1) (pair_ended (codes "least") (codes "over") k.1) w a.2 in
    let nk = number_sound (codes "key") r k a.1 in
    let np = pair_ended_sound (codes "least") (codes "over") k.1 c.0 c.1 in (
      RAbility nk.0 np.0 np.1,
      ap (onto (field (codes "node") (codes "ability"))) (nk.1 ∙ ap (λ q. Some (onto (number_field (codes "key") nk.0) q)) np.2),
      sym c.2 ∙ (λ i. RAbility (nk.2 i) (np.3 i).0 (np.3 i).1),
    )

one_sound : (k : NodeKind) (a : List ℕ) (make : ℤ → RawNode) (r : Rest) (w : RawNode) → option_map make (one_ended a r) ≡ Some w
    → ((z : ℤ) → line (make z) ≡ kind_line k (number_field a z ∷ [])) → ((z : ℤ) → kept_raw (make z) ≡ make (kept z)) → FilledAs r k w
one_sound k a make r w e l h =
    let m = mapped_some make (one_ended a r) w e in
    let s = one_ended_sound a r m.0 m.1 in
    (make s.0, ap (onto (field (codes "node") (kind_word k))) s.1 ∙ sym (l s.0), sym m.2 ∙ ap make s.2 ∙ sym (h s.0))

two_sound : (k : NodeKind) (a b : List ℕ) (make : ℤ → ℤ → RawNode) (r : Rest) (w : RawNode) → option_map (λ (p : ℤ × ℤ). make p.0 p.1) (pair_ended a b r) ≡ Some w
    → ((y z : ℤ) → line (make y z) ≡ kind_line k (number_field a y ∷ number_field b z ∷ [])) → ((y z : ℤ) → kept_raw (make y z) ≡ make (kept y) (kept z)) → FilledAs r k w
two_sound k a b make r w e l h =
    let m = mapped_some (λ (p : ℤ × ℤ). make p.0 p.1) (pair_ended a b r) w e in
    let s = pair_ended_sound a b r m.0 m.1 in (
      make s.0 s.1,
      ap (onto (field (codes "node") (kind_word k))) s.2 ∙ sym (l s.0 s.1),
      sym m.2 ∙ ap (λ (p : ℤ × ℤ). make p.0 p.1) s.3 ∙ sym (h s.0 s.1),
    )

filled_sound : (k : NodeKind) (r : Rest) (w : RawNode) → filled r k ≡ Some w → FilledAs r k w
filled_sound (KGroup kind) r w e = one_sound (KGroup kind) (codes "kids") (RGroup kind) r w e (λ z. refl) (λ z. refl)
filled_sound KPar r w e = two_sound KPar (codes "kids") (codes "need") RPar r w e (λ y z. refl) (λ y z. refl)
filled_sound KNot r w e = let s = last_some RNot w r e in (RNot, ap (onto (field (codes "node") (codes "not"))) s.0, sym s.1)
filled_sound (KLoop kind) r w e = one_sound (KLoop kind) (codes "times") (RLoop kind) r w e (λ z. refl) (λ z. refl)
filled_sound KSkill r w e = skill_sound r w e
filled_sound KCount r w e = two_sound KCount (codes "key") (codes "least") RCount r w e (λ y z. refl) (λ y z. refl)
filled_sound KAbility r w e = ability_sound r w e

pub parsed_sound : (xs : List ℕ) (w : RawNode) → parsed xs ≡ Some w → (v : RawNode) × (xs ≡ line v) × (w ≡ kept_raw v)
parsed_sound xs w e =
    let a = then_some (word (codes "node") (Some xs)) (λ p. then (kind p.0) (filled p.1)) w e in
    let p = a.0 in
    let b = then_some (kind p.0) (filled p.1) w a.2 in
    let f = filled_sound b.0 p.1 w b.2 in (
      f.0,
      some_same _ _ (word_sound (codes "node") (Some xs) p a.1)
          ∙ ap (λ x. onto (field (codes "node") x) p.1) (kind_sound p.0 b.0 b.1) ∙ f.1,
      f.2,
    )

-- holding numbers changes no range
both : (a b c d : Bool) → a ≡ c → b ≡ d → (a && b) ≡ (c && d)
both a b c d e f = λ i. e i && f i

key_kept : (z : ℤ) → key_ranged (kept z) ≡ key_ranged z
key_kept z = within_kept (pos 0) (pos 31) z refl

device_kept : (o : Option ℤ) → device_ranged (option_map kept o) ≡ device_ranged o
device_kept None = refl
device_kept (Some z) = key_kept z

target_kept : (t : RawTarget) → target_ranged (kept_target t) ≡ target_ranged t
target_kept RNowhere = refl
target_kept (RCountKey key) = key_kept key
target_kept (RAbilityKey key weight) = both _ _ _ _ (key_kept key) (within_kept (pos 1) (pos 100) weight refl)

pub ranged_kept : (w : RawNode) → ranged (kept_raw w) ≡ ranged w
ranged_kept (RGroup kind kids) = within_kept (pos 1) (pos 32) kids refl
ranged_kept (RPar kids need) =
    both _ _ _ _ (within_kept (pos 1) (pos 32) kids refl) (within_kept (pos 1) (pos 32) need refl)
ranged_kept RNot = refl
ranged_kept (RLoop kind times) = within_kept (pos 1) (pos 60000) times refl
ranged_kept (RSkill k d t) = both _ _ _ _ (within_kept (pos 0) (pos 63) k refl) (both _ _ _ _ (device_kept d) (target_kept t))
ranged_kept (RCount key least) = both _ _ _ _ (key_kept key) (within_kept (negsuc 999999) (pos 1000000) least refl)
ranged_kept (RAbility key least over) =
    both _ _ _ _ (key_kept key)
    (both _ _ _ _ (within_kept (pos 1) (pos 100) over refl) (within_kept (negsuc 9999) (pos 10000) least refl))

-- and a line in range is held as it is
key_same : (z : ℤ) → key_ranged z ≡ true → kept z ≡ z
key_same z h = same_kept (pos 0) (pos 31) z refl h

device_same : (o : Option ℤ) → device_ranged o ≡ true → option_map kept o ≡ o
device_same None h = refl
device_same (Some z) h = ap Some (key_same z h)

target_same : (t : RawTarget) → target_ranged t ≡ true → kept_target t ≡ t
target_same RNowhere h = refl
target_same (RCountKey key) h = ap RCountKey (key_same key h)
target_same (RAbilityKey key weight) h =
    let p = and_parts (key_ranged key) _ h in
    λ i. RAbilityKey (key_same key p.0 i) (same_kept (pos 1) (pos 100) weight refl p.1 i)

pub same_raw : (w : RawNode) → ranged w ≡ true → kept_raw w ≡ w
same_raw (RGroup kind kids) h = ap (RGroup kind) (same_kept (pos 1) (pos 32) kids refl h)
same_raw (RPar kids need) h =
    let p = and_parts (within (pos 1) (pos 32) kids) _ h in
    λ i. RPar (same_kept (pos 1) (pos 32) kids refl p.0 i) (same_kept (pos 1) (pos 32) need refl p.1 i)
same_raw RNot h = refl
same_raw (RLoop kind times) h = ap (RLoop kind) (same_kept (pos 1) (pos 60000) times refl h)
same_raw (RSkill k d t) h =
    let p = and_parts (within (pos 0) (pos 63) k) _ h in
    let q = and_parts (device_ranged d) _ p.1 in
    λ i. RSkill (same_kept (pos 0) (pos 63) k refl p.0 i) (device_same d q.0 i) (target_same t q.1 i)
same_raw (RCount key least) h =
    let p = and_parts (key_ranged key) _ h in
    λ i. RCount (key_same key p.0 i) (same_kept (negsuc 999999) (pos 1000000) least refl p.1 i)
same_raw (RAbility key least over) h =
    let p = and_parts (key_ranged key) _ h in
    let q = and_parts (within (pos 1) (pos 100) over) _ p.1 in
    λ i. RAbility (key_same key p.0 i) (same_kept (negsuc 9999) (pos 10000) least refl q.1 i) (same_kept (pos 1) (pos 100) over refl q.0 i)

-- a line that is read, judged
pub judged : (xs : List ℕ) (w : RawNode) (r : Result Node Flaw) → Some w ≡ parsed xs
    → RangeJudged ranged raw w r → LineJudged line ranged raw xs r
judged xs w (Ok n) e h =
    let p = parsed_sound xs w (sym e) in
    let good : ranged p.0 ≡ true = sym (ranged_kept p.0) ∙ ap ranged (sym p.2) ∙ h.1 in
    (p.1 ∙ ap line (sym (same_raw p.0 good) ∙ sym p.2 ∙ sym h.0), ap ranged h.0 ∙ h.1)
judged xs w (Err f) e h =
    let p = parsed_sound xs w (sym e) in
    subst (λ (g : Flaw). Bad line ranged xs g) (sym h.0) (p.0, p.1, sym (ranged_kept p.0) ∙ ap ranged (sym p.2) ∙ h.1)

pub no_line : (xs : List ℕ) → None ≡ parsed xs → (w : RawNode) → xs ≡ line w → ⊥
no_line xs n w e = never (n ∙ ap parsed e ∙ parsed_line w)
