-- How a node line is read: its fields in order, each number as it is held.
use Rattle.std.specs.Prelude.{ℕ, cond, List, [], ◌∷◌, ℤ, Some, None, codes, Option}
use Rattle.std.specs.List.{find}
use Rattle.std.specs.Option.{option_map}
use Rattle.std.specs.Str.{bytes_eq}
use Rattle.text.specs.Numeral.{kept}
use Rattle.text.specs.Fields.{Rest, then, word, number, number_or, last, one_ended, pair_ended}
use Rattle.mission.specs.declared.node.GroupKind.TheVariants.{Seq, Fall, Mseq, Mfall}
use Rattle.mission.specs.declared.node.LoopKind.TheVariants.{Retry, Repeat}
use Rattle.mission.specs.declared.raw.NodeKind.{NodeKind}
use Rattle.mission.specs.declared.raw.NodeKind.TheVariants.{Group as KGroup, Par as KPar, Not as KNot, Loop as KLoop, Skill as KSkill, Count as KCount, Ability as KAbility}
use Rattle.mission.specs.declared.raw.RawTarget.{RawTarget}
use Rattle.mission.specs.declared.raw.RawTarget.TheVariants.{Nowhere as RNowhere, Count as RCountKey, Ability as RAbilityKey}
use Rattle.mission.specs.declared.raw.RawNode.{RawNode}
use Rattle.mission.specs.declared.raw.RawNode.TheVariants.{Group as RGroup, Par as RPar, Not as RNot, Loop as RLoop, Skill as RSkill, Count as RCount, Ability as RAbility}
use Rattle.mission.specs.Lines.{kind_word}

-- every node kind: leaves, and nodes with children
abbrev pub inner_kinds : List NodeKind
inner_kinds = KGroup Seq ∷ KGroup Fall ∷ KGroup Mseq ∷ KGroup Mfall ∷ KPar ∷ KNot ∷ KLoop Retry ∷ KLoop Repeat ∷ []

abbrev pub kinds : List NodeKind
kinds = KSkill ∷ KCount ∷ KAbility ∷ inner_kinds

-- the kind that a word names
abbrev pub kind : List ℕ → Option NodeKind
kind w = find (λ k. bytes_eq w (kind_word k)) kinds

-- where a mark goes, by the word, the key and the weight
abbrev pub target_of : Option ℤ → Option ℤ → List ℕ → Option RawTarget
target_of None None w = cond (bytes_eq w (codes "none")) (Some RNowhere) None
target_of (Some key) None w = cond (bytes_eq w (codes "count")) (Some (RCountKey key)) None
target_of (Some key) (Some weight) w = cond (bytes_eq w (codes "ability")) (Some (RAbilityKey key weight)) None
target_of None (Some weight) w = None

abbrev pub maybe : List ℕ → Rest → Option (Option ℤ × Rest)
maybe name r = number_or name (codes "none") r

abbrev pub target : Rest → Option RawTarget
target r =
    then (word (codes "into") r)
    (λ w. then (maybe (codes "key") w.1) (λ j. then (maybe (codes "weight") j.1) (λ v. then (last v.0 v.1) (λ u. target_of j.0 u w.0))))

abbrev pub skill : Rest → Option RawNode
skill r = then (number (codes "skill") r) (λ k. then (maybe (codes "device") k.1) (λ d. option_map (RSkill k.0 d.0) (target d.1)))

abbrev pub ability : Rest → Option RawNode
ability r =
    then (number (codes "key") r) (λ p. option_map (λ q. RAbility p.0 q.0 q.1) (pair_ended (codes "least") (codes "over") p.1))

-- the fields after the first
abbrev pub filled : Rest → NodeKind → Option RawNode
filled r (KGroup kind) = option_map (RGroup kind) (one_ended (codes "kids") r)
filled r KPar = option_map (λ p. RPar p.0 p.1) (pair_ended (codes "kids") (codes "need") r)
filled r KNot = last RNot r
filled r (KLoop kind) = option_map (RLoop kind) (one_ended (codes "times") r)
filled r KSkill = skill r
filled r KCount = option_map (λ p. RCount p.0 p.1) (pair_ended (codes "key") (codes "least") r)
filled r KAbility = ability r

abbrev pub parsed : List ℕ → Option RawNode
parsed xs = then (word (codes "node") (Some xs)) (λ p. then (kind p.0) (filled p.1))

-- a line with its numbers as they are held
abbrev pub kept_target : RawTarget → RawTarget
kept_target RNowhere = RNowhere
kept_target (RCountKey key) = RCountKey (kept key)
kept_target (RAbilityKey key weight) = RAbilityKey (kept key) (kept weight)

abbrev pub kept_raw : RawNode → RawNode
kept_raw (RGroup kind kids) = RGroup kind (kept kids)
kept_raw (RPar kids need) = RPar (kept kids) (kept need)
kept_raw RNot = RNot
kept_raw (RLoop kind times) = RLoop kind (kept times)
kept_raw (RSkill skill device target) = RSkill (kept skill) (option_map kept device) (kept_target target)
kept_raw (RCount key least) = RCount (kept key) (kept least)
kept_raw (RAbility key least over) = RAbility (kept key) (kept least) (kept over)
