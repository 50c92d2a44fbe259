-- The line of a node. A raw line has any whole numbers in its fields; a node's line is a raw line in range.
use Rattle.std.specs.Prelude.{◌≡◌, ℕ, Bool, true, false, ◌&&◌, List, [], ◌∷◌, ℤ, pos, negsuc, Some, None, Ok, Err, codes, Option, Result, ◌≢◌}
use Rattle.std.specs.List.{list_all}
use Rattle.std.specs.Option.{option_map}
use Rattle.text.specs.Numeral.{numeral, within}
use Rattle.text.specs.Fields.{field, spaced}
use Rattle.mission.specs.declared.flaw.Flaw.{Flaw}
use Rattle.mission.specs.declared.flaw.Flaw.TheVariants.{Form, Range}
use Rattle.mission.specs.declared.node.GroupKind.{GroupKind}
use Rattle.mission.specs.declared.node.GroupKind.TheVariants.{Seq, Fall, Mseq, Mfall}
use Rattle.mission.specs.declared.node.LoopKind.{LoopKind}
use Rattle.mission.specs.declared.node.LoopKind.TheVariants.{Retry, Repeat}
use Rattle.mission.specs.declared.node.Target.{Target}
use Rattle.mission.specs.declared.node.Target.TheVariants.{Nowhere, Count as CountKey, Ability as AbilityKey}
use Rattle.mission.specs.declared.node.Node.{Node}
use Rattle.mission.specs.declared.node.Node.TheVariants.{Group, Par, Not, Loop, Skill, Count, Ability}
use Rattle.mission.specs.declared.raw.NodeKind.{NodeKind}
use Rattle.mission.specs.declared.raw.NodeKind.TheVariants.{Group as KGroup, Par as KPar, Not as KNot, Loop as KLoop, Skill as KSkill, Count as KCount, Ability as KAbility}
use Rattle.mission.specs.declared.raw.RawTarget.{RawTarget}
use Rattle.mission.specs.declared.raw.RawTarget.TheVariants.{Nowhere as RNowhere, Count as RCountKey, Ability as RAbilityKey}
use Rattle.mission.specs.declared.raw.RawNode.{RawNode}
use Rattle.mission.specs.declared.raw.RawNode.TheVariants.{Group as RGroup, Par as RPar, Not as RNot, Loop as RLoop, Skill as RSkill, Count as RCount, Ability as RAbility}

-- the word of each node kind
abbrev pub group_word : GroupKind → List ℕ
group_word Seq = codes "seq"
group_word Fall = codes "fall"
group_word Mseq = codes "mseq"
group_word Mfall = codes "mfall"

abbrev pub loop_word : LoopKind → List ℕ
loop_word Retry = codes "retry"
loop_word Repeat = codes "repeat"

abbrev pub kind_word : NodeKind → List ℕ
kind_word (KGroup kind) = group_word kind
kind_word KPar = codes "par"
kind_word KNot = codes "not"
kind_word (KLoop kind) = loop_word kind
kind_word KSkill = codes "skill"
kind_word KCount = codes "count"
kind_word KAbility = codes "ability"

-- a field whose value is a number
abbrev pub number_field : List ℕ → ℤ → List ℕ
number_field name z = field name (numeral z)

-- a number, or the word none
abbrev pub or_none : Option ℤ → List ℕ
or_none None = codes "none"
or_none (Some z) = numeral z

-- where a mark goes: the word, the key and the weight
abbrev pub into_word : RawTarget → List ℕ
into_word RNowhere = codes "none"
into_word (RCountKey key) = codes "count"
into_word (RAbilityKey key weight) = codes "ability"

abbrev pub key_of : RawTarget → Option ℤ
key_of RNowhere = None
key_of (RCountKey key) = Some key
key_of (RAbilityKey key weight) = Some key

abbrev pub weight_of : RawTarget → Option ℤ
weight_of RNowhere = None
weight_of (RCountKey key) = None
weight_of (RAbilityKey key weight) = Some weight

-- a line that begins with its kind
abbrev pub kind_line : NodeKind → List (List ℕ) → List ℕ
kind_line kind fields = spaced (field (codes "node") (kind_word kind)) fields

-- the text of a node line, without its end
abbrev pub line : RawNode → List ℕ
line (RGroup kind kids) = kind_line (KGroup kind) (number_field (codes "kids") kids ∷ [])
line (RPar kids need) = kind_line KPar (number_field (codes "kids") kids ∷ number_field (codes "need") need ∷ [])
line RNot = kind_line KNot []
line (RLoop kind times) = kind_line (KLoop kind) (number_field (codes "times") times ∷ [])
line (RSkill skill device target) =
    kind_line KSkill
    (number_field (codes "skill") skill ∷ field (codes "device") (or_none device) ∷ field (codes "into") (into_word target)
    ∷ field (codes "key") (or_none (key_of target)) ∷ field (codes "weight") (or_none (weight_of target)) ∷ [])
line (RCount key least) = kind_line KCount (number_field (codes "key") key ∷ number_field (codes "least") least ∷ [])
line (RAbility key least over) =
    kind_line KAbility (number_field (codes "key") key ∷ number_field (codes "least") least ∷ number_field (codes "over") over ∷ [])

-- every number in its range
abbrev pub key_ranged : ℤ → Bool
key_ranged key = within (pos 0) (pos 31) key

abbrev pub device_ranged : Option ℤ → Bool
device_ranged None = true
device_ranged (Some device) = within (pos 0) (pos 31) device

abbrev pub target_ranged : RawTarget → Bool
target_ranged RNowhere = true
target_ranged (RCountKey key) = key_ranged key
target_ranged (RAbilityKey key weight) = key_ranged key && within (pos 1) (pos 100) weight

abbrev pub ranged : RawNode → Bool
ranged (RGroup kind kids) = within (pos 1) (pos 32) kids
ranged (RPar kids need) = within (pos 1) (pos 32) kids && within (pos 1) (pos 32) need
ranged RNot = true
ranged (RLoop kind times) = within (pos 1) (pos 60000) times
ranged (RSkill skill device target) = within (pos 0) (pos 63) skill && (device_ranged device && target_ranged target)
ranged (RCount key least) = key_ranged key && within (negsuc 999999) (pos 1000000) least
ranged (RAbility key least over) = key_ranged key && (within (pos 1) (pos 100) over && within (negsuc 9999) (pos 10000) least)

-- a node as its line has it
abbrev pub raw_target : Target → RawTarget
raw_target Nowhere = RNowhere
raw_target (CountKey key) = RCountKey (pos key)
raw_target (AbilityKey key weight) = RAbilityKey (pos key) (pos weight.value)

abbrev pub raw : Node → RawNode
raw (Group kind kids) = RGroup kind (pos kids)
raw (Par kids need) = RPar (pos kids) (pos need)
raw Not = RNot
raw (Loop kind times) = RLoop kind (pos times)
raw (Skill skill device target) = RSkill (pos skill) (option_map pos device) (raw_target target)
raw (Count key least) = RCount (pos key) least.least.value
raw (Ability key least) = RAbility (pos key) least.least.value (pos least.over.value)

abbrev pub all_ranged : List Node → Bool
all_ranged ns = list_all (λ n. ranged (raw n)) ns

-- raw numbers held to their ranges: this is what they make, all in range, or they are out of range
abbrev pub RangeJudged : {X Y : Type 0} → (X → Bool) → (Y → X) → X → Result Y Flaw → Type 0
RangeJudged good view x (Ok y) = (view y ≡ x) × (good x ≡ true)
RangeJudged good view x (Err f) = (f ≡ Range) × (good x ≡ false)

-- what is wrong with a line that is to be of one of the forms, its numbers in range: it is of none of them, or it is out
-- of range
abbrev pub Bad : {X : Type 0} → (X → List ℕ) → (X → Bool) → List ℕ → Flaw → Type 0
Bad {X} form good xs Form = (x : X) → xs ≢ form x
Bad {X} form good xs Range = (x : X) × (xs ≡ form x) × (good x ≡ false)

-- the judgement of a line: it is of this form, its numbers in range, or this is wrong with it
abbrev pub LineJudged : {X Y : Type 0} → (X → List ℕ) → (X → Bool) → (Y → X) → List ℕ → Result Y Flaw → Type 0
LineJudged form good view xs (Ok y) = (xs ≡ form (view y)) × (good (view y) ≡ true)
LineJudged form good view xs (Err f) = Bad form good xs f

-- a conversion is refused for no number of a range
abbrev pub Covers : {T E : Type 0} → (ℤ → Result T E → Type 0) → ℤ → ℤ → Type 0
Covers {T} {E} gives low high = (z : ℤ) (e : E) → within low high z ≡ true → gives z (Err e) → ⊥
