-- A line: fields with one space between, each a name, a `=` and a value.
use Rattle.std.specs.Prelude.{ℕ, Bool, false, cond, not, ◌||◌, List, [], ◌∷◌, ◌++◌, ℤ, Some, None, Option, ◌==◌}
use Rattle.std.specs.List.{list_all}
use Rattle.std.specs.Option.{option_map}
use Rattle.std.specs.Str.{bytes_eq}
use Rattle.text.specs.Numeral.{digit, kept, valued}

-- What is left of a line: nothing, or fields.
abbrev pub Rest : Type 0
Rest = Option (List ℕ)

-- A field before what is left.
abbrev pub onto : List ℕ → Rest → List ℕ
onto w None = w
onto w (Some q) = w ++ (32 ∷ q)

-- The text of a field.
abbrev pub field : List ℕ → List ℕ → List ℕ
field name value = name ++ (61 ∷ value)

-- Fields with one space between.
abbrev pub spaced : List ℕ → List (List ℕ) → List ℕ
spaced w [] = w
spaced w (v ∷ vs) = onto w (Some (spaced v vs))

-- Whether a text has no byte b.
abbrev pub free : ℕ → List ℕ → Bool
free b xs = list_all (λ x. not (x == b)) xs

-- The two parts of a text with one byte more in front.
abbrev pub front : ℕ → Option (List ℕ × List ℕ) → Option (List ℕ × List ℕ)
front x None = None
front x (Some p) = Some (x ∷ p.0, p.1)

-- A text cut at its first b, which is in neither part.
unfoldable pub parted : ℕ → List ℕ → Option (List ℕ × List ℕ)
parted b [] = None
parted b (x ∷ xs) = cond (x == b) (Some ([], xs)) (front x (parted b xs))

-- One reading after another, none where either gives none.
abbrev pub then : {X Y : Type 0} → Option X → (X → Option Y) → Option Y
then None f = None
then (Some x) f = f x

-- The two parts, or the whole text with nothing left.
abbrev pub cut_or : List ℕ → Option (List ℕ × List ℕ) → List ℕ × Rest
cut_or xs None = (xs, None)
cut_or xs (Some p) = (p.0, Some p.1)

-- The text up to the next space, and what is left.
abbrev pub next : Rest → Option (List ℕ × Rest)
next None = None
next (Some xs) = Some (cut_or xs (parted 32 xs))

-- The name and the value of a field, and what is left after it.
abbrev pub halves : List ℕ × Rest → Option (List ℕ × List ℕ × Rest)
halves p = option_map (λ h. (h.0, h.1, p.1)) (parted 61 p.0)

-- The next field: its name, its value and what is left.
abbrev pub next_field : Rest → Option (List ℕ × List ℕ × Rest)
next_field r = then (next r) halves

-- What is left once the next field is taken; a part that is no field is not taken.
abbrev pub past_of : Rest → Option (List ℕ × List ℕ × Rest) → Rest
past_of r None = r
past_of r (Some f) = f.2

abbrev pub past : Rest → Rest
past r = past_of r (next_field r)

-- Whether a value is a number part: it begins with a minus or a digit.
abbrev pub numeric : List ℕ → Bool
numeric [] = false
numeric (c ∷ cs) = c == 45 || digit c

-- The value of a field of this name, and what is left after it.
abbrev pub named : List ℕ → List ℕ × List ℕ × Rest → Option (List ℕ × Rest)
named name f = cond (bytes_eq f.0 name) (Some (f.1, f.2)) None

-- The value of the next field, which has this name, and what is left.
abbrev pub word : List ℕ → Rest → Option (List ℕ × Rest)
word name r = then (next_field r) (named name)

-- The number that a value writes, as it is held.
abbrev pub meant : List ℕ × Rest → Option (ℤ × Rest)
meant p = option_map (λ z. (kept z, p.1)) (valued p.0)

-- The number that the next field, which has this name, writes, and what is left.
abbrev pub number : List ℕ → Rest → Option (ℤ × Rest)
number name r = then (word name r) meant

-- The number that a value writes, as it is held, or none where the value is the other word.
abbrev pub meant_or : List ℕ → List ℕ × Rest → Option (Option ℤ × Rest)
meant_or other p = cond (bytes_eq p.0 other) (Some (None, p.1)) (option_map (λ z. (Some (kept z), p.1)) (valued p.0))

-- The number of the next field, which has this name, or none where it has the other word, and what is left.
abbrev pub number_or : List ℕ → List ℕ → Rest → Option (Option ℤ × Rest)
number_or name other r = then (word name r) (meant_or other)

-- A value that nothing follows.
abbrev pub last : {X : Type 0} → X → Rest → Option X
last x None = Some x
last x (Some q) = None

-- The number of the one field that is left.
abbrev pub one_ended : List ℕ → Rest → Option ℤ
one_ended a r = then (number a r) (λ p. last p.0 p.1)

-- The numbers of the two fields that are left.
abbrev pub pair_ended : List ℕ → List ℕ → Rest → Option (ℤ × ℤ)
pair_ended a b r = then (number a r) (λ p. then (number b p.1) (λ q. last (p.0, q.0) q.1))
