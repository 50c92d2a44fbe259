-- What code holds of a line: parts of the text, by what they point to.
use Rattle.std.specs.Prelude.{◌≡◌, ℕ, ◌+◌, Bool, true, false, List, length, Some, None, Option, IfSome}
use Rattle.std.specs.Borrow.{Bor}
use Rattle.std.specs.Option.{option_map}
use Rattle.text.specs.Fields.{Rest, next_field, past, numeric}
use Rattle.text.specs.declared.field.Field.{Field}
use Rattle.text.specs.declared.field.Field.TheVariants.{Word, Number}
use Rattle.text.specs.declared.field.Fields.{Fields}

-- The two parts of a text.
abbrev pub seen_halves : Option (Bor (List ℕ) × Bor (List ℕ)) → Option (List ℕ × List ℕ)
seen_halves r = option_map (λ p. (p.0.now, p.1.now)) r

-- What is left of a line.
abbrev pub left : Fields → Rest
left f = option_map (λ x. x.now) f.rest

-- The name of a field.
abbrev pub name_of : Field → List ℕ
name_of (Word n v l) = n.now
name_of (Number n v l) = n.now

-- The value of a field.
abbrev pub value_of : Field → List ℕ
value_of (Word n v l) = v.now
value_of (Number n v l) = v.now

-- The line of a field.
abbrev pub line_of : Field → ℕ
line_of (Word n v l) = l
line_of (Number n v l) = l

-- Whether a field's value is held as a number part.
abbrev pub is_number : Field → Bool
is_number (Word n v l) = false
is_number (Number n v l) = true

-- The next field is taken off the line, and the cursor stays on its line.
pub record Goes (before after : Fields) : Type 0 where
  pub rest : left after ≡ past (left before)
  pub line : after.line ≡ before.line

-- A reading of a line: it answers none where the definition gives none, else what the definition gives, and the cursor
-- is at what the definition leaves. The next field is taken whatever is answered.
pub record Took {X : Type 0} (read : Rest → Option (X × Rest)) (before : Fields) (answer : Option X) (after : Fields) : Type 0 where
  pub value : option_map (λ x. (x, left after)) answer ≡ read (left before)
  pub goes : Goes before after

-- The next field is answered, on the cursor's line and of its kind.
pub record TookField (before : Fields) (answer : Option Field) (after : Fields) : Type 0 where
  pub field : option_map (λ f. (name_of f, value_of f, left after)) answer ≡ next_field (left before)
  pub kind : IfSome answer (λ f. is_number f ≡ numeric (value_of f))
  pub line : IfSome answer (λ f. line_of f ≡ before.line)
  pub goes : Goes before after

-- More than the fields that are left.
abbrev pub size : Rest → ℕ
size None = 0
size (Some xs) = length xs + 1
