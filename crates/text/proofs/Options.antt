-- Readings that give something, and what they gave on the way.
use Rattle.std.proofs.Common.{◌≡◌, Some, None, Option, refl}
use Rattle.std.proofs.lemmas.Option.{none-some, same_Some}
use Rattle.std.specs.Option.{option_map}
use Rattle.text.specs.Fields.{then}

-- none is not some
pub never : {X Y : Type 0} {x : X} → ◌≡◌ {A = Option X} None (Some x) → Y
never {X} {Y} {x} e = absurd (none-some x e)

-- two readings, one after the other
pub then_some : {X Y : Type 0} (o : Option X) (f : X → Option Y) (y : Y) → then o f ≡ Some y → (x : X) × (o ≡ Some x) × (f x ≡ Some y)
then_some None f y e = never e
then_some (Some x) f y e = (x, refl, e)

-- a reading whose value is changed
pub mapped_some : {X Y : Type 0} (f : X → Y) (o : Option X) (y : Y) → option_map f o ≡ Some y → (x : X) × (o ≡ Some x) × (f x ≡ y)
mapped_some f None y e = never e
mapped_some f (Some x) y e = (x, refl, same_Some (f x) y e)

-- a changed reading that gives nothing had nothing to change; nothing cites this now
pub mapped_none : {X Y : Type 0} (f : X → Y) (o : Option X) → ◌≡◌ {A = Option Y} None (option_map f o) → o ≡ None
mapped_none f None e = refl
mapped_none f (Some x) e = never e
