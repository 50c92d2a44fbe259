-- What is made from a test: it is there exactly where the test holds.
use Rattle.std.proofs.Common.{◌≡◌, Bool, true, false, T, Some, None, refl, ap}
use Rattle.entry.specs.Holding.{where_true}

module _ {A : Type 0} where
  pub where_holds : (b : Bool) (f : T b → A) (x : A) → b ≡ true → ((t : T b) → f t ≡ x) → where_true b f ≡ Some x
  where_holds true f x e h = ap Some (h tt)
  where_holds false f x e h = absurd cc

  pub where_fails : (b : Bool) (f : T b → A) → b ≡ false → where_true b f ≡ None
  where_fails true f e = absurd cc
  where_fails false f e = refl

  pub where_made : (b : Bool) (f : T b → A) (x : A) → where_true b f ≡ Some x → (t : T b) × (f t ≡ x)
  where_made true f x e = (tt, cc)
  where_made false f x e = absurd cc

  pub where_there : (b : Bool) (f : T b → A) → b ≡ true → (x : A) × (where_true b f ≡ Some x)
  where_there true f e = (f tt, refl)
  where_there false f e = absurd cc

  pub where_none : (b : Bool) (f : T b → A) → where_true b f ≡ None → b ≡ false
  where_none true f e = absurd cc
  where_none false f e = refl
