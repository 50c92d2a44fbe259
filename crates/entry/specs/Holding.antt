-- What is made from a test that holds, and absent where it does not.
use Rattle.std.specs.Prelude.{Bool, true, false, ◌&&◌, T, Some, None, Option}

abbrev pub where_true : {A : Type 0} (b : Bool) → (T b → A) → Option A
where_true true f = Some (f tt)
where_true false f = None

-- the two halves of a test
pub front : (a b : Bool) → T (a && b) → T a
front true b t = tt
front false b t = t

pub back : (a b : Bool) → T (a && b) → T b
back true b t = t
back false b t = absurd t
