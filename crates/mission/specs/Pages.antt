-- A page under a pen: what is written stands there as far as the page goes.
use Rattle.std.specs.Prelude.{◌≡◌, ℕ, ◌+◌, ◌-◌, ◌^◌, ◌≤◌, min, List, [], ◌∷◌, ◌++◌, length, drop, slice_set}
use Rattle.mission.specs.declared.pen.Pen.{Pen}

-- the pen after a byte: the byte stands on the pen's place, if the page has that place, and the next place is the pen's
abbrev pub stepped : Pen → ℕ → Pen
stepped p b = record { page = record p.page { now = slice_set p.page.now p.place b }; place = min (p.place + 1) (2 ^ 64 - 1) }

-- the pen after bytes
unfoldable pub wrote : Pen → List ℕ → Pen
wrote p [] = p
wrote p (b ∷ bs) = wrote (stepped p b) bs

-- a text was written from the beginning of a page on: its length, and what the page is where the text fits
pub record Laid (bs before after : List ℕ) (len : ℕ) : Type 0 where
  pub counted : len ≡ min (length bs) (2 ^ 64 - 1)
  pub page : length bs ≤ length before → after ≡ bs ++ drop (length bs) before
