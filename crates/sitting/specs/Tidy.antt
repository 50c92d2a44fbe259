-- Live trees whose memory is as visits leave it.
use Rattle.std.specs.Prelude.{◌≡◌, Bool, List, [], ◌∷◌}
use Rattle.rules.specs.Live.{Polarity, Kept, pending, ended, Live, live_leaf, live_group, live_par, live_not, live_loop, Kids, no_kids, kid}
use Rattle.rules.specs.Visiting.{Visit, gives, behind}
use Rattle.sitting.specs.Zipper.{Frame, in_group, in_par, in_not, in_loop, Config, down, look_group, look_par, up}

abbrev mutual
  pub Tidy : Live → Type 0
  Tidy (live_leaf l) = Unit {0}
  Tidy (live_group p m ks) = TidyGroup p m ks
  Tidy (live_par n ks) = AllTidy ks
  Tidy (live_not x) = Tidy x
  Tidy (live_loop p times n x) = Tidy x

  -- a row of children that are all tidy
  pub AllTidy : Kids → Type 0
  AllTidy no_kids = Unit {0}
  AllTidy (kid r x ks) = Tidy x × AllTidy ks

  -- of each of which this is remembered
  pub Even : Kept → Kids → Type 0
  Even r no_kids = Unit {0}
  Even r (kid s x ks) = (s ≡ r) × Tidy x × Even r ks

  -- those before the first pending one are behind, with memory; and the later ones are pending
  pub TidyGroup : Polarity → Bool → Kids → Type 0
  TidyGroup p m no_kids = Unit {0}
  TidyGroup p m (kid pending x ks) = Tidy x × Even pending ks
  TidyGroup p m (kid (ended b) x ks) = (ended b ≡ behind p m) × Tidy x × TidyGroup p m ks

-- the same of what a visit gives

abbrev pub TidyVisit : {W : Type 0} → Visit W Live → Type 0
TidyVisit (gives a w f x) = Tidy x

-- and of a configuration of the machine

abbrev pub TidyFrame : Frame → Type 0
TidyFrame (in_group p m bs ks) = Even (behind p m) bs × Even pending ks
TidyFrame (in_par n bs g ks) = AllTidy bs × AllTidy ks
TidyFrame in_not = Unit {0}
TidyFrame (in_loop p times n) = Unit {0}

abbrev pub TidyStack : List Frame → Type 0
TidyStack [] = Unit {0}
TidyStack (F ∷ K) = TidyFrame F × TidyStack K

abbrev pub TidyConfig : {W : Type 0} → Config W → Type 0
TidyConfig (down x w K) = Tidy x × TidyStack K
TidyConfig (look_group p m bs ks w K) = Even (behind p m) bs × Even pending ks × TidyStack K
TidyConfig (look_par n bs g ks w K) = AllTidy bs × AllTidy ks × TidyStack K
TidyConfig (up a w f x K) = Tidy x × TidyStack K
