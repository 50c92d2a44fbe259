-- The rules of visiting and of halting a node, over any world: a world is given by what a visit of a
-- leaf and a stop of a leaf do in it.
use Rattle.std.specs.Prelude.{ℕ, suc, ◌+◌, ◌-◌, Bool, true, false, cond, not, List, [], ◌∷◌, ◌++◌, nat_lt}
use Rattle.mission.specs.Trees.{Leaf, skill, count, ability}
use Rattle.rules.specs.declared.status.Status.{Status}
use Rattle.rules.specs.declared.status.Status.TheVariants.{Run, Pass, Fail}
use Rattle.rules.specs.Lines.{one}
use Rattle.rules.specs.Live.{Polarity, on_pass, on_fail, Kept, pending, ended, Live, live_leaf, live_group, live_par, live_not, live_loop, Kids, no_kids, kid, cleared, cleared_kids, forgotten}
use Rattle.rules.specs.Statuses.{exchanged}

-- what a visit gives: the status, the world after, the running front below the node (the skills whose
-- leaf and every node above it, up to this one, answered run), and the node or the row of children after
pub data Visit (W X : Type 0) : Type 0 where
  gives : Status → W → List ℕ → X → Visit W X

-- a leaf

abbrev pub leaf_front : Leaf → Status → List ℕ
leaf_front (skill k device target) Run = k ∷ []
leaf_front (skill k device target) Pass = []
leaf_front (skill k device target) Fail = []
leaf_front (count key least) a = []
leaf_front (ability key least) a = []

abbrev pub leaf_visit : {W : Type 0} → Leaf → Status × W → Visit W Live
leaf_visit l r = gives r.0 r.1 (leaf_front l r.0) (live_leaf l)

-- seq, fall, mseq and mfall

abbrev pub moves_on : Polarity → Status → Bool
moves_on on_pass Run = false
moves_on on_pass Pass = true
moves_on on_pass Fail = false
moves_on on_fail Run = false
moves_on on_fail Pass = false
moves_on on_fail Fail = true

-- the status of a group all of whose children let it go on
abbrev pub moved : Polarity → Status
moved on_pass = Pass
moved on_fail = Fail

abbrev pub kept_as : Status → Kept
kept_as Run = pending
kept_as Pass = ended true
kept_as Fail = ended false

-- what a group remembers of a child that it has gone past
abbrev pub behind : Polarity → Bool → Kept
behind p true = kept_as (moved p)
behind p false = pending

-- the children after the one that stops a group: a group without memory halts them, and one with
-- memory has not been at them
abbrev pub later : Bool → Kids → Kids
later true ks = ks
later false ks = cleared_kids ks

abbrev pub in_front : {W : Type 0} → Kept → Live → Visit W Kids → Visit W Kids
in_front r x (gives a w f ks) = gives a w f (kid r x ks)

-- after a child: go on with the rest, or stop with the child's status and halt what is later
abbrev pub go_on_or_stop : {W : Type 0} → Bool → Polarity → Bool → Status → W → List ℕ → Live → (W → Visit W Kids) → (W → W) → Kids → Visit W Kids
go_on_or_stop true p m a w f x rest halt_later ks = in_front (behind p m) x (rest w)
go_on_or_stop false p m a w f x rest halt_later ks = gives a (halt_later w) f (kid pending x (later m ks))

abbrev pub group_step : {W : Type 0} → Polarity → Bool → Visit W Live → (W → Visit W Kids) → (W → W) → Kids → Visit W Kids
group_step p m (gives a w f x) rest halt_later ks = go_on_or_stop (moves_on p a) p m a w f x rest halt_later ks

-- a group that has passed or failed forgets which child it remembered
abbrev pub group_end : {W : Type 0} → Polarity → Bool → Visit W Kids → Visit W Live
group_end p m (gives Run w f ks) = gives Run w f (live_group p m ks)
group_end p m (gives Pass w f ks) = gives Pass w [] (live_group p m (forgotten ks))
group_end p m (gives Fail w f ks) = gives Fail w [] (live_group p m (forgotten ks))

-- par

abbrev pub size : Kids → ℕ
size no_kids = 0
size (kid r x ks) = suc (size ks)

abbrev pub is_pass : Kept → Bool
is_pass pending = false
is_pass (ended b) = b

abbrev pub is_fail : Kept → Bool
is_fail pending = false
is_fail (ended b) = not b

abbrev pub passes : Kids → ℕ
passes no_kids = 0
passes (kid r x ks) = one (is_pass r) + passes ks

abbrev pub fails : Kids → ℕ
fails no_kids = 0
fails (kid r x ks) = one (is_fail r) + fails ks

-- at least `need` of n have passed: pass; more than n - need have failed: fail; else run
abbrev pub verdict : (need n passed failed : ℕ) → Status
verdict need n passed failed = cond (nat_lt passed need) (cond (nat_lt (n - need) failed) Fail Run) Pass

-- the children of a par that has ended: those without a result are halted, and all results forgotten
abbrev pub after_par : Kids → Kids
after_par no_kids = no_kids
after_par (kid pending x ks) = kid pending (cleared x) (after_par ks)
after_par (kid (ended b) x ks) = kid pending x (after_par ks)

-- one child of a row before the others; the status of a row is not used
abbrev pub beside : {W : Type 0} → Kept → List ℕ → Live → Visit W Kids → Visit W Kids
beside r f x (gives a w g ks) = gives a w (f ++ g) (kid r x ks)

abbrev pub par_step : {W : Type 0} → Visit W Live → (W → Visit W Kids) → Visit W Kids
par_step (gives a w f x) rest = beside (kept_as a) f x (rest w)

abbrev pub par_end : {W : Type 0} → ℕ → Status → W → (W → W) → List ℕ → Kids → Visit W Live
par_end need Run w halt_open f ks = gives Run w f (live_par need ks)
par_end need Pass w halt_open f ks = gives Pass (halt_open w) [] (live_par need (after_par ks))
par_end need Fail w halt_open f ks = gives Fail (halt_open w) [] (live_par need (after_par ks))

-- not

abbrev pub not_end : {W : Type 0} → Visit W Live → Visit W Live
not_end (gives a w f x) = gives (exchanged a) w f (live_not x)

-- retry and repeat

-- one more is counted: run below the times, and the end on reaching them
abbrev pub count_or_end : {W : Type 0} → Bool → Polarity → ℕ → ℕ → W → Live → Visit W Live
count_or_end true p times n w x = gives Run w [] (live_loop p times (suc n) x)
count_or_end false p times n w x = gives (moved p) w [] (live_loop p times 0 x)

abbrev pub loop_step : {W : Type 0} → Bool → Polarity → ℕ → ℕ → Status → W → List ℕ → Live → Visit W Live
loop_step true p times n a w f x = count_or_end (nat_lt (suc n) times) p times n w x
loop_step false p times n Run w f x = gives Run w f (live_loop p times n x)
loop_step false p times n Pass w f x = gives Pass w [] (live_loop p times 0 x)
loop_step false p times n Fail w f x = gives Fail w [] (live_loop p times 0 x)

abbrev pub loop_end : {W : Type 0} → Polarity → ℕ → ℕ → Visit W Live → Visit W Live
loop_end p times n (gives a w f x) = loop_step (moves_on p a) p times n a w f x

-- what a visit of a leaf and a stop of a leaf do
pub record Actions : Type 1 where
  pub World : Type 0
  pub visit_leaf : Leaf → World → Status × World
  pub stop_leaf : Leaf → World → World

module _ (A : Actions) where
  -- halting a node stops the leaves below it in tree order
  abbrev mutual
    pub halt : Live → A.World → A.World
    halt (live_leaf l) w = A.stop_leaf l w
    halt (live_group p m ks) w = halt_kids ks w
    halt (live_par need ks) w = halt_kids ks w
    halt (live_not x) w = halt x w
    halt (live_loop p times n x) w = halt x w

    pub halt_kids : Kids → A.World → A.World
    halt_kids no_kids w = w
    halt_kids (kid r x ks) w = halt_kids ks (halt x w)

  abbrev pub halt_later : Bool → Kids → A.World → A.World
  halt_later true ks w = w
  halt_later false ks w = halt_kids ks w

  -- the children without a kept result
  abbrev pub halt_pending : Kids → A.World → A.World
  halt_pending no_kids w = w
  halt_pending (kid pending x ks) w = halt_pending ks (halt x w)
  halt_pending (kid (ended b) x ks) w = halt_pending ks w

  abbrev pub par_decided : ℕ → Visit A.World Kids → Visit A.World Live
  par_decided need (gives a w f ks) = par_end need (verdict need (size ks) (passes ks) (fails ks)) w (halt_pending ks) f ks

  abbrev mutual
    pub visit : Live → A.World → Visit A.World Live
    visit (live_leaf l) w = leaf_visit l (A.visit_leaf l w)
    visit (live_group p m ks) w = group_end p m (visit_group ks p m w)
    visit (live_par need ks) w = par_decided need (visit_par ks w)
    visit (live_not x) w = not_end (visit x w)
    visit (live_loop p times n x) w = loop_end p times n (visit x w)

    -- from the first child of which nothing is remembered
    pub visit_group : Kids → Polarity → Bool → A.World → Visit A.World Kids
    visit_group no_kids p m w = gives (moved p) w [] no_kids
    visit_group (kid pending x ks) p m w = group_step p m (visit x w) (visit_group ks p m) (halt_later m ks) ks
    visit_group (kid (ended b) x ks) p m w = in_front (behind p m) x (visit_group ks p m w)

    -- every child without a kept result
    pub visit_par : Kids → A.World → Visit A.World Kids
    visit_par no_kids w = gives Run w [] no_kids
    visit_par (kid pending x ks) w = par_step (visit x w) (visit_par ks)
    visit_par (kid (ended b) x ks) w = beside (ended b) [] x (visit_par ks w)
