-- What an executive keeps: from the beginning, and through ticks and halts.
use Rattle.std.specs.Option.{option_map}
use Rattle.std.proofs.Common.{◌≡◌, ℕ, zero, suc, ◌+◌, ◌*◌, ◌≤◌, ltb, eqb, ◌||◌, slice_index_or, Bool, true, false, cond, List, [], length, take, replicate, get_or, Some, None, Option, Result, sym, refl, ap, ◌∙◌, subst, eqb-true, arith}
use Rattle.std.proofs.lemmas.Bool.{not-false, or_parts, le-ltb, ltb-false}
use Rattle.std.proofs.lemmas.List.{length-replicate, length-take}
use Rattle.entry.specs.declared.parts.Ability.{Ability}
use Rattle.entry.specs.Kinds.{Count}
use Rattle.bank.specs.Skills.{Skill}
use Rattle.mission.specs.declared.mission.Mission.{Mission}
use Rattle.mission.specs.Missions.{meaning}
use Rattle.mission.specs.Trees.{Leaf}
use Rattle.rules.specs.declared.line.Line.{Line}
use Rattle.rules.specs.declared.sitting_fault.SittingFault.{SittingFault}
use Rattle.rules.specs.declared.sitting_fault.SittingFault.TheVariants.{PlaceOpen, SkillRuns, SkillBeyond, SkillsDiffer, BoardSmall, TraceLength, TraceFull}
use Rattle.rules.specs.declared.status.Status.{Status}
use Rattle.rules.specs.Leaves.{World, Users, runs_in, users, in_tick}
use Rattle.rules.specs.Live.{Live, live_leaf, live_group, live_par, live_not, live_loop, Kids, no_kids, kid, fresh, cleared}
use Rattle.rules.specs.Missions.{Plan, plan}
use Rattle.rules.specs.Sittings.{Sitting, State, has, any_beyond, any_differs, too_small, other_length, free, tick_room, halt_room, named_on, opening_checks, tick_checks, halt_checks, is_open, any_runs, first_of}
use Rattle.rules.specs.Visiting.{Visit, gives, halt}
use Rattle.rules.proofs.Balances.{on, obeyed}
use Rattle.rules.proofs.Distinct.{once}
use Rattle.rules.proofs.Fronts.{Told, told_run, told_pass, told_fail, visit_stands, halt_stands}
use Rattle.rules.proofs.Shapes.{bare, bare_kids, bare_fresh}
use Rattle.rules.proofs.Standing.{clear_stands, fresh_stands}
use Rattle.sitting.specs.Agreeing.{Named, Holds, Fronted, holder_of, boards_for, Agrees, Works, LeafFits, EveryLeaf, EveryLeafIn}
use Rattle.sitting.specs.Desks.{bench, Boards, fresh_ledger, state_of, is_running}
use Rattle.sitting.specs.Ends.{ends}
use Rattle.sitting.specs.Fronts.{front_of}
use Rattle.sitting.specs.Keeping.{Placed, Kept, ticking}
use Rattle.sitting.specs.Reviving.{live_of}
use Rattle.sitting.specs.Ruled.{named, Agreement, Sits, Visited, Halted, agreeing, holding, working}
use Rattle.sitting.specs.Seats.{Laid, LaidIn, Seated}
use Rattle.sitting.specs.Zipper.{nodes}
use Rattle.sitting.specs.declared.executive.Executive.{Executive}
use Rattle.sitting.specs.declared.leaf_state.LeafState.{LeafState}
use Rattle.sitting.specs.declared.leaf_state.LeafState.TheVariants.{Idle}
use Rattle.sitting.specs.declared.ledger.Ledger.{Ledger}
use Rattle.sitting.specs.declared.memory.Memory.{Memory}
use Rattle.sitting.specs.declared.memory.Memory.TheVariants.{Nothing}
use Rattle.sitting.proofs.Beginning.{begins_with, begins, begins_to_work, opens}
use Rattle.sitting.proofs.Fitting.{mission_fits, named_once}
use Rattle.sitting.proofs.Fronting.{running_as, running_none, fronted_running}
use Rattle.sitting.proofs.Revivals.{live_is}
use Rattle.sitting.proofs.Seated.{laid_on}
use Rattle.sitting.proofs.Seating.{seated_new}
use Rattle.sitting.proofs.Sizing.{sized, halt_beside, halt_boards, agrees_beside}

-- a seat by what each leaf of the tree has

module _ (s : Executive) (P Q : Leaf → Type 0) where
  mutual
    laid_every : (x : Live) (ms : List Memory) (i : ℕ) → Laid s P ms i x → EveryLeaf Q (bare x) → Laid s Q ms i x
    laid_every (live_leaf l) ms i h e = (h.0, e)
    laid_every (live_group p m ks) ms i h e = (h.0, laid_in_every ks ms (suc i) h.1 e)
    laid_every (live_par n ks) ms i h e = (h.0, h.1, laid_in_every ks ms (suc i) h.2 e)
    laid_every (live_not x) ms i h e = (h.0, laid_every x ms (suc i) h.1 e)
    laid_every (live_loop p times n x) ms i h e = (h.0, h.1, h.2, laid_every x ms (suc i) h.3 e)

    laid_in_every : (ks : Kids) (ms : List Memory) (i : ℕ) → LaidIn s P ms i ks → EveryLeafIn Q (bare_kids ks) → LaidIn s Q ms i ks
    laid_in_every no_kids ms i h e = tt
    laid_in_every (kid r x ks) ms i h e = (laid_every x ms i h.0 e.0, laid_in_every ks ms (i + nodes x) h.1 e.1)

  seated_every : (x : Live) → Seated s P x → EveryLeaf Q (bare x) → Seated s Q x
  seated_every x h e = record { tidy = h.tidy; shallow = h.shallow; laid = laid_every x s.memories 0 h.laid e; long = h.long }

-- boards of the sizes that a mission declares

sized_large : (m : Mission) (w : World) → too_small (plan m) (sized m w) ≡ false
sized_large m w =
    rw
    (length-replicate {A = Option Count} (meaning m).counts None, length-replicate {A = Option Ability} (meaning m).abilities None, le-ltb (meaning m).counts (meaning m).counts (omega arith), le-ltb (meaning m).abilities (meaning m).abilities (omega arith))
    refl

declared_fits : (m : Mission) → EveryLeaf (LeafFits (users (plan m).tree) (meaning m).counts (meaning m).abilities) (plan m).tree
declared_fits m =
    let us = users (plan m).tree in
    let t = (plan m).tree in
    let none : World = record { bank = []; counts = []; abilities = []; lines = [] } in
    let w = sized m none in
    subst (λ c. EveryLeaf (LeafFits us c (meaning m).abilities) t) (length-replicate {A = Option Count} (meaning m).counts None)
    (subst (λ a. EveryLeaf (LeafFits us (length w.counts) a) t) (length-replicate {A = Option Ability} (meaning m).abilities None) (mission_fits m w (sized_large m none)))

-- from a seat

abbrev Fit : Executive → Leaf → Type 0
Fit e = LeafFits (named e) (meaning e.mission).counts (meaning e.mission).abilities

kept_from : (e : Executive) (P : Leaf → Type 0) (x : Live) → bare x ≡ (plan e.mission).tree → Seated e P x → Holds (named e) e.ledger → length e.ledger.states ≡ 64 →
    ((k : ℕ) (d : Option ℕ) → Named (named e) k d → Placed k x (is_running (state_of e.ledger k))) → Kept e
kept_from e P x b h o l p =
    let q : x ≡ live_of e = sym (live_is e P x b h) in
    record {
      tree = ap bare (sym q) ∙ b;
      seated = subst (Seated e (Fit e)) q (seated_every e P (Fit e) x h (subst (EveryLeaf (Fit e)) (sym b) (declared_fits e.mission)));
      holds = o;
      states = l;
      placed = λ k d n. subst (λ (y : Live). Placed k y (is_running (state_of e.ledger k))) q (p k d n);
    }

-- a new executive

replicate_default : {X : Type 0} (n i : ℕ) (x : X) → get_or (replicate n x) i x ≡ x
replicate_default zero zero x = refl
replicate_default zero (suc i) x = refl
replicate_default (suc n) zero x = refl
replicate_default (suc n) (suc i) x = replicate_default n i x

new : (e : Executive) → take (length (meaning e.mission).nodes) e.ends ≡ ends (plan e.mission).tree 0 → e.memories ≡ replicate 256 Nothing → e.ledger ≡ fresh_ledger →
    Kept e × (live_of e ≡ fresh (plan e.mission).tree) × (front_of e ≡ [])
new e a c g =
    let t = (plan e.mission).tree in
    let b = bare_fresh t in
    let h = seated_new (Fit e) e.mission e refl a c (declared_fits e.mission) in
    let idle : (k : ℕ) → state_of e.ledger k ≡ Idle = λ k. ap (λ (l : Ledger). state_of l k) g ∙ replicate_default 64 k Idle in
    let o = opens (named e) e.ledger (ap (λ (l : Ledger). length l.holders) g) (λ d. ap (λ (l : Ledger). holder_of l d) g ∙ replicate_default 32 d None) idle in (
      kept_from e (Fit e) (fresh t) b h o.0 (ap (λ (l : Ledger). length l.states) g)
          (λ k d n.
          let f = fresh_stands t k (named_once t k d n (once e.mission k)) in
          record { free = f.0; stands = f.1; quiet = λ z. ap is_running (idle k) }),
      live_is e (Fit e) (fresh t) b h,
      running_none (named e) e.ledger o.1,
    )

-- it remembers nothing, and no leaf runs
pub new_kept : (e : Executive) (m : Mission) → e.mission ≡ m → take (length (meaning m).nodes) e.ends ≡ ends (plan m).tree 0 → e.memories ≡ replicate 256 Nothing → e.ledger ≡ fresh_ledger →
    Kept e × (live_of e ≡ fresh (plan m).tree) × (front_of e ≡ [])
new_kept e m q a c g =
    subst (λ (n : Mission). Kept e × (live_of e ≡ fresh (plan n).tree) × (front_of e ≡ [])) q
    (new e (subst (λ (n : Mission). take (length (meaning n).nodes) e.ends ≡ ends (plan n).tree 0) (sym q) a) c g)

-- another ledger

seated_on : {P : Leaf → Type 0} (e : Executive) (l : Ledger) (x : Live) → Seated e P x → Seated (record e { ledger = l }) P x
seated_on {P = P} e l x h = record { tidy = h.tidy; shallow = h.shallow; laid = laid_on e P x e.memories e.memories l 0 h.laid; long = h.long }

-- with the same states and holders
pub ledger_kept : (e : Executive) (l : Ledger) → l.states ≡ e.ledger.states → l.holders ≡ e.ledger.holders → Kept e → Kept (record e { ledger = l })
ledger_kept e l p q k = record {
  tree = k.tree;
  seated = seated_on e l (live_of e) k.seated;
  holds = record {
    holders = ap length q ∙ k.holds.holders;
    held = λ i d n r. ap (λ (hs : List (Option ℕ)). slice_index_or hs d None) q ∙ k.holds.held i d n (ap (λ (ss : List LeafState). is_running (slice_index_or ss i Idle)) (sym p) ∙ r);
    named = λ d i h. k.holds.named d i (ap (λ (hs : List (Option ℕ)). slice_index_or hs d None) (sym q) ∙ h);
  };
  states = ap length p ∙ k.states;
  placed = λ i d n. subst (λ (ss : List LeafState). Placed i (live_of e) (is_running (slice_index_or ss i Idle))) (sym p) (k.placed i d n);
}

pub ticking_kept : (e : Executive) → Kept e → Kept (ticking e)
ticking_kept e k = ledger_kept e (record e.ledger { tick = e.ledger.tick + 1 }) refl refl k

-- a tick begins

none_of : (b : Bool) (f : SittingFault) (r : Option (Bool × SittingFault)) → ◌≡◌ {A = Option SittingFault} (option_map (λ c. c.1) (cond b (Some (b, f)) r)) None → (b ≡ false) × (◌≡◌ {A = Option SittingFault} (option_map (λ c. c.1) r) None)
none_of true f r e = absurd cc
none_of false f r e = (refl, e)

-- with room for a line, the lines used are rows of the trace
room_used : (s : State) (rows : List Line) (used need : ℕ) → s.length ≡ length rows → s.world.lines ≡ take used rows → ltb (free s) (need + 2) ≡ false → used ≤ length rows
room_used s rows used need e f h =
    let p = ltb-false (free s) (need + 2) h in
    let q = ap length f in
    let r = length-take used rows in
    omega arith

pub opening_room : (us : Users) (p : Plan) (s : State) → first_of (opening_checks us p s) ≡ None → tick_room us ≤ s.length
opening_room us p s c =
    let c1 = none_of (is_open s.place) PlaceOpen _ c in
    let c2 = none_of (any_beyond us (length s.world.bank)) SkillBeyond _ c1.1 in
    let c3 = none_of (any_runs us s.world.bank) SkillRuns _ c2.1 in
    let c4 = none_of (too_small p s.world) BoardSmall _ c3.1 in
    let c5 = none_of (ltb s.length (tick_room us) || ltb 65536 s.length) TraceLength _ c4.1 in
    ltb-false s.length (tick_room us) (or_parts (ltb s.length (tick_room us)) (ltb 65536 s.length) c5.0).0

pub same_length : (o : Sitting) (s : State) → other_length o s ≡ false → s.length ≡ o.length
same_length o s e = eqb-true s.length o.length (not-false (eqb s.length o.length) e)

-- what the checks of a tick let through
pub record TickAllowed (us : Users) (o : Sitting) (s : State) : Type 0 where
  pub beyond : any_beyond us (length s.world.bank) ≡ false
  pub differs : any_differs us s.world.bank o.front ≡ false
  pub small : too_small o.mission s.world ≡ false
  pub long : s.length ≡ o.length
  pub room : ltb (free s) (tick_room us) ≡ false

pub tick_allowed : (us : Users) (o : Sitting) (s : State) → first_of (tick_checks us o s) ≡ None → TickAllowed us o s
tick_allowed us o s c =
    let c1 = none_of (any_beyond us (length s.world.bank)) SkillBeyond _ c in
    let c2 = none_of (any_differs us s.world.bank o.front) SkillsDiffer _ c1.1 in
    let c3 = none_of (too_small o.mission s.world) BoardSmall _ c2.1 in
    let c4 = none_of (other_length o s) TraceLength _ c3.1 in
    let c5 = none_of (ltb (free s) (tick_room us)) TraceFull _ c4.1 in
    record { beyond = c1.0; differs = c2.0; small = c3.0; long = same_length o s c4.0; room = c5.0 }

pub tick_sits : (e : Executive) (o : Sitting) (s : State) (rows : List Line) → Kept e → o.mission ≡ plan e.mission → o.front ≡ front_of e → s.length ≡ length rows → s.world.lines ≡ take e.ledger.used rows →
    first_of (tick_checks (named e) o s) ≡ None → Sits (working (suc e.ledger.tick) rows) (ticking e) (live_of e) s.world s.world.bank (boards_for s.world) rows
tick_sits e o s rows k m f n l c =
    let us = named e in
    let q = tick_allowed us o s c in
    let z = ticking_kept e k in
    let small : too_small (plan e.mission) s.world ≡ false = ap (λ (p : Plan). too_small p s.world) (sym m) ∙ q.small in
    let Q = LeafFits us (length s.world.counts) (length s.world.abilities) in
    record {
      tree = z.tree;
      seated = seated_every (ticking e) (Fit e) Q (live_of e) z.seated (subst (EveryLeaf Q) (sym k.tree) (mission_fits e.mission s.world small));
      agrees = begins_to_work us (suc e.ledger.tick) s.world rows (ticking e).ledger z.states (omega arith) (room_used s rows e.ledger.used (4 * length us) n l q.room) (sym l)
          o.front (subst (λ (g : List ℕ). Fronted us g (ticking e).ledger) (sym f) (fronted_running us (ticking e).ledger)) z.holds q.beyond q.differs;
    }

-- and a visit ends

-- of a named skill, after a visit
abbrev After : ℕ → Visit World Live → Type 0
After k (gives a w f x) = (runs_in w.bank k ≡ has k f) × Placed k x (runs_in w.bank k)

after_told : (k : ℕ) {o : Visit World Live} → Told World on k o → After k o
after_told k (told_run w f b h e d) = (e, record { free = b; stands = h; quiet = d })
after_told k (told_pass w h e) = (e, record { free = h.0; stands = h.1; quiet = λ z. e })
after_told k (told_fail w h e) = (e, record { free = h.0; stands = h.1; quiet = λ z. e })

pub visit_kept : (t : ℕ) (base : List Line) (e : Executive) (w : World) (bank : List Skill) (boards : Boards) (rows : List Line) → Kept e → Sits (working t base) e (live_of e) w bank boards rows →
    (r : Result Status SittingFault) (z : Executive) (bank_after : List Skill) (boards_after : Boards) (rows_after : List Line) (v : Visited t (λ us. Works us t base) e (live_of e) w r z bank_after boards_after rows_after) →
    Kept z × (live_of z ≡ v.live) × (front_of z ≡ named_on (named e) v.front)
visit_kept t base e w bank boards rows k h r z bank_after boards_after rows_after v =
    let us = named e in
    let same : named z ≡ us = ap (λ (m : Mission). users (plan m).tree) v.same.mission in
    let here : (i : ℕ) (d : Option ℕ) → Named (named z) i d → Named us i d = λ i d n. subst (λ (vs : Users). Named vs i d) same n in
    let A = in_tick us t in
    let P = LeafFits (named z) (length v.world.counts) (length v.world.abilities) in
    let after : (i : ℕ) (d : Option ℕ) → Named us i d → After i (gives v.status v.world v.front v.live) =
    λ i d n.
    let p = k.placed i d n in
    subst (After i) v.gives_this (after_told i (visit_stands A on (obeyed us t) i p.stands w (λ q. sym (h.agrees.agrees.follows.runs i d n) ∙ p.quiet q))) in
    let runs : (i : ℕ) (d : Option ℕ) → Named (named z) i d → is_running (state_of z.ledger i) ≡ runs_in v.world.bank i = λ i d n. v.sits.agrees.agrees.follows.runs i d n in (
      kept_from z P v.live v.sits.tree v.sits.seated v.sits.agrees.holds v.sits.agrees.agrees.follows.states
          (λ i d n. subst (Placed i v.live) (sym (runs i d n)) (after i d (here i d n)).1),
      live_is z P v.live v.sits.tree v.sits.seated,
      running_as (named z) z.ledger v.front (λ i d n. runs i d n ∙ (after i d (here i d n)).0) ∙ ap (λ (vs : Users). named_on vs v.front) same,
    )

-- a halt begins

sized_fits : (e : Executive) (w : World) (x : Live) → bare x ≡ (plan e.mission).tree → EveryLeaf (LeafFits (named e) (length (sized e.mission w).counts) (length (sized e.mission w).abilities)) (bare x)
sized_fits e w x b =
    let Q = LeafFits (named e) (length (sized e.mission w).counts) (length (sized e.mission w).abilities) in
    subst (EveryLeaf Q) (sym b) (mission_fits e.mission (sized e.mission w) (sized_large e.mission w))

-- over any ledger that agrees with the bank
pub stop_sits : (t : ℕ) (e : Executive) (l : Ledger) (w : World) (rows : List Line) → Kept e → length l.states ≡ 64 → l.tick ≡ t → l.used ≤ length rows → take l.used rows ≡ w.lines →
    ((k : ℕ) (d : Option ℕ) → Named (named e) k d → is_running (state_of l k) ≡ runs_in w.bank k) →
    Sits (agreeing t rows) (record e { ledger = l }) (live_of e) (sized e.mission w) w.bank (boards_for (sized e.mission w)) rows
stop_sits t e l w rows k long tick used lines runs =
    let v = sized e.mission w in
    record {
      tree = k.tree;
      seated = seated_on e l (live_of e) (seated_every e (Fit e) (LeafFits (named e) (length v.counts) (length v.abilities)) (live_of e) k.seated (sized_fits e w (live_of e) k.tree));
      agrees = begins_with (named e) t v rows l long tick used lines runs;
    }

-- what the checks of a halt let through
pub record HaltAllowed (us : Users) (o : Sitting) (s : State) : Type 0 where
  pub differs : any_differs us s.world.bank o.front ≡ false
  pub long : s.length ≡ o.length
  pub room : ltb (free s) (halt_room us) ≡ false

pub halt_allowed : (us : Users) (o : Sitting) (s : State) → first_of (halt_checks us o s) ≡ None → HaltAllowed us o s
halt_allowed us o s c =
    let c1 = none_of (any_differs us s.world.bank o.front) SkillsDiffer _ c in
    let c2 = none_of (other_length o s) TraceLength _ c1.1 in
    let c3 = none_of (ltb (free s) (halt_room us)) TraceFull _ c2.1 in
    record { differs = c1.0; long = same_length o s c2.0; room = c3.0 }

pub halt_sits : (e : Executive) (o : Sitting) (s : State) (rows : List Line) → Kept e → o.front ≡ front_of e → s.length ≡ length rows → s.world.lines ≡ take e.ledger.used rows →
    first_of (halt_checks (named e) o s) ≡ None →
    Sits (holding e.ledger.tick rows) e (live_of e) (sized e.mission s.world) s.world.bank (boards_for (sized e.mission s.world)) rows
halt_sits e o s rows k f n l c =
    let us = named e in
    let q = halt_allowed us o s c in
    let front = subst (λ (g : List ℕ). Fronted us g e.ledger) (sym f) (fronted_running us e.ledger) in
    let v = sized e.mission s.world in
    record {
      tree = k.tree;
      seated = seated_every e (Fit e) (LeafFits us (length v.counts) (length v.abilities)) (live_of e) k.seated (sized_fits e s.world (live_of e) k.tree);
      agrees = (begins us e.ledger.tick v rows e.ledger k.states refl (room_used s rows e.ledger.used (2 * length us) n l q.room) (sym l) o.front front q.differs, k.holds);
    }

-- and a halt ends

pub halted_agrees : (R : Agreement) (t : ℕ) (base : List Line) (e : Executive) (x : Live) (w : World) (r : Result Unit SittingFault) (z : Executive) (bank_after : List Skill) (boards : Boards) (rows_after : List Line) →
    Halted t R e x (sized e.mission w) r z bank_after boards rows_after →
    Agrees (named z) t base (halt (in_tick (named e) t) x (sized e.mission w)) (bench bank_after rows_after z.ledger) boards →
    Agrees (named e) t base (halt (in_tick (named e) t) x w) (bench bank_after rows_after z.ledger) (boards_for w)
halted_agrees R t base e x w r z bank_after boards rows_after v h =
    let us = named e in
    let u = halt (in_tick us t) x (sized e.mission w) in
    let c = replicate (meaning e.mission).counts None in
    let a = replicate (meaning e.mission).abilities None in
    let same : named z ≡ us = ap (λ (m : Mission). users (plan m).tree) v.same.mission in
    subst (Agrees us t base (halt (in_tick us t) x w) (bench bank_after rows_after z.ledger)) (halt_boards us t x w)
    (agrees_beside us t c a base (halt (in_tick us t) x w) (bench bank_after rows_after z.ledger) boards
    (subst (λ (y : World). Agrees us t base y (bench bank_after rows_after z.ledger) boards) (halt_beside us t c a x w)
    (subst (λ (vs : Users). Agrees vs t base u (bench bank_after rows_after z.ledger) boards) same h)))

pub halt_kept : (t : ℕ) (base : List Line) (e : Executive) (w : World) (boards : Boards) → Kept e →
    (r : Result Unit SittingFault) (z : Executive) (bank_after : List Skill) (rows_after : List Line) → Halted t (holding t base) e (live_of e) (sized e.mission w) r z bank_after boards rows_after →
    Kept z
    × (live_of z ≡ cleared (live_of e))
    × (front_of z ≡ [])
    × Agrees (named e) t base (halt (in_tick (named e) t) (live_of e) w) (bench bank_after rows_after z.ledger) (boards_for w)
halt_kept t base e w boards k r z bank_after rows_after v =
    let us = named e in
    let x = live_of e in
    let A = in_tick us t in
    let same : named z ≡ us = ap (λ (m : Mission). users (plan m).tree) v.same.mission in
    let here : (i : ℕ) (d : Option ℕ) → Named (named z) i d → Named us i d = λ i d n. subst (λ (vs : Users). Named vs i d) same n in
    let u = halt A x (sized e.mission w) in
    let P = LeafFits (named z) (length u.counts) (length u.abilities) in
    let off : (i : ℕ) (d : Option ℕ) → Named (named z) i d → is_running (state_of z.ledger i) ≡ false =
    λ i d n. v.sits.agrees.0.follows.runs i d n ∙ halt_stands A on (obeyed us t) i (k.placed i d (here i d n)).stands (sized e.mission w) in (
      kept_from z P (cleared x) v.sits.tree v.sits.seated v.sits.agrees.1 v.sits.agrees.0.follows.states
          (λ i d n. let f = clear_stands (k.placed i d (here i d n)).stands in record { free = f.0; stands = f.1; quiet = λ q. off i d n }),
      live_is z P (cleared x) v.sits.tree v.sits.seated,
      running_none (named z) z.ledger (record { is = off }),
      halted_agrees (holding t base) t base e x w r z bank_after boards rows_after v v.sits.agrees.0,
    )
