-- An opening, a tick, a halt and a close that their checks let through are those of the rules.
use Rattle.std.proofs.Common.{◌≡◌, ℕ, zero, suc, ◌+◌, ◌*◌, ◌≤◌, Bool, not, List, [], ◌∷◌, length, take, drop, replicate, None, Ok, Option, Result, sym, refl, ap, ◌∙◌, subst, length-append, arith}
use Rattle.std.proofs.lemmas.Bool.{ltb-false, eq-eqb, ne_eqb}
use Rattle.std.proofs.lemmas.List.{length-take}
use Rattle.bank.specs.Skills.{Skill}
use Rattle.mission.specs.declared.mission.Mission.{Mission}
use Rattle.mission.specs.Missions.{meaning}
use Rattle.mission.specs.Trees.{Tree}
use Rattle.rules.specs.declared.line.Line.{Line}
use Rattle.rules.specs.declared.sitting_fault.SittingFault.{SittingFault}
use Rattle.rules.specs.declared.sitting_fault.SittingFault.TheVariants.{TraceLength}
use Rattle.rules.specs.declared.status.Status.{Status}
use Rattle.rules.specs.declared.word.Word.{Word}
use Rattle.rules.specs.declared.word.Word.TheVariants.{RootHalt, RootClosed}
use Rattle.rules.specs.Leaves.{World, Users, runs_in, users, in_tick}
use Rattle.rules.specs.Lines.{root_line, root_word}
use Rattle.rules.specs.Live.{Live, cleared}
use Rattle.rules.specs.Missions.{Plan, plan, names}
use Rattle.rules.specs.Sittings.{Sitting, State, held, tick, halt_root, answered, halted, tick_checks, halt_checks, tick_room, halt_room, free, first_of, unless, root_noted, named_on, ticked, continued, halted_with, shut, Answer, close, called, closed, refused, close_checks, closed_with, other_length, with_lines, opened, begun, opening, opening_checks}
use Rattle.rules.specs.Visiting.{visit, halt}
use Rattle.rules.proofs.Distinct.{once}
use Rattle.rules.proofs.Shapes.{bare}
use Rattle.rules.proofs.Spent.{Long, visit_lines, halt_lines}
use Rattle.sitting.specs.Agreeing.{Named, boards_for, Agrees}
use Rattle.sitting.specs.Desks.{bench, Boards, fresh_ledger, state_of, is_running}
use Rattle.sitting.specs.Ends.{ends as mission_ends}
use Rattle.sitting.specs.Keeping.{Kept, ticking}
use Rattle.sitting.specs.Opened.{Roomy, Timely, sitting_of, world_of, state_for, noting, root_row, Answered}
use Rattle.sitting.specs.Reviving.{live_of}
use Rattle.sitting.specs.Ruled.{named, VisitsByTheRules, HaltsByTheRules, agreeing, holding}
use Rattle.sitting.specs.declared.executive.Executive.{Executive}
use Rattle.sitting.specs.declared.ledger.Ledger.{Ledger}
use Rattle.sitting.specs.declared.memory.Memory.TheVariants.{Nothing}
use Rattle.sitting.proofs.Beginning.{root_line_agrees, ends}
use Rattle.sitting.proofs.Growing.{visit_grows, halt_grows}
use Rattle.sitting.proofs.Keepings.{new_kept, opening_room, tick_allowed, tick_sits, ticking_kept, visit_kept, ledger_kept, halt_allowed, halt_sits, halt_kept, stop_sits, halted_agrees}
use Rattle.sitting.proofs.Sizing.{sized, halt_boards, halt_bank}

-- the parts of a state

same_sitting : (m n : Plan) (x y : Live) (number long size s t : ℕ) (f g : List ℕ) → m ≡ n → x ≡ y → s ≡ t → long ≡ size → f ≡ g →
    ◌≡◌ {A = Sitting} (record { mission = m; live = x; number = number; ticks = s; length = long; front = f }) (record { mission = n; live = y; number = number; ticks = t; length = size; front = g })
same_sitting m n x y number long size s t f g a b c d e = rw (a, b, c, d, e) refl

same_world : (bank : List Skill) (boards : Boards) (ls : List Line) (w : World) → bank ≡ w.bank → boards ≡ boards_for w → ls ≡ w.lines →
    ◌≡◌ {A = World} (record { bank = bank; counts = boards.0; abilities = boards.1; lines = ls }) w
same_world bank boards ls w a b c = rw (a, b, c) refl

same_state : (o p : Sitting) (v w : World) (m n : ℕ) → o ≡ p → v ≡ w → m ≡ n → ◌≡◌ {A = State} (record { place = held o; world = v; length = m }) (record { place = held p; world = w; length = n })
same_state o p v w m n a b c = rw (a, b, c) refl

-- a line of the root is written

record Ends (t : ℕ) (base : List Line) (w : World) (z : Executive) (bank : List Skill) (boards : Boards) (rows : List Line) (v : Word) : Type 0 where
  world : world_of (noting z rows) bank boards (root_row z v rows) ≡ root_noted t v w
  long : length (root_row z v rows) ≡ length base
  used : (noting z rows).ledger.used ≡ suc (length w.lines)
  behind : drop (noting z rows).ledger.used (root_row z v rows) ≡ drop (noting z rows).ledger.used base

ends_with : (us : Users) (t : ℕ) (base : List Line) (w : World) (z : Executive) (bank : List Skill) (boards : Boards) (rows : List Line) (v : Word) →
    Agrees us t base w (bench bank rows z.ledger) boards → suc (length w.lines) ≤ length base → Ends t base w z bank boards rows v
ends_with us t base w z bank boards rows v h n =
    let a = root_line_agrees us t base w (bench bank rows z.ledger) boards v h in
    let y = root_noted t v w in
    let l = length-append w.lines (root_line t v ∷ []) in
    let b = bench bank (root_row z v rows) (noting z rows).ledger in
    let q = ends us t base y b boards a (omega arith) in
    record {
      world = same_world bank boards _ y (ap (λ x. x.bank) h.bench) h.boards (ap (λ k. take k (root_row z v rows)) q.0 ∙ q.1);
      long = q.3;
      used = omega arith;
      behind = ap (λ k. drop k (root_row z v rows)) q.0 ∙ q.2 ∙ ap (λ k. drop k base) (sym q.0);
    }

few_names : (e : Executive) → Kept e → (k : ℕ) → names (bare (live_of e)) k ≤ 1
few_names e k i = subst (λ (t : Tree). names t i ≤ 1) (sym k.tree) (once e.mission i)

-- a tick

pub ticks_by_the_rules : (e : Executive) (number long : ℕ) (bank : List Skill) (boards : Boards) (rows : List Line) → Kept e →
    first_of (tick_checks (named e) (sitting_of e number long) (state_for e number long bank boards rows)) ≡ None →
    (r : Result Status SittingFault) (z : Executive) (bank_after : List Skill) (boards_after : Boards) (rows_after : List Line) → VisitsByTheRules (ticking e) bank boards rows r z bank_after boards_after rows_after →
    (a : Status) × (r ≡ Ok a) × Answered tick (answered a) number long e bank boards rows (noting z rows_after) bank_after boards_after (root_row z (root_word a) rows_after)
ticks_by_the_rules e number long bank boards rows k c r z bank_after boards_after rows_after H =
    let us = named e in
    let o = sitting_of e number long in
    let s = state_for e number long bank boards rows in
    let w = world_of e bank boards rows in
    let x = live_of e in
    let t = suc e.ledger.tick in
    let h = tick_sits e o s rows k refl refl refl refl c in
    let v = H t rows x w h in
    let q = visit_kept t rows (ticking e) w bank boards rows (ticking_kept e k) h r z bank_after boards_after rows_after v in
    let a = v.status in
    let g = v.sits.agrees.agrees in
    let allowed = tick_allowed us o s c in
    let room = ltb-false (free s) (tick_room us) allowed.room in
    let lines = subst (Long (length w.lines + 3 * length (users (bare x)))) v.gives_this (visit_lines us t x w (few_names e k)) in
    let many : length (users (bare x)) ≡ length us = ap (λ (u : Tree). length (users u)) k.tree in
    let d = ends_with (named z) t rows v.world z bank_after boards_after rows_after (root_word a) g (omega arith) in
    let z1 = noting z rows_after in
    let rows1 = root_row z (root_word a) rows_after in (
      a,
      v.answer,
      record {
        by_the_rules =
            ap (λ (f : Option SittingFault). unless f s (ticked us o s (visit (in_tick us t) x w))) c
            ∙ ap (ticked us o s) v.gives_this
            ∙ ap (λ (y : State). (answered a, y))
            (sym
            (same_state (sitting_of z1 number long) (continued o v.live t (named_on us v.front)) (world_of z1 bank_after boards_after rows1) (root_noted t (root_word a) v.world) (length rows1) (length rows)
            (same_sitting _ _ _ _ number long long _ _ _ _ (ap plan v.same.mission) q.1 g.follows.tick refl q.2) d.world d.long));
        kept = ledger_kept z z1.ledger refl refl q.0;
        same = record { mission = v.same.mission; ends = v.same.ends };
        rows = d.long;
        behind = d.behind;
        room = (let used = d.used in let trace = allowed.long in let same : length (named z) ≡ length us = ap (λ (m : Mission). length (users (plan m).tree)) v.same.mission in omega arith);
        timely = λ (y : Timely e). (let used = d.used in let grown = visit_grows us t x w v.world a v.front v.live v.gives_this in let before = length-take e.ledger.used rows in let now = g.follows.tick in omega arith);
      },
    )

-- a halt

pub halts_by_the_rules : (e : Executive) (number long : ℕ) (bank : List Skill) (boards : Boards) (rows : List Line) → Kept e →
    first_of (halt_checks (named e) (sitting_of e number long) (state_for e number long bank boards rows)) ≡ None →
    (r : Result Unit SittingFault) (z : Executive) (bank_after : List Skill) (rows_after : List Line) → HaltsByTheRules holding e bank rows r z bank_after rows_after →
    (r ≡ Ok tt) × Answered halt_root halted number long e bank boards rows (noting z rows_after) bank_after boards (root_row z RootHalt rows_after)
halts_by_the_rules e number long bank boards rows k c r z bank_after rows_after H =
    let us = named e in
    let o = sitting_of e number long in
    let s = state_for e number long bank boards rows in
    let w = world_of e bank boards rows in
    let x = live_of e in
    let t = e.ledger.tick in
    let sized_boards = boards_for (sized e.mission w) in
    let v = H t rows x (sized e.mission w) sized_boards (halt_sits e o s rows k refl refl refl c) in
    let q = halt_kept t rows e w sized_boards k r z bank_after rows_after v in
    let u = halt (in_tick us t) x w in
    let g = q.3 in
    let allowed = halt_allowed us o s c in
    let room = ltb-false (free s) (halt_room us) allowed.room in
    let lines = halt_lines us t x w (few_names e k) in
    let many : length (users (bare x)) ≡ length us = ap (λ (y : Tree). length (users y)) k.tree in
    let d = ends_with us t rows u z bank_after boards rows_after RootHalt g (omega arith) in
    let z1 = noting z rows_after in
    let rows1 = root_row z RootHalt rows_after in (
      v.answer,
      record {
        by_the_rules =
            ap (λ (f : Option SittingFault). unless f s (halted_with u o s)) c
            ∙ ap (λ (y : State). (halted, y))
            (sym
            (same_state (sitting_of z1 number long) (continued o (cleared x) t []) (world_of z1 bank_after boards rows1) (root_noted t RootHalt u) (length rows1) (length rows)
            (same_sitting _ _ _ _ number long long _ _ _ _ (ap plan v.same.mission) q.1 g.follows.tick refl q.2) d.world d.long));
        kept = ledger_kept z z1.ledger refl refl q.0;
        same = record { mission = v.same.mission; ends = v.same.ends };
        rows = d.long;
        behind = d.behind;
        room = (let used = d.used in let trace = allowed.long in let same : length (named z) ≡ length us = ap (λ (m : Mission). length (users (plan m).tree)) v.same.mission in omega arith);
        timely = λ (y : Timely e). (let used = d.used in let grown = halt_grows us t x w in let before = length-take e.ledger.used rows in let now = g.follows.tick in omega arith);
      },
    )

-- an opening

pub opens_by_the_rules : (e : Executive) (m : Mission) → e.mission ≡ m → take (length (meaning m).nodes) e.ends ≡ mission_ends (plan m).tree 0 → e.memories ≡ replicate 256 Nothing → e.ledger ≡ fresh_ledger →
    (number : ℕ) (s : State) (rows : List Line) → s.length ≡ length rows → first_of (opening_checks (users (plan m).tree) (plan m) s) ≡ None →
    (opening (plan m) number s ≡ (opened number, state_for e number (length rows) s.world.bank (boards_for s.world) rows)) × Kept e × Roomy (length rows) e × Timely e
opens_by_the_rules e m q a b g number s rows n c =
    let p = plan m in
    let k = new_kept e m q a b g in
    let room = opening_room (users p.tree) p s c in
    let many : length (named e) ≡ length (users p.tree) = ap (λ (o : Mission). length (users (plan o).tree)) q in
    let none : e.ledger.used ≡ 0 = ap (λ (l : Ledger). l.used) g in (
      ap (λ (f : Option SittingFault). unless f s (opened number, begun p number s)) c
          ∙ ap (λ (y : State). (opened number, y))
          (sym
          (same_state (sitting_of e number (length rows)) _ (world_of e s.world.bank (boards_for s.world) rows) _ (length rows) s.length
          (same_sitting _ _ _ _ number (length rows) s.length _ _ _ _ (ap plan q) k.1 (ap (λ (l : Ledger). l.tick) g) (sym n) k.2)
          (same_world s.world.bank (boards_for s.world) (take e.ledger.used rows) (begun p number s).world refl refl (ap (λ j. take j rows) none))
          (sym n))),
      k.0,
      omega arith,
      (let first : e.ledger.tick ≡ 0 = ap (λ (l : Ledger). l.tick) g in omega arith),
    )

-- a close, over any ledger that follows the bank

shut_with : (a b : Answer) (v w : World) (m n : ℕ) → a ≡ b → v ≡ w → m ≡ n → ◌≡◌ {A = Answer × State} (a, record { place = shut; world = v; length = m }) (b, record { place = shut; world = w; length = n })
shut_with a b v w m n e f g = rw (e, f, g) refl

take_nothing : (n : ℕ) → take {A = Line} n [] ≡ []
take_nothing zero = refl
take_nothing (suc n) = refl

own_number : (e : Executive) (number long : ℕ) → first_of (close_checks (sitting_of e number long) number) ≡ None
own_number e number long = rw (eq-eqb number number refl) refl

-- what halts the skills that a close finds running
module _ (e : Executive) (number long : ℕ) (bank : List Skill) (boards : Boards) (rows : List Line) (k : Kept e) (l : Ledger) (states : length l.states ≡ 64) (tick : l.tick ≡ e.ledger.tick)
    (runs : (i : ℕ) (d : Option ℕ) → Named (named e) i d → is_running (state_of l i) ≡ runs_in bank i) (r : Result Unit SittingFault) (z : Executive) (bank_after : List Skill) where
  -- over the sitting's own trace
  pub closes_by_the_rules : Roomy long e → length rows ≡ long → l.used ≡ e.ledger.used → (rows_after : List Line) → HaltsByTheRules agreeing (record e { ledger = l }) bank rows r z bank_after rows_after →
      (r ≡ Ok tt)
      × (called (close number) (state_for e number long bank boards rows) ≡ (closed, record { place = shut; world = world_of (noting z rows_after) bank_after boards (root_row z RootClosed rows_after); length = length (root_row z RootClosed rows_after) }))
      × (length (root_row z RootClosed rows_after) ≡ length rows)
      × (drop (noting z rows_after).ledger.used (root_row z RootClosed rows_after) ≡ drop (noting z rows_after).ledger.used rows)
  closes_by_the_rules room same_rows used rows_after H =
      let us = named e in
      let o = sitting_of e number long in
      let s = state_for e number long bank boards rows in
      let w = world_of e bank boards rows in
      let x = live_of e in
      let t = e.ledger.tick in
      let u = halt (in_tick us t) x w in
      let v = H t rows x (sized e.mission w) (boards_for (sized e.mission w)) (stop_sits t e l w rows k states tick (omega arith) (ap (λ j. take j rows) used) runs) in
      let g = halted_agrees (agreeing t rows) t rows (record e { ledger = l }) x w r z bank_after (boards_for (sized e.mission w)) rows_after v v.sits.agrees in
      let lines = halt_lines us t x w (few_names e k) in
      let before = length-take e.ledger.used rows in
      let many : length (users (bare x)) ≡ length us = ap (λ (y : Tree). length (users y)) k.tree in
      let d = ends_with us t rows u z bank_after boards rows_after RootClosed g (omega arith) in (
        v.answer,
        ap (λ (f : Option SittingFault). unless f s (closed_with (other_length o s) u o s)) (own_number e number long)
            ∙ ap (λ (b : Bool). closed_with b u o s) (ap not (eq-eqb (length rows) long same_rows))
            ∙ sym (shut_with closed closed _ (root_noted t RootClosed u) _ (length rows) refl d.world d.long),
        d.long,
        d.behind,
      )

  -- over a trace of another length it halts the same skills, and its lines go nowhere
  pub closes_with_no_lines : (length rows ≡ long → ⊥) → l.used ≡ 0 → (rows_after : List Line) → HaltsByTheRules agreeing (record e { ledger = l }) bank [] r z bank_after rows_after →
      (r ≡ Ok tt) × (called (close number) (state_for e number long bank boards rows) ≡ (refused TraceLength, record { place = shut; world = world_of e bank_after boards rows; length = length rows }))
  closes_with_no_lines other used rows_after H =
      let us = named e in
      let o = sitting_of e number long in
      let s = state_for e number long bank boards rows in
      let w = world_of e bank boards rows in
      let none = world_of e bank boards [] in
      let x = live_of e in
      let t = e.ledger.tick in
      let u = halt (in_tick us t) x w in
      let v = H t [] x (sized e.mission none) (boards_for (sized e.mission none)) (stop_sits t e l none [] k states tick (omega arith) (take_nothing l.used ∙ sym (take_nothing e.ledger.used)) runs) in
      let g = halted_agrees (agreeing t []) t [] (record e { ledger = l }) x none r z bank_after (boards_for (sized e.mission none)) rows_after v v.sits.agrees in
      let b : bank_after ≡ u.bank = ap (λ y. y.bank) g.bench ∙ halt_bank us t x none w refl in (
        v.answer,
        ap (λ (f : Option SittingFault). unless f s (closed_with (other_length o s) u o s)) (own_number e number long)
            ∙ ap (λ (b : Bool). closed_with b u o s) (ap not (ne_eqb (length rows) long other))
            ∙ sym (shut_with (refused TraceLength) (refused TraceLength) _ (with_lines w.lines u) (length rows) (length rows) refl
            (same_world bank_after boards w.lines (with_lines w.lines u) b (sym (halt_boards us t x w)) refl) refl),
      )
