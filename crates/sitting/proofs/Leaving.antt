-- A visit and a stop of a skill leaf over a bench and boards that agree with a world: no fault, the status of
-- the rules, and a bench and boards that agree with the world after it.
use Rattle.std.proofs.Common.{◌≡◌, ℕ, ◌+◌, ◌<◌, Bool, true, false, cond, ltb, List, length, set, ℤ, pos, is_some, is_ok, Some, None, Ok, Err, Option, Result, sym, refl, ap, ◌∙◌, subst}
use Rattle.std.proofs.lemmas.Bool.{lt-ltb, cond_both}
use Rattle.std.proofs.lemmas.List.{length-set}
use Rattle.entry.specs.declared.parts.Weighed.{Weighed}
use Rattle.entry.specs.Abilities.{ability_takes, ability_makes}
use Rattle.entry.specs.Counts.{count_takes, count_makes}
use Rattle.entry.specs.Kinds.{Mark}
use Rattle.bank.specs.Skills.{Take, Skill, runs_now, with_given, started, struck, polled, poll_reply}
use Rattle.bank.specs.declared.bank_fault.BankFault.TheVariants.{Beyond, Running as AlreadyRuns, Idle as NotRunning}
use Rattle.bank.specs.declared.kinds.Ending.{Ending}
use Rattle.bank.specs.declared.kinds.Ending.TheVariants.{Fail as EndFail, Pass as EndPass}
use Rattle.bank.specs.declared.kinds.Reply.TheVariants.{Run as OneMoreRun, Ended}
use Rattle.board.specs.Meaning.{at}
use Rattle.board.specs.Entering.{outcome, entered, offered, put}
use Rattle.board.specs.declared.board_fault.BoardFault.TheVariants.{Beyond as KeyBeyond}
use Rattle.mission.specs.declared.node.Target.{Target}
use Rattle.mission.specs.declared.node.Target.TheVariants.{Nowhere, Count as CountKey, Ability as AbilityKey}
use Rattle.mission.specs.Trees.{skill}
use Rattle.rules.specs.declared.line.Line.{Line}
use Rattle.rules.specs.declared.sitting_fault.SittingFault.{SittingFault}
use Rattle.rules.specs.declared.status.Status.{Status}
use Rattle.rules.specs.declared.status.Status.TheVariants.{Run, Fail}
use Rattle.rules.specs.declared.word.Word.{Word}
use Rattle.rules.specs.declared.word.Word.TheVariants.{Start as StartWord, Run as RunWord, Pass as PassWord, Fail as FailWord, Halt as HaltWord, Blocked as BlockedWord, Full as FullWord}
use Rattle.rules.specs.Leaves.{World, Users, skill_at, runs_in, turned, noted, with_counts, with_abilities, mark_of, is_taken, brought, passed, scored, heard, poll_skill, start_skill, is_blocked, start_unless, act_on, visit_skill, stop_skill, visit_leaf, stop_leaf}
use Rattle.rules.specs.Lines.{line}
use Rattle.rules.proofs.Deeds.{runs_own}
use Rattle.sitting.specs.Acts.{Outcome, then_polled, begin_unless, start_or_fault, halt_or_fault, stopped, started_leaf, polled_leaf, hear, visited, taken_or_fault, visit_skill as visit_on_bench, stop_skill as stop_on_bench, heard as heard_on_bench, passed as passed_on_bench, scored as scored_on_bench, brought as brought_on_boards}
use Rattle.sitting.specs.Agreeing.{Named, Once, Ranged, Holds, Follows, laid_over, bench_for, boards_for, SameSizes, KeyBelow}
use Rattle.sitting.specs.Desks.{Bench, bench, one_used, state_of, is_running, begun, ended, noted as noted_on_bench}
use Rattle.sitting.specs.declared.leaf_state.LeafState.{LeafState}
use Rattle.sitting.specs.declared.leaf_state.LeafState.TheVariants.{Idle, Running}
use Rattle.sitting.specs.declared.ledger.Ledger.{Ledger}
use Rattle.sitting.proofs.Overlaying.{laid_more, length_laid}
use Rattle.sitting.proofs.Following.{is_active, runs_within, same_blocked, line_follows, line_holds, on_follows, end_follows, end_holds, begin_follows, begin_holds}

-- boards written at a key keep their length
put_long : {E : Type 0} (l : List (Option E)) (k : ℕ) (o : Option E) → length (put l k o) ≡ length l
put_long l k None = refl
put_long l k (Some e) = cond_both (ltb k (length l)) (set l k (Some e)) l (λ (q : List (Option _)). length q ≡ length l) (λ h. length-set l k (Some e)) (λ h. refl)

same_sizes : (w : World) → SameSizes w w
same_sizes w = record { bank = refl; counts = refl; abilities = refl }

bank_set : (w : World) (k : ℕ) (s : Skill) → SameSizes w (turned k s w)
bank_set w k s = record { bank = length-set w.bank k s; counts = refl; abilities = refl }

given_some : (o : Option ℕ) → is_some o ≡ true → (g : ℕ) × (o ≡ Some g)
given_some None e = absurd cc
given_some (Some g) e = (g, refl)

given_none : (o : Option ℕ) → is_some o ≡ false → o ≡ None
given_none None e = refl
given_none (Some g) e = absurd cc

-- an answer of the code is that of the rules, with a ledger that follows the world after it
pub record Reached (us : Users) (t : ℕ) (base : List Line) (w : World) (r : Status × World) (o : Outcome) : Type 0 where
  pub ledger : Ledger
  pub is : o ≡ (Ok r.0, bench_for base r.1 ledger, boards_for r.1)
  pub follows : Follows us t (length base) r.1.bank r.1.lines ledger
  pub holds : Holds us ledger
  pub sizes : SameSizes w r.1

-- so is a stop, with a ledger whose holders are right if they were so in l
pub record Stopped (us : Users) (t : ℕ) (base : List Line) (l : Ledger) (w : World) (o : Result Unit SittingFault × Bench) : Type 0 where
  pub ledger : Ledger
  pub is : o ≡ (Ok tt, bench_for base w ledger)
  pub follows : Follows us t (length base) w.bank w.lines ledger
  pub holds : Holds us l → Holds us ledger

module _ (us : Users) (in_range : Ranged us) (t : ℕ) (base : List Line) where
  abbrev Tracks : World → Ledger → Type 0
  Tracks w l = Follows us t (length base) w.bank w.lines l

  abbrev Reaches : World → Status × World → Outcome → Type 0
  Reaches = Reached us t base

  abbrev Stops : Ledger → World → Result Unit SittingFault × Bench → Type 0
  Stops = Stopped us t base

  abbrev line_used : World → Ledger → Ledger
  line_used w l = one_used l (laid_over base w.lines)

  -- a line

  noted_bench : (v : Word) (k : ℕ) (m : ℤ) (w : World) (l : Ledger) → Tracks w l →
      noted_on_bench v k m (bench_for base w l) ≡ bench_for base (noted t v k m w) (line_used w l)
  noted_bench v k m w l f =
      ap (λ (rows : List Line). bench w.bank rows (line_used w l))
      (ap (λ (q : ℕ). set (laid_over base w.lines) l.used (line q v k m)) f.tick
      ∙ ap (λ (q : ℕ). set (laid_over base w.lines) q (line t v k m)) f.used
      ∙ laid_more base w.lines (line t v k m))

  noted_tracks : (v : Word) (k : ℕ) (m : ℤ) (w : World) (l : Ledger) → Tracks w l → Tracks (noted t v k m w) (line_used w l)
  noted_tracks v k m w l f = line_follows us t (length base) w.bank w.lines l (line t v k m) (laid_over base w.lines) (length_laid base w.lines) f

  noted_holds : (w : World) (l : Ledger) → Holds us l → Holds us (line_used w l)
  noted_holds w l o = line_holds us l (laid_over base w.lines) o

  -- a status with a line
  says : (a : Status) (v : Word) (k : ℕ) (m : ℤ) (u w : World) (l : Ledger) → SameSizes u w → Tracks w l → Holds us l →
      Reaches u (a, noted t v k m w) (Ok a, noted_on_bench v k m (bench_for base w l), boards_for w)
  says a v k m u w l z f o = record {
    ledger = line_used w l;
    is = ap (λ (b : Bench). (Ok a, b, boards_for w)) (noted_bench v k m w l f);
    follows = noted_tracks v k m w l f;
    holds = noted_holds w l o;
    sizes = record { bank = z.bank; counts = z.counts; abilities = z.abilities };
  }

  reached_from : (u v : World) {r : Status × World} {o : Outcome} → SameSizes u v → Reaches v r o → Reaches u r o
  reached_from u v z q = record {
    ledger = q.ledger;
    is = q.is;
    follows = q.follows;
    holds = q.holds;
    sizes = record { bank = q.sizes.bank ∙ z.bank; counts = q.sizes.counts ∙ z.counts; abilities = q.sizes.abilities ∙ z.abilities };
  }

  -- a mark

  passed_reached : (c : Bool) (k : ℕ) (u w : World) (l : Ledger) → SameSizes u w → Tracks w l → Holds us l →
      Reaches u (passed c t k w) (passed_on_bench (Ok c) k (bench_for base w l) (boards_for w))
  passed_reached true k u w l z f o = record { ledger = l; is = refl; follows = f; holds = o; sizes = z }
  passed_reached false k u w l z f o = says Fail FullWord k (pos 0) u w l z f o

  scored_reached : (m : Option Mark) (target : Target) (k : ℕ) (w : World) (l : Ledger) → KeyBelow (length w.counts) (length w.abilities) target → Tracks w l → Holds us l →
      Reaches w (scored t k (brought m target w)) (scored_on_bench (brought_on_boards m target (boards_for w)) k (bench_for base w l))
  scored_reached None target k w l h f o = passed_reached false k w w l (same_sizes w) f o
  scored_reached (Some m) Nowhere k w l h f o = passed_reached true k w w l (same_sizes w) f o
  scored_reached (Some m) (CountKey key) k w l h f o =
      let e = outcome count_takes (at w.counts key) m in
      let bs = entered count_makes count_takes w.counts key m in
      let z : SameSizes w (with_counts bs w) = record { bank = refl; counts = put_long w.counts key (offered count_makes count_takes (at w.counts key) m); abilities = refl } in
      subst (λ (b : Bool). Reaches w (scored t k (is_taken e, with_counts bs w)) (scored_on_bench (taken_or_fault (cond b (Ok e) (Err KeyBeyond)), (bs, w.abilities)) k (bench_for base w l)))
      (sym (lt-ltb key (length w.counts) h))
      (passed_reached (is_taken e) k w (with_counts bs w) l z f o)
  scored_reached (Some m) (AbilityKey key weight) k w l h f o =
      let s : Weighed = record { mark = m; weight = weight } in
      let e = outcome ability_takes (at w.abilities key) s in
      let bs = entered ability_makes ability_takes w.abilities key s in
      let z : SameSizes w (with_abilities bs w) = record { bank = refl; counts = refl; abilities = put_long w.abilities key (offered ability_makes ability_takes (at w.abilities key) s) } in
      subst (λ (b : Bool). Reaches w (scored t k (is_taken e, with_abilities bs w)) (scored_on_bench (taken_or_fault (cond b (Ok e) (Err KeyBeyond)), (w.counts, bs)) k (bench_for base w l)))
      (sym (lt-ltb key (length w.abilities) h))
      (passed_reached (is_taken e) k w (with_abilities bs w) l z f o)

  -- a skill ends

  over_tracks : (k : ℕ) (d : Option ℕ) (s : Skill) (w : World) (l : Ledger) → Named us k d → is_running (state_of l k) ≡ true → runs_now s ≡ false → Tracks w l → Tracks (turned k s w) (ended l k)
  over_tracks k d s w l n r j f = end_follows us in_range t (length base) w.bank w.lines l f k d s n r j

  over_holds : (k : ℕ) (d : Option ℕ) (s : Skill) (w : World) (l : Ledger) → Named us k d → Tracks w l → Holds us l → Holds us (ended l k)
  over_holds k d s w l n f o = end_holds us in_range t (length base) w.bank w.lines l f k d s n o

  -- a poll

  hear_reached : (b : Bool) (e : Ending) (s s' : Skill) (k : ℕ) (d : Option ℕ) (target : Target) (w : World) (l : Ledger) → KeyBelow (length w.counts) (length w.abilities) target →
      Named us k d → is_running (state_of l k) ≡ true → runs_now s ≡ true → runs_now s' ≡ false → Tracks w l → Holds us l →
      Reaches w (heard (Ok (cond b OneMoreRun (Ended e))) t k target (turned k (cond b s s') w))
      (hear Running (cond b OneMoreRun (Ended e)) k target (bench (set w.bank k (cond b s s')) (laid_over base w.lines) l) (boards_for w))
  hear_reached true e s s' k d target w l h n r i j f o =
      says Run RunWord k (pos 0) w (turned k s w) l (bank_set w k s) (on_follows us in_range t (length base) w.bank w.lines l f k d s n r i) o
  hear_reached false EndFail s s' k d target w l h n r i j f o =
      says Fail FailWord k (pos 0) w (turned k s' w) (ended l k) (bank_set w k s') (over_tracks k d s' w l n r j f) (over_holds k d s' w l n f o)
  hear_reached false (EndPass m) s s' k d target w l h n r i j f o =
      let v = turned k s' w in
      let g : Tracks v (ended l k) = over_tracks k d s' w l n r j f in
      let x = noted t PassWord k m v in
      let l' = line_used v (ended l k) in
      subst (λ (b : Bench). Reaches w (scored t k (brought (mark_of m) target x)) (scored_on_bench (brought_on_boards (mark_of m) target (boards_for w)) k b))
      (sym (noted_bench PassWord k m v (ended l k) g))
      (reached_from w x (record { bank = length-set w.bank k s'; counts = refl; abilities = refl })
      (scored_reached (mark_of m) target k x l' h (noted_tracks PassWord k m v (ended l k) g) (noted_holds v (ended l k) (over_holds k d s' w l n f o))))

  -- the code's poll, by whether the skill is below the width, and by the skill
  abbrev poll_on : Bool → Skill → ℕ → Target → World → Ledger → Outcome
  poll_on a s k target w l =
      let r = cond a (poll_reply s) (Err Beyond) in
      heard_on_bench r k target (bench (cond (is_ok r) (set w.bank k (polled s)) w.bank) (laid_over base w.lines) l) (boards_for w)

  abbrev poll_from : Skill → ℕ → Target → World → Status × World
  poll_from s k target w = heard (poll_reply s) t k target (turned k (polled s) w)

  given_reached : (takes : ℕ → Take) (g k : ℕ) (d : Option ℕ) (target : Target) (w : World) (l : Ledger) → KeyBelow (length w.counts) (length w.abilities) target →
      Named us k d → Tracks w l → Holds us l → is_running (state_of l k) ≡ true →
      Reaches w (poll_from (record { takes = takes; given = Some g }) k target w) (poll_on true (record { takes = takes; given = Some g }) k target w l)
  given_reached takes g k d target w l h n f o r =
      let s : Skill = record { takes = takes; given = Some g } in
      let b = ltb g (takes 0).runs in
      let on = with_given s (Some (g + 1)) in
      let off = struck s in
      let reply = cond b OneMoreRun (Ended (takes 0).ending) in
      subst (λ (q : LeafState). Reaches w (poll_from s k target w) (hear q reply k target (bench (set w.bank k (cond b on off)) (laid_over base w.lines) l) (boards_for w)))
      (sym (is_active (state_of l k) r))
      (hear_reached b (takes 0).ending on off k d target w l h n r refl refl f o)

  poll_reached : (k : ℕ) (d : Option ℕ) (target : Target) (w : World) (l : Ledger) → KeyBelow (length w.counts) (length w.abilities) target →
      Named us k d → Tracks w l → Holds us l → is_running (state_of l k) ≡ true → Reaches w (poll_skill t k target w) (polled_leaf k target (bench_for base w l) (boards_for w))
  poll_reached k d target w l h n f o r =
      let s = skill_at w k in
      let on : runs_in w.bank k ≡ true = sym (f.runs k d n) ∙ r in
      let q = given_some s.given on in
      let same : record { takes = s.takes; given = Some q.0 } ≡ s = ap (λ (i : Option ℕ). record { takes = s.takes; given = i }) (sym q.1) in
      subst (λ (a : Bool). Reaches w (poll_skill t k target w) (poll_on a s k target w l)) (sym (lt-ltb k (length w.bank) (runs_within w.bank k on)))
      (subst (λ (x : Skill). Reaches w (poll_from x k target w) (poll_on true x k target w l)) same (given_reached s.takes q.0 k d target w l h n f o r))

  module _ (once : Once us) (k : ℕ) (d : Option ℕ) (target : Target) (w : World) (l : Ledger) (h : KeyBelow (length w.counts) (length w.abilities) target) (n : Named us k d) (f : Tracks w l) (o : Holds us l) (b : k < length w.bank) where
    -- a start

    -- the code's start and poll, by whether the skill is below the width, and by whether it runs
    abbrev start_on : Bool → Bool → Outcome
    start_on a c =
        let r = cond a (cond c (Err AlreadyRuns) (Ok tt)) (Err Beyond) in
        then_polled (start_or_fault r k d (bench (cond (is_ok r) (set w.bank k (started (skill_at w k))) w.bank) (laid_over base w.lines) l)) k target (boards_for w)

    begun_reached : is_blocked us d w.bank ≡ false → Reaches w (poll_skill t k target (start_skill t k w)) (start_on true false)
    begun_reached free =
        let s = started (skill_at w k) in
        let v = turned k s w in
        let g : Tracks v (begun l k d) = begin_follows us in_range t (length base) w.bank w.lines l f k d s n b refl in
        let p : Holds us (begun l k d) = begin_holds us in_range t (length base) w.bank w.lines l f o k s once d n free in
        let x = noted t StartWord k (pos 0) v in
        let l' = line_used v (begun l k d) in
        let g' : Tracks x l' = noted_tracks StartWord k (pos 0) v (begun l k d) g in
        let runs : is_running (state_of l' k) ≡ true = g'.runs k d n ∙ runs_own w.bank k s b in
        subst (λ (c : Bench). Reaches w (poll_skill t k target x) (polled_leaf k target c (boards_for w)))
        (sym (noted_bench StartWord k (pos 0) v (begun l k d) g))
        (reached_from w x (record { bank = length-set w.bank k s; counts = refl; abilities = refl })
        (poll_reached k d target x l' h n g' (noted_holds v (begun l k d) p) runs))

    started_reached : runs_in w.bank k ≡ false → is_blocked us d w.bank ≡ false →
        Reaches w (poll_skill t k target (start_skill t k w)) (then_polled (started_leaf k d (bench_for base w l)) k target (boards_for w))
    started_reached off free =
        subst (λ (a : Bool). Reaches w (poll_skill t k target (start_skill t k w)) (start_on a (runs_in w.bank k))) (sym (lt-ltb k (length w.bank) b))
        (subst (λ (c : Bool). Reaches w (poll_skill t k target (start_skill t k w)) (start_on true c)) (sym off) (begun_reached free))

    -- a visit

    idle_reached : (c : Bool) → is_blocked us d w.bank ≡ c → runs_in w.bank k ≡ false →
        Reaches w (start_unless c t k target w) (begin_unless c k d target (bench_for base w l) (boards_for w))
    idle_reached true e off = says Fail BlockedWord k (pos 0) w w l (same_sizes w) f o
    idle_reached false e off = started_reached off e

    state_reached : (q : LeafState) → state_of l k ≡ q → Reaches w (act_on (skill_at w k).given us t k d target w) (visited q k d target (bench_for base w l) (boards_for w))
    state_reached Idle e =
        let off : runs_in w.bank k ≡ false = sym (f.runs k d n) ∙ ap is_running e in
        subst (λ (g : Option ℕ). Reaches w (act_on g us t k d target w) (visited Idle k d target (bench_for base w l) (boards_for w)))
        (sym (given_none (skill_at w k).given off))
        (subst (λ (c : Bool). Reaches w (start_unless (is_blocked us d w.bank) t k target w) (begin_unless c k d target (bench_for base w l) (boards_for w)))
        (sym (same_blocked us in_range t (length base) w.bank w.lines l f o d))
        (idle_reached (is_blocked us d w.bank) refl off))
    state_reached Running e =
        let on : is_running (state_of l k) ≡ true = ap is_running e in
        let q = given_some (skill_at w k).given (sym (f.runs k d n) ∙ on) in
        subst (λ (g : Option ℕ). Reaches w (act_on g us t k d target w) (visited Running k d target (bench_for base w l) (boards_for w)))
        (sym q.1)
        (poll_reached k d target w l h n f o on)

    pub visit_reached : Reaches w (visit_leaf us t (skill k d target) w) (visit_on_bench k d target (bench_for base w l) (boards_for w))
    visit_reached =
        subst (λ (a : Bool). Reaches w (visit_skill a us t k d target w) (visit_on_bench k d target (bench_for base w l) (boards_for w))) (sym (lt-ltb k (length w.bank) b))
        (state_reached (state_of l k) refl)

  -- a stop

  -- the code's halt, by whether the skill is below the width, and by whether it runs
  abbrev stop_on : Bool → Bool → ℕ → World → Ledger → Result Unit SittingFault × Bench
  stop_on a c k w l =
      let r = cond a (cond c (Ok tt) (Err NotRunning)) (Err Beyond) in
      halt_or_fault r k (bench (cond (is_ok r) (set w.bank k (struck (skill_at w k))) w.bank) (laid_over base w.lines) l)

  module _ (k : ℕ) (d : Option ℕ) (w : World) (l : Ledger) (n : Named us k d) (f : Tracks w l) where
    halt_reached : (g : ℕ) → is_running (state_of l k) ≡ true → Stops l (stop_skill (Some g) t k w) (stop_on true true k w l)
    halt_reached g r =
        let s = struck (skill_at w k) in
        let v = turned k s w in
        let q : Tracks v (ended l k) = over_tracks k d s w l n r refl f in
        record {
          ledger = line_used v (ended l k);
          is = ap (λ (b : Bench). (Ok tt, b)) (noted_bench HaltWord k (pos 0) v (ended l k) q);
          follows = noted_tracks HaltWord k (pos 0) v (ended l k) q;
          holds = λ o. noted_holds v (ended l k) (over_holds k d s w l n f o);
        }

    stop_state : (q : LeafState) → state_of l k ≡ q → Stops l (stop_skill (skill_at w k).given t k w) (stopped q k (bench_for base w l))
    stop_state Idle e =
        let off : runs_in w.bank k ≡ false = sym (f.runs k d n) ∙ ap is_running e in
        subst (λ (g : Option ℕ). Stops l (stop_skill g t k w) (Ok tt, bench_for base w l))
        (sym (given_none (skill_at w k).given off))
        (record { ledger = l; is = refl; follows = f; holds = λ o. o })
    stop_state Running e =
        let r : is_running (state_of l k) ≡ true = ap is_running e in
        let on : runs_in w.bank k ≡ true = sym (f.runs k d n) ∙ r in
        let q = given_some (skill_at w k).given on in
        subst (λ (g : Option ℕ). Stops l (stop_skill g t k w) (stop_on (ltb k (length w.bank)) (runs_in w.bank k) k w l)) (sym q.1)
        (subst (λ (a : Bool). Stops l (stop_skill (Some q.0) t k w) (stop_on a (runs_in w.bank k) k w l)) (sym (lt-ltb k (length w.bank) (runs_within w.bank k on)))
        (subst (λ (c : Bool). Stops l (stop_skill (Some q.0) t k w) (stop_on true c k w l)) (sym on) (halt_reached q.0 r)))

    pub stop_reached : (target : Target) → Stops l (stop_leaf t (skill k d target) w) (stop_on_bench k (bench_for base w l))
    stop_reached target = stop_state (state_of l k) refl
