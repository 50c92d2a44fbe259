-- What a call begins with, from its checks; what a line does to the agreement; and the trace when it ends.
use Rattle.std.proofs.Common.{◌≡◌, ℕ, ◌≤◌, Bool, true, false, not, eqb, ltb, List, [], ◌∷◌, length, set, take, drop, ℤ, pos, None, Option, inl, inr, sym, refl, ap, ◌∙◌, ap₂, arith}
use Rattle.std.proofs.lemmas.Bool.{or_parts, or_left, or_right, eq-eqb, not-false, ltb-true}
use Rattle.std.proofs.lemmas.List.{length-take-le}
use Rattle.bank.specs.Skills.{Skill}
use Rattle.rules.specs.declared.line.Line.{Line}
use Rattle.rules.specs.declared.word.Word.{Word}
use Rattle.rules.specs.Leaves.{World, Users, runs_in, noted}
use Rattle.rules.specs.Lines.{line}
use Rattle.rules.specs.Sittings.{has, any_beyond, unlike, any_differs, root_noted}
use Rattle.rules.proofs.Naming.{numbers}
use Rattle.sitting.specs.Agreeing.{Named, Wide, holder_of, Holds, laid_over, bench_for, boards_for, Agrees, Works, Fronted}
use Rattle.sitting.specs.Desks.{Bench, bench, Boards, state_of, is_running, one_used, noted as noted_on_bench}
use Rattle.sitting.specs.declared.leaf_state.LeafState.TheVariants.{Idle}
use Rattle.sitting.specs.declared.ledger.Ledger.{Ledger}
use Rattle.sitting.proofs.Overlaying.{laid_more, length_laid, laid_again, take_laid, drop_laid}
use Rattle.sitting.proofs.Following.{line_follows}

-- the checks

pub none_beyond : (us : Users) (width : ℕ) → any_beyond us width ≡ false → Wide us width
none_beyond us width e = record { within = λ k d n. ltb-true k width (not-false (ltb k width) (one us k d e n)) }
  where
    one : (us : Users) (k : ℕ) (d : Option ℕ) → any_beyond us width ≡ false → Named us k d → not (ltb k width) ≡ false
    one [] k d e n = absurd n
    one (u ∷ us) k d e (inl q) = ap (λ (j : ℕ). not (ltb j width)) (sym q.0) ∙ (or_parts (not (ltb u.0 width)) (any_beyond us width) e).0
    one (u ∷ us) k d e (inr n) = one us k d (or_parts (not (ltb u.0 width)) (any_beyond us width) e).1 n

alike : (a b : Bool) → unlike a b ≡ false → b ≡ a
alike true true e = refl
alike true false e = absurd cc
alike false true e = absurd cc
alike false false e = refl

pub none_differs : (us : Users) (bank : List Skill) (front : List ℕ) → any_differs us bank front ≡ false → (k : ℕ) (d : Option ℕ) → Named us k d → has k front ≡ runs_in bank k
none_differs [] bank front e k d n = absurd n
none_differs (u ∷ us) bank front e k d (inl q) =
    let h = (or_parts (unlike (runs_in bank u.0) (has u.0 front)) (any_differs us bank front) e).0 in
    alike (runs_in bank k) (has k front) (ap (λ (j : ℕ). unlike (runs_in bank j) (has j front)) (sym q.0) ∙ h)
none_differs (u ∷ us) bank front e k d (inr n) =
    none_differs us bank front (or_parts (unlike (runs_in bank u.0) (has u.0 front)) (any_differs us bank front) e).1 k d n

-- a call begins

module _ (us : Users) (t : ℕ) (w : World) (rows : List Line) (l : Ledger) (long : length l.states ≡ 64) (tick : l.tick ≡ t) (used : l.used ≤ length rows) (lines : take l.used rows ≡ w.lines) where
  -- with states that are those of the bank
  pub begins_with : ((k : ℕ) (d : Option ℕ) → Named us k d → is_running (state_of l k) ≡ runs_in w.bank k) → Agrees us t rows w (bench w.bank rows l) (boards_for w)
  begins_with h = record {
    bench = ap (λ (q : List Line). bench w.bank q l) (sym (ap (laid_over rows) (sym lines) ∙ laid_again l.used rows));
    boards = refl;
    follows = record {
      states = long;
      tick = tick;
      used = let p = length-take-le l.used rows used in let q = ap length lines in omega arith;
      runs = h;
    };
  }

  -- with states that are those of the front, as the bank's are
  pub begins : (front : List ℕ) → Fronted us front l → any_differs us w.bank front ≡ false → Agrees us t rows w (bench w.bank rows l) (boards_for w)
  begins front f e = begins_with (λ k d n. f.is k d n ∙ none_differs us w.bank front e k d n)

  pub begins_to_work : (front : List ℕ) → Fronted us front l → Holds us l → any_beyond us (length w.bank) ≡ false → any_differs us w.bank front ≡ false → Works us t rows w (bench w.bank rows l) (boards_for w)
  begins_to_work front f o b e = record { agrees = begins front f e; holds = o; wide = none_beyond us (length w.bank) b }

-- a ledger with no holders and with every leaf idle

pub opens : (us : Users) (l : Ledger) → length l.holders ≡ 32 → ((d : ℕ) → holder_of l d ≡ None) → ((k : ℕ) → state_of l k ≡ Idle) → Holds us l × Fronted us [] l
opens us l long none idle = (
  record { holders = long; held = λ k d n r. let q = ap is_running (idle k) in absurd (cc (q, r)); named = λ d k h. let q = none d in absurd (cc (q, h)) },
  record { is = λ k d n. ap is_running (idle k) },
)

-- a line

module _ (us : Users) (t : ℕ) (base : List Line) (w : World) (b : Bench) (s : Boards) where
  laid_rows : Agrees us t base w b s → b.rows ≡ laid_over base w.lines
  laid_rows a = ap (λ (x : Bench). x.rows) a.bench

  line_bench : (v : Word) (k : ℕ) (m : ℤ) → Agrees us t base w b s → noted_on_bench v k m b ≡ bench_for base (noted t v k m w) (noted_on_bench v k m b).ledger
  line_bench v k m a =
      ap₂ (λ (bank : List Skill) (rows : List Line). bench bank rows (one_used b.ledger b.rows))
      (ap (λ (x : Bench). x.bank) a.bench)
      (ap (λ (q : List Line). set q b.ledger.used (line b.ledger.tick v k m)) (laid_rows a)
      ∙ ap (λ (q : ℕ). set (laid_over base w.lines) b.ledger.used (line q v k m)) a.follows.tick
      ∙ ap (λ (q : ℕ). set (laid_over base w.lines) q (line t v k m)) a.follows.used
      ∙ laid_more base w.lines (line t v k m))

  pub line_agrees : (v : Word) (k : ℕ) (m : ℤ) → Agrees us t base w b s → Agrees us t base (noted t v k m w) (noted_on_bench v k m b) s
  line_agrees v k m a = record {
    bench = line_bench v k m a;
    boards = a.boards;
    follows = line_follows us t (length base) w.bank w.lines b.ledger (line t v k m) b.rows (ap length (laid_rows a) ∙ length_laid base w.lines) a.follows;
  }

  -- a line of the root
  pub root_line_agrees : (v : Word) → Agrees us t base w b s → Agrees us t base (root_noted t v w) (noted_on_bench v 0 (pos 0) b) s
  root_line_agrees v a = line_agrees v 0 (pos 0) a

  -- the trace when the call ends: the world's lines, and behind them the rows as they were
  pub ends : Agrees us t base w b s → length w.lines ≤ length base →
      (b.ledger.used ≡ length w.lines) × (take (length w.lines) b.rows ≡ w.lines) × (drop (length w.lines) b.rows ≡ drop (length w.lines) base) × (length b.rows ≡ length base)
  ends a h =
      let e = laid_rows a in
      let u = a.follows.used in (
        omega arith,
        ap (take (length w.lines)) e ∙ take_laid base w.lines h,
        ap (drop (length w.lines)) e ∙ drop_laid (length w.lines) base w.lines (omega arith),
        ap length e ∙ length_laid base w.lines,
      )

-- the front after a call

pub named_has : (us : Users) (k : ℕ) (d : Option ℕ) → Named us k d → has k (numbers us) ≡ true
named_has [] k d n = absurd n
named_has (u ∷ us) k d (inl q) = or_left (eqb u.0 k) (has k (numbers us)) (eq-eqb u.0 k q.0)
named_has (u ∷ us) k d (inr n) = or_right (eqb u.0 k) (has k (numbers us)) (named_has us k d n)
