-- A line that is taken and judged is read.
use Rattle.std.proofs.Common.{◌≡◌, ℕ, ◌<◌, ℤ, pos, true, false, refl, Bool, List, ◌∷◌, ◌++◌, Some, None, Ok, Err, Result, ap, ◌∙◌, subst, sym, MatchResult}
use Rattle.std.specs.Option.{option_map}
use Rattle.text.specs.Numeral.{within}
use Rattle.text.specs.Fields.{one_ended}
use Rattle.text.specs.declared.line.Line.{Line}
use Rattle.text.proofs.Cuts.{parted_sound}
use Rattle.mission.specs.declared.flaw.Flaw.{Flaw}
use Rattle.mission.specs.declared.flaw.Flaw.TheVariants.{Form, Range}
use Rattle.mission.specs.declared.line_fault.LineFault.{LineFault}
use Rattle.mission.specs.declared.lines.Lines.{Lines}
use Rattle.mission.specs.Lines.{number_field, LineJudged}
use Rattle.mission.specs.Texts.{Wrong}
use Rattle.mission.specs.Reading.{plain, LineTaken, LineRead, NumberRead, next_number}
use Rattle.mission.proofs.NumberLines.{in_range_line, out_of_range_line, no_number_line}
use Rattle.mission.proofs.TextFaults.{wrong_at}

-- a judgement is given with its line
abbrev pub GivenAt : {Y : Type 0} → ℕ → Result Y Flaw → Result Y LineFault → Type 0
GivenAt k r q = MatchResult r (λ y. q ≡ Ok y) (λ f. (x : LineFault) × (q ≡ Err x) × (x.flaw ≡ f) × (x.line ≡ k))

pub line_read : {X Y : Type 0} (form : X → List ℕ) (good : X → Bool) (view : Y → X) (before after : Lines) (l : Line) (r : Result Y Flaw) (q : Result Y LineFault)
    → LineTaken before (Ok l) after → LineJudged form good view l.text.now r → GivenAt l.number r q
    → LineRead form good view before q after
line_read form good view before after l (Ok y) q t j g =
    subst (λ p. LineRead form good view before p after) (sym g)
    (parted_sound 10 before.rest.now (l.text.now, after.rest.now) t.0 ∙ ap (λ xs. xs ++ (10 ∷ after.rest.now)) j.0, j.1, t.1)
line_read form good view before after l (Err f) q t j g =
    subst (λ p. LineRead form good view before p after) (sym g.1)
    (g.3 ∙ t.2 ∙ t.1, subst (Wrong form good _) (sym g.2) (wrong_at form good l.text.now _ f (ap (option_map (λ p. p.0)) t.0) j))

-- a number's line that is taken and judged is read
pub number_read : {T E : Type 0} (gives : ℤ → Result T E → Type 0) (name : List ℕ) (lo hi : ℕ) (before after : Lines) (l : Line) (z : ℤ) (r : Result T Flaw) (q : Result T LineFault)
    → LineTaken before (Ok l) after → hi < 65536 → Some z ≡ one_ended name (Some l.text.now)
    → MatchResult r (λ n. gives z (Ok n) × (within (pos lo) (pos hi) z ≡ true)) (λ e. (e ≡ Range) × (within (pos lo) (pos hi) z ≡ false)) → GivenAt l.number r q
    → NumberRead gives name (pos lo) (pos hi) before q after
number_read gives name lo hi before after l z (Ok n) q t small e j g =
    subst (λ p. NumberRead gives name (pos lo) (pos hi) before p after) (sym g)
    (z, j.0, line_read (number_field name) (within (pos lo) (pos hi)) (λ (y : ℤ). y) before after l (Ok z) (Ok z) t (in_range_line name l.text.now lo hi z small e j.1, j.1) refl)
number_read gives name lo hi before after l z (Err f) q t small e j g =
    subst (λ p. NumberRead gives name (pos lo) (pos hi) before p after) (sym g.1)
    (line_read (number_field name) (within (pos lo) (pos hi)) (λ (y : ℤ). y) before after l (Err Range) (Err g.0) t (out_of_range_line name l.text.now lo hi z small e j.1) (g.0, refl, g.2 ∙ j.0, g.3))

-- a line that declares no number of this name is not of its form
pub no_number_read : {T E : Type 0} (gives : ℤ → Result T E → Type 0) (name : List ℕ) (low high : ℤ) (before after : Lines) (l : Line) (q : Result T LineFault)
    → LineTaken before (Ok l) after → plain name ≡ true → None ≡ one_ended name (Some l.text.now) → GivenAt {Y = T} l.number (Err Form) q
    → NumberRead gives name low high before q after
no_number_read gives name low high before after l q t p n g =
    subst (λ x. NumberRead gives name low high before x after) (sym g.1)
    (line_read (number_field name) (within low high) (λ (y : ℤ). y) before after l (Err Form) (Err g.0) t (no_number_line name l.text.now low high p n) (g.0, refl, g.2, g.3))

-- a number is the one that it is read as
pub number_is : (name : List ℕ) (good : ℤ → Bool) (before after : Lines) (n : ℕ) (z : ℤ) → z ≡ pos n
    → LineRead (number_field name) good (λ (y : ℤ). y) before (Ok z) after → LineRead (number_field name) good (λ n. pos n) before (Ok n) after
number_is name good before after n z e h =
    subst (λ (y : ℤ). (before.rest.now ≡ number_field name y ++ (10 ∷ after.rest.now)) × (good y ≡ true) × (after.line ≡ next_number before.line)) e h
