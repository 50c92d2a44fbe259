-- A refusal that a `?` hands on.
use Rattle.std.proofs.Common.{◌≡◌, Err, Result, ap, ◌∙◌}
use Rattle.std.specs.Result.{IsErrAnd}
use Rattle.std.proofs.lemmas.Result.{err_from_is_err_and}

pub handed : {T E : Type 0} {f : E} (r : Result T E) → IsErrAnd r (λ x. x ≡ f) → r ≡ Err f
handed r h = let p = err_from_is_err_and r h in p.1 ∙ ap Err p.2
