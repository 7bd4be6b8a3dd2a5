-- What the exit of a `?` answers: a refusal is passed on as it is.
use Rattle.std.proofs.Common.{◌≡◌, ap, ◌∙◌, Result, Err, IsErr, IsErrAnd}
use Rattle.std.proofs.lemmas.Result.{err_from_is_err_and}
use Rattle.answers.specs.declared.Refusal.{Refusal}

pub passed_on : {T : Type 0} {r : Result T Refusal} {refusal : Refusal} → IsErr r × IsErrAnd r (λ e. e ≡ refusal) → r ≡ Err refusal
passed_on exit =
    let told = err_from_is_err_and _ exit.1 in
    told.1 ∙ ap (λ e. Err e) told.2
