use Rattle.std.proofs.Common.{◌∙◌, Err, ap}
use Rattle.rg_past.specs.declared.past.PastFault.{PastFault}
use Rattle.rg_restore.proofs.Asked.{if-err-of, refused-of}
use Rattle.rg_restore.proofs.judging.is_fit.Goals as goal

pub returns-clause-cause : goal.returns-clause-cause
returns-clause-cause g c =
    if-err-of c.names.result _ (λ fault is. refused-of _ _ _ _ _ fault (c.names.ensures.cause fault is) (λ place sound same. c.names.ensures.never_damaged place sound (is ∙ ap (λ (f : PastFault). Err f) same)))
