use Rattle.std.proofs.Common.{sym, ◌∙◌, subst}
use Rattle.rg_metric.specs.Admitted.{IsAdmitted}
use Rattle.rg_engine.proofs.Plain.{none_some, same_some}
use Rattle.rg_engine.proofs.changer.taken_value.Goals as goal

pub returns-in-None : goal.returns-in-None
returns-in-None c = λ value is takes. absurd (none_some (c.in-None.ensures ∙ is))

pub returns-then-not-is_admitted : goal.returns-then-not-is_admitted
returns-then-not-is_admitted c = λ value is takes.
    absurd (c.is_admitted.ensures.refused c.if-not-is_admitted.true (subst (λ v. IsAdmitted c.args.agg.func v) (sym (same_some (c.in-Some.ensures ∙ is))) takes))

pub returns : goal.returns
returns c = (sym c.in-Some.ensures, c.is_admitted.ensures.admitted c.if-not-is_admitted.false)
