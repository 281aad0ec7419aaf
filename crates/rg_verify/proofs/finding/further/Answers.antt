use Rattle.std.proofs.Common.{rules, ◌≡◌, false, None, sym, subst}
use Rattle.rg_event.specs.Shapes.{Shape}
use Rattle.rg_growth.specs.Filling.{IsFilled, filled}
use Rattle.rg_verify.proofs.finding.further.Goals as goal

pub returns-in-Ok-Some-clause-is : goal.returns-in-Ok-Some-clause-is
returns-in-Ok-Some-clause-is c =
    let growth = rw c.in-Ok-Some.field-0-is at c.in-Ok-Some.ensures.growth in
    subst (λ (s : Shape). IsFilled s c.args.schema.now c.args.defaults.now c.in-Ok-Some.growth.values) c.schema.ensures growth.1

pub returns-in-Ok-None-clause-cause : goal.returns-in-Ok-None-clause-cause
returns-in-Ok-None-clause-cause c = λ n.
    let no : c.in-Ok-false.field-0 ≡ false = search rules in
    let values = rw c.in-Ok-None.field-0-is at c.in-Ok-None.ensures.values in
    record { differs = c.in-Ok-false.ensures.differs no; cannot = subst (λ (s : Shape). filled s c.args.schema.now c.args.defaults.now ≡ None) c.schema.ensures (sym values) }
