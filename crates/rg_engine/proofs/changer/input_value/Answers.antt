use Rattle.std.proofs.Common.{Some, ap, sym, ◌∙◌}
use Rattle.rg_engine.specs.Deeds.{handed}
use Rattle.rg_engine.proofs.Doing.{handed_there}
use Rattle.rg_engine.proofs.changer.input_value.Goals as goal

pub returns-then-field-eq0 : goal.returns-then-field-eq0
returns-then-field-eq0 c = ap (λ v. Some v) c.requires ∙ ap (λ n. handed n c.args.event.now) (sym c.if-field-eq0.true)

pub returns : goal.returns
returns c = sym (handed_there c.args.field c.args.event.now _ c.if-field-eq0.false (sym c.column_value.ensures))
