use Rattle.std.proofs.Common.{◌∷◌, ◌+◌, ◌∙◌, ap, sym, drop}
use Rattle.std.proofs.lemmas.List.{drop_more}
use Rattle.rg_row.proofs.OnePass.{values_more, values_end}
use Rattle.rg_row.proofs.plain.read_plain_values.Goals as goal

pub loop-field-preserved : goal.loop-field-preserved
loop-field-preserved c =
    let i = c.loop-field.field-index in
    let more = drop (i + 1) c.args.fields.now in
    let parts = drop_more c.args.fields.now i c.field-item.result c.loop-field-test.true ∙ ap (λ field. field ∷ more) (sym c.field-item.is) in
    c.loop-field.invariant ∙ values_more _ _ _ _ _ _ _ _ parts c.in_ok-text.ensures c.in_ok-push_value.ensures

pub returns-then-is_empty : goal.returns-then-is_empty
returns-then-is_empty c =
    c.loop-field.invariant ∙ values_end _ c.loop-field.field-index c.loop-field.rest.now c.loop-field.values c.loop-field-test.false (sym c.is_empty.ensures ∙ c.if-is_empty.true)
