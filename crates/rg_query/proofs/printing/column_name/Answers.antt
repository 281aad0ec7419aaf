use Rattle.std.proofs.Common.{◌≡◌, suc, ◌-◌, ◌<◌, ◌≤◌, length, ap, sym, ◌∙◌, arith}
use borrow.Author.Tests.{ltb-true, ltb-false}
use Rattle.rg_event.specs.declared.schema.Field.{Field}
use Rattle.rg_query.specs.Printing.{name_at}
use Rattle.rg_query.proofs.FieldNames.{no_column, name_there, name_behind}
use Rattle.rg_query.proofs.printing.column_name.Goals as goal

pub returns-then-column-eq0 : goal.returns-then-column-eq0
returns-then-column-eq0 c = sym (ap (λ n. name_at n c.args.fields.now) c.if-column-eq0.true ∙ no_column c.args.fields.now)

pub returns-in-Some : goal.returns-in-Some
returns-in-Some c =
    let h = c.in-Some.ensures.lookup in
    let below : c.args.column - 1 < length c.args.fields.now = omega (arith, ltb-true, h.0) in
    let counted : suc (c.args.column - 1) ≡ c.args.column = omega arith in
    c.as_bytes.ensures.same ∙ ap (λ (f : Field). f.name) h.1 ∙ sym (name_there (c.args.column - 1) c.args.fields.now c.in-Some.field.now below) ∙ ap (λ n. name_at n c.args.fields.now) counted

pub returns-in-None : goal.returns-in-None
returns-in-None c =
    let h = c.in-None.ensures.lookup in
    let above : length c.args.fields.now ≤ c.args.column - 1 = omega (arith, ltb-false, h) in
    let counted : suc (c.args.column - 1) ≡ c.args.column = omega arith in
    sym (ap (λ n. name_at n c.args.fields.now) (sym counted) ∙ name_behind (c.args.column - 1) c.args.fields.now above)
