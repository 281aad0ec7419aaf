use Rattle.std.proofs.Common.{◌≡◌, length, map, sym, ◌∙◌, ap, arith, rules}
use Rattle.std.specs.List.{All}
use Rattle.rg_event.specs.Codec.{IsEventOf}
use Rattle.rg_column.specs.Columns.{widened, fields_at}
use Rattle.rg_column.specs.Numbers.{number_of}
use Rattle.rg_column.specs.declared.series.Series.TheVariants.{Offset, Time}
use Rattle.rg_column.proofs.Transposed.{column_read, column_taken, column_legal, widened_many, widened_offsets, widened_times}
use Rattle.rg_column.proofs.columns.take_fields.Goals as goal

pub loop-field-preserved : goal.loop-field-preserved
loop-field-preserved c =
    let fields = c.args.fields.now in
    let i = c.loop-field.field-index in
    let inv = c.loop-field.invariant in
    let field = c.field-item.result in
    let old = c.loop-field.events.items in
    let new = c.widen.new.events.items in
    let values = c.in-Ok.values.items in
    let from = c.loop-field.from in
    let left = c.take_column.new.from in
    let same : length old ≡ length values = inv.many ∙ sym c.in-Ok.ensures.count in
    let widens : new ≡ widened old values = c.in_ok-widen.ensures in
    record {
      counted = omega (arith, inv.counted);
      many = ap (λ events. length events) widens ∙ widened_many old values ∙ inv.many;
      to_come = column_read fields i c.args.count field old new values from left (fields_at fields 0 c.args.count c.args.started.items c.args.from.now) c.loop-field-test.true c.field-item.is (search (rules, c.in-Ok.ensures.agrees)) widens inv.to_come;
      taken = column_taken fields i field old new values c.args.from.now from left c.loop-field-test.true c.field-item.is inv.legal same widens inv.taken (search (rules, c.in-Ok.ensures.ok));
      legal = rw widens (column_legal fields i field old values c.loop-field-test.true c.field-item.is inv.legal (search (rules, c.in-Ok.ensures.legal)) same);
      offsets = ap (map (number_of Offset)) widens ∙ widened_offsets old values ∙ inv.offsets;
      times = ap (map (number_of Time)) widens ∙ widened_times old values ∙ inv.times;
    }
