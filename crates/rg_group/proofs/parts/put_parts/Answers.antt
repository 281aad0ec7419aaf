use Rattle.std.proofs.Common.{◌∙◌, refl, ap, take_all}
use Rattle.rg_metric.specs.Replies.{key_of as key_values}
use Rattle.rg_group.specs.Keys.{key_bytes}
use Rattle.rg_group.proofs.KeyValues.{bytes_written, storable_more, storable_all, short}
use Rattle.rg_group.proofs.parts.put_parts.Goals as goal

pub loop-field-preserved : goal.loop-field-preserved
loop-field-preserved c =
    let i = c.loop-field.field-index in
    record {
      written = bytes_written c.args.fields.now i _ c.args.event.now c.loop-field.bytes.items c.put_part.new.out.items c.loop-field-test.true refl c.loop-field.invariant.written c.in_ok-put_part.ensures.written;
      storable = storable_more c.args.fields.now i _ c.args.event.now c.loop-field-test.true refl c.loop-field.invariant.storable c.in_ok-put_part.ensures.storable;
    }

pub returns-clause-short : goal.returns-clause-short
returns-clause-short c =
    let i = c.loop-field.field-index in
    short c.args.fields.now c.args.event.now c.loop-field.bytes.items
    (c.loop-field.invariant.written ∙ ap (λ fields. key_bytes (key_values fields c.args.event.now)) (take_all i c.args.fields.now c.loop-field-test.false))
    (storable_all c.args.fields.now i c.args.event.now c.loop-field-test.false c.loop-field.invariant.storable)
