use Rattle.rg_bytes.proofs.Laws.{step_taken}
use Rattle.rg_event.specs.Tagged.{tagged_bytes}
use Rattle.rg_event.proofs.Laws.{one_value_more}
use Rattle.rg_growth.proofs.Read.{values_more, values_stop, values_end}
use Rattle.rg_growth.proofs.values.take_values.Goals as goal

pub returns-in-Err-take_value-clause-agrees : goal.returns-in-Err-take_value-clause-agrees
returns-in-Err-take_value-clause-agrees c =
    values_stop c.args.fields.now c.loop-field.field-index c.field-item.result c.loop-field.values c.args.from.now c.loop-field.from c.in-Err-take_value.fault
    c.loop-field-test.true c.field-item.is c.loop-field.invariant.to_come c.in-Err-take_value.ensures.agrees

pub returns-clause-agrees : goal.returns-clause-agrees
returns-clause-agrees c = values_end c.args.fields.now c.loop-field.field-index c.loop-field.values c.args.from.now c.loop-field.from c.loop-field-test.false c.loop-field.invariant.to_come

pub loop-field-preserved : goal.loop-field-preserved
loop-field-preserved c = record {
  to_come = values_more c.args.fields.now c.loop-field.field-index c.field-item.result c.loop-field.values c.push.new.self c.in-Ok-take_value.value c.args.from.now c.loop-field.from c.take_value.new.from
      c.in-Ok-push.ensures.ok c.loop-field-test.true c.field-item.is c.loop-field.invariant.to_come c.in-Ok-take_value.ensures.agrees;
  taken = step_taken tagged_bytes c.loop-field.values c.push.new.self c.in-Ok-take_value.value c.args.from.now c.loop-field.from c.take_value.new.from c.in-Ok-push.ensures.ok c.loop-field.invariant.taken c.in-Ok-take_value.ensures.ok;
  of = rw c.in-Ok-push.ensures.ok (one_value_more c.args.fields.now c.loop-field.values c.loop-field.field-index c.field-item.result c.in-Ok-take_value.value c.loop-field-test.true c.field-item.is c.loop-field.invariant.of c.in-Ok-take_value.ensures.of);
}
