use Rattle.std.proofs.Common.{arith}
use Rattle.std.proofs.lemmas.Grind.{common_steps}
use Rattle.rg_bytes.proofs.Laws.{list_bytes-more}
use Rattle.rg_event.specs.Codec.{value_bytes}
use Rattle.rg_event.proofs.ColumnValues.{one_value_more}
use Rattle.rg_event.proofs.codec.decoder.read_values.Goals as goal

pub loop-field-preserved : goal.loop-field-preserved
loop-field-preserved c = record {
  counted = omega arith;
  to_come = grind (arith, common_steps);
  taken = grind (arith, common_steps, list_bytes-more value_bytes c.loop-field.values c.in_ok-read_value.field-0);
  legal = rw c.in_ok-push.ensures.ok (one_value_more _ _ _ c.field-item.result _ c.loop-field-test.true c.field-item.is c.loop-field.invariant.legal c.in_ok-read_value.ensures.legal);
}
