use Rattle.std.proofs.Common.{◌∙◌}
use Rattle.rg_dump.proofs.Rows.{row_more, plain_style}
use Rattle.rg_dump.proofs.row.write_row.Goals as goal

pub returns-in-Ok : goal.returns-in-Ok
returns-in-Ok c = λ text b. record {
  setup = c.in-Ok.ensures.setup ∙ b.setup;
  fields = c.in-Ok.ensures.ended;
  wrote = c.in-Ok.ensures.clean;
  is = row_more _ _ c.args.event.now _ _ text b.setup c.in_ok-fields.ensures b.is (c.in-Ok.ensures.bytes b.fields b.wrote (plain_style _ b.setup));
}
