use Rattle.rg_growth.proofs.Grown.{rest_is}
use Rattle.rg_growth.proofs.Whole.{growth_no_text, growth_no_schema, growth_no_values, growth_read}
use Rattle.rg_growth.proofs.growth.take_growth.Goals as goal

pub returns-in-Err-clause-agrees : goal.returns-in-Err-clause-agrees
returns-in-Err-clause-agrees c = growth_no_text c.args.from.now c.args.bytes.now c.in-Err.fault c.in-Err.ensures.agrees

pub returns-in-Err-read_grown-clause-agrees : goal.returns-in-Err-read_grown-clause-agrees
returns-in-Err-read_grown-clause-agrees c = growth_no_schema c.args.from.now c.args.bytes.now c.in-Ok.text.now c.take_text.new.from c.in-Err-read_grown.fault c.in-Ok.ensures.agrees c.in-Err-read_grown.ensures.agrees

pub returns-in-Err-take_values-clause-agrees : goal.returns-in-Err-take_values-clause-agrees
returns-in-Err-take_values-clause-agrees c =
    growth_no_values c.args.from.now c.in-Ok-read_grown.to _ c.args.bytes.now c.in-Ok.text.now c.take_text.new.from c.in-Err-take_values.fault
    (rest_is c.args.from.now c.in-Ok-read_grown.to c.fields-2.result.now c.fields.result.now c.fields-2.ensures.columns c.fields.ensures.columns)
    c.in-Ok.ensures.agrees c.in-Ok-read_grown.ensures.agrees c.in-Err-take_values.ensures.agrees

pub returns-clause-agrees : goal.returns-clause-agrees
returns-clause-agrees c =
    growth_read c.args.from.now c.in-Ok-read_grown.to _ c.args.bytes.now c.in-Ok.text.now c.take_text.new.from c.in-Ok-take_values.values c.take_values.new.from
    (rest_is c.args.from.now c.in-Ok-read_grown.to c.fields-2.result.now c.fields.result.now c.fields-2.ensures.columns c.fields.ensures.columns)
    c.in-Ok.ensures.agrees c.in-Ok-read_grown.ensures.agrees c.in-Ok-take_values.ensures.agrees
