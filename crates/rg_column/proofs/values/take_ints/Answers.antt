use Rattle.std.proofs.Common.{◌≡◌, map, rules}
use Rattle.rg_column.specs.Values.{int_value}
use Rattle.rg_column.proofs.Typed.{ints_stop, ints_read, ints_written, ints_legal}
use Rattle.rg_column.proofs.values.take_ints.Goals as goal

pub returns-in-Err-clause-agrees : goal.returns-in-Err-clause-agrees
returns-in-Err-clause-agrees c = ints_stop c.args.index c.args.count c.args.from.now c.in-Err.fault c.in-Err.ensures.agrees

pub returns-in-Ok-int_values-clause-agrees : goal.returns-in-Ok-int_values-clause-agrees
returns-in-Ok-int_values-clause-agrees c =
    ints_read c.args.index c.args.count c.args.from.now c.in-Ok.places.items c.take_numbers.new.from c.in-Ok-int_values.values.items c.in-Ok.ensures.agrees (search rules)

pub returns-in-Ok-int_values-clause-ok : goal.returns-in-Ok-int_values-clause-ok
returns-in-Ok-int_values-clause-ok c =
    ints_written c.args.index c.args.from.now c.in-Ok.places.items c.take_numbers.new.from c.in-Ok-int_values.values.items c.in-Ok.ensures.legal c.in-Ok.ensures.ok (search rules)

pub returns-in-Ok-int_values-clause-legal : goal.returns-in-Ok-int_values-clause-legal
returns-in-Ok-int_values-clause-legal c =
    let is : c.in-Ok-int_values.values.items ≡ map int_value c.in-Ok.places.items = search rules in
    rw is (ints_legal c.args.index c.in-Ok.places.items c.in-Ok.ensures.legal)
