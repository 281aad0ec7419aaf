use Rattle.std.proofs.Common.{◌≡◌, map, rules}
use Rattle.rg_event.specs.declared.value.Value.TheVariants.{Id}
use Rattle.rg_column.proofs.Typed.{ids_stop, ids_read, ids_written, ids_legal}
use Rattle.rg_column.proofs.values.take_ids.Goals as goal

pub returns-in-Err-clause-agrees : goal.returns-in-Err-clause-agrees
returns-in-Err-clause-agrees c = ids_stop c.args.index c.args.count c.args.from.now c.in-Err.fault c.in-Err.ensures.agrees

pub returns-in-Ok-id_values-clause-agrees : goal.returns-in-Ok-id_values-clause-agrees
returns-in-Ok-id_values-clause-agrees c =
    ids_read c.args.index c.args.count c.args.from.now c.in-Ok.numbers.items c.take_numbers.new.from c.in-Ok-id_values.values.items c.in-Ok.ensures.agrees (search rules)

pub returns-in-Ok-id_values-clause-ok : goal.returns-in-Ok-id_values-clause-ok
returns-in-Ok-id_values-clause-ok c =
    ids_written c.args.index c.args.from.now c.in-Ok.numbers.items c.take_numbers.new.from c.in-Ok-id_values.values.items c.in-Ok.ensures.ok (search rules)

pub returns-in-Ok-id_values-clause-legal : goal.returns-in-Ok-id_values-clause-legal
returns-in-Ok-id_values-clause-legal c =
    let is : c.in-Ok-id_values.values.items ≡ map Id c.in-Ok.numbers.items = search rules in
    rw is (ids_legal c.args.index c.in-Ok.numbers.items c.in-Ok.ensures.legal)
