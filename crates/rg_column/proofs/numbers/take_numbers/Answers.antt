use Rattle.std.proofs.Common.{◌≡◌, true, false, inl, arith, rules, ap, sym, ◌∙◌, Err, rules}
use Rattle.rg_bytes.proofs.Laws.{agrees_stopped}
use Rattle.rg_column.specs.Numbers.{is_packed, lowest, highest, greatest}
use Rattle.rg_column.specs.declared.fault.ColumnFault.TheVariants.{Short, BadColumn, Memory}
use Rattle.rg_column.proofs.Packing.{numbers_no_base, numbers_no_width, numbers_bad_width, numbers_stop, numbers_refused, numbers_read, numbers_taken, packed_parts, raised_are, packed_fits}
use Rattle.rg_column.proofs.numbers.take_numbers.Goals as goal

pub returns-in_err-u64-clause-agrees : goal.returns-in_err-u64-clause-agrees
returns-in_err-u64-clause-agrees c = agrees_stopped Memory (λ list. list.items) _ c.from_residual.result _ Short c.from_residual.ensures.1 (inl (numbers_no_base c.args.series c.args.count c.args.from.now (search rules)))

pub returns-in_err-u8-clause-agrees : goal.returns-in_err-u8-clause-agrees
returns-in_err-u8-clause-agrees c =
    agrees_stopped Memory (λ list. list.items) _ c.from_residual-in_err-u8.result _ Short c.from_residual-in_err-u8.ensures.1
    (inl (numbers_no_width c.args.series c.args.count c.args.from.now c.in_ok-u64.field-0 c.u64.new.self c.in_ok-u64.ensures.ok (search rules) (search rules)))

pub returns-in-None-clause-agrees : goal.returns-in-None-clause-agrees
returns-in-None-clause-agrees c =
    inl
    (numbers_bad_width c.args.series c.args.count c.args.from.now c.in_ok-u64.field-0 c.u64.new.self c.in_ok-u8.field-0 c.u8.new.self c.in_ok-u64.ensures.ok (search rules) c.in_ok-u8.ensures.ok (sym c.from_byte.ensures ∙ c.in-None.is)
    ∙ ap (λ field. Err (BadColumn field)) (sym c.field.ensures))

pub returns-in-Err-clause-agrees : goal.returns-in-Err-clause-agrees
returns-in-Err-clause-agrees c =
    numbers_stop c.args.series c.args.count c.args.from.now c.in_ok-u64.field-0 c.u64.new.self c.in_ok-u8.field-0 c.u8.new.self c.in-Some.width c.in-Err.fault c.in_ok-u64.ensures.ok (search rules) c.in_ok-u8.ensures.ok
    (sym c.from_byte.ensures ∙ c.in-Some.is) c.in-Err.ensures.agrees

pub returns-then-not-is_packed-clause-agrees : goal.returns-then-not-is_packed-clause-agrees
returns-then-not-is_packed-clause-agrees c =
    let base = c.base_bits-base.result in
    let refused : is_packed c.args.series base c.in-Some.width c.in-Ok.differences.items ≡ false = search rules in
    inl
    (numbers_refused c.args.series c.args.count c.args.from.now c.in_ok-u64.field-0 base c.u64.new.self c.in_ok-u8.field-0 c.u8.new.self c.in-Some.width c.in-Ok.differences.items c.take_differences.new.from (search rules)
    c.base_bits-base.ensures c.in_ok-u64.ensures.ok c.in_ok-u8.ensures.ok (sym c.from_byte.ensures ∙ c.in-Some.is) c.in-Ok.ensures.agrees refused
    ∙ ap (λ field. Err (BadColumn field)) (sym c.field-then-not-is_packed.ensures))

pub returns-clause-agrees : goal.returns-clause-agrees
returns-clause-agrees c =
    let base = c.base_bits-base.result in
    let packed : is_packed c.args.series base c.in-Some.width c.in-Ok.differences.items ≡ true = search rules in
    numbers_read c.args.series c.args.count c.args.from.now c.in_ok-u64.field-0 base c.u64.new.self c.in_ok-u8.field-0 c.u8.new.self c.in-Some.width c.in-Ok.differences.items c.take_differences.new.from c.raise.result.items
    (search rules) c.base_bits-base.ensures c.in_ok-u64.ensures.ok c.in_ok-u8.ensures.ok (sym c.from_byte.ensures ∙ c.in-Some.is) c.in-Ok.ensures.agrees packed c.raise.ensures

pub returns-clause-ok : goal.returns-clause-ok
returns-clause-ok c =
    let base = c.base_bits-base.result in
    let packed : is_packed c.args.series base c.in-Some.width c.in-Ok.differences.items ≡ true = search rules in
    numbers_taken c.args.series c.args.from.now c.in_ok-u64.field-0 base c.u64.new.self c.in_ok-u8.field-0 c.u8.new.self c.in-Some.width c.in-Ok.differences.items c.take_differences.new.from c.raise.result.items
    (search rules) c.base_bits-base.ensures c.in_ok-u64.ensures.ok c.in_ok-u8.ensures.ok (sym c.from_byte.ensures ∙ c.in-Some.is) c.in-Ok.ensures.ok packed c.raise.ensures

pub returns-clause-legal : goal.returns-clause-legal
returns-clause-legal c =
    let packed : is_packed c.args.series c.base_bits-base.result c.in-Some.width c.in-Ok.differences.items ≡ true = search rules in
    raised_are c.args.series c.base_bits-base.result c.in-Some.width c.in-Ok.differences.items c.raise.result.items packed c.raise.ensures
