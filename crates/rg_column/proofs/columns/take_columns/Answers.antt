use Rattle.std.proofs.Common.{◌≡◌, [], length, sym, ◌∙◌, ap, subst, rules}
use Rattle.std.specs.List.{All}
use Rattle.std.proofs.lemmas.Result.{IfOk-weaker}
use Rattle.rg_event.specs.Codec.{IsEventOf}
use Rattle.rg_column.specs.Columns.{started}
use Rattle.rg_column.proofs.Transposed.{columns_no_offsets, columns_no_times, columns_agree, columns_written, started_many, started_legal}
use Rattle.rg_column.proofs.columns.take_columns.Goals as goal

pub returns-in-Err-clause-agrees : goal.returns-in-Err-clause-agrees
returns-in-Err-clause-agrees c = columns_no_offsets c.args.fields.now c.args.count c.args.from.now c.in-Err.fault c.in-Err.ensures.agrees

pub returns-in-Err-take_numbers-clause-agrees : goal.returns-in-Err-take_numbers-clause-agrees
returns-in-Err-take_numbers-clause-agrees c =
    columns_no_times c.args.fields.now c.args.count c.args.from.now c.in-Ok.offsets.items c.take_numbers.new.from c.in-Err-take_numbers.fault c.in-Ok.ensures.agrees c.in-Err-take_numbers.ensures.agrees

pub take_fields-requires-clause-count : goal.take_fields-requires-clause-count
take_fields-requires-clause-count c =
    let same : length c.in-Ok.offsets.items ≡ length c.in-Ok-take_numbers.times.items = c.in-Ok.ensures.count ∙ sym c.in-Ok-take_numbers.ensures.count in
    let begun : c.in-Ok-start_events.events.items ≡ started c.in-Ok.offsets.items c.in-Ok-take_numbers.times.items = search rules in
    ap (λ events. length events) begun ∙ started_many c.in-Ok.offsets.items c.in-Ok-take_numbers.times.items same ∙ c.in-Ok.ensures.count

pub take_fields-requires-clause-legal : goal.take_fields-requires-clause-legal
take_fields-requires-clause-legal c =
    let begun : c.in-Ok-start_events.events.items ≡ started c.in-Ok.offsets.items c.in-Ok-take_numbers.times.items = search rules in
    subst (λ events. All (IsEventOf []) events) (sym begun) (started_legal c.in-Ok.offsets.items c.in-Ok-take_numbers.times.items c.in-Ok.ensures.legal c.in-Ok-take_numbers.ensures.legal)

pub returns-clause-agrees : goal.returns-clause-agrees
returns-clause-agrees c =
    let begun : c.in-Ok-start_events.events.items ≡ started c.in-Ok.offsets.items c.in-Ok-take_numbers.times.items = search rules in
    columns_agree c.args.fields.now c.args.count c.args.from.now c.in-Ok.offsets.items c.take_numbers.new.from c.in-Ok-take_numbers.times.items c.take_numbers-2.new.from c.in-Ok-start_events.events.items c.take_fields.result c.take_fields.new.from
    c.in-Ok.ensures.agrees c.in-Ok-take_numbers.ensures.agrees begun c.take_fields.ensures.agrees

pub returns-clause-ok : goal.returns-clause-ok
returns-clause-ok c =
    let taken = c.take_fields.ensures.taken in
    let same : length c.in-Ok.offsets.items ≡ length c.in-Ok-take_numbers.times.items = c.in-Ok.ensures.count ∙ sym c.in-Ok-take_numbers.ensures.count in
    let begun : c.in-Ok-start_events.events.items ≡ started c.in-Ok.offsets.items c.in-Ok-take_numbers.times.items = search rules in
    columns_written c.args.fields.now c.args.from.now c.in-Ok.offsets.items c.take_numbers.new.from c.in-Ok-take_numbers.times.items c.take_numbers-2.new.from c.in-Ok-start_events.events.items c.take_fields.result c.take_fields.new.from
    same begun c.in-Ok.ensures.ok c.in-Ok-take_numbers.ensures.ok (IfOk-weaker c.take_fields.result _ _ (λ events t. t.offsets) taken) (IfOk-weaker c.take_fields.result _ _ (λ events t. t.times) taken) (IfOk-weaker c.take_fields.result _ _ (λ events t. t.spelled) taken)

pub returns-clause-legal : goal.returns-clause-legal
returns-clause-legal c = IfOk-weaker c.take_fields.result _ _ (λ events t. t.legal) c.take_fields.ensures.taken

pub returns-clause-count : goal.returns-clause-count
returns-clause-count c =
    let same : length c.in-Ok.offsets.items ≡ length c.in-Ok-take_numbers.times.items = c.in-Ok.ensures.count ∙ sym c.in-Ok-take_numbers.ensures.count in
    let begun : c.in-Ok-start_events.events.items ≡ started c.in-Ok.offsets.items c.in-Ok-take_numbers.times.items = search rules in
    let many = ap (λ events. length events) begun ∙ started_many c.in-Ok.offsets.items c.in-Ok-take_numbers.times.items same ∙ c.in-Ok.ensures.count in
    IfOk-weaker c.take_fields.result _ _ (λ events t. t.count ∙ many) c.take_fields.ensures.taken
