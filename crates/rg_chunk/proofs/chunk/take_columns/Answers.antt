use Rattle.std.proofs.Common.{◌≡◌, true, false, inl, rules}
use Rattle.rg_chunk.specs.Chunks.{rises_from}
use Rattle.rg_chunk.proofs.Chunks.{columns_stop, columns_tested, rising_is, have_offsets}
use Rattle.rg_chunk.proofs.chunk.take_columns.Goals as goal

pub returns-in-Err-clause-agrees : goal.returns-in-Err-clause-agrees
returns-in-Err-clause-agrees c = rw c.event_fault.ensures (columns_stop c.args.schema.now.fields c.args.count c.args.from.now c.in-Err.fault c.in-Err.ensures.agrees)

pub is_rising-requires : goal.is_rising-requires
is_rising-requires c = rw c.as_slice.ensures (have_offsets c.args.schema.now.fields c.in-Ok.events c.in-Ok.ensures.legal)

pub returns-then-not-is_rising-clause-agrees : goal.returns-then-not-is_rising-clause-agrees
returns-then-not-is_rising-clause-agrees c =
    let falls : rises_from 0 0 c.in-Ok.events ≡ false = search rules in
    inl (columns_tested c.args.schema.now.fields c.args.count c.args.from.now c.in-Ok.events c.decode_columns.new.from false c.in-Ok.ensures.agrees falls)

pub returns-clause-agrees : goal.returns-clause-agrees
returns-clause-agrees c =
    let rises : rises_from 0 0 c.in-Ok.events ≡ true = search rules in
    columns_tested c.args.schema.now.fields c.args.count c.args.from.now c.in-Ok.events c.decode_columns.new.from true c.in-Ok.ensures.agrees rises

pub returns-clause-rising : goal.returns-clause-rising
returns-clause-rising c =
    let rises : rises_from 0 0 c.in-Ok.events ≡ true = search rules in
    rising_is 0 0 c.in-Ok.events rises
