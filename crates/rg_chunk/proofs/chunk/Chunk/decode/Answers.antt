use Rattle.std.proofs.Common.{◌≡◌, ◌∙◌, ◌⊎◌, ◌<◌, ◌++◌, List, length, Some, Ok, Err, ap, sym, rules}
use Rattle.rg_event.specs.declared.event.Event.{Event}
use Rattle.rg_event.specs.declared.codec.EventFault.TheVariants.{Memory}
use Rattle.rg_chunk.specs.Chunks.{chunk_at, payload_bytes}
use Rattle.rg_chunk.specs.declared.fault.ChunkFault.TheVariants.{BadChunk}
use Rattle.rg_chunk.proofs.Chunks.{whole_more, whole_all, refused, nothing_left, chunk_reads_back}
use Rattle.rg_chunk.proofs.chunk.Chunk.decode.Goals as goal

pub returns-then-left-gt0-clause-agrees : goal.returns-then-left-gt0-clause-agrees
returns-then-left-gt0-clause-agrees c =
    let read : chunk_at c.args.schema.now.fields c.args.payload.now ≡ Ok (c.in-Ok.events, c.take_chunk.new.from) = search rules in
    let more : 0 < length c.take_chunk.new.from = search rules in
    whole_more _ c.in-Ok.events c.take_chunk.new.from read more

pub returns-then-left-gt0-clause-reads_back : goal.returns-then-left-gt0-clause-reads_back
returns-then-left-gt0-clause-reads_back c layout events is stood = chunk_reads_back layout c.args.schema.now.fields c.args.payload.now (Err BadChunk) events (returns-then-left-gt0-clause-agrees c) is stood

pub returns-else-left-gt0-clause-agrees : goal.returns-else-left-gt0-clause-agrees
returns-else-left-gt0-clause-agrees c =
    let read : chunk_at c.args.schema.now.fields c.args.payload.now ≡ Ok (c.in-Ok.events, c.take_chunk.new.from) = search rules in
    let none : length c.take_chunk.new.from ≡ 0 = search rules in
    whole_all _ c.in-Ok.events c.take_chunk.new.from read none ∙ ap (λ (events : List Event). Some events) (sym c.into_vec.ensures)

pub returns-else-left-gt0-clause-bytes : goal.returns-else-left-gt0-clause-bytes
returns-else-left-gt0-clause-bytes c =
    let none : length c.take_chunk.new.from ≡ 0 = search rules in
    let laid = c.in-Ok.ensures.ok in
    let stood : c.args.payload.now ≡ payload_bytes laid.0 c.args.schema.now.fields c.in-Ok.events ++ c.take_chunk.new.from = search (rules, laid.1) in
    (laid.0, nothing_left c.args.payload.now (payload_bytes laid.0 c.args.schema.now.fields c.in-Ok.events) c.take_chunk.new.from stood none ∙ ap (payload_bytes laid.0 c.args.schema.now.fields) (sym c.into_vec.ensures))

pub returns-else-left-gt0-clause-reads_back : goal.returns-else-left-gt0-clause-reads_back
returns-else-left-gt0-clause-reads_back c layout events is stood = chunk_reads_back layout c.args.schema.now.fields c.args.payload.now (Ok c.into_vec.result.items) events (returns-else-left-gt0-clause-agrees c) is stood

pub returns-in-Err-clause-agrees : goal.returns-in-Err-clause-agrees
returns-in-Err-clause-agrees c =
    let stops : (chunk_at c.args.schema.now.fields c.args.payload.now ≡ Err c.in-Err.fault) ⊎ (c.in-Err.fault ≡ Memory) = search rules in
    refused _ c.in-Err.fault c.from.result stops (search rules)

pub returns-in-Err-clause-reads_back : goal.returns-in-Err-clause-reads_back
returns-in-Err-clause-reads_back c layout events is stood = chunk_reads_back layout c.args.schema.now.fields c.args.payload.now (Err c.from.result) events (returns-in-Err-clause-agrees c) is stood
