use Rattle.std.proofs.Common.{◌≡◌, ◌≤◌, length, true, rules}
use Rattle.std.specs.List.{All}
use Rattle.rg_event.specs.Codec.{IsEventOf}
use Rattle.rg_chunk.specs.Chunks.{rises_from}
use Rattle.rg_chunk.proofs.Judging.{chunk_is}
use Rattle.rg_chunk.proofs.legal.is_chunk.Goals as goal

pub returns-then-are_legal : goal.returns-then-are_legal
returns-then-are_legal c = λ is.
    let some : 1 ≤ length c.args.events.now = search rules in
    let few : length c.args.events.now ≤ 4096 = search rules in
    let legal : All (IsEventOf c.args.fields.now) c.args.events.now = search rules in
    let rises : rises_from 0 0 c.args.events.now ≡ true = search rules in
    chunk_is c.args.fields.now c.args.events.now some few legal rises
