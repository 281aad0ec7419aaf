use Rattle.std.proofs.Common.{◌≡◌, ◌∙◌, Some, None, Option, rules}
use Rattle.rg_chunk.specs.Heads.{head_of}
use Rattle.rg_chunk.specs.declared.head.ChunkHead.{ChunkHead}
use Rattle.rg_chunk.proofs.Chunks.{chunk_head}
use Rattle.rg_chunk.proofs.head.read_head.Goals as goal

pub returns-in-Ok-clause-of_chunk : goal.returns-in-Ok-clause-of_chunk
returns-in-Ok-clause-of_chunk c fields events is =
    let head : Some c.in-Ok.head ≡ head_of c.args.payload.now = search rules in
    head ∙ chunk_head fields c.args.payload.now events is

pub returns-in-Err-clause-of_chunk : goal.returns-in-Err-clause-of_chunk
returns-in-Err-clause-of_chunk c fields events is =
    let none : Option ChunkHead = None in
    let head : none ≡ head_of c.args.payload.now = search rules in
    head ∙ chunk_head fields c.args.payload.now events is
