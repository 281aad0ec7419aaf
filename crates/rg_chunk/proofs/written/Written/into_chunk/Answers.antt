use Rattle.std.proofs.Common.{◌≡◌, ◌∙◌, List, Some, ap, sym, rules}
use Rattle.rg_event.specs.declared.event.Event.{Event}
use Rattle.rg_chunk.specs.declared.head.Layout.TheVariants.{Columns}
use Rattle.rg_chunk.specs.Chunks.{IsChunk, chunk_of}
use Rattle.rg_chunk.proofs.Chunks.{chunk_back}
use Rattle.rg_chunk.proofs.written.Written.into_chunk.Goals as goal

pub returns : goal.returns
returns c =
    let fields = c.args.schema.now.fields in
    let legal : IsChunk fields c.args.self.events = search rules in
    let made : c.of_events.result ≡ c.args.self.events = search rules in
    ap (chunk_of fields) c.requires ∙ chunk_back Columns fields c.args.self.events legal ∙ ap (λ (events : List Event). Some events) (sym made)
