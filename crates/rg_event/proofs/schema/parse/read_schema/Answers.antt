use Rattle.rg_event.proofs.Readable.{is_schema}
use Rattle.rg_event.proofs.schema.parse.read_schema.Goals as goal

pub invariant_of-result : goal.invariant_of-result
invariant_of-result c = is_schema _ _ _ c.in_ok-stream.ensures (cc)
