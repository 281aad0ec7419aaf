use Rattle.std.proofs.Common.{◌∙◌, ap, arith}
use Rattle.rg_key_index.specs.Index.{eight_from}
use Rattle.rg_key_index.proofs.Buckets.{bucket_none, bucket_some}
use Rattle.rg_key_index.proofs.index.SlotIndex.bucket.Goals as goal

pub returns-in-None : goal.returns-in-None
returns-in-None c =
    let buckets = c.args.self.now.buckets.items in
    bucket_none buckets c.start-start.result c.saturating_add.result c.start-start.type_inv c.saturating_add.ensures (rw c.deref.ensures.value at c.in-None.ensures.lookup).0
    ∙ ap (eight_from buckets) c.start-start.ensures

pub returns-in-Some : goal.returns-in-Some
returns-in-Some c =
    let buckets = c.args.self.now.buckets.items in
    let found = (rw c.deref.ensures.value at c.in-Some.ensures.lookup).0 in
    bucket_some buckets c.in-Some.bucket.now c.start-start.result c.saturating_add.result (omega (arith, c.args.self.now.buckets.ok, c.args.self.now.buckets.small)) c.saturating_add.ensures found.1 found.2
    ∙ ap (eight_from buckets) c.start-start.ensures
