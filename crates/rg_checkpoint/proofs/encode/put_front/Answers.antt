use Rattle.std.proofs.Common.{rules}
use Rattle.std.specs.Int.{w64, to_be_bytes}
use Rattle.rg_checkpoint.specs.Base.{counted_texts, counted_spots}
use Rattle.rg_checkpoint.proofs.Puts.{head_put}
use Rattle.rg_checkpoint.proofs.encode.put_front.Goals as goal

pub returns-in-Ok-put_spots-clause-ok : goal.returns-in-Ok-put_spots-clause-ok
returns-in-Ok-put_spots-clause-ok c =
    head_put c.args.out.now.items (counted_texts c.args.queries.now) (to_be_bytes w64 c.args.count) (counted_spots c.args.spots.now) c.put_u8.new.out.items c.put_texts.new.out.items c.put_u64.new.out.items c.put_spots.new.out.items
    c.in-Ok.ensures.ok (search (rules, c.in-Ok-put_texts.ensures.ok)) c.in-Ok-put_u64.ensures.ok c.in-Ok-put_spots.ensures.ok
