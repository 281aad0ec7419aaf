use Rattle.std.proofs.Common.{arith}
use Rattle.rg_key_index.proofs.Buckets.{place_is, position_none}
use Rattle.rg_key_index.proofs.index.SlotIndex.place_of.Goals as goal

pub returns-in-None-clause-none : goal.returns-in-None-clause-none
returns-in-None-clause-none c = position_none _ c.args.guess (rw c.bucket.ensures at c.in-None.ensures)

pub overflow_add-result : goal.overflow_add-result
overflow_add-result c =
    let place = place_is c.args.self.now.buckets.items c.args.mix c.args.guess c.in-Some.position (rw c.bucket.ensures at c.in-Some.ensures) in
    omega (arith, place.to, place.fits, c.start.ensures, c.args.self.now.buckets.ok, c.args.self.now.buckets.small)

pub returns-in-Some-clause-found : goal.returns-in-Some-clause-found
returns-in-Some-clause-found c = rw c.start.ensures (place_is c.args.self.now.buckets.items c.args.mix c.args.guess c.in-Some.position (rw c.bucket.ensures at c.in-Some.ensures))
