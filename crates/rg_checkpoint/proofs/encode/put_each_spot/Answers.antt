use Rattle.std.proofs.Common.{rules}
use Rattle.rg_bytes.proofs.Laws.{kept_added, kept_on}
use Rattle.rg_checkpoint.specs.Base.{spot_bytes, IsSpot}
use Rattle.rg_checkpoint.proofs.Puts.{item_put, item_legal, all_taken}
use Rattle.rg_checkpoint.proofs.encode.put_each_spot.Goals as goal

pub loop-spot-preserved : goal.loop-spot-preserved
loop-spot-preserved c = record {
  to_come = item_put spot_bytes c.args.spots.now c.loop-spot.spot-index _ _ c.loop-spot.out.items c.put_spot.new.out.items c.loop-spot-test.true (search rules) c.in-Ok.ensures.ok c.loop-spot.invariant.to_come;
  fits = item_legal IsSpot c.args.spots.now c.loop-spot.spot-index _ c.loop-spot-test.true (search rules) c.loop-spot.invariant.fits c.in-Ok.ensures.fits;
  keeps = kept_on _ _ _ c.loop-spot.invariant.keeps (kept_added _ _ _ c.in-Ok.ensures.ok);
}

pub returns-clause-fits : goal.returns-clause-fits
returns-clause-fits c = all_taken IsSpot c.args.spots.now c.loop-spot.spot-index c.loop-spot-test.false c.loop-spot.invariant.fits
