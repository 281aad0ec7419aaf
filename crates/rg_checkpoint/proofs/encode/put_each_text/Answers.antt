use Rattle.std.proofs.Common.{rules}
use Rattle.rg_bytes.proofs.Laws.{kept_added, kept_on}
use Rattle.rg_checkpoint.specs.Base.{text_bytes, IsText}
use Rattle.rg_checkpoint.proofs.Puts.{item_put, item_legal, all_taken}
use Rattle.rg_checkpoint.proofs.encode.put_each_text.Goals as goal

pub loop-text-preserved : goal.loop-text-preserved
loop-text-preserved c = record {
  to_come = item_put text_bytes c.args.texts.now c.loop-text.text-index c.text-item.result _ c.loop-text.out.items c.put_text.new.out.items c.loop-text-test.true (search rules) c.in-Ok.ensures.ok c.loop-text.invariant.to_come;
  fits = item_legal IsText c.args.texts.now c.loop-text.text-index c.text-item.result c.loop-text-test.true (search rules) c.loop-text.invariant.fits c.in-Ok.ensures.fits;
  keeps = kept_on _ _ _ c.loop-text.invariant.keeps (kept_added _ _ _ c.in-Ok.ensures.ok);
}

pub returns-clause-fits : goal.returns-clause-fits
returns-clause-fits c = all_taken IsText c.args.texts.now c.loop-text.text-index c.loop-text-test.false c.loop-text.invariant.fits
