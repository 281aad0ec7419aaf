use Rattle.std.proofs.Common.{rules, ◌∙◌}
use Rattle.rg_state.proofs.Sheeted.{ready_one, key_more, key_end}
use Rattle.rg_state.proofs.sheets.put_key.Goals as goal

pub put_row-requires : goal.put_row-requires
put_row-requires c =
    ready_one c.args.wanted c.args.key.now c.args.kepts.now c.loop-kept.kept-index _ c.args.sheets.now.items c.loop-kept.sheets.items
    c.requires.sound c.loop-kept-test.true (search rules) c.requires.ready c.loop-kept.invariant.count c.loop-kept.invariant.left

pub loop-kept-preserved : goal.loop-kept-preserved
loop-kept-preserved c = record {
  left = key_more c.args.wanted c.args.key.now c.args.kepts.now c.loop-kept.kept-index _ c.args.sheets.now.items c.loop-kept.sheets.items c.put_row.new.sheets.items
      c.requires.sound c.loop-kept-test.true (search rules) c.in_ok-put_row.ensures c.loop-kept.invariant.left;
  count = c.in_ok-put_row.ensures.count ∙ c.loop-kept.invariant.count;
}

pub returns : goal.returns
returns c = key_end c.args.wanted c.args.key.now c.args.kepts.now c.loop-kept.kept-index c.args.sheets.now.items c.loop-kept.sheets.items c.loop-kept-test.false c.loop-kept.invariant.count c.loop-kept.invariant.left
