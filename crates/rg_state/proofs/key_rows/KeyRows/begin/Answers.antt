use Rattle.rg_state.specs.States.{held_of}
use Rattle.rg_state.proofs.Placed.{none_seen}
use Rattle.rg_state.proofs.Stepping.{stepped_fresh}
use Rattle.rg_state.proofs.key_rows.KeyRows.begin.Goals as goal

pub returns-in-Ok-push-clause-step : goal.returns-in-Ok-push-clause-step
returns-in-Ok-push-clause-step c = record {
  stepped = rw (none_seen c.args.self.now.kept.items c.args.node c.requires.free, c.in-Ok-push.ensures.row) (stepped_fresh c.args.func c.args.value.now (held_of c.in-Ok.state) c.in-Ok.ensures.changed c.in-Ok.ensures.own c.in-Ok.ensures.size);
  others = c.in-Ok-push.ensures.others;
  err = tt;
  refuses = tt;
}
