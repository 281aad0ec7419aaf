use Rattle.rg_open.proofs.Settles.{fewer-settled}
use Rattle.rg_open.proofs.settling.settle.Goals as goal

pub returns-in-Ok-settle_file-2-clause-settled : goal.returns-in-Ok-settle_file-2-clause-settled
returns-in-Ok-settle_file-2-clause-settled g c =
    let still = fewer-settled g.H.Host.now g.H.Host.may g.H.Host.clock g.H.Host.since g.H.Host.said in
    record {
      log = still 2 c.settle_file-2.new.host c.settle_file-3.new.host c.settle_file-3.ensures.leaves (still 2 c.settle_file.new.host c.settle_file-2.new.host c.settle_file-2.ensures.leaves c.in-Ok.ensures.settled);
      first = still 0 c.settle_file-2.new.host c.settle_file-3.new.host c.settle_file-3.ensures.leaves c.in-Ok-settle_file.ensures.settled;
      second = c.in-Ok-settle_file-2.ensures.settled;
    }
