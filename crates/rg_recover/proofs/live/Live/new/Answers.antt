use Rattle.rg_recover.proofs.Reaching.{reaching}
use Rattle.rg_recover.proofs.live.Live.new.Goals as goal

pub invariant_of-result : goal.invariant_of-result
invariant_of-result g c = record { reaches = reaching c.args.session.now (g.H.Host.now c.args.host.now) c.requires.reaches c.requires.slots_reach }
