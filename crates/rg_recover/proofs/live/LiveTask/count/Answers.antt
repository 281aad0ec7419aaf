use Rattle.std.proofs.Common.{◌∙◌, sym}
use Rattle.rg_recover.proofs.Sound.{long}
use Rattle.rg_recover.proofs.live.LiveTask.count.Goals as goal

pub returns : goal.returns
returns g c = c.count.ensures ∙ sym (long (g.H.Host.now c.args.self.now.host.now) c.args.self.now.session.now.reservoir)
