use Rattle.std.proofs.Common.{◌∙◌, sym}
use Rattle.rg_reservoir.specs.Kept.{base}
use Rattle.rg_reservoir.specs.GoingLaws.{all_long}
use Rattle.rg_reservoir.proofs.stored.StoredPast.count.Goals as goal

pub returns : goal.returns
returns g c = c.count.ensures.count ∙ sym (all_long (g.H.Host.now c.args.self.now.host.now) (base c.args.self.now.reservoir.now) c.args.self.now.reservoir.now.open.events)
