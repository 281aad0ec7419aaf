use Rattle.std.proofs.Common.{ap}
use Rattle.rg_past.specs.declared.past.Spot.{Spot}
use Rattle.rg_reservoir.specs.Kept.{base}
use Rattle.rg_reservoir.specs.GoingLaws.{not_false}
use Rattle.rg_reservoir.proofs.Peeking.{started}
use Rattle.rg_reservoir.proofs.stored.StoredPast.start.Goals as goal

pub returns-clause-spells : goal.returns-clause-spells
returns-clause-spells g c = λ sound going.
    started (g.H.Host.now c.args.self.now.host.now) sound.0 (g.H.Host.may c.args.self.now.host.now) (base c.args.self.now.reservoir.now) c.args.self.now.reservoir.now.open.events c.args.self.now.reservoir.now.next_offset c.args.self.now.reservoir.now.last_time c.args.self.now.reservoir.now.cache
    c.start.result sound.1 (sound.2.right (not_false c.args.self.now.reservoir.now.ended going)) (ap (λ (s : Spot). s.place) c.start.ensures) (ap (λ (s : Spot). s.index) c.start.ensures) (ap (λ (s : Spot). s.number) c.start.ensures)
