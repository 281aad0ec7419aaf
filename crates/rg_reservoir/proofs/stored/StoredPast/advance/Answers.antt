use Rattle.std.proofs.Common.{ap, arith}
use Rattle.rg_past.specs.declared.past.Spot.{Spot}
use Rattle.rg_reservoir.specs.Kept.{base}
use Rattle.rg_reservoir.specs.GoingLaws.{all_long}
use Rattle.rg_reservoir.proofs.Peeking.{advanced}
use Rattle.rg_reservoir.proofs.Reaching.{or_behind}
use Rattle.rg_reservoir.proofs.stored.StoredPast.advance.Goals as goal

pub returns-clause-spells : goal.returns-clause-spells
returns-clause-spells g c = λ sound later.
    advanced (g.H.Host.now c.args.self.now.host.now) (base c.args.self.now.reservoir.now) c.args.self.now.reservoir.now.open.events c.args.spot.now c.advance.new.spot
    (omega (arith, c.requires.number, all_long (g.H.Host.now c.args.self.now.host.now) (base c.args.self.now.reservoir.now) c.args.self.now.reservoir.now.open.events)) (ap (λ (s : Spot). s.place) c.advance.ensures.next) (ap (λ (s : Spot). s.index) c.advance.ensures.next) (ap (λ (s : Spot). s.number) c.advance.ensures.next) later

pub advance-requires-clause-number : goal.advance-requires-clause-number
advance-requires-clause-number g c = omega (arith, c.requires.number, all_long (g.H.Host.now c.args.self.now.host.now) (base c.args.self.now.reservoir.now) c.args.self.now.reservoir.now.open.events)

pub returns-clause-reached : goal.returns-clause-reached
returns-clause-reached g c = λ r. record {
  image = r.image;
  told = r.told;
  cached = r.cached;
  apart = r.apart;
  so_far = or_behind (base c.args.self.now.reservoir.now) _ c.args.spot.now c.advance.new.spot r.apart (ap (λ (s : Spot). s.place) c.advance.ensures.next) (ap (λ (s : Spot). s.index) c.advance.ensures.next) (ap (λ (s : Spot). s.number) c.advance.ensures.next) r.so_far;
}
