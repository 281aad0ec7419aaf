use Rattle.std.proofs.Common.{subst, take_all, ◌≤◌}
use Rattle.std.specs.Prelude.{All}
use Rattle.std.proofs.lemmas.List.Elements.{All-more}
use Rattle.rg_past.specs.declared.past.Spot.{Spot}
use Rattle.rg_engine_tests.proofs.check.are_within.Goals as goal

pub loop-spot-preserved : goal.loop-spot-preserved
loop-spot-preserved c = All-more (λ (spot : Spot). spot.number ≤ c.args.count) c.args.spots.now c.loop-spot.spot-index _ c.loop-spot-test.true c.loop-spot.invariant c.if-spot-count.false

pub returns : goal.returns
returns c _ = subst (All (λ (spot : Spot). spot.number ≤ c.args.count)) (take_all c.loop-spot.spot-index c.args.spots.now c.loop-spot-test.false) c.loop-spot.invariant
