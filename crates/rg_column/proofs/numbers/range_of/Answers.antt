use Rattle.std.proofs.Common.{arith, map}
use Rattle.rg_column.specs.Numbers.{number_of}
use Rattle.rg_column.proofs.Packing.{least_fits, least_end}
use Rattle.rg_column.proofs.numbers.range_of.Goals as goal

pub loop-event-init : goal.loop-event-init
loop-event-init c = record {
  least_to_come = omega (arith, least_fits (map (number_of c.args.series) c.args.events.now));
  fits = omega arith;
  greatest_to_come = omega arith;
}

pub returns-clause-least : goal.returns-clause-least
returns-clause-least c = least_end (number_of c.args.series) c.args.events.now c.loop-event.event-index c.loop-event.least c.loop-event-test.false c.loop-event.invariant.fits c.loop-event.invariant.least_to_come
