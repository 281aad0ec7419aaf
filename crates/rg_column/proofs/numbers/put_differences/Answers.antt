use Rattle.std.proofs.Common.{◌≡◌, ◌≤◌, ◌-◌, ◌<◌, map, get_or, length, arith, rules, ap, sym, ◌∙◌}
use Rattle.rg_bytes.specs.Keeps.{Keeps}
use Rattle.rg_bytes.proofs.Laws.{kept_added, kept_on, kept_same}
use Rattle.rg_column.specs.Numbers.{number_of, least}
use Rattle.rg_column.proofs.Packing.{put_more, number_within}
use Rattle.rg_column.proofs.numbers.put_differences.Goals as goal

pub overflow_sub-number : goal.overflow_sub-number
overflow_sub-number c =
    (number_within (number_of c.args.series) c.args.events.now c.loop-event.event-index c.event-item.result c.number.result c.args.base c.args.width c.loop-event-test.true c.event-item.is c.number.ensures c.requires.base c.requires.width (omega arith)).0

pub put-requires : goal.put-requires
put-requires c =
    (number_within (number_of c.args.series) c.args.events.now c.loop-event.event-index c.event-item.result c.number.result c.args.base c.args.width c.loop-event-test.true c.event-item.is c.number.ensures c.requires.base c.requires.width (omega arith)).1
