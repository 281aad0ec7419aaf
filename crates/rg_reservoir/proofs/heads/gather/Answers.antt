use Rattle.std.proofs.Common.{rules}
use Rattle.rg_reservoir.proofs.Gathering.{grows_with}
use Rattle.rg_reservoir.proofs.heads.gather.Goals as goal

pub returns-clause-grown : goal.returns-clause-grown
returns-clause-grown c =
    grows_with c.args.found.now.place c.args.found.now.next c.args.so_far.now.schema c.args.found.now.entry c.in-Some-Some-Growth.from c.in-Some-Some-Growth.growth c.in_ok-copy.field-0 c.in_ok-copy-2.field-0 _ c.args.growths.now c.push.new.self
    (search rules) (search rules) (search rules) (search rules) c.in_ok-push.ensures
