use Rattle.std.proofs.lemmas.Result.{on_ok_weaker}
use Rattle.rg_agg.specs.Held.{highest}
use Rattle.rg_extreme.specs.Ticks.{few_with}
use Rattle.rg_extreme.specs.States.{pairs_in}
use Rattle.rg_extreme.specs.declared.side.Side.TheVariants.{Greatest}
use Rattle.rg_extreme.proofs.Removals.{added_both}
use Rattle.rg_extreme.proofs.max.Max.add_counted.Goals as goal

pub returns-clause-ok : goal.returns-clause-ok
returns-clause-ok g c =
    added_both Greatest c.args.self.now.deque.size c.add.new.self.size (pairs_in c.args.self.now.deque) (pairs_in c.add.new.self) c.args.value.now c.add.result c.requires.takes c.requires.like c.add.ensures.pairs c.add.ensures.size

pub returns-clause-few : goal.returns-clause-few
returns-clause-few g c =
    on_ok_weaker c.add.result (λ ticks. few_with (highest c.args.self.now.deque.size (pairs_in c.args.self.now.deque)) (highest c.add.new.self.size (pairs_in c.add.new.self)) c.args.steps.now c.add.new.steps ticks) c.add.ensures.ticks
