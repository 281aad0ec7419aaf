use Rattle.std.proofs.Common.{sym, subst}
use Rattle.rg_config.specs.Plans.{planned}
use Rattle.rg_pipe.specs.State.{PipeState}
use Rattle.rg_serve.specs.Coming.{CanGoOn, FeedsHeld}
use Rattle.rg_serve.proofs.Handed.{fit, fit_asked, steps_by, steps_here}
use Rattle.rg_serve.proofs.next.answer_next.Goals as goal

pub answer_asked-answered-requires-clause-fit : goal.answer_asked-answered-requires-clause-fit
answer_asked-answered-requires-clause-fit g c = fit _ _ c.in-Some.whole.request c.in-Some.ensures.hands

pub returns-in-Some-clause-steps : goal.returns-in-Some-clause-steps
returns-in-Some-clause-steps g c =
    steps_here g.K.Task.view (planned c.args.plan.now) c.args.pipe.now _ c.args.intake.now _ _ c.args.gathered.now.items _ c.args.task.now _ c.in-Some.whole _ c.held.ensures c.in-Some.ensures c.pass.ensures c.answer_asked-answered.ensures.answers

pub returns-in-Some-clause-carries : goal.returns-in-Some-clause-carries
returns-in-Some-clause-carries g c = c.answer_asked-answered.ensures.carries

pub feed_held-requires : goal.feed_held-requires
feed_held-requires g c = record { can = subst (λ (x : PipeState). CanGoOn c.args.intake.now x) (sym c.in-None.ensures.0) c.requires.can }

pub answer_asked-requires-clause-fit : goal.answer_asked-requires-clause-fit
answer_asked-requires-clause-fit g c = fit_asked _ _ c.next.result c.next.follows.holds-at-none

pub returns-in-None-clause-steps : goal.returns-in-None-clause-steps
returns-in-None-clause-steps g c = record {
  fed = c.feed_held.new.pipe;
  feeds = subst (λ (x : PipeState). FeedsHeld x c.feed_held.new.pipe c.args.intake.now c.feed_held.new.intake) c.in-None.ensures.0 c.feed_held.ensures.feeds;
  step = steps_by g.K.Task.view _ _ _ _ _ _ _ c.next.result c.answer_asked.result c.next.follows.holds-at-none c.answer_asked.ensures.answers;
}

pub returns-in-None-clause-carries : goal.returns-in-None-clause-carries
returns-in-None-clause-carries g c = c.answer_asked.ensures.carries
