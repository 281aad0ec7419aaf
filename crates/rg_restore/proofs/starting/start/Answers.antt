use Rattle.std.proofs.Common.{◌≡◌, ◌+◌, ℕ, List, take, subst}
use Rattle.std.specs.Prelude.{IfOk}
use Rattle.rg_state.specs.Changes.{IsSince}
use Rattle.rg_state.specs.Rows.{Entry, at_in}
use Rattle.rg_window.specs.Placed.{numbers_of}
use Rattle.rg_engine.specs.Passed.{passed_count}
use Rattle.rg_engine.specs.Standing.{come}
use Rattle.rg_restore.proofs.starting.start.Goals as goal

pub returns-clause-stands : goal.returns-clause-stands
returns-clause-stands g c = λ can runs last. c.restore.ensures.stands can last (c.in-Ok.ensures.truthful can.sound runs)

pub returns-clause-never_bad : goal.returns-clause-never_bad
returns-clause-never_bad g c = λ n can runs. c.restore.ensures.never_bad n can (c.in-Ok.ensures.truthful can.sound runs)

pub returns-clause-passed : goal.returns-clause-passed
returns-clause-passed g c = λ sound runs last.
    subst (λ (n : ℕ). IfOk c.restore.result (λ engine. c.restore.new.steps ≡ c.args.steps.now + passed_count c.args.plan (take n (g.P.Past.events c.args.past.now)) (g.P.Past.events c.restore.new.past))) c.in-Ok.ensures.count
    (c.restore.ensures.passed sound last (c.in-Ok.ensures.truthful sound runs))

pub returns-clause-ticks : goal.returns-clause-ticks
returns-clause-ticks g c =
    subst (λ (numbers : List ℕ). IfOk c.restore.result (λ engine. c.restore.new.steps + come c.args.plan numbers ≡ c.args.steps.now + come c.args.plan (numbers_of engine.spots))) c.in-Ok.ensures.zeros c.restore.ensures.ticks

pub returns-clause-never_damaged : goal.returns-clause-never_damaged
returns-clause-never_damaged g c = λ place sound runs. c.restore.ensures.never_damaged place sound (c.in-Ok.ensures.truthful sound runs).spots.spelled

pub returns-clause-since : goal.returns-clause-since
returns-clause-since g c = λ told.
    subst (λ (rows : List Entry). IfOk c.restore.result (λ engine. IsSince (at_in rows) (g.T.Table.named engine.table) (g.T.Table.there engine.table) (g.T.Table.cell engine.table))) c.in-Ok.ensures.none (c.restore.ensures.since told)
