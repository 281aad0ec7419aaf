use Rattle.std.proofs.Common.{refl, sym, subst, ◌∙◌, arith, rules}
use Rattle.rg_engine.specs.Parts.{agg_nodes, group_nodes}
use Rattle.rg_engine.specs.Stepping.{IsPassed, Done, Stuck}
use Rattle.rg_engine.proofs.Doing.{done_beside, done_unmet, done_more, done_all, stuck_more}
use Rattle.rg_engine.proofs.Since.{keeps_then}
use Rattle.rg_engine.proofs.Taken.{not_err}
use Rattle.rg_engine.proofs.changer.pass_filter.Goals as goal

pub returns-in-None-clause-rows : goal.returns-in-None-clause-rows
returns-in-None-clause-rows g c = λ told. record {
  done = λ n q. done_beside q c.args.offset c.args.event.now c.args.part.now.window c.args.part.now.filter n c.args.part.now.groups.items _ _ (sym c.in-None.ensures) refl;
  stuck = search rules;
}

pub returns-then-not-holds-clause-rows : goal.returns-then-not-holds-clause-rows
returns-then-not-holds-clause-rows g c = λ told. record {
  done = λ n q. done_unmet q c.args.offset c.args.event.now c.args.part.now.window c.args.part.now.filter n c.args.part.now.groups.items _ _ (sym c.holds.ensures.value ∙ c.if-not-holds.true) refl;
  stuck = search rules;
}

pub groups-preserved : goal.groups-preserved
groups-preserved g c =
    let i = c.groups.invariant in
    let made = c.in-Ok.ensures in
    let part = c.args.part.now in
    let passed : IsPassed part.window part.filter c.args.offset c.in-Some.change c.args.event.now = record { side = sym c.in-Some.ensures; passes = sym c.holds.ensures.value ∙ c.if-not-holds.false } in
    record {
      done = λ told n q.
          done_more q c.args.offset c.args.event.now (λ group. agg_nodes part.window part.filter group.columns n group.aggs.items) c.deref-group-items.result.now c.groups.group-index c.group-item.result c.group-item.result c.groups-test.true c.group-item.is _ _ _
          (i.done told n q) ((made.rows (i.since.tells.1 told) part.window part.filter c.args.offset passed).done n q);
      since = keeps_then _ _ _ _ _ _ _ i.since made.goes.since;
      later = omega (arith, made.goes.later);
    }

pub returns-clause-rows : goal.returns-clause-rows
returns-clause-rows g c = λ told.
    let i = c.groups.invariant in
    let part = c.args.part.now in
    record {
      done = λ n q.
          subst (λ groups. Done q c.args.offset c.args.event.now (group_nodes part.window part.filter n groups) (g.T.Table.cell c.args.table.now n q) (g.T.Table.cell c.groups.table n q)) c.deref-group-items.ensures.value
          (done_all q c.args.offset c.args.event.now (λ group. agg_nodes part.window part.filter group.columns n group.aggs.items) c.deref-group-items.result.now c.groups.group-index c.groups-test.false _ _ (i.done told n q));
      stuck = λ n is. absurd (not_err is);
    }

pub returns-in-Err-clause-rows : goal.returns-in-Err-clause-rows
returns-in-Err-clause-rows g c = λ told.
    let i = c.groups.invariant in
    let part = c.args.part.now in
    let passed : IsPassed part.window part.filter c.args.offset c.in-Some.change c.args.event.now = record { side = sym c.in-Some.ensures; passes = sym c.holds.ensures.value ∙ c.if-not-holds.false } in
    record {
      done = search rules;
      stuck = λ n bad.
          let k = (c.in-Err.ensures.rows (i.since.tells.1 told) part.window part.filter c.args.offset passed).stuck n bad in (
            k.0,
            subst (λ groups. Stuck k.0 c.args.offset c.args.event.now (group_nodes part.window part.filter n groups) (g.T.Table.cell c.args.table.now n k.0)) c.deref-group-items.ensures.value
                (stuck_more k.0 c.args.offset c.args.event.now (λ group. agg_nodes part.window part.filter group.columns n group.aggs.items) c.deref-group-items.result.now c.groups.group-index c.group-item.result c.group-item.result c.groups-test.true c.group-item.is _ _
                (i.done told n k.0) k.1),
          );
    }

pub returns-in-Err-clause-goes : goal.returns-in-Err-clause-goes
returns-in-Err-clause-goes g c =
    let i = c.groups.invariant in
    let made = c.in-Err.ensures.goes in
    record {
      since = keeps_then _ _ _ _ _ _ _ i.since made.since;
      later = omega (arith, i.later, made.later);
      disk = search rules;
    }
