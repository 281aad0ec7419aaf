use Rattle.std.proofs.Common.{◌∙◌, ◌+◌, cond, refl, ap, take_all, arith}
use Rattle.std.specs.Prelude.{slice_index_or}
use Rattle.rg_engine.specs.Parts.{group_nodes, ticks_at}
use Rattle.rg_engine.specs.Standing.{has_edge}
use Rattle.rg_engine.proofs.Doing.{done_all, done_more, stepped_as, stuck_more, ticks_more}
use Rattle.rg_engine.proofs.Since.{keeps_then}
use Rattle.rg_engine.proofs.Taken.{not_err}
use Rattle.rg_engine.proofs.changer.ChangerVisit.event.Goals as goal

pub filters-preserved : goal.filters-preserved
filters-preserved g c =
    let i = c.filters.invariant in
    let made = c.in-Ok.ensures in
    let offset = c.offset_at-offset.result in
    let parts = c.deref-part-items.result.now in
    record {
      done = λ told n q.
          done_more q offset c.args.event.now (λ part. group_nodes part.window part.filter n part.groups.items) parts c.filters.part-index c.part-item.result c.part-item.result c.filters-test.true c.part-item.is _ _ _
          (i.done told n q) ((made.rows (i.since.tells.1 told)).done n q);
      ticked = ticks_more (λ part. cond (has_edge part.window offset) 1 0) parts c.filters.part-index c.part-item.result c.part-item.result c.args.self.now.steps.now c.filters.self.1.1.1.0.now c.pass_filter.new.steps c.filters-test.true c.part-item.is i.ticked made.ticked;
      lent = i.lent;
      since = keeps_then _ _ _ _ _ _ _ i.since made.goes.since;
      later = omega (arith, i.later, made.goes.later);
    }

pub returns : goal.returns
returns g c =
    let i = c.filters.invariant in
    let offset = c.offset_at-offset.result in
    let parts = c.deref-part-items.result.now in (
      refl,
      refl,
      i.lent,
      refl,
      stepped_as _ _ _ _ _ _ _ _ _ _ _ _ _ _ _ _ _ _ c.deref-part-items.ensures.value (c.offset_at-offset.ensures ∙ ap (λ offsets. slice_index_or offsets c.args.edge 0) c.offsets.ensures.offsets) (record {
        done = λ told n q. done_all q offset c.args.event.now (λ part. group_nodes part.window part.filter n part.groups.items) parts c.filters.part-index c.filters-test.false _ _ (i.done told n q);
        stuck = λ n bad. absurd (not_err bad);
        ticked = i.ticked ∙ ap (λ all. c.args.self.now.steps.now + ticks_at offset all) (take_all c.filters.part-index parts c.filters-test.false);
        disk = λ bad. absurd (not_err bad);
        tells = i.since.tells;
        since = i.since.since;
        later = i.later;
      }),
    )

pub returns-in-Err : goal.returns-in-Err
returns-in-Err g c =
    let i = c.filters.invariant in
    let made = c.in-Err.ensures in
    let offset = c.offset_at-offset.result in
    let parts = c.deref-part-items.result.now in
    let since = keeps_then g.T.Table.tells g.T.Table.named g.T.Table.there g.T.Table.cell _ _ _ i.since made.goes.since in (
      refl,
      refl,
      i.lent,
      refl,
      stepped_as _ _ _ _ _ _ _ _ _ _ _ _ _ _ _ _ _ _ c.deref-part-items.ensures.value (c.offset_at-offset.ensures ∙ ap (λ offsets. slice_index_or offsets c.args.edge 0) c.offsets.ensures.offsets) (record {
        done = tt;
        stuck = λ n bad told.
            let k = (made.rows (i.since.tells.1 told)).stuck n bad in (
              k.0,
              stuck_more k.0 offset c.args.event.now (λ part. group_nodes part.window part.filter n part.groups.items) parts c.filters.part-index c.part-item.result c.part-item.result c.filters-test.true c.part-item.is _ _
                  (i.done told n k.0) k.1,
            );
        ticked = tt;
        disk = λ bad. (let rose = made.goes.disk bad in let later = i.later in omega (arith, rose, later));
        tells = since.tells;
        since = since.since;
        later = omega (arith, i.later, made.goes.later);
      }),
    )
