use Rattle.std.proofs.Common.{◌≡◌, get_or, refl, subst, arith, rules}
use Rattle.std.specs.Prelude.{◌==◌}
use Rattle.rg_metric.specs.Replies.{key_of}
use Rattle.rg_group.specs.Keys.{key_bytes}
use Rattle.rg_keywords.specs.declared.func.Func.TheVariants.{Count}
use Rattle.rg_engine.specs.Parts.{agg_nodes, node_under, node_if}
use Rattle.rg_engine.specs.Stepping.{Done, Stuck}
use Rattle.rg_engine.specs.declared.part.AggPart.{AggPart}
use Rattle.rg_engine.proofs.Doing.{done_all, done_one, done_more, does_handed, refuses_unfit, refuses_untaken, stuck_there}
use Rattle.rg_engine.proofs.Plain.{same_node}
use Rattle.rg_engine.proofs.Since.{keeps_changed, keeps_then}
use Rattle.rg_engine.proofs.Taken.{not_err}
use Rattle.rg_engine.proofs.changer.change_group.Goals as goal

-- what stands beyond the end of a list
abbrev no_part : AggPart
no_part = record { node = 0; agg = record { func = Count; field = 0 } }

pub change-requires : goal.change-requires
change-requires g c = c.in-Some.ensures.1

pub aggs-preserved : goal.aggs-preserved
aggs-preserved g c =
    let i = c.aggs.invariant in
    let made = c.change.ensures in
    let columns = c.args.part.now.columns in
    let key = c.set_of.new.self in
    let of_event : key ≡ key_bytes (key_of columns c.args.event.now) = rw (← c.as_slice.ensures) c.in-Ok.ensures.bytes in
    record {
      done = λ told window condition offset is n q.
          let now = i.since.tells.1 told in
          done_more q offset c.args.event.now (λ part. node_if (part.node == n) (node_under window condition columns part)) c.deref-agg-items.result.now c.aggs.agg-index _ _ c.aggs-test.true refl _ _ _
          (i.done told window condition offset is n q)
          (done_one window condition columns offset c.args.change c.args.event.now _ key (g.T.Table.cell c.aggs.table) (g.T.Table.cell c.change.new.self) n q is of_event
          (does_handed _ c.args.change _ _ _ _ c.in-Some.ensures.0 (c.in-Ok-change.ensures.changed now)) (made.others now));
      since = keeps_then _ _ _ _ _ _ _ i.since
          (keeps_changed _ _ _ _ _ _ c.change.result _ key made.tells made.named made.there made.others made.other_named made.other_there made.err made.same_named made.same_there);
      later = omega (arith, i.later, made.later);
    }

pub returns-clause-rows : goal.returns-clause-rows
returns-clause-rows g c = λ told window condition offset is.
    let columns = c.args.part.now.columns in
    record {
      done = λ n q.
          subst (λ aggs. Done q offset c.args.event.now (agg_nodes window condition columns n aggs) (g.T.Table.cell c.args.table.now n q) (g.T.Table.cell c.aggs.table n q)) c.deref-agg-items.ensures.value
          (done_all q offset c.args.event.now (λ part. node_if (part.node == n) (node_under window condition columns part)) c.deref-agg-items.result.now c.aggs.agg-index c.aggs-test.false _ _ (c.aggs.invariant.done told window condition offset is n q));
      stuck = λ n bad. absurd (not_err bad);
    }

pub returns-in-None-clause-rows : goal.returns-in-None-clause-rows
returns-in-None-clause-rows g c = λ told window condition offset is.
    let i = c.aggs.invariant in
    let agg : AggPart = get_or c.deref-agg-items.result.now c.aggs.agg-index no_part in
    let columns = c.args.part.now.columns in
    let key = c.set_of.new.self in
    let of_event : key ≡ key_bytes (key_of columns c.args.event.now) = rw (← c.as_slice.ensures) c.in-Ok.ensures.bytes in
    record {
      done = search rules;
      stuck = λ n bad. (
        key,
        subst (λ aggs. Stuck key offset c.args.event.now (agg_nodes window condition columns n aggs) (g.T.Table.cell c.args.table.now n key)) c.deref-agg-items.ensures.value
            (stuck_there window condition columns offset c.args.change c.args.event.now c.deref-agg-items.result.now c.aggs.agg-index agg no_part key (g.T.Table.cell c.args.table.now) (g.T.Table.cell c.aggs.table) n
            c.aggs-test.true refl (same_node bad) is of_event (i.done told window condition offset is n key)
            (refuses_untaken window condition columns c.args.change c.args.event.now agg _ c.in-None.ensures)),
      );
    }

pub returns-in-Err-change-clause-rows : goal.returns-in-Err-change-clause-rows
returns-in-Err-change-clause-rows g c = λ told window condition offset is.
    let i = c.aggs.invariant in
    let made = c.in-Err-change.ensures in
    let agg : AggPart = get_or c.deref-agg-items.result.now c.aggs.agg-index no_part in
    let columns = c.args.part.now.columns in
    let key = c.set_of.new.self in
    let of_event : key ≡ key_bytes (key_of columns c.args.event.now) = rw (← c.as_slice.ensures) c.in-Ok.ensures.bytes in
    record {
      done = search rules;
      stuck = λ n bad. (
        key,
        subst (λ aggs. Stuck key offset c.args.event.now (agg_nodes window condition columns n aggs) (g.T.Table.cell c.args.table.now n key)) c.deref-agg-items.ensures.value
            (stuck_there window condition columns offset c.args.change c.args.event.now c.deref-agg-items.result.now c.aggs.agg-index agg no_part key (g.T.Table.cell c.args.table.now) (g.T.Table.cell c.aggs.table) n
            c.aggs-test.true refl (made.bad n bad) is of_event (i.done told window condition offset is n key)
            (refuses_unfit window condition columns c.args.change c.args.event.now agg _ _ c.in-Some.ensures.0 (made.unfit n bad (i.since.tells.1 told)))),
      );
    }

pub returns-in-Err-change-clause-goes : goal.returns-in-Err-change-clause-goes
returns-in-Err-change-clause-goes g c =
    let i = c.aggs.invariant in
    let made = c.change.ensures in
    record {
      since = keeps_then _ _ _ _ _ _ _ i.since
          (keeps_changed _ _ _ _ _ _ c.change.result _ c.set_of.new.self made.tells made.named made.there made.others made.other_named made.other_there made.err made.same_named made.same_there);
      later = omega (arith, i.later, made.later);
      disk = search rules;
    }
