use Rattle.std.proofs.Common.{◌≡◌, ap, sym, subst, ◌∙◌, arith, length, take_all, get_or, ◌++◌, ◌∷◌, [], length-append}
use Rattle.std.specs.Prelude.{Err, IsErrOf}
use Rattle.rg_plan.specs.Named.{node_at}
use Rattle.rg_engine.specs.Answering.{node_answers}
use Rattle.rg_engine.specs.Standing.{RowIs}
use Rattle.rg_engine.proofs.Since.{keeps_looked, keeps_then}
use Rattle.rg_engine.proofs.Answered.{answered_at, row_at, one_more}
use Rattle.rg_engine.proofs.answering.answer_each.Goals as goal

err_as : {A B E : Type 0} {x y : E} → IsErrOf {T = A} (Err x) y → IsErrOf {T = B} (Err x) y
err_as {A} {B} {E} {x} {y} e = let k : x ≡ y = cc in ap Err k

pub nodes-preserved : goal.nodes-preserved
nodes-preserved g c =
    let i = c.nodes.invariant in
    let made = c.in-Ok.ensures in
    let n = get_or c.args.nodes.now c.nodes.node-index 0 in
    let key = c.index-keys-agg.result in
    let in_range = c.requires.nodes c.nodes.node-index 0 c.nodes-test.true in
    record {
      answers = λ told plan events e whole same keys stands.
          one_more plan events e c.args.nodes.now c.nodes.node-index 0 c.args.answers.now.items c.nodes.answers.items _ c.in-Ok.answer c.nodes-test.true (i.answers told plan events e whole same keys stands) c.push_reserved.ensures.items
          (answered_at plan events e c.args.aggs.now c.args.keys.now n _ key (g.T.Table.cell c.nodes.table n key) c.in-Ok.answer whole same keys in_range (c.requires.groups n _ in_range) c.index-keys-agg.is
          (subst (λ row. RowIs (node_at plan n) key e.time events row) (sym (i.same told n key)) (stands n key))
          (λ values is. made.answer (i.tells.1 told) values is));
      count = omega (arith, ap length c.push_reserved.ensures.items, length-append c.nodes.answers.items (c.in-Ok.answer ∷ []), i.count);
      room = c.push_reserved.ensures.capacity ∙ i.room;
      same = λ told m q. made.same (i.tells.1 told) m q ∙ i.same told m q;
      since = keeps_then _ _ _ _ _ _ _ i.since (keeps_looked _ _ _ _ _ _ made.tells made.same made.same_named made.same_there);
      tells = (λ told. i.tells.0 (made.tells.0 told), λ told. made.tells.1 (i.tells.1 told));
      later = omega arith;
    }

pub returns-clause-told : goal.returns-clause-told
returns-clause-told g c = record {
  answers = λ told plan events e whole same keys stands.
      c.nodes.invariant.answers told plan events e whole same keys stands ∙ ap (λ ns. c.args.answers.now.items ++ node_answers plan events e ns) (take_all c.nodes.node-index c.args.nodes.now c.nodes-test.false);
  bad = λ m bad. cc;
  same = c.nodes.invariant.same;
}

pub returns-clause-goes : goal.returns-clause-goes
returns-clause-goes g c = record { since = c.nodes.invariant.since; later = c.nodes.invariant.later; disk = λ is. cc }

pub returns-in-Err-clause-told : goal.returns-in-Err-clause-told
returns-in-Err-clause-told g c =
    let i = c.nodes.invariant in
    let refused = c.in-Err.ensures in
    record {
      answers = λ told plan events e whole same keys stands. tt;
      bad = λ m bad told plan events e whole same stands.
          let n = get_or c.args.nodes.now c.nodes.node-index 0 in
          let key = c.index-keys-agg.result in
          let here : m ≡ n = refused.bad m (err_as bad) in
          let in_range = c.requires.nodes c.nodes.node-index 0 c.nodes-test.true in
          let row = row_at plan events e c.args.aggs.now n _ key (g.T.Table.cell c.nodes.table n key) whole same in_range
          (subst (λ row. RowIs (node_at plan n) key e.time events row) (sym (i.same told n key)) (subst (λ k. RowIs (node_at plan k) key e.time events (g.T.Table.cell c.args.table.now k key)) here (stands key))) in
          refused.unfit m (err_as bad) (i.tells.1 told) row.0 row.1;
      same = λ told m q. refused.same (i.tells.1 told) m q ∙ i.same told m q;
    }

pub returns-in-Err-clause-goes : goal.returns-in-Err-clause-goes
returns-in-Err-clause-goes g c =
    let i = c.nodes.invariant in
    let refused = c.in-Err.ensures in
    record {
      since = keeps_then _ _ _ _ _ _ _ i.since (keeps_looked _ _ _ _ _ _ refused.tells refused.same refused.same_named refused.same_there);
      later = omega (arith, i.later, refused.later);
      disk = λ is. (let rose = refused.disk (err_as is) in omega (arith, i.later, rose));
    }
