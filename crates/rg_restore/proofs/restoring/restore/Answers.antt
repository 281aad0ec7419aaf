use Rattle.std.proofs.Common.{take, drop, sym, subst, arith}
use Rattle.std.proofs.lemmas.List.{take-append-drop}
use Rattle.std.proofs.lemmas.Result.{IfOk-weaker, IfErr-weaker}
use Rattle.rg_past.specs.declared.past.PastFault.TheVariants.{Damaged}
use Rattle.rg_state.specs.Rows.{AreRising, Lists, at_in}
use Rattle.rg_window.specs.Placed.{numbers_of}
use Rattle.rg_checkpoint.specs.Entries.{AreFilled}
use Rattle.rg_restore.specs.Since.{IsMarkedAt}
use Rattle.rg_restore.proofs.Asked.{from-err, refused-cause, unmade-past, unmade-bad, unmade-ended, unmade-table}
use Rattle.rg_restore.proofs.Joining.{table-then}
use Rattle.rg_restore.proofs.Placing.{node_stands, node_told, node_same, rows_same}
use Rattle.rg_restore.proofs.restoring.restore.Goals as goal

pub move_rows-requires-clause-movable : goal.move_rows-requires-clause-movable
move_rows-requires-clause-movable g c = record {
  rising = subst AreRising (sym c.into_vec.ensures.rows) c.into_vec.ensures.rising;
  filled = subst AreFilled (sym c.into_vec.ensures.rows) c.into_vec.ensures.filled;
}

pub returns-clause-stands : goal.returns-clause-stands
returns-clause-stands g c =
    let gone = rw (c.as_slice.ensures) at c.go_on.ensures.gone in
    λ can last is_true.
    let events = g.P.Past.events c.args.past.now in
    let count = c.args.checkpoint.count in
    let lists = subst (Lists (g.T.Table.cell c.move_rows.new.table)) c.into_vec.ensures.rows (c.in-Ok.ensures.marked can.tells).lists in
    IfOk-weaker c.go_on.result _ _ (λ engine went. went.stands (take count events) (drop count events) (record { sound = can.sound; tells = c.move_rows.ensures.kept.tells.1 can.tells; fed = can.fed }) last (sym (take-append-drop count events))
    (rows_same c.args.plan (take count events) is_true.rows.cells (g.T.Table.cell c.move_rows.new.table) c.args.checkpoint.rows is_true.rows.lists lists is_true.rows.stand) is_true.spots) gone

pub returns-clause-passed : goal.returns-clause-passed
returns-clause-passed g c =
    let gone = rw (c.as_slice.ensures) at c.go_on.ensures.gone in
    λ sound last is_true.
    let events = g.P.Past.events c.args.past.now in
    let count = c.args.checkpoint.count in
    IfOk-weaker c.go_on.result _ _ (λ engine went. went.passed (take count events) (drop count events) sound last (sym (take-append-drop count events)) is_true.spots) gone

pub returns-clause-node : goal.returns-clause-node
returns-clause-node g c =
    let gone = rw (c.as_slice.ensures) at c.go_on.ensures.gone in
    λ n can last node.
    let lists = subst (Lists (g.T.Table.cell c.move_rows.new.table)) c.into_vec.ensures.rows (c.in-Ok.ensures.marked can.tells).lists in
    IfOk-weaker c.go_on.result _ _ (λ engine went. went.node n last (record {
      can = record { sound = can.sound; tells = c.move_rows.ensures.kept.tells.1 can.tells; fed = can.fed };
      front = node.front;
      more = node.more;
      is = node.is;
      told = node.told;
      stands = node_same c.args.plan n node.front node.stands.cells (g.T.Table.cell c.move_rows.new.table) (numbers_of c.args.checkpoint.spots) c.args.checkpoint.rows node.stands.lists lists node.stands.stands;
    })) gone

pub returns-clause-told : goal.returns-clause-told
returns-clause-told g c =
    let gone = rw (c.as_slice.ensures) at c.go_on.ensures.gone in
    λ n sound told. IfOk-weaker c.go_on.result _ _ (λ engine went. went.told n sound told) gone

pub returns-clause-spelled : goal.returns-clause-spelled
returns-clause-spelled g c =
    let gone = rw (c.as_slice.ensures) at c.go_on.ensures.gone in
    λ sound all. IfOk-weaker c.go_on.result _ _ (λ engine went. went.spelled sound all) gone

pub returns-clause-ticks : goal.returns-clause-ticks
returns-clause-ticks g c =
    let gone = rw (c.as_slice.ensures) at c.go_on.ensures.gone in
    IfOk-weaker c.go_on.result _ _ (λ engine went. went.ticks) gone

pub returns-clause-engine : goal.returns-clause-engine
returns-clause-engine g c =
    IfOk-weaker c.go_on.result _ _ (λ engine went. went.engine_goes) c.go_on.ensures.gone

pub returns-clause-table : goal.returns-clause-table
returns-clause-table g c =
    IfOk-weaker c.go_on.result _ _ (λ engine went. table-then _ _ _ _ _ c.move_rows.ensures.kept went.table_kept) c.go_on.ensures.gone

pub returns-clause-since : goal.returns-clause-since
returns-clause-since g c =
    λ told.
    let table = c.move_rows.new.table in
    let marked = subst (λ rows. IsMarkedAt rows (g.T.Table.named table) (g.T.Table.there table) (g.T.Table.cell table)) c.into_vec.ensures.rows (c.in-Ok.ensures.marked told) in
    IfOk-weaker c.go_on.result _ _ (λ engine went. went.since.since (c.move_rows.ensures.kept.tells.1 told) (at_in c.args.checkpoint.rows) marked.since) c.go_on.ensures.gone

pub returns-clause-bad : goal.returns-clause-bad
returns-clause-bad g c = λ n can node.
    let lists = subst (Lists (g.T.Table.cell c.move_rows.new.table)) c.into_vec.ensures.rows (c.in-Ok.ensures.marked can.tells).lists in
    from-err c.go_on.result _ c.go_on.ensures.cause _ (λ refused why is. unmade-bad _ _ _ refused.0 why n is (rw (c.as_slice.ensures) (record {
      can = record { sound = can.sound; tells = c.move_rows.ensures.kept.tells.1 can.tells; fed = can.fed };
      front = node.front;
      more = node.more;
      is = node.is;
      told = node.told;
      stands = node_same c.args.plan n node.front node.stands.cells (g.T.Table.cell c.move_rows.new.table) (numbers_of c.args.checkpoint.spots) c.args.checkpoint.rows node.stands.lists lists node.stands.stands;
    })))

pub returns-clause-never_bad : goal.returns-clause-never_bad
returns-clause-never_bad g c = λ n can is_true.
    let events = g.P.Past.events c.args.past.now in
    let front = take c.args.checkpoint.count events in
    let Spells = g.P.Past.spells c.args.past.now in
    let spots = c.args.checkpoint.spots in
    returns-clause-bad g c n can (record {
      front = front;
      more = drop c.args.checkpoint.count events;
      is = sym (take-append-drop c.args.checkpoint.count events);
      told = node_told Spells c.args.plan front spots is_true.spots n;
      stands = record { cells = is_true.rows.cells; lists = is_true.rows.lists; stands = node_stands Spells c.args.plan front is_true.rows.cells spots is_true.rows.stand is_true.spots n };
    })

pub returns-clause-cause : goal.returns-clause-cause
returns-clause-cause g c =
    λ fault. IfErr-weaker c.go_on.result _ _ (λ refused why is. refused-cause _ _ _ _ _ fault (unmade-past _ _ _ refused.0 why fault is)) c.go_on.ensures.cause

pub returns-clause-never_damaged : goal.returns-clause-never_damaged
returns-clause-never_damaged g c = λ place sound all.
    from-err c.go_on.result _ c.go_on.ensures.cause _ (λ refused why is. (unmade-past _ _ _ refused.0 why (Damaged place) is).1 (sound, rw (c.as_slice.ensures) all))

pub returns-clause-disk : goal.returns-clause-disk
returns-clause-disk g c =
    IfErr-weaker c.go_on.result _ _ (λ refused why is. let rose = unmade-table _ _ _ refused.0 why is in omega (arith, c.move_rows.ensures.kept.later, rose)) c.go_on.ensures.cause

pub returns-clause-not_ended : goal.returns-clause-not_ended
returns-clause-not_ended g c =
    IfErr-weaker c.go_on.result _ _ (λ refused why is. unmade-ended _ _ _ refused.0 why is) c.go_on.ensures.cause

pub returns-clause-back : goal.returns-clause-back
returns-clause-back g c =
    IfErr-weaker c.go_on.result _ _ (λ refused back. table-then _ _ _ _ _ c.move_rows.ensures.kept back) c.go_on.ensures.back
