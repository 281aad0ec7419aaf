use Rattle.std.proofs.Common.{◌≡◌, ◌++◌, ◌∷◌, [], length, ap, sym, ◌∙◌, append_assoc, arith}
use Rattle.rg_checkpoint.specs.Entries.{entries_of}
use Rattle.rg_restore.proofs.Joining.{table-then}
use Rattle.rg_restore.proofs.Moving.{all_there, is_free, is_some, more_listed}
use Rattle.rg_restore.proofs.Since.{marked_at}
use Rattle.rg_restore.proofs.rows.move_rows.Goals as goal

pub insert-requires-clause-free : goal.insert-requires-clause-free
insert-requires-clause-free g c = λ tells.
    let inv = c.rows.invariant in
    let is : c.args.rows.items ≡ c.rows.yielded ++ c.in-Some.row ∷ c.next.new.self.rest.items = inv.4 ∙ ap (λ xs. c.rows.yielded ++ xs) c.in-Some.ensures.steps.0 in
    is_free c.args.rows.items c.rows.yielded c.next.new.self.rest.items c.in-Some.row is (g.T.Table.cell c.rows.table) c.requires.movable.rising (inv.2 (inv.3.tells.0 tells))

pub insert-requires-clause-some : goal.insert-requires-clause-some
insert-requires-clause-some g c =
    let inv = c.rows.invariant in
    let is : c.args.rows.items ≡ c.rows.yielded ++ c.in-Some.row ∷ c.next.new.self.rest.items = inv.4 ∙ ap (λ xs. c.rows.yielded ++ xs) c.in-Some.ensures.steps.0 in
    is_some c.args.rows.items c.rows.yielded c.next.new.self.rest.items c.in-Some.row is c.requires.movable.filled

pub rows-preserved : goal.rows-preserved
rows-preserved g c =
    let inv = c.rows.invariant in
    let done = c.in-Ok.ensures in
    let rest = c.next.new.self.rest.items in
    let is : c.args.rows.items ≡ c.rows.yielded ++ c.in-Some.row ∷ rest = inv.4 ∙ ap (λ xs. c.rows.yielded ++ xs) c.in-Some.ensures.steps.0 in (
      tt,
      tt,
      λ told. more_listed c.args.rows.items c.rows.yielded rest c.in-Some.row is (g.T.Table.cell c.rows.table) (g.T.Table.cell c.insert.new.self) c.requires.movable.rising (inv.2 told) (done.row (inv.3.tells.1 told)) (done.others (inv.3.tells.1 told)),
      table-then g.T.Table.tells g.T.Table.faults _ _ _ inv.3 (record { tells = done.tells; later = done.later }),
      is ∙ sym (append_assoc c.rows.yielded (c.in-Some.row ∷ []) rest),
    )

pub returns-clause-marked : goal.returns-clause-marked
returns-clause-marked g c = λ told.
    let inv = c.rows.invariant in
    let new = c.mark.new.self in
    let rest = c.rows.row-iterator.rest in
    let none : length rest.items ≡ 0 = omega (arith, c.in-None.ensures.steps.0, rest.ok.0) in
    let lists = all_there c.args.rows.items c.rows.yielded rest.items inv.4 none (g.T.Table.cell c.rows.table) (inv.2 told) in
    marked_at (entries_of c.args.rows.items) (g.T.Table.named new) (g.T.Table.there new) (g.T.Table.cell c.rows.table) (g.T.Table.cell new) lists (c.mark.ensures.same (inv.3.tells.1 told)) (c.mark.ensures.none_named (inv.3.tells.1 told))

pub returns-clause-kept : goal.returns-clause-kept
returns-clause-kept g c = table-then g.T.Table.tells g.T.Table.faults _ _ _ c.rows.invariant.3 (record { tells = c.mark.ensures.tells; later = c.mark.ensures.later })
