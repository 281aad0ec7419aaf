use Rattle.std.proofs.Common.{◌<◌, ◌^◌, length, subst, sym, rules}
use Rattle.rg_checkpoint.specs.Changed.{changes_of}
use Rattle.rg_checkpoint.specs.Updates.{AreRowChanges}
use Rattle.rg_checkpoint.proofs.update.take_rows.Goals as goal

pub returns-in-Ok-take_each_row-clause-legal : goal.returns-in-Ok-take_each_row-clause-legal
returns-in-Ok-take_each_row-clause-legal c =
    let list = c.in-Ok-take_each_row.rows.items in
    let fits : c.in-Ok.count < 2 ^ 64 = search rules in
    let few : length (changes_of list) < 2 ^ 64 = subst (λ n. n < 2 ^ 64) (sym c.in-Ok-take_each_row.ensures.count) fits in
    let rows : AreRowChanges (changes_of list) = record { few = few; each = c.in-Ok-take_each_row.ensures.legal; rising = c.in-Ok-take_each_row.ensures.rising } in
    search (rules, rows)
