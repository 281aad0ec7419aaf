use Rattle.std.proofs.Common.{◌<◌, ◌^◌, length, subst, sym, rules}
use Rattle.rg_checkpoint.specs.Entries.{entries_of}
use Rattle.rg_checkpoint.specs.Base.{AreRows}
use Rattle.rg_checkpoint.proofs.decode.take_rows.Goals as goal

pub returns-in-Ok-take_each_row-clause-legal : goal.returns-in-Ok-take_each_row-clause-legal
returns-in-Ok-take_each_row-clause-legal c =
    let list = c.in-Ok-take_each_row.list.items in
    let fits : c.in-Ok.count < 2 ^ 64 = search rules in
    let few : length (entries_of list) < 2 ^ 64 = subst (λ n. n < 2 ^ 64) (sym c.in-Ok-take_each_row.ensures.count) fits in
    let rows : AreRows (entries_of list) = record { few = few; each = c.in-Ok-take_each_row.ensures.legal; rising = c.in-Ok-take_each_row.ensures.rising } in
    search (rules, rows)
