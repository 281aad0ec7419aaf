use Rattle.std.proofs.Common.{◌∙◌, ap, sym}
use Rattle.rg_checkpoint.specs.Entries.{entry_of}
use Rattle.rg_checkpoint.specs.Reading.{comes_behind}
use Rattle.rg_checkpoint.proofs.Rising.{last_in}
use Rattle.rg_checkpoint.proofs.decode.is_behind.Goals as goal

pub returns-in-Some : goal.returns-in-Some
returns-in-Some c =
    let i = c.in-Some.ensures.item in
    let last = last_in c.args.rows.now c.in-Some.last.now i.3.0 i.1 in
    c.comes_before.ensures ∙ ap (λ o. comes_behind o (entry_of c.args.row.now)) (sym last)
