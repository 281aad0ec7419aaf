use Rattle.rg_recover.specs.Saving.{may_extend}
use Rattle.rg_recover.proofs.Choosing.{encodes_same}
use Rattle.std.proofs.Common.{◌≡◌, ◌∙◌, ℕ, Bool, false, List, [], length, vec_len, ap, subst, arith}
use Rattle.rg_checkpoint.specs.Writing.{Encodes}
use Rattle.rg_engine.specs.Seen.{Seen}
use Rattle.rg_past.specs.declared.past.Spot.{Spot}
use Rattle.rg_recover.proofs.payload.choose_over.Goals as goal

pub returns-in-Ok-encode_base-clause-chosen : goal.returns-in-Ok-encode_base-clause-chosen
returns-in-Ok-encode_base-clause-chosen g c = λ told.
    let e = c.args.engine.now in
    let m = c.encode_since.new.engine in
    let first = c.encode_since.ensures.engine in
    let enc = c.in-Ok-encode_base.ensures.encodes (first.rows.tells.1 told) in
    let base = c.in-Ok-encode_base.base.items in
    let long : vec_len c.in-Ok.changes ≡ length c.in-Ok.changes.items = omega (arith, c.in-Ok.changes.ok) in
    let spots = ap (λ (x : Seen g.row.T.Denot). x.spots) first.engine in
    let at_spots = subst (λ (l : List Spot). Encodes (g.T.Table.cell m.table) c.args.texts.now c.args.count l [] base) spots enc in (
      encodes_same (g.T.Table.cell e.table) (g.T.Table.cell m.table) c.args.texts.now c.args.count e.spots [] base (first.same told) at_spots,
      (c.in-Ok.changes.items, c.in-Ok.ensures.encodes told, subst (λ (n : ℕ). may_extend c.args.sizes n ≡ false) (c.len.ensures ∙ long) (subst (λ (b : Bool). b ≡ false) c.may_come.ensures c.if-may_come.false)),
    )
