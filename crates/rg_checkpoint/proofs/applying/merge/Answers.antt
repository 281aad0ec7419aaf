use Rattle.std.proofs.Common.{◌∙◌, ◌++◌, length, ap, sym, arith}
use Rattle.rg_checkpoint.specs.Changed.{changes_of}
use Rattle.rg_checkpoint.specs.Entries.{entries_of}
use Rattle.rg_checkpoint.specs.Merging.{merged}
use Rattle.rg_checkpoint.proofs.Turned.{turned}
use Rattle.rg_checkpoint.proofs.applying.merge.Goals as goal

pub merge_one-requires : goal.merge_one-requires
merge_one-requires c =
    let inv = c.loop-change.invariant in
    record { room = omega (arith, inv.2, ap length c.in-Some.ensures.steps.0) }

pub loop-change-preserved : goal.loop-change-preserved
loop-change-preserved c =
    let inv = c.loop-change.invariant in
    let rest = c.next.new.self.rest.items in (
      tt,
      tt,
      omega (arith, inv.2, ap length c.in-Some.ensures.steps.0, c.merge_one.ensures.room, c.merge_one.ensures.capacity),
      c.merge_one.ensures.rows (changes_of rest) ∙ ap (λ l. entries_of c.loop-change.out.items ++ merged (turned c.loop-change.old.items) (changes_of l)) (sym c.in-Some.ensures.steps.0) ∙ inv.3,
    )
