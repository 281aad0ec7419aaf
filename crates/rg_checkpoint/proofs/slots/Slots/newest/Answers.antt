use Rattle.std.proofs.Common.{subst, sym}
use Rattle.rg_checkpoint.specs.Ends.{sizes_at}
use Rattle.rg_checkpoint.specs.Newest.{IsNewestOf}
use Rattle.rg_checkpoint.specs.Slots.{Attached, slot_in}
use Rattle.rg_checkpoint.proofs.NewestLaws.{newest_by}
use Rattle.rg_checkpoint.proofs.slots.Slots.newest.Goals as goal

pub returns : goal.returns
returns c =
    let texts = c.args.queries.now in
    let most = c.args.below in
    let inside : Attached = record { first = c.self.inside.first; second = c.self.inside.second; first_sizes = sizes_at c.self.inside.first_end; second_sizes = sizes_at c.self.inside.second_end; fresh = c.self.inside.fresh; ended = c.self.inside.ended } in
    let newest = newest_by inside texts most c.count_of-first.result c.count_of-second.result c.count_of-first.ensures c.count_of-second.ensures in
    record { newest = subst (λ (slots : Attached). IsNewestOf texts most (slot_in slots) c.pick.result) c.self.view_is (subst (IsNewestOf texts most (slot_in inside)) (sym c.pick.ensures) newest) }
