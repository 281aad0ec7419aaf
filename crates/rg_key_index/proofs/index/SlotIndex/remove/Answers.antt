use Rattle.std.proofs.Common.{◌∙◌, ap, None}
use Rattle.std.specs.BTreeMap.{get}
use Rattle.std.specs.Cmp.Lexicographic.{slice_cmp}
use Rattle.std.specs.Ordering.{nat_cmp}
use Rattle.rg_key_index.proofs.Holding.{Map, others_stay, stays_held}
use Rattle.rg_key_index.proofs.index.SlotIndex.remove.Goals as goal

pub returns-then-remove_guess-clause-others : goal.returns-then-remove_guess-clause-others
returns-then-remove_guess-clause-others c = λ m k s apart other.
    let old = c.args.self.now in
    let new = c.remove_guess.new.self in
    stays_held old.buckets.items new.buckets.items old.overflow new.overflow m k s (c.remove_guess.ensures.others m s other) (ap (λ (map : Map). get (slice_cmp nat_cmp) map k) c.remove_guess.ensures.overflow)

pub returns-clause-others : goal.returns-clause-others
returns-clause-others c = λ m k s apart other.
    let old = c.args.self.now in
    let new = c.remove_guess.new.self in
    stays_held old.buckets.items new.buckets.items old.overflow c.remove.new.self m k s (c.remove_guess.ensures.others m s other)
    (others_stay new.overflow c.remove.new.self c.args.key.now None c.remove.ensures.updates k apart ∙ ap (λ (map : Map). get (slice_cmp nat_cmp) map k) c.remove_guess.ensures.overflow)
