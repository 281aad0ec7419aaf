use Rattle.std.proofs.Common.{◌∙◌, List, ℕ, ap, sym, subst}
use Rattle.std.specs.BTreeMap.{get}
use Rattle.std.specs.Cmp.Lexicographic.{slice_cmp}
use Rattle.std.specs.Ordering.{nat_cmp}
use Rattle.rg_key_index.specs.Index.{IsGuessed}
use Rattle.rg_key_index.proofs.Holding.{Map, stays_held}
use Rattle.rg_key_index.proofs.index.SlotIndex.put.Goals as goal

pub returns-then-put_guess-clause-others : goal.returns-then-put_guess-clause-others
returns-then-put_guess-clause-others c = λ m k s apart.
    let old = c.args.self.now in
    let new = c.put_guess.new.self in
    stays_held old.buckets.items new.buckets.items old.overflow new.overflow m k s (c.put_guess.ensures.others m s) (ap (λ (map : Map). get (slice_cmp nat_cmp) map k) c.put_guess.ensures.overflow)

pub returns-clause-others : goal.returns-clause-others
returns-clause-others c = λ m k s apart.
    let old = c.args.self.now in
    let new = c.put_overflowed.new.self in
    stays_held old.buckets.items new.buckets.items old.overflow new.overflow m k s
    (λ was. subst (λ (buckets : List ℕ). IsGuessed buckets m s) (sym c.put_overflowed.ensures.buckets) (c.put_guess.ensures.others m s was))
    (c.put_overflowed.ensures.others k apart ∙ ap (λ (map : Map). get (slice_cmp nat_cmp) map k) c.put_guess.ensures.overflow)
