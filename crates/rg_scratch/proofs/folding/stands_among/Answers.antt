use Rattle.std.proofs.Common.{◌∙◌, ◌+◌, sym, ap}
use Rattle.std.specs.List.{list_any}
use Rattle.rg_metric.specs.Same.{same_value}
use Rattle.rg_scratch.specs.Asking.{counted}
use Rattle.rg_scratch.proofs.Counted.{next_any, still_any, taken}
use Rattle.rg_scratch.proofs.folding.stands_among.Goals as goal

pub returns-then-counts_with : goal.returns-then-counts_with
returns-then-counts_with c =
    sym (still_any c.args.asking.now c.args.answered.now (same_value c.args.value.now) (c.places.place + 1) c.args.events.now
    (ap (λ front. list_any (same_value c.args.value.now) (counted c.args.asking.now c.args.answered.now front)) (taken c.args.events.now c.places.place _ c.places-test.true c.index-events-place.is)
    ∙ next_any c.args.asking.now c.args.answered.now (same_value c.args.value.now) _ _ c.places.invariant ∙ sym c.counts_with.ensures ∙ c.if-counts_with.true))

pub places-preserved : goal.places-preserved
places-preserved c =
    ap (λ front. list_any (same_value c.args.value.now) (counted c.args.asking.now c.args.answered.now front)) (taken c.args.events.now c.places.place _ c.places-test.true c.index-events-place.is)
    ∙ next_any c.args.asking.now c.args.answered.now (same_value c.args.value.now) _ _ c.places.invariant ∙ sym c.counts_with.ensures ∙ c.if-counts_with.false
