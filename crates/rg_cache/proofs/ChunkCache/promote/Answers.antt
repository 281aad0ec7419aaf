use Rattle.std.proofs.Common.{refl, ap, Option, None, Some, is_some, false, ◌≡◌}
use Rattle.rg_cache.specs.Cache.{cache}
use Rattle.rg_cache.proofs.Recency.{touch_step}
use Rattle.rg_cache.proofs.ChunkCache.promote.Goals as goal

not_there : {T : Type 0} (o : Option T) → is_some o ≡ false → o ≡ None
not_there None h = refl
not_there (Some x) h = absurd cc

pub invariant_of-self : goal.invariant_of-self
invariant_of-self g c =
    let step = touch_step c.self.inside.chunks c.args.place c.self.invariant.0 in
    rw c.promote.ensures.entries (step.valid, c.self.invariant.1)

pub returns : goal.returns
returns g c =
    let step = touch_step c.self.inside.chunks c.args.place c.self.invariant.0 in
    rw (c.promote.ensures.value, c.promote.ensures.entries, ← c.self.view_is) record {
      held = refl;
      places = step.places_are;
      items = step.items_stay;
      cap = refl;
      missed = λ none. ap (λ es. cache es c.self.inside.chunks.cap) (step.miss_stays (not_there _ none));
    }
