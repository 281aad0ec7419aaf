-- Looks that need no touch.
use Rattle.std.specs.Prelude.{◌≡◌, ◌<◌, false, [], ◌∷◌, length, Some}
use Rattle.rg_past.specs.declared.past.Spot.{Spot}
use Rattle.rg_cache.specs.Cache.{item_at, places, least_recently_used, touches}
use Rattle.rg_reservoir.specs.declared.kept.Kept.{Kept}
use Rattle.rg_reservoir.specs.declared.reservoir.Reservoir.{Reservoir}
use Rattle.rg_reservoir.specs.Kept.{base, cache_of}

-- The reservoir hasn't ended, and the spot's event is one of a closed chunk that is held. A touch of its place moves nothing.
pub record IsReady (r : Reservoir) (spot : Spot) : Type 0 where
  pub going : (base r).ended ≡ false
  pub near : spot.number < (base r).committed
  pub item : (kept : Kept) × (item_at spot.place (cache_of r) ≡ Some kept) × (spot.index < length kept.chunk)
  pub stays : places (cache_of r) ≡ least_recently_used (cache_of r).cap (touches (cache_of r) (spot.place ∷ []))
