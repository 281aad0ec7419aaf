-- Looks that need no disk.
use Rattle.std.specs.Prelude.{◌≡◌, ◌≤◌, ◌<◌, ℕ, Some, None, false, IsTrue}
use Rattle.rg_cache.specs.Cache.{item_at, holds_place}
use Rattle.rg_past.specs.declared.past.Spot.{Spot}
use Rattle.rg_reservoir.specs.declared.reservoir.Reservoir.{Reservoir}
use Rattle.rg_reservoir.specs.Kept.{base, cache_of, loads_of, next_in}

-- The looks of a reservoir that hasn't ended which are answered without a load and without a read: at an event of the open chunk or the end, which leaves reservoir and host as they were, and at one whose chunk is held, with the next one where the spot stands behind its last event.
pub record LooksHeld {H : Type 0} (reads : H → ℕ) (Answers : Type 0) (spot : Spot) (old : Reservoir) (host : H) (new : Reservoir) (host_then : H) : Type 0 where
  pub untouched : (base old).ended ≡ false → (base old).committed ≤ spot.number → Answers × (new ≡ old) × (host_then ≡ host)
  pub hit : (base old).ended ≡ false → spot.number < (base old).committed → IsTrue (holds_place spot.place (cache_of old)) → next_in (item_at spot.place (cache_of old)) spot.index ≡ None → Answers × (loads_of new ≡ loads_of old) × (reads host_then ≡ reads host)
  pub hit_next : (next : ℕ) → (base old).ended ≡ false → spot.number < (base old).committed → IsTrue (holds_place spot.place (cache_of old)) → next_in (item_at spot.place (cache_of old)) spot.index ≡ Some next → IsTrue (holds_place next (cache_of old)) → Answers × (loads_of new ≡ loads_of old) × (reads host_then ≡ reads host)
