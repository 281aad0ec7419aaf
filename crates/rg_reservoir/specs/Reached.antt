-- From which spots a log is read on, whatever stands in it.
use Rattle.std.specs.Prelude.{◌≡◌, ◌⊎◌, ◌≤◌, ◌<◌, ◌+◌, ℕ, List, length, Option, Some}
use Rattle.rg_host.specs.Image.{Image}
use Rattle.rg_event.specs.declared.event.Event.{Event}
use Rattle.rg_past.specs.declared.past.Spot.{Spot}
use Rattle.rg_cache.specs.Cache.{Cache, item_at}
use Rattle.rg_log.specs.Log.{joined}
use Rattle.rg_reservoir.specs.Chain.{chunk_at, Chain, IsIllegalBy}
use Rattle.rg_reservoir.specs.Kept.{Base, view_of, settled, IsCached, IsLegalLook}
use Rattle.rg_reservoir.specs.Views.{passed}
use Rattle.rg_reservoir.specs.declared.kept.Kept.{Kept}

-- Behind legal chunks no illegal one stands in front of the log's end whose first event would be one of those that were committed.
pub record IsWhole (b : Base) (bytes : List ℕ) : Type 0 where
  pub none : (chunks : List (List Event)) (place : ℕ) → Chain (view_of b) bytes b.first chunks place → length (joined chunks) < b.committed → place < b.end → IsIllegalBy (view_of b) place bytes → ⊥

-- Legal chunks stand in front of the spot's place, and have as many events as its number says, less its index. That is 0, or a legal chunk stands at the
-- place and has as many events.
pub record IsBehind (b : Base) (bytes : List ℕ) (spot : Spot) : Type 0 where
  pub chunks : List (List Event)
  pub chain : Chain (view_of b) bytes b.first chunks spot.place
  pub number_is : spot.number ≡ length (joined chunks) + spot.index
  pub most : (spot.index ≡ 0) ⊎ ((chunk : List Event) × (next : ℕ) × (chunk_at (view_of b) spot.place bytes ≡ Some (chunk, next)) × (spot.index ≤ length chunk))

-- The same, and a legal chunk stands at the place and has an event at the index.
pub record IsAtEvent (b : Base) (bytes : List ℕ) (spot : Spot) : Type 0 where
  pub chunks : List (List Event)
  pub chunk : List Event
  pub next : ℕ
  pub chain : Chain (view_of b) bytes b.first chunks spot.place
  pub here : chunk_at (view_of b) spot.place bytes ≡ Some (chunk, next)
  pub number_is : spot.number ≡ length (joined chunks) + spot.index
  pub within : spot.index < length chunk

-- the same, and that chunk is in the cache
pub record HoldsEvent (b : Base) (bytes : List ℕ) (cache : Cache Kept) (spot : Spot) : Type 0 where
  pub at : IsAtEvent b bytes spot
  pub near : spot.number < b.committed
  pub kept : Kept
  pub held : item_at spot.place cache ≡ Some kept

-- no growth stands behind others that were passed, nor at the place of the first chunk
pub record AreApart (b : Base) : Type 0 where
  pub twice : (place : ℕ) → passed b.growths (passed b.growths place) ≡ passed b.growths place
  pub first : passed b.growths b.first ≡ b.first

-- The host tells its image, what is in the cache stands in it, and the log is whole or legal chunks stand in front of the spot.
pub record IsReached (now : Option Image) (b : Base) (cache : Cache Kept) (spot : Spot) : Type 0 where
  pub image : Image
  pub told : now ≡ Some image
  pub cached : IsCached (view_of b) (image b.file) cache
  pub apart : AreApart b
  pub so_far : IsWhole b (image b.file) ⊎ IsBehind b (image b.file) (settled b spot)

-- the same, and an event stands at the spot
pub record IsReachedEvent (now : Option Image) (b : Base) (cache : Cache Kept) (spot : Spot) : Type 0 where
  pub image : Image
  pub told : now ≡ Some image
  pub cached : IsCached (view_of b) (image b.file) cache
  pub apart : AreApart b
  pub so_far : IsWhole b (image b.file) ⊎ IsAtEvent b (image b.file) spot

-- The host tells its image, what is in the cache stands in it, and a look at the spot comes to an illegal chunk.
pub record AsksIllegal (now : Option Image) (b : Base) (cache : Cache Kept) (spot : Spot) : Type 0 where
  pub image : Image
  pub told : now ≡ Some image
  pub cached : IsCached (view_of b) (image b.file) cache
  pub near : spot.number < b.committed
  pub illegal : IsLegalLook b (image b.file) (settled b spot) → ⊥
