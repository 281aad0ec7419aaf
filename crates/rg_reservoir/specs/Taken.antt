-- What a reservoir takes memory for before it reads its log.
use Rattle.std.specs.Prelude.{◌≡◌, ℕ, []}
use Rattle.rg_event.specs.Shapes.{Shape, IsSchema}
use Rattle.rg_cache.specs.Cache.{cache as the_cache}
use Rattle.rg_log.specs.Log.{schema_payload}
use Rattle.rg_reservoir.specs.declared.reservoir.Rooms.{Rooms}

-- the memory is taken for this schema, which is a legal one; the cache and the open chunk are empty, with room for so many
pub record AreTaken (shape : Shape) (chunk most : ℕ) (r : Rooms) : Type 0 where
  pub schema : r.schema ≡ shape
  pub legal : IsSchema shape
  pub ours : r.ours.items ≡ schema_payload shape
  pub cache : r.cache ≡ the_cache [] most
  pub opened : (r.open.events ≡ []) × (r.open.cap ≡ chunk)
