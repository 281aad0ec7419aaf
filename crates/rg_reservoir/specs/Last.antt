-- What is known of the chunk that was touched last.
use Rattle.std.specs.Prelude.{◌≡◌, [], ◌∷◌, length, Option, Some}
use Rattle.std.specs.Option.{ForSome, option_map}
use Rattle.rg_cache.specs.Cache.{Cache, item_at, places, least_recently_used, touches}
use Rattle.rg_reservoir.specs.declared.kept.Kept.{Kept}
use Rattle.rg_reservoir.specs.declared.last.Last.{Last}

-- a chunk of so many events is held at its place, and a touch of the place moves nothing
abbrev pub IsLast : Cache Kept → Option Last → Type 0
IsLast cache last = ForSome last (λ l. (option_map (λ kept. length kept.chunk) (item_at l.place cache) ≡ Some l.count) × (places cache ≡ least_recently_used cache.cap (touches cache (l.place ∷ []))))
