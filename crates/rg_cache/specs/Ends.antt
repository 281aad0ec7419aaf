-- What a cache ends as, once a reference into it has ended.
use Rattle.std.specs.Prelude.{ℕ, ⊤}
use Rattle.std.specs.Borrow.{Fml, RattleType, MutBor, follows_so}
use mathlib.Core.Option.{none}
use Rattle.rg_cache.specs.Cache.{Cache, Touched}
use Rattle.rg_cache.specs.contracts.ChunkCache.{the_row}

-- it ends as a cache in which the place was touched
abbrev pub ends_touched : (T : RattleType) → MutBor (Cache T.Denot) → ℕ → Fml
ends_touched T c place = follows_so (the_row T) (the_row T) c.ghost_name none (λ _ _. ⊤) (Touched place c.now)
