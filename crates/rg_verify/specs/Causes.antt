-- Why a store wasn't held against its log.
use Rattle.std.specs.Prelude.{◌≡◌, ◌≤◌, ◌^◌, ℕ, List, Option, Some, None, ⊤}
use Rattle.std.specs.Option.{ForSome}
use Rattle.rg_bytes.specs.Counts.{Rose}
use Rattle.rg_dump.specs.Dump.{damage_of}
use Rattle.rg_event.specs.Shapes.{Shape}
use Rattle.rg_event.specs.declared.event.Event.{Event}
use Rattle.rg_event.specs.declared.room.Room.{Room}
use Rattle.rg_host.specs.Image.{Image}
use Rattle.rg_growth.specs.Filling.{Given}
use Rattle.rg_log.specs.Filled.{HasEventsFor}
use Rattle.rg_reservoir.specs.Attached.{IsForeign}
use Rattle.rg_verify.specs.declared.fault.VerifyFault.{VerifyFault}
use Rattle.rg_verify.specs.declared.fault.VerifyFault.TheVariants.{Disk, Damaged, SchemaDiffers, Memory, Write}

-- A call that puts nothing was refused: each fault its cause, where these say which place may be damaged, and whether the log may be of another
-- schema; want of memory has none.
abbrev pub IsUnjudged : (ℕ → Type 0) → Type 0 → ℕ → ℕ → VerifyFault → Type 0
IsUnjudged IsDamaged is_other before after Disk = Rose before after
IsUnjudged IsDamaged is_other before after (Damaged place) = IsDamaged place
IsUnjudged IsDamaged is_other before after SchemaDiffers = is_other
IsUnjudged IsDamaged is_other before after Memory = ⊤
IsUnjudged IsDamaged is_other before after Write = ⊥

-- the first damaged place of the log, where the host tells its image
abbrev pub IsFirstDamage : Option Image → ℕ → Type 0
IsFirstDamage now place = ForSome now (λ v. damage_of (v 2) ≡ Some place)

-- the log is of another schema than this, which doesn't grow to it by these defaults, and has no events of it
pub record IsOfOther (shape : Shape) (defaults : Given) (now : Option Image) : Type 0 where
  pub other : ForSome now (λ v. IsForeign shape defaults (v 2))
  pub no_events : (v : Image) (events : List Event) → now ≡ Some v → HasEventsFor shape defaults events (v 2) → ⊥

-- so it is, and no frame of it is damaged, chunks included
pub record IsWholeOther (shape : Shape) (defaults : Given) (now : Option Image) : Type 0 where
  pub is : IsOfOther shape defaults now
  pub whole : ForSome now (λ v. damage_of (v 2) ≡ None)

-- rooms and a limit with which a log can be read
pub record IsReadable (room : Room) : Type 0 where
  pub chunk : (1 ≤ room.chunk) × (room.chunk ≤ 4096)
  pub cache : (1 ≤ room.cache) × (room.cache ≤ 1024)
  pub limit : room.limit ≤ 2 ^ 40
