-- How a run goes that answers no line: over a store that no run of its plan goes over, or where the input begins behind the store's end.
use Rattle.std.specs.Prelude.{◌≡◌, ◌⊎◌, ℕ, List, Option, Some}
use Rattle.std.specs.Option.{ForSome}
use Rattle.rg_host.specs.Image.{Image}
use Rattle.rg_event.specs.declared.event.Event.{Event}
use Rattle.rg_event.specs.Rising.{next_offset}
use Rattle.rg_config.specs.Plans.{Planned}
use Rattle.rg_open.specs.Stores.{Has, HasSaved}
use Rattle.rg_open.specs.Truth.{IsTruthfulImage}
use Rattle.rg_open.specs.Unfit.{HasOtherSchema, HasBadFrame}
use Rattle.rg_open.specs.Within.{IsAsRead, IsOpenedImage}
use Rattle.rg_commands.specs.Call.{damage_line, schema_line, gap_line, Fails}
use Rattle.rg_commands.specs.Outcome.{HostOutcome}
use Rattle.rg_commands.specs.Texts.{PutsLine}
use Rattle.rg_messages.specs.declared.status.Status.{Status}
use Rattle.rg_messages.specs.declared.status.Status.TheVariants.{Store, Read, Disk, Memory, Gap}

-- the line says why the image is unfit for the plan
abbrev pub IsUnfitLine : Planned → Image → List ℕ → Type 0
IsUnfitLine plan v last = ((last ≡ schema_line) × HasOtherSchema plan v) ⊎ ((place : ℕ) × (last ≡ damage_line (Some place)) × HasBadFrame plan place v)

-- the status and the last line say that memory ran out, or that a call on a file failed, or, where `unread`, that a read failed
abbrev pub EndsFailed : Type 0 → Status → List ℕ → Type 0
EndsFailed unread status last = Fails Memory status last ⊎ Fails Disk status last ⊎ (Fails Read status last × unread)

-- the same, or why the image is unfit
abbrev pub EndsUnfit : Planned → Image → Type 0 → Status → List ℕ → Type 0
EndsUnfit plan v unread status last = ((status ≡ Store) × IsUnfitLine plan v last) ⊎ EndsFailed unread status last

-- the same, or that the input's first line, of that offset, lies behind the store's next one
abbrev pub EndsBehind : ℕ → ℕ → Type 0 → Status → List ℕ → Type 0
EndsBehind first next unread status last = ((status ≡ Gap) × (last ≡ gap_line first next)) ⊎ EndsFailed unread status last

-- Where reads gave the image v, nothing was put but the last line of the status, whole unless a put failed; `unread` says that a read of the plan
-- failed. The log and the slots stay as reads give them; what a crash may leave, at each moment and then, it could leave at the start.
pub record IsTurnedAway (plan : Planned) (v : Image) (unread : Type 0) (h : HostOutcome) (status : Status) : Type 0 where
  pub last : List ℕ
  pub ends : EndsUnfit plan v unread status last
  pub line : PutsLine last h
  pub still : ForSome h.image_after (IsAsRead v h.may)
  pub fewer : (u : Image) → h.may_after u → h.may u
  pub moments : h.moments (λ m. h.may m.image)

-- the image is truthful and has just these events, the slot has what it has where v is read, and nothing was written but the schema's frame
-- of a log without a frame, or the growth to the plan's schema by its defaults
pub record KeepsAll (plan : Planned) (held : List Event) (v : Image) (may : Image → Type 0) (slot : ℕ) (u : Image) : Type 0 where
  pub truthful : IsTruthfulImage u
  pub has : Has plan held u
  pub saved : (count : ℕ) → HasSaved plan slot count v → HasSaved plan slot count u
  pub opened : IsOpenedImage plan v may u

-- Where reads gave the image v with the events held, nothing was put but the last line of the status, whole unless a put failed; the first line's
-- offset lies behind the next one. What a crash may leave, at each moment and then, it could leave at the start, or it keeps all.
pub record IsBehind (plan : Planned) (held : List Event) (v : Image) (first slot : ℕ) (unread : Type 0) (h : HostOutcome) (status : Status) : Type 0 where
  pub last : List ℕ
  pub ends : EndsBehind first (next_offset held) unread status last
  pub line : PutsLine last h
  pub left : (u : Image) → h.may_after u → h.may u ⊎ KeepsAll plan held v h.may slot u
  pub moments : h.moments (λ m. h.may m.image ⊎ KeepsAll plan held v h.may slot m.image)
