-- A store that no run of a plan goes over, and what its opening leaves and answers.
use Rattle.std.specs.Prelude.{◌≡◌, ◌⊎◌, ℕ, List, Option, ⊤}
use Rattle.std.specs.Option.{ForSome}
use Rattle.rg_host.specs.Image.{Image}
use Rattle.rg_host.specs.Moments.{Moment, Moments}
use Rattle.rg_config.specs.Plans.{Planned}
use Rattle.rg_reservoir.specs.Attached.{IsForeign, IsBadFrame}
use Rattle.rg_open.specs.Within.{IsAsRead}
use Rattle.rg_open.specs.declared.fault.OpenFault.{OpenFault}
use Rattle.rg_open.specs.declared.fault.OpenFault.TheVariants.{Disk, Damaged, SchemaDiffers, BadState, Memory, Table}

-- the log of the image is whole by heads and growths, and the schema in force at its end is another than the plan's and doesn't grow to it by the plan's defaults
abbrev pub HasOtherSchema : Planned → Image → Type 0
HasOtherSchema plan v = IsForeign plan.shape plan.defaults (v 2)

-- the open frame at that place of the log isn't whole, isn't what its place asks for, or may not follow those before it
abbrev pub HasBadFrame : Planned → ℕ → Image → Type 0
HasBadFrame plan place v = IsBadFrame place (v 2)

-- no run of the plan goes over the image; it is just one of the two, since a log with a bad frame isn't whole
abbrev pub IsUnfit : Planned → Image → Type 0
IsUnfit plan v = HasOtherSchema plan v ⊎ ((place : ℕ) × HasBadFrame plan place v)

-- the fault says why the image is unfit, or a call on a file failed, or memory ran out
abbrev pub SaysWhy : Planned → Image → OpenFault → Type 0
SaysWhy plan v Disk = ⊤
SaysWhy plan v (Damaged place) = HasBadFrame plan place v
SaysWhy plan v SchemaDiffers = HasOtherSchema plan v
SaysWhy plan v (BadState node) = ⊥
SaysWhy plan v Memory = ⊤
SaysWhy plan v Table = ⊥

-- From old, where reads give the image v, to new the log and the slots stay and nothing was put; what a crash may leave, at each moment and
-- then, it could leave at old.
pub record IsLeftAlone {H : Type 0} (now : H → Option Image) (may : H → Image → Type 0) (clock : H → ℕ) (since : H → ℕ → Moment → Type 0) (said : H → Option (List ℕ)) (v : Image) (old new : H) : Type 0 where
  pub still : ForSome (now new) (IsAsRead v (may old))
  pub fewer : (u : Image) → may new u → may old u
  pub said_stays : said new ≡ said old
  pub moments : Moments clock since old new (λ m. may old m.image × ForSome (said old) (λ s. m.said ≡ s))
