-- Slots that a call doesn't write.
use Rattle.std.specs.Prelude.{◌≡◌, ◌≢◌, ◌⊎◌, ◌<◌, ℕ, Option, Some}
use Rattle.std.specs.Option.{ForSome}
use Rattle.rg_host.specs.Image.{Image, NothingPending}
use Rattle.rg_host.specs.Moments.{Moment, Moments}
use Rattle.rg_checkpoint.specs.Slots.{other_of}
use Rattle.rg_recover.specs.declared.fault.TaskFault.{TaskFault}
use Rattle.rg_recover.specs.declared.fault.TaskFault.TheVariants.{Disk}

-- Where nothing of the slot was pending at old, it is as reads gave it then: at each moment to new, and in each image that is left.
pub record IsSpared {H : Type 0} (now : H → Option Image) (may : H → Image → Type 0) (clock : H → ℕ) (since : H → ℕ → Moment → Type 0) (slot : ℕ) (old new : H) : Type 0 where
  pub moments : NothingPending slot (now old) (may old) → Moments clock since old new (λ m. ForSome (now old) (λ v. m.image slot ≡ v slot))
  pub left : NothingPending slot (now old) (may old) → (u : Image) → may new u → ForSome (now old) (λ v. u slot ≡ v slot)

-- Of a save that was refused where that slot, or none, was kept: the kept slot or the other one was to be written and the one beside it
-- is spared; and where no call on a file failed both are.
pub record SparesOne (Spared : ℕ → Type 0) (keep : Option ℕ) (fault : TaskFault) : Type 0 where
  pub slot : ℕ
  pub which : (slot ≡ other_of keep) ⊎ (keep ≡ Some slot)
  pub beside : (other : ℕ) → other < 2 → other ≢ slot → Spared other
  pub both : fault ≢ Disk → (other : ℕ) → other < 2 → Spared other
