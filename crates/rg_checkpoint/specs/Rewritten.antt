-- What a slot that is emptied and then written leaves.
use Rattle.std.specs.Prelude.{◌≡◌, ◌≤◌, ◌<◌, ℕ, false, List, length, Option, ⊤}
use Rattle.std.specs.Option.{ForSome}
use Rattle.rg_frame.specs.Calls.{Writes}
use Rattle.rg_host.specs.Image.{Image, Becomes, InFile, NothingPending}
use Rattle.rg_host.specs.Moments.{Moment}
use Rattle.rg_checkpoint.specs.declared.slot.SlotEnd.{SlotEnd}
use Rattle.rg_checkpoint.specs.Ends.{IsEnd}
use Rattle.rg_checkpoint.specs.Sizes.{end_of, sizes_of}
use Rattle.rg_checkpoint.specs.Slots.{IsOnly, Turns}

module _ {H : Type 0} (now : H → Option Image) (may : H → Image → Type 0) where
  -- the payload is the only frame, nothing of the file is pending, and the file is longer than the place where it ends
  pub record IsRewritten (file : ℕ) (payload : List ℕ) (old new : H) (end : SlotEnd) : Type 0 where
    pub is_end : IsEnd file false end
    pub sizes : end.sizes ≡ sizes_of (length payload)
    pub only : Becomes (now old) (now new) (InFile file (λ _ bytes. IsOnly payload bytes))
    pub pending : NothingPending file (now new) (may new)
    pub reaches : ForSome (now new) (λ v. end_of end.sizes < length (v file))

module _ {H : Type 0} (now : H → Option Image) (may : H → Image → Type 0) (clock : H → ℕ) (since : H → ℕ → Moment → Type 0) (said : H → Option (List ℕ)) (disk out seen : H → ℕ) where
  -- at each moment the slot is as it was, not complete, or the new one; the other files stay
  pub record IsRewriting (file : ℕ) (payload : List ℕ) (old new : H) : Type 0 where
    pub leaves : Writes now may clock since said file (Turns payload) old new
    pub others : Becomes (now old) (now new) (InFile file (λ _ _. ⊤))
    pub disk_faults : disk old ≤ disk new
    pub out_faults : out new ≡ out old
    pub reads : seen old ≤ seen new
