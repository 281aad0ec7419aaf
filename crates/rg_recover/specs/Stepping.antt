-- What a call on a session leaves as it was of the log and of the slots.
use Rattle.std.specs.Prelude.{◌≡◌, ◌<◌, ℕ, Option, Some, None}
use Rattle.rg_host.specs.Image.{Image}

-- The log's file stays as reads give it, and in each image that might be left it is as in one that might have been.
pub record LogStays (now then : Option Image) (may after : Image → Type 0) : Type 0 where
  pub told : (v : Image) → now ≡ Some v → (w : Image) × (then ≡ Some w) × (w 2 ≡ v 2)
  pub untold : now ≡ None → then ≡ None
  pub left : (u : Image) → after u → (x : Image) × may x × (u 2 ≡ x 2)

-- The slots' files stay as reads give them, and in each image that might be left they are, together, as in one that might have been.
pub record SlotsStay (now then : Option Image) (may after : Image → Type 0) : Type 0 where
  pub told : (v : Image) → now ≡ Some v → (w : Image) × (then ≡ Some w) × ((slot : ℕ) → slot < 2 → w slot ≡ v slot)
  pub untold : now ≡ None → then ≡ None
  pub left : (u : Image) → after u → (x : Image) × may x × ((slot : ℕ) → slot < 2 → u slot ≡ x slot)
