-- Images of the files, and what a call does to one.
use Rattle.std.specs.Prelude.{◌≡◌, ◌≢◌, ◌+◌, ◌≤◌, max, ℕ, List, ◌++◌, length, take, drop, Option, Some, None}
use Rattle.std.specs.Option.{ForSome}

-- the bytes of each file, by its number; a missing file has none
abbrev pub Image : Type 0
Image = ℕ → List ℕ

-- A value that may be told: what it becomes where it is told. Whether it is told stays.
pub record Becomes {T : Type 0} (old new : Option T) (Step : T → T → Type 0) : Type 0 where
  pub told : (x : T) → old ≡ Some x → (y : T) × (new ≡ Some y) × Step x y
  pub untold : old ≡ None → new ≡ None

-- one file changes so, and no other
pub record InFile (file : ℕ) (Step : List ℕ → List ℕ → Type 0) (old new : Image) : Type 0 where
  pub there : Step (old file) (new file)
  pub elsewhere : (other : ℕ) → other ≢ file → new other ≡ old other

-- new is old with these bytes at this place
abbrev pub Holds : ℕ → List ℕ → List ℕ → List ℕ → Type 0
Holds at bytes old new = new ≡ take at old ++ bytes ++ drop (at + length bytes) old

-- What a write of n bytes may leave when it is cut short: any bytes in their range, the same bytes outside it, and any length from the old one to the end of the range.
pub record Torn (at n : ℕ) (old new : List ℕ) : Type 0 where
  pub before : take at new ≡ take at old
  pub after : drop (at + n) new ≡ drop (at + n) old
  pub no_shorter : length old ≤ length new
  pub no_longer : length new ≤ max (length old) (at + n)

-- an image that a crash could leave, after a step
abbrev pub IsAfter : (Image → Image → Type 0) → (Image → Type 0) → Image → Type 0
IsAfter Step may v = (u : Image) × may u × Step u v

-- each image that a crash may leave now is one that it could leave before, after a step
abbrev pub Follows : (Image → Image → Type 0) → (Image → Type 0) → (Image → Type 0) → Type 0
Follows Step old new = (v : Image) → new v → IsAfter Step old v

-- a crash may leave the same images
pub record SameOutcomes (old new : Image → Type 0) : Type 0 where
  pub no_more : (v : Image) → new v → old v
  pub no_fewer : (v : Image) → old v → new v

-- nothing of a file is pending: each image that a crash can leave has this file as reads give it
abbrev pub NothingPending : ℕ → Option Image → (Image → Type 0) → Type 0
NothingPending file now may = ForSome now (λ v. (u : Image) → may u → u file ≡ v file)
