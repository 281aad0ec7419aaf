-- The newest of two slots.
use Rattle.std.specs.Prelude.{◌≡◌, ℕ, ◌≤◌, nat_lt, List, Option, Some, None, if◌then◌else◌}
use Rattle.rg_checkpoint.specs.declared.base.Checkpoint.{Checkpoint}

-- it has exactly these query texts, and a count of at most this
pub record Suits (texts : List (List ℕ)) (most : ℕ) (checkpoint : Checkpoint) : Type 0 where
  pub queries : checkpoint.queries ≡ texts
  pub below : checkpoint.count ≤ most

-- the slot's checkpoint suits, and no other one that does has a greater count, or the same in a slot before it
pub record IsNewest (texts : List (List ℕ)) (most : ℕ) (slots : ℕ → Option Checkpoint) (i : ℕ) : Type 0 where
  pub checkpoint : Checkpoint
  pub there : slots i ≡ Some checkpoint
  pub suits : Suits texts most checkpoint
  pub greatest : (j : ℕ) (other : Checkpoint) → slots j ≡ Some other → Suits texts most other → other.count ≤ checkpoint.count
  pub first : (j : ℕ) (other : Checkpoint) → slots j ≡ Some other → Suits texts most other → other.count ≡ checkpoint.count → i ≤ j

-- no slot's checkpoint suits
abbrev pub NoneSuits : List (List ℕ) → ℕ → (ℕ → Option Checkpoint) → Type 0
NoneSuits texts most slots = (j : ℕ) (other : Checkpoint) → slots j ≡ Some other → Suits texts most other → ⊥

-- the newest slot whose checkpoint suits, where there is one
abbrev pub IsNewestOf : List (List ℕ) → ℕ → (ℕ → Option Checkpoint) → Option ℕ → Type 0
IsNewestOf texts most slots None = NoneSuits texts most slots
IsNewestOf texts most slots (Some i) = IsNewest texts most slots i

-- the count of a slot's checkpoint, where that suits
abbrev pub CountsAs : List (List ℕ) → ℕ → Option Checkpoint → Option ℕ → Type 0
CountsAs texts most slot None = (checkpoint : Checkpoint) → slot ≡ Some checkpoint → Suits texts most checkpoint → ⊥
CountsAs texts most slot (Some count) = (checkpoint : Checkpoint) × (slot ≡ Some checkpoint) × Suits texts most checkpoint × (checkpoint.count ≡ count)

-- the slot of the greater count, and the first one where they are the same
abbrev pub picked : Option ℕ → Option ℕ → Option ℕ
picked None None = None
picked (Some first) None = Some 0
picked None (Some second) = Some 1
picked (Some first) (Some second) = if nat_lt first second then Some 1 else Some 0
