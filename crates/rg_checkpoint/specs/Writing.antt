-- What a written checkpoint is of.
use Rattle.std.specs.Prelude.{◌≡◌, ℕ, List, ◌∷◌, ◌++◌}
use Rattle.std.specs.Int.{w64, to_be_bytes}
use Rattle.rg_past.specs.declared.past.Spot.{Spot}
use Rattle.rg_state.specs.Changes.{Marks, RowChange, changes_in}
use Rattle.rg_state.specs.Rows.{Cells, Entry, ListsOf, Lists}
use Rattle.rg_checkpoint.specs.Updates.{IsUpdate}
use Rattle.rg_checkpoint.specs.Base.{IsBase, counted_texts, counted_spots}

-- all that stands before the rows of a base payload, their number included
abbrev pub front_bytes : List (List ℕ) → ℕ → List Spot → ℕ → List ℕ
front_bytes queries count spots rows = 66 ∷ (counted_texts queries ++ (to_be_bytes w64 count ++ (counted_spots spots ++ to_be_bytes w64 rows)))

-- all that stands before the number of the rows
abbrev pub head_bytes : List (List ℕ) → ℕ → List Spot → List ℕ
head_bytes queries count spots = 66 ∷ (counted_texts queries ++ (to_be_bytes w64 count ++ counted_spots spots))

-- what was added is the base payload of these, with all rows of the table in order
pub record Encodes (cells : Cells) (queries : List (List ℕ)) (count : ℕ) (spots : List Spot) (old new : List ℕ) : Type 0 where
  pub payload : List ℕ
  pub rows : List Entry
  pub lists : Lists cells rows
  pub base : IsBase payload (record { queries = queries; count = count; spots = spots; rows = rows })
  pub added : new ≡ old ++ payload

-- all that stands before the rows of a change payload, but for their number
abbrev pub change_front_bytes : ℕ → List Spot → List ℕ
change_front_bytes count spots = 68 ∷ (to_be_bytes w64 count ++ counted_spots spots)

-- what was added is the change payload of these, with the rows that changed, in order
pub record EncodesChanges (named there : Marks) (cells : Cells) (count : ℕ) (spots : List Spot) (old new : List ℕ) : Type 0 where
  pub payload : List ℕ
  pub rows : List RowChange
  pub lists : ListsOf (changes_in named there cells) rows
  pub is : IsUpdate payload (record { count = count; spots = spots; rows = rows })
  pub added : new ≡ old ++ payload
