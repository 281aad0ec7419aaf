-- What a checkpoint says, and its bytes.
use Rattle.std.specs.Prelude.{◌≡◌, ℕ, ◌<◌, ◌≤◌, ◌^◌, List, ◌∷◌, ◌++◌, length, All}
use Rattle.std.specs.Int.{w32, w64, to_be_bytes}
use Rattle.rg_bytes.specs.Reading.{list_bytes}
use Rattle.rg_agg.specs.Standing.{size_in}
use Rattle.rg_past.specs.declared.past.Spot.{Spot}
use Rattle.rg_state.specs.Rows.{Entry, AreRising, entry_bytes}
use Rattle.rg_state.specs.States.{IsHeld}
use Rattle.rg_checkpoint.specs.declared.base.Checkpoint.{Checkpoint}

-- a text: its length in 4 bytes, and its bytes
abbrev pub text_bytes : List ℕ → List ℕ
text_bytes text = to_be_bytes w32 (length text) ++ text

-- a spot: its place in 8 bytes, its index in 4, its number in 8
abbrev pub spot_bytes : Spot → List ℕ
spot_bytes spot = to_be_bytes w64 spot.place ++ (to_be_bytes w32 spot.index ++ to_be_bytes w64 spot.number)

-- texts: how many in 4 bytes, and each of them
abbrev pub counted_texts : List (List ℕ) → List ℕ
counted_texts texts = to_be_bytes w32 (length texts) ++ list_bytes text_bytes texts

-- spots: how many in 4 bytes, and each of them
abbrev pub counted_spots : List Spot → List ℕ
counted_spots spots = to_be_bytes w32 (length spots) ++ list_bytes spot_bytes spots

-- rows: how many in 8 bytes, and each of them as a table writes it
abbrev pub counted_rows : List Entry → List ℕ
counted_rows rows = to_be_bytes w64 (length rows) ++ list_bytes entry_bytes rows

-- the queries, the count in 8 bytes, the spots, the rows
abbrev pub body_bytes : Checkpoint → List ℕ
body_bytes checkpoint = counted_texts checkpoint.queries ++ (to_be_bytes w64 checkpoint.count ++ (counted_spots checkpoint.spots ++ counted_rows checkpoint.rows))

-- the byte 42 in hexadecimal, and then these
abbrev pub base_bytes : Checkpoint → List ℕ
base_bytes checkpoint = 66 ∷ body_bytes checkpoint

-- a text whose length fits 4 bytes
abbrev pub IsText : List ℕ → Type 0
IsText text = length text < 2 ^ 32

-- a spot whose numbers fit their bytes
pub record IsSpot (spot : Spot) : Type 0 where
  pub place : spot.place < 2 ^ 64
  pub index : spot.index < 2 ^ 32
  pub number : spot.number < 2 ^ 64

-- a row that can stand in a checkpoint: a state of one of the aggregators that isn't empty, under a key of at most 2,056 bytes
pub record IsEntry (entry : Entry) : Type 0 where
  pub node : entry.node < 2 ^ 32
  pub key : length entry.key ≤ 2056
  pub some : 0 < size_in entry.held
  pub held : IsHeld entry.held

-- texts that can stand in a checkpoint
pub record AreTexts (texts : List (List ℕ)) : Type 0 where
  pub few : length texts < 2 ^ 32
  pub each : All IsText texts

-- spots that can stand in a checkpoint
pub record AreSpots (spots : List Spot) : Type 0 where
  pub few : length spots < 2 ^ 32
  pub each : All IsSpot spots

-- rows that can stand in a checkpoint: they rise strictly by node, then by key
pub record AreRows (rows : List Entry) : Type 0 where
  pub few : length rows < 2 ^ 64
  pub each : All IsEntry rows
  pub rising : AreRising rows

-- a checkpoint that can be written
pub record IsLegalCheckpoint (checkpoint : Checkpoint) : Type 0 where
  pub queries : AreTexts checkpoint.queries
  pub count : checkpoint.count < 2 ^ 64
  pub spots : AreSpots checkpoint.spots
  pub rows : AreRows checkpoint.rows

-- the payload is the base payload of this checkpoint
pub record IsBase (payload : List ℕ) (checkpoint : Checkpoint) : Type 0 where
  pub is : payload ≡ base_bytes checkpoint
  pub legal : IsLegalCheckpoint checkpoint
