-- Edges at their spots.
use Rattle.std.specs.Prelude.{◌≡◌, ℕ, ◌<◌, slice_get, Some, ◌≤◌, ◌^◌, List, [], ◌∷◌, length, map, All, ⊤}
use Rattle.rg_past.specs.declared.past.Spot.{Spot}

-- the offsets of some edges, and the spot of each
pub record Placed : Type 0 where
  pub offsets : List ℕ
  pub spots : List Spot

-- each offset is above the one before it
abbrev pub AreRising : List ℕ → Type 0
AreRising [] = ⊤
AreRising (x ∷ []) = ⊤
AreRising (x ∷ (y ∷ offsets)) = (x < y) × AreRising (y ∷ offsets)

-- there are fewer than 2^32 edges, one for each offset, and the offsets rise
pub record ArePlaced (placed : Placed) : Type 0 where
  pub same : length placed.spots ≡ length placed.offsets
  pub few : length placed.spots < 2 ^ 32
  pub rising : AreRising placed.offsets

-- the numbers of some spots
abbrev pub numbers_of : List Spot → List ℕ
numbers_of spots = map (λ spot. spot.number) spots

-- no spot's number is above that count
abbrev pub AreWithin : List Spot → ℕ → Type 0
AreWithin spots count = All (λ (spot : Spot). spot.number ≤ count) spots

-- the edge of that index stands at a spot that the past spells
abbrev pub IsSpelledAt : (Spot → Type 0) → List Spot → ℕ → Type 0
IsSpelledAt Spells spots edge = (spot : Spot) × (slice_get spots edge ≡ Some spot) × Spells spot
