-- Which slots an index holds for a key.
use Rattle.std.specs.Prelude.{◌≡◌, ℕ, ◌+◌, ◌-◌, ◌*◌, ◌/◌, ◌%◌, ◌^◌, ◌<◌, ◌≤◌, ◌==◌, List, [], length, get_or, take, drop, Option, None, Some, if◌then◌else◌, nat_le, bit_and, Contains}
use Rattle.std.specs.BTreeMap.{BTreeMap, get}
use Rattle.std.specs.Cmp.Lexicographic.{slice_cmp}
use Rattle.std.specs.Ordering.{nat_cmp}

-- where the bucket of a mix starts, among so many places
unfoldable pub start_of : ℕ → ℕ → ℕ
start_of places mix = bit_and (bit_and mix (places - 1)) (2 ^ 64 - 1 - 7)

-- the eight numbers from a place on; none where there aren't eight
unfoldable pub eight_from : List ℕ → ℕ → List ℕ
eight_from buckets start = if nat_le (start + 8) (length buckets) then take 8 (drop start buckets) else []

-- the guesses in the bucket of a mix
abbrev pub bucket_in : List ℕ → ℕ → List ℕ
bucket_in buckets mix = eight_from buckets (start_of (length buckets) mix)

-- a guess: the upper eight bits of a mix, and below them a slot in 24 bits
abbrev pub guess_of : ℕ → ℕ → ℕ
guess_of mix slot = mix / 2 ^ 56 * 2 ^ 24 + slot

-- the slot of a guess, where the guess has the upper bits of this mix
abbrev pub slot_in_guess : ℕ → ℕ → Option ℕ
slot_in_guess guess mix = if guess / 2 ^ 24 == mix / 2 ^ 56 then Some (guess % 2 ^ 24) else None

-- a guess stands at a place that is in the bucket of a mix
pub record IsPlace (buckets : List ℕ) (mix guess place : ℕ) : Type 0 where
  pub from : start_of (length buckets) mix ≤ place
  pub to : place < start_of (length buckets) mix + 8
  pub fits : start_of (length buckets) mix + 8 ≤ length buckets
  pub is : get_or buckets place 0 ≡ guess

-- a slot that fits a guess is guessed in the bucket of a mix
abbrev pub IsGuessed : List ℕ → ℕ → ℕ → Type 0
IsGuessed buckets mix slot = (slot < 2 ^ 24 - 1) × Contains (bucket_in buckets mix) (guess_of mix slot)

-- in the bucket of a mix there is an empty place for a slot that fits a guess
abbrev pub HasRoom : List ℕ → ℕ → ℕ → Type 0
HasRoom buckets mix slot = (slot < 2 ^ 24 - 1) × Contains (bucket_in buckets mix) (2 ^ 32 - 1)

-- a slot is held for a key with this mix: it is guessed, or else it is the one that overflowed
abbrev pub Holds : List ℕ → BTreeMap (List ℕ) ℕ → ℕ → List ℕ → ℕ → Type 0
Holds buckets overflow mix key slot = (IsGuessed buckets mix slot → ⊥) → get (slice_cmp nat_cmp) overflow key ≡ Some slot
