-- What a clause sees of a `ChunkCache`: the places that it holds, by their last touch, with their items.
use Rattle.std.specs.Prelude.{◌≡◌, ℕ, Bool, not, List, [], ◌∷◌, ◌++◌, take, reverse, filter, Option, None, nat_eq, is_some, refl, if◌then◌else◌}
use Rattle.std.specs.Map.{keys_of, lookup}
use Rattle.std.specs.Coded.{Coded, code_by, coded×, coded_list, coded_ℕ}

-- the places with their items, the most recently touched first, and how many there may be
pub record Cache (T : Type 0) : Type 0 where
  pub entries : List (ℕ × T)
  pub cap : ℕ

-- the distinct places of touches that are listed the most recent one first
abbrev pub most_recent : List ℕ → List ℕ
most_recent [] = []
most_recent (place ∷ earlier) = place ∷ filter (λ other. not (nat_eq place other)) (most_recent earlier)

-- the distinct places of touches that are listed the least recent one first: the most recent place first, and at most
-- `cap` of them
abbrev pub least_recently_used : ℕ → List ℕ → List ℕ
least_recently_used cap touches = take cap (most_recent (reverse touches))

module _ {T : Type 0} where
  abbrev pub cache : List (ℕ × T) → ℕ → Cache T
  cache entries cap = record { entries = entries; cap = cap }

  abbrev pub cache_code : Coded T → Coded (Cache T)
  cache_code t = code_by (List (ℕ × T) × ℕ) (coded× (coded_list (coded× coded_ℕ t)) coded_ℕ) (λ c. (c.entries, c.cap)) (λ p. cache p.0 p.1) (λ _. refl)

  -- the places that are held, the most recently touched first
  abbrev pub places : Cache T → List ℕ
  places c = keys_of c.entries

  -- the item of a place that is held
  abbrev pub item_at : ℕ → Cache T → Option T
  item_at place c = lookup (nat_eq place) c.entries

  abbrev pub holds_place : ℕ → Cache T → Bool
  holds_place place c = is_some (item_at place c)

  -- the places held before a call, the least recent one first, and then the call's touches
  abbrev pub touches : Cache T → List ℕ → List ℕ
  touches c more = reverse (places c) ++ more

  -- what a touch of a place touches: that place, where it is held
  abbrev pub touched : ℕ → Cache T → List ℕ
  touched place c = if holds_place place c then place ∷ [] else []

  -- a place was touched: it is the first one where it was held, and nothing changed where it was not
  pub record Touched (place : ℕ) (old new : Cache T) : Type 0 where
    pub places_are : places new ≡ least_recently_used old.cap (touches old (touched place old))
    pub items_stay : (other : ℕ) → item_at other new ≡ item_at other old
    pub cap_stays : new.cap ≡ old.cap
    pub miss_stays : item_at place old ≡ None → new ≡ old
