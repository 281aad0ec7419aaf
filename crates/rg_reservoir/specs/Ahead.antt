-- Which places a load ahead touches, and what was touched.
use Rattle.std.specs.Prelude.{◌≡◌, ◌⊎◌, ◌≤◌, ◌+◌, ◌-◌, ◌^◌, ◌==◌, nat_le, nat_lt, min, ℕ, false, List, [], ◌∷◌, ◌++◌, length, Option, Some, None, Result, OnOk, IfErr, IsErrOf, IsTrue, if◌then◌else◌}
use Rattle.std.specs.Option.{ForSome}
use Rattle.rg_bytes.specs.Counts.{Rose}
use Rattle.rg_host.specs.Image.{Image}
use Rattle.rg_host.specs.Moments.{Moment, LeavesAll}
use Rattle.rg_event.specs.declared.event.Event.{Event}
use Rattle.rg_past.specs.declared.past.Spot.{Spot}
use Rattle.rg_cache.specs.Cache.{Cache, holds_place, places, least_recently_used, touches}
use Rattle.rg_reservoir.specs.Chain.{chunk_at, IsIllegalBy}
use Rattle.rg_reservoir.specs.Kept.{Base, base, view_of, cache_of, loads_of, settled, look_places, held_after, IsCached, IsInside, IsSound, Stays, AllTouched}
use Rattle.rg_reservoir.specs.declared.fault.ReservoirFault.{ReservoirFault}
use Rattle.rg_reservoir.specs.declared.fault.ReservoirFault.TheVariants as fault
use Rattle.rg_reservoir.specs.declared.kept.Kept.{Kept}
use Rattle.rg_reservoir.specs.declared.reservoir.Reservoir.{Reservoir}

-- the place of the chunk of a spot's event: the spot's, or the next one where the index is the count of the chunk there
abbrev pub event_place : Option (List Event × ℕ) → ℕ → ℕ → ℕ
event_place None index place = place
event_place (Some chunk) index place = if index == length chunk.0 then chunk.1 else place

-- the place behind a chunk, where that is before the end: a closed chunk stands there
abbrev pub closed_behind : ℕ → Option (List Event × ℕ) → List ℕ
closed_behind end None = []
closed_behind end (Some chunk) = if nat_lt chunk.1 end then chunk.1 ∷ [] else []

-- the places that a load ahead touches for a spot of a closed chunk, at whose place no growth stands: those of a look at it, and then that of the chunk behind the event's
abbrev pub ahead_places : Base → List ℕ → Spot → List ℕ
ahead_places b bytes spot =
    if nat_le b.committed spot.number then []
    else look_places b bytes spot ++ closed_behind b.end (chunk_at (view_of b) (event_place (chunk_at (view_of b) spot.place bytes) spot.index spot.place) bytes)

-- those for these spots, in order
abbrev pub all_ahead : Base → List ℕ → List Spot → List ℕ
all_ahead b bytes [] = []
all_ahead b bytes (spot ∷ spots) = ahead_places b bytes (settled b spot) ++ all_ahead b bytes spots

-- the place behind a chunk that is held, where that is before the end
abbrev pub closed_next : ℕ → Option Kept → Option ℕ
closed_next end (Some kept) = if nat_lt kept.next end then Some kept.next else None
closed_next end None = None

-- some of these places, in order
abbrev pub Picks : List ℕ → List ℕ → Type 0
Picks picked [] = picked ≡ []
Picks picked (place ∷ wanted) = Picks picked wanted ⊎ ((rest : List ℕ) × (picked ≡ place ∷ rest) × Picks rest wanted)

-- a touch of a place that succeeded: for one that wasn't held one load is counted
pub record OneLoad (place : ℕ) (old new : Cache Kept) (loads loads_then : ℕ) : Type 0 where
  pub places_are : places new ≡ least_recently_used old.cap (touches old (place ∷ []))
  pub cap_stays : new.cap ≡ old.cap
  pub hit : IsTrue (holds_place place old) → loads_then ≡ loads
  pub miss : holds_place place old ≡ false → loads_then ≡ min (loads + 1) (2 ^ 64 - 1)

-- these touches, one after another
abbrev pub AllLoaded : List ℕ → Cache Kept → Cache Kept → ℕ → ℕ → Type 0
AllLoaded [] old new loads loads_then = (new ≡ old) × (loads_then ≡ loads)
AllLoaded (place ∷ touched) old new loads loads_then =
    (mid : Cache Kept) × (mid_loads : ℕ) × OneLoad place old mid loads mid_loads × AllLoaded touched mid new mid_loads loads_then

-- some of these touches succeeded, one after another, and no other: the places held are theirs, and so are the loads
pub record SomeTouched (wanted : List ℕ) (old new : Cache Kept) (loads loads_then : ℕ) : Type 0 where
  pub done : List ℕ
  pub picked : Picks done wanted
  pub each : AllLoaded done old new loads loads_then
  pub held : places new ≡ held_after old done

-- From old to new chunks were loaded, and nothing else: what is in the cache stays right, and no file and no output changes.
pub record OnlyLoads {H : Type 0} (now : H → Option Image) (may : H → Image → Type 0) (clock : H → ℕ) (since : H → ℕ → Moment → Type 0) (said : H → Option (List ℕ)) (disk_faults out_faults : H → ℕ) (old new : Reservoir) (host after : H) : Type 0 where
  pub stays : Stays old new
  pub cached : (v : Image) → now host ≡ Some v → IsCached (view_of (base old)) (v (base old).file) (cache_of old) → IsCached (view_of (base old)) (v (base old).file) (cache_of new)
  pub inside : IsInside (base old).end (cache_of old) → IsInside (base old).end (cache_of new)
  pub leaves : LeavesAll now may clock since said host after
  pub disk_faults_rise : disk_faults host ≤ disk_faults after
  pub out_faults_stay : out_faults after ≡ out_faults host

-- Of the places that a log of these bytes asks for some were touched. Over a sound reservoir of whose image that holds all of them were, where the call was Ok, and nothing is damaged.
pub record Touches {H : Type 0} (now : H → Option Image) (may : H → Image → Type 0) (reads : H → ℕ) (asked : List ℕ → List ℕ) (Holds : Image → Type 0) (result : Result Unit ReservoirFault) (old new : Reservoir) (host after : H) : Type 0 where
  pub touched : (v : Image) → now host ≡ Some v → IsCached (view_of (base old)) (v (base old).file) (cache_of old) → SomeTouched (asked (v (base old).file)) (cache_of old) (cache_of new) (loads_of old) (loads_of new)
  pub loaded : (sound : IsSound (now host) (may host) old) → Holds sound.0 → OnOk result (AllTouched (asked (sound.0 (base old).file)) (cache_of old) (loads_of old) (reads host) (cache_of new) (loads_of new) (reads after))
  pub never_damaged : (sound : IsSound (now host) (may host) old) → Holds sound.0 → (p : ℕ) → IsErrOf result (fault.Damaged p) → ⊥

-- what stops a load: a failed call on the file, a damaged place, or want of memory
pub record IsLoadStop {H R : Type 0} (now : H → Option Image) (disk_faults : H → ℕ) (result : Result R ReservoirFault) (old : Reservoir) (host after : H) : Type 0 where
  pub damaged : (p : ℕ) → IsErrOf result (fault.Damaged p) → ForSome (now host) (λ v. IsIllegalBy (view_of (base old)) p (v (base old).file))
  pub disk : IsErrOf result fault.Disk → Rose (disk_faults host) (disk_faults after)
  pub faults : IfErr result (λ e. (e ≡ fault.Disk) ⊎ (e ≡ fault.Memory) ⊎ ((p : ℕ) × (e ≡ fault.Damaged p)))
