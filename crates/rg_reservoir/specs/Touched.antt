-- What a touch of a place does, and what a look at a spot does before it answers.
use Rattle.std.specs.Prelude.{◌≡◌, ◌⊎◌, ◌↔◌, ◌≤◌, ◌<◌, ◌+◌, ◌-◌, ◌^◌, min, ℕ, Bool, true, false, List, [], ◌∷◌, Option, Some, None, Result, Ok, OnOk, OnErr, IfOk, IfErr, IsErrOf, IsTrue}
use Rattle.std.specs.Option.{ForSome}
use Rattle.rg_bytes.specs.Counts.{Rose}
use Rattle.rg_host.specs.Image.{Image}
use Rattle.rg_event.specs.declared.event.Event.{Event}
use Rattle.rg_past.specs.declared.past.Spot.{Spot}
use Rattle.rg_cache.specs.Cache.{item_at, holds_place, places, least_recently_used, touches}
use Rattle.rg_reservoir.specs.Chain.{chunk_at, IsIllegalBy}
use Rattle.rg_reservoir.specs.Kept.{base, view_of, opened, cache_of, loads_of, look_places, held_after, next_in, IsAbsent, IsCached, IsLegalLook, IsSound, IsTouched, AllTouched, SpellsSettled, Found}
use Rattle.rg_reservoir.specs.Reached.{IsWhole, IsBehind, HoldsEvent}
use Rattle.rg_reservoir.specs.declared.fault.ReservoirFault.{ReservoirFault}
use Rattle.rg_reservoir.specs.declared.fault.ReservoirFault.TheVariants as fault
use Rattle.rg_reservoir.specs.declared.kept.Kept.{Kept}
use Rattle.rg_reservoir.specs.declared.reservoir.Reservoir.{Reservoir}

-- A place was touched. Where a chunk within the log stands there, it is held, and is the last one touched; else nothing was loaded.
pub record HasTouched {H : Type 0} (now : H → Option Image) (reads : H → ℕ) (place : ℕ) (result : Result Bool ReservoirFault) (old new : Reservoir) (host after : H) : Type 0 where
  pub held : IfOk result (λ found. IsTrue found → (kept : Kept) × (item_at place (cache_of new) ≡ Some kept))
  pub absent : IfOk result (λ found. found ≡ false → ForSome (now host) (λ v. IsAbsent (view_of (base old)) place (base old).end (v (base old).file)))
  pub legal : (v : Image) → now host ≡ Some v → IsCached (view_of (base old)) (v (base old).file) (cache_of old) → OnOk result (IsIllegalBy (view_of (base old)) place (v (base old).file) → ⊥)
  pub places_are : IfOk result (λ found. IsTrue found → places (cache_of new) ≡ least_recently_used (cache_of old).cap (touches (cache_of old) (place ∷ [])))
  pub left : IfOk result (λ found. found ≡ false → (cache_of new ≡ cache_of old) × (loads_of new ≡ loads_of old))
  pub refused : OnErr result ((cache_of new ≡ cache_of old) × (loads_of new ≡ loads_of old))
  pub no_fewer : reads host ≤ reads after
  pub items : IsTrue (holds_place place (cache_of old)) → (other : ℕ) → item_at other (cache_of new) ≡ item_at other (cache_of old)
  pub hit : IsTrue (holds_place place (cache_of old)) → (result ≡ Ok true) × (reads after ≡ reads host) × (loads_of new ≡ loads_of old)
  pub miss : holds_place place (cache_of old) ≡ false → IfOk result (λ found. IsTrue found → Rose (reads host) (reads after) × (loads_of new ≡ min (loads_of old + 1) (2 ^ 64 - 1)))
  pub never_damaged : (v : Image) (chunk : List Event) (next p : ℕ) → now host ≡ Some v → chunk_at (view_of (base old)) place (v (base old).file) ≡ Some (chunk, next) → IsErrOf result (fault.Damaged p) → ⊥

-- A spot at whose place no growth stands was made ready for a look: it has its number still, and over a sound reservoir it is in its later spelling.
pub record HasSought {H : Type 0} (now : H → Option Image) (may : H → Image → Type 0) (result : Result Unit ReservoirFault) (old new : Reservoir) (host : H) (spot then : Spot) : Type 0 where
  pub legal : (v : Image) → now host ≡ Some v → IsCached (view_of (base old)) (v (base old).file) (cache_of old) → spot.number < (base old).committed → OnOk result (IsLegalLook (base old) (v (base old).file) spot)
  pub reached : (v : Image) → now host ≡ Some v → IsCached (view_of (base old)) (v (base old).file) (cache_of old) → IsWhole (base old) (v (base old).file) ⊎ IsBehind (base old) (v (base old).file) spot → OnOk result (IsWhole (base old) (v (base old).file) ⊎ HoldsEvent (base old) (v (base old).file) (cache_of new) then)
  pub number : then.number ≡ spot.number
  pub placed : OnOk result ((base old).committed ≤ then.number → then.number ≡ (base old).committed + then.index)
  pub spelled : IsSound (now host) (may host) old → SpellsSettled (now host) (base old) (opened old) spot → SpellsSettled (now host) (base old) (opened old) then
  pub finds : IsSound (now host) (may host) old → SpellsSettled (now host) (base old) (opened old) spot → OnOk result (Found (now host) (base old) (opened old) (cache_of new) then spot.number)

-- What a look at a spot touches and loads, before it answers.
pub record SeekLoads {H : Type 0} (now : H → Option Image) (may : H → Image → Type 0) (reads : H → ℕ) (result : Result Unit ReservoirFault) (old new : Reservoir) (host after : H) (spot : Spot) : Type 0 where
  pub touched : (v : Image) → now host ≡ Some v → IsCached (view_of (base old)) (v (base old).file) (cache_of old) → IsTouched (look_places (base old) (v (base old).file) spot) (cache_of old) (loads_of old) (reads host) (cache_of new) (loads_of new) (reads after)
  pub all_touched : IsSound (now host) (may host) old → SpellsSettled (now host) (base old) (opened old) spot → OnOk result (ForSome (now host) (λ v. places (cache_of new) ≡ held_after (cache_of old) (look_places (base old) (v (base old).file) spot)))
  pub loaded : IsSound (now host) (may host) old → SpellsSettled (now host) (base old) (opened old) spot → OnOk result (ForSome (now host) (λ v. AllTouched (look_places (base old) (v (base old).file) spot) (cache_of old) (loads_of old) (reads host) (cache_of new) (loads_of new) (reads after)))

-- A look at a spot whose chunks are held loads and reads nothing, and can't fail; one of the open chunk changes nothing.
pub record SeekHeld {H : Type 0} (reads : H → ℕ) (Succeeds : Type 0) (old new : Reservoir) (host after : H) (spot : Spot) : Type 0 where
  pub untouched : (base old).ended ≡ false → (base old).committed ≤ spot.number → Succeeds × (new ≡ old) × (after ≡ host)
  pub hit : (base old).ended ≡ false → spot.number < (base old).committed → IsTrue (holds_place spot.place (cache_of old)) → next_in (item_at spot.place (cache_of old)) spot.index ≡ None → Succeeds × (loads_of new ≡ loads_of old) × (reads after ≡ reads host)
  pub hit_next : (next : ℕ) → (base old).ended ≡ false → spot.number < (base old).committed → IsTrue (holds_place spot.place (cache_of old)) → next_in (item_at spot.place (cache_of old)) spot.index ≡ Some next → IsTrue (holds_place next (cache_of old)) → Succeeds × (loads_of new ≡ loads_of old) × (reads after ≡ reads host)

-- why a look was refused before it answers: the reservoir has ended, or a load stopped; over a sound reservoir no place is damaged
pub record IsSeekStop {H : Type 0} (now : H → Option Image) (may : H → Image → Type 0) (disk_faults : H → ℕ) (result : Result Unit ReservoirFault) (old : Reservoir) (host after : H) (spot : Spot) : Type 0 where
  pub ended : IsErrOf result fault.Ended ↔ ((base old).ended ≡ true)
  pub faults : IfErr result (λ e. (e ≡ fault.Disk) ⊎ (e ≡ fault.Memory) ⊎ ((p : ℕ) × (e ≡ fault.Damaged p)) ⊎ (e ≡ fault.Ended))
  pub damaged : (p : ℕ) → IsErrOf result (fault.Damaged p) → ForSome (now host) (λ v. IsIllegalBy (view_of (base old)) p (v (base old).file))
  pub never_damaged : (p : ℕ) → IsSound (now host) (may host) old → SpellsSettled (now host) (base old) (opened old) spot → IsErrOf result (fault.Damaged p) → ⊥
  pub disk : IsErrOf result fault.Disk → Rose (disk_faults host) (disk_faults after)
