-- What holds of a sound reservoir that hasn't ended.
use Rattle.std.proofs.Common.{◌≡◌, ℕ, ◌<◌, ◌≤◌, ◌+◌, false, List, [], ◌∷◌, ◌++◌, length, Option, Some, sym, ◌∙◌, ap, subst, arith}
use Rattle.std.specs.Prelude.{All}
use Rattle.std.proofs.lemmas.List.{append-nil}
use Rattle.std.proofs.lemmas.List.Elements.{All-append, All-from_recursion}
use Rattle.std.specs.Option.{ForSome}
use Rattle.rg_host.specs.Image.{Image, NothingPending}
use Rattle.rg_event.specs.Codec.{IsEventOf}
use Rattle.rg_event.specs.Rising.{IsRising, MayFollow, next_offset, last_time}
use Rattle.rg_event.specs.declared.event.Event.{Event}
use Rattle.rg_frame.specs.LogState.{Reaches, ReachesEnd}
use Rattle.rg_event.specs.Shapes.{Shape}
use Rattle.rg_log.specs.Log.{joined, HasEvents, IsInForce}
use Rattle.rg_log.proofs.Laws.{events_of_schema}
use Rattle.rg_reservoir.specs.Kept.{Base, base, opened, log_of, cache_of, next_of, time_of, stored, all_events, IsSound, IsRight}
use Rattle.rg_reservoir.specs.GoingLaws.{all_long}
use Rattle.rg_reservoir.specs.declared.reservoir.Reservoir.{Reservoir}
use Rattle.rg_reservoir.proofs.Laws.{stored_is}
use Rattle.rg_past.specs.declared.past.Spot.{Spot}
use Rattle.rg_window.specs.Placed.{AreWithin}
use Rattle.rg_recover.specs.Sessions.{count_in}

-- A value that is told.
pub for_some : {A : Type 0} (now : Option A) (v : A) (P : A → Type 0) → now ≡ Some v → P v → ForSome now P
for_some {A = A} now v P told here = λ w also. subst P (let e : ◌≡◌ {A = Option A} (Some v) (Some w) = sym told ∙ also in cc) here

module _ (now : Option Image) (may : Image → Type 0) (r : Reservoir) (sound : IsSound now may r) (going : (base r).ended ≡ false) where
  right : IsRight sound.0 may (base r) (opened r) (next_of r) (time_of r) (cache_of r)
  right = sound.2.right going

  -- all events are of the schema's columns
  pub all_fit : All (IsEventOf (base r).shape.fields) (all_events now (base r) (opened r))
  all_fit =
      let of : All (IsEventOf (base r).shape.fields) (joined right.chunks) = events_of_schema (base r).shape (joined right.chunks) (sound.0 (base r).file) right.legal in
      let is : stored now (base r) ≡ joined right.chunks = ap (λ (o : Option Image). stored o (base r)) sound.1 ∙ stored_is sound.0 may (base r) (opened r) (next_of r) (time_of r) (cache_of r) right in
      All-append (IsEventOf (base r).shape.fields) (stored now (base r)) (opened r) (subst (λ (l : List Event). All (IsEventOf (base r).shape.fields) l) (sym is) of) (All-from_recursion (IsEventOf (base r).shape.fields) (opened r) right.fits)

  pub all_rise : IsRising (all_events now (base r) (opened r))
  all_rise = subst (λ (o : Option Image). IsRising (all_events o (base r) (opened r))) (sym sound.1) right.rising

  pub next_is : next_of r ≡ next_offset (all_events now (base r) (opened r))
  next_is = subst (λ (o : Option Image). next_of r ≡ next_offset (all_events o (base r) (opened r))) (sym sound.1) right.next_is

  pub time_is : time_of r ≡ last_time (all_events now (base r) (opened r))
  time_is = subst (λ (o : Option Image). time_of r ≡ last_time (all_events o (base r) (opened r))) (sym sound.1) right.time_is

  -- nothing of the log is pending
  pub log_settled : (file : ℕ) → (base r).file ≡ file → NothingPending file now may
  log_settled file is = for_some now sound.0 (λ (v : Image). (u : Image) → may u → u file ≡ v file) sound.1 (λ u left. subst (λ (f : ℕ). u f ≡ sound.0 f) is (right.settled u left))

  -- the log of each image that might be left: the schema's frame, and just the stored events
  module _ (shape : Shape) (shape_is : (base r).shape ≡ shape) (file : (base r).file ≡ 2) (u : Image) (left : may u) where
    log_same : u 2 ≡ sound.0 2
    log_same = subst (λ (f : ℕ). u f ≡ sound.0 f) file (right.settled u left)

    pub log_framed : IsInForce shape (u 2)
    log_framed = subst (λ (bytes : List ℕ). IsInForce shape bytes) (sym log_same) (subst (λ (s : Shape). IsInForce s (sound.0 2)) shape_is (subst (λ (f : ℕ). IsInForce (base r).shape (sound.0 f)) file right.framed))

    pub log_stored : HasEvents shape (stored now (base r)) (u 2)
    log_stored =
        let is : stored now (base r) ≡ joined right.chunks = ap (λ (o : Option Image). stored o (base r)) sound.1 ∙ stored_is sound.0 may (base r) (opened r) (next_of r) (time_of r) (cache_of r) right in
        let has : HasEvents (base r).shape (stored now (base r)) (sound.0 (base r).file) = subst (λ (l : List Event). HasEvents (base r).shape l (sound.0 (base r).file)) (sym is) right.legal in
        subst (λ (bytes : List ℕ). HasEvents shape (stored now (base r)) bytes) (sym log_same) (subst (λ (s : Shape). HasEvents s (stored now (base r)) (sound.0 2)) shape_is (subst (λ (f : ℕ). HasEvents (base r).shape (stored now (base r)) (sound.0 f)) file has))

  -- an event may follow that has no lesser offset than the next one, and no lesser time than the last one
  pub may_follow : (event : Event) → next_of r ≤ event.offset → (0 < count_in r → time_of r ≤ event.time) → MayFollow (all_events now (base r) (opened r)) event
  may_follow event next time = record {
    offset = omega (arith, next, next_is);
    time = by (all_events now (base r) (opened r)) (all_long now (base r) (opened r)) time_is;
  }
    where
      by : (events : List Event) → length events ≡ (base r).committed + length (opened r) → time_of r ≡ last_time events → last_time events ≤ event.time
      by [] long is = omega arith
      by (x ∷ events) long is = omega (arith, is, time (omega (arith, long)))

-- how many events there are
pub long : (now : Option Image) (r : Reservoir) → length (all_events now (base r) (opened r)) ≡ count_in r
long now r = all_long now (base r) (opened r)

-- a log that stays reaches its end as before
pub reaches_still : (now then : Option Image) (r s : Reservoir) → then ≡ now → base s ≡ base r → ReachesEnd (log_of r) now → ReachesEnd (log_of s) then
reaches_still now then r s told same reaches ended v is =
    let bases : base r ≡ base s = sym same in
    subst (λ (b : Base). Reaches b.end (v b.file)) bases (reaches (r.same ∙ ap (λ (b : Base). b.ended) bases ∙ sym s.same ∙ ended) v (sym told ∙ is))

-- where the open chunk is empty, all events are stored
pub all_stored : (now : Option Image) (b : Base) (events : List Event) (chunk : List Event) → chunk ≡ [] → all_events now b chunk ≡ events → stored now b ≡ events
all_stored now b events chunk empty same = sym (append-nil (stored now b)) ∙ ap (λ (l : List Event). stored now b ++ l) (sym empty) ∙ same

-- spots within the count, by the events and back
pub within_events : (now : Option Image) (r : Reservoir) (spots : List Spot) → AreWithin spots (count_in r) → AreWithin spots (length (all_events now (base r) (opened r)))
within_events now r spots within = subst (AreWithin spots) (sym (long now r)) within

pub within_count : (now : Option Image) (r : Reservoir) (spots : List Spot) → AreWithin spots (length (all_events now (base r) (opened r))) → AreWithin spots (count_in r)
within_count now r spots within = subst (AreWithin spots) (long now r) within

-- what holds of two values holds of the same ones
pub moved : {A B : Type 0} (P : A → B → Type 0) (a then : A) (b after : B) → then ≡ a → after ≡ b → P a b → P then after
moved P a then b after first second here = subst (λ x. P x after) (sym first) (subst (λ y. P a y) (sym second) here)
