-- What stays of a reservoir where another file than its log is written.
use Rattle.std.proofs.Common.{◌≡◌, ◌⊎◌, ◌≤◌, ℕ, List, ◌∷◌, ◌++◌, Option, Some, sym, ◌∙◌, ap, subst}
use Rattle.rg_host.specs.Image.{Image}
use Rattle.rg_event.specs.Rising.{IsRising, next_offset, last_time}
use Rattle.rg_event.specs.declared.event.Event.{Event}
use Rattle.rg_past.specs.declared.past.Spot.{Spot}
use Rattle.rg_frame.specs.Frames.{HasPayloads}
use Rattle.rg_frame.specs.Looks.{IsClosed}
use Rattle.rg_cache.specs.Cache.{Cache}
use Rattle.rg_log.specs.Log.{schema_payload, joined, HasEvents, IsInForce}
use Rattle.rg_log.specs.Stages.{Stage}
use Rattle.rg_reservoir.specs.declared.kept.Kept.{Kept}
use Rattle.rg_reservoir.specs.Chain.{Chain, events_from, padded}
use Rattle.rg_reservoir.specs.GrownViews.{IsViewOf}
use Rattle.rg_reservoir.specs.Kept.{Base, base, view_of, opened, cache_of, next_of, time_of, stored, all_events, settled, IsCached, IsPrefix, IsRight, IsSoundIn, IsSound, Spells, SpellsSettled, InChunk, InOpen}
use Rattle.rg_reservoir.specs.Views.{View}
use Rattle.rg_reservoir.specs.declared.reservoir.Reservoir.{Reservoir}
use Rattle.rg_recover.specs.Stepping.{LogStays}

-- a log's view is that of the same bytes
abbrev view_beside : (view : View) (stages : List Stage) (old new : List ℕ) → new ≡ old → IsViewOf view stages old → IsViewOf view stages new
view_beside view stages old new same is = record {
  begun = is.begun;
  legal = is.legal;
  payloads = is.payloads;
  has = subst (λ (bytes : List ℕ). HasPayloads (schema_payload is.begun ∷ is.payloads) bytes) (sym same) is.has;
  are = is.are;
  is = is.is;
}

module _ (v w : Image) (b : Base) (opened : List Event) (same : w b.file ≡ v b.file) where
  pub stored_same : stored (Some w) b ≡ stored (Some v) b
  stored_same = ap (λ (bytes : List ℕ). padded b.committed (events_from (view_of b) b.committed b.first bytes)) same

  pub all_same : all_events (Some w) b opened ≡ all_events (Some v) b opened
  all_same = ap (λ (l : List Event). l ++ opened) stored_same

  module _ (may after : Image → Type 0) (next time : ℕ) (cache : Cache Kept) where
    right_beside : ((u : Image) → after u → (x : Image) × may x × (u b.file ≡ x b.file)) → IsRight v may b opened next time cache → IsRight w after b opened next time cache
    right_beside left is = record {
      settled = λ u one. let x = left u one in x.2 ∙ is.settled x.0 x.1 ∙ sym same;
      stages = is.stages;
      view = view_beside (view_of b) is.stages (v b.file) (w b.file) same is.view;
      first_is = is.first_is;
      chunks = is.chunks;
      chain = subst (λ (bytes : List ℕ). Chain (view_of b) bytes b.first is.chunks b.end) (sym same) is.chain;
      ends = subst (λ (bytes : List ℕ). IsClosed b.end bytes) (sym same) is.ends;
      payloads = is.payloads;
      has = subst (λ (bytes : List ℕ). HasPayloads is.payloads bytes) (sym same) is.has;
      end_is = is.end_is;
      legal = subst (λ (bytes : List ℕ). HasEvents b.shape (joined is.chunks) bytes) (sym same) is.legal;
      framed = subst (λ (bytes : List ℕ). IsInForce b.shape bytes) (sym same) is.framed;
      counted = is.counted;
      cached = subst (λ (bytes : List ℕ). IsCached (view_of b) bytes cache) (sym same) is.cached;
      inside = is.inside;
      rising = subst (λ (l : List Event). IsRising l) (sym all_same) is.rising;
      next_is = is.next_is ∙ ap next_offset (sym all_same);
      time_is = is.time_is ∙ ap last_time (sym all_same);
      fits = is.fits;
      few = is.few;
    }

    pub sound_in_beside : ((u : Image) → after u → (x : Image) × may x × (u b.file ≡ x b.file)) → IsSoundIn v may b opened next time cache → IsSoundIn w after b opened next time cache
    sound_in_beside left is = record {
      each = λ u one.
          let x = left u one in
          let was = is.each x.0 x.1 in (
            was.0,
            subst (λ (bytes : List ℕ). HasEvents b.shape was.0 bytes) (sym x.2) was.1,
            subst (λ (bytes : List ℕ). IsInForce b.shape bytes) (sym x.2) was.2,
            subst (λ (l : List Event). IsPrefix l was.0) (sym stored_same) was.3,
            subst (λ (l : List Event). IsPrefix was.0 l) (sym all_same) was.4,
          );
      right = λ going. right_beside left (is.right going);
    }

module _ (now then : Option Image) (may after : Image → Type 0) (r : Reservoir) (file : (base r).file ≡ 2) (stays : LogStays now then may after) where
  at_log : (u x : Image) → u 2 ≡ x 2 → u (base r).file ≡ x (base r).file
  at_log u x same = subst (λ (f : ℕ). u f ≡ x f) (sym file) same

  left_at : (u : Image) → after u → (x : Image) × may x × (u (base r).file ≡ x (base r).file)
  left_at u one = let x = stays.left u one in (x.0, x.1, at_log u x.0 x.2)

  -- a sound reservoir is sound still
  pub sound_beside : IsSound now may r → IsSound then after r
  sound_beside sound =
      let w = stays.told sound.0 sound.1 in
      (w.0, w.1, sound_in_beside sound.0 w.0 (base r) (opened r) (at_log w.0 sound.0 w.2) may after (next_of r) (time_of r) (cache_of r) left_at sound.2)

  -- its events are the same
  pub events_beside : IsSound now may r → all_events then (base r) (opened r) ≡ all_events now (base r) (opened r)
  events_beside sound =
      let w = stays.told sound.0 sound.1 in
      ap (λ (o : Option Image). all_events o (base r) (opened r)) w.1 ∙ all_same sound.0 w.0 (base r) (opened r) (at_log w.0 sound.0 w.2) ∙ ap (λ (o : Option Image). all_events o (base r) (opened r)) (sym sound.1)

  pub stored_beside : IsSound now may r → stored then (base r) ≡ stored now (base r)
  stored_beside sound =
      let w = stays.told sound.0 sound.1 in
      ap (λ (o : Option Image). stored o (base r)) w.1 ∙ stored_same sound.0 w.0 (base r) (opened r) (at_log w.0 sound.0 w.2) ∙ ap (λ (o : Option Image). stored o (base r)) (sym sound.1)

  settled_beside : (spot : Spot) → SpellsSettled now (base r) (opened r) spot → SpellsSettled then (base r) (opened r) spot
  settled_beside spot is =
      let w = stays.told is.image is.told in
      record {
        image = w.0;
        told = w.1;
        number = is.number;
        at = is.at;
        spelling = subst (λ (bytes : List ℕ). ((spot.number ≤ (base r).committed) × InChunk (base r) bytes spot.place spot.index spot.number) ⊎ InOpen (base r) spot.place spot.index spot.number) (sym (at_log w.0 is.image w.2)) is.spelling;
      }

  -- and what it spells
  pub spells_beside : (spot : Spot) → Spells now (base r) (opened r) spot → Spells then (base r) (opened r) spot
  spells_beside spot is = record { there = settled_beside (settled (base r) spot) is.there; at = is.at }
