-- A replay at its start, and what holds of the reservoir below it.
use Rattle.std.proofs.Common.{◌≡◌, ◌∙◌, ◌≤◌, ℕ, zero, suc, false, List, [], length, All, Option, Some, None, replicate, slice_index_or, get_or, refl, sym, ap, subst, arith}
use Rattle.std.proofs.lemmas.List.Elements.{All-append, All-from_recursion, All-replicate}
use Rattle.std.proofs.lemmas.List.{length-replicate}
use Rattle.rg_event.specs.Codec.{IsEventOf}
use Rattle.rg_event.specs.Rising.{next_offset}
use Rattle.rg_event.specs.declared.event.Event.{Event}
use Rattle.rg_host.specs.Image.{Image, SameOutcomes}
use Rattle.rg_log.specs.Log.{joined}
use Rattle.rg_metric.specs.Queries.{Asked}
use Rattle.rg_past.specs.declared.past.Spot.{Spot}
use Rattle.rg_plan.specs.Named.{Node, node_at}
use Rattle.rg_plan.specs.Plans.{Tasks}
use Rattle.rg_state.specs.Rows.{Cells}
use Rattle.rg_window.specs.Placed.{AreWithin, numbers_of}
use Rattle.rg_engine.specs.Feeding.{IsFed}
use Rattle.rg_engine.specs.Seen.{Seen}
use Rattle.rg_engine.specs.Standing.{RowIs, NodeStands}
use Rattle.rg_reservoir.specs.Kept.{base, opened, next_of, time_of, cache_of, stored, all_events, IsSound, IsRight, Spells}
use Rattle.rg_log.proofs.Laws.{events_of_schema}
use Rattle.rg_reservoir.specs.GoingLaws.{all_long}
use Rattle.rg_reservoir.specs.declared.reservoir.Reservoir.{Reservoir}
use Rattle.rg_reservoir.proofs.Laws.{stored_is, sound_stays}
use Rattle.rg_replay.specs.Playing.{count_in, IsPlaced, IsPlaying, HasBegun, IsReadFor, start_of}

-- of no events there is no row
no_row : (o : Option Node) (key : List ℕ) → RowIs o key 0 [] None
no_row None key = refl
no_row (Some node) key = refl

-- each edge at the start is at its position among none
zero_at : (n : ℕ) (spot : Spot) (edge : ℕ) → spot.number ≡ 0 → slice_index_or (numbers_of (replicate n spot)) edge 0 ≡ 0
zero_at zero spot edge is = refl
zero_at (suc n) spot zero is = is
zero_at (suc n) spot (suc edge) is = zero_at n spot edge is

-- a node stands for no events
pub nothing_stands : (plan : Tasks) (n count : ℕ) (cells : Cells) (spot : Spot) → ((node : ℕ) (key : List ℕ) → cells node key ≡ None) → spot.number ≡ 0 → NodeStands plan n [] cells (numbers_of (replicate count spot))
nothing_stands plan n count cells spot none is = record {
  rows = λ key. subst (λ row. RowIs (node_at plan n) key 0 [] row) (sym (none n key)) (no_row (node_at plan n) key);
  places = λ edge offset there has. zero_at count spot edge is;
}

module _ (now : Option Image) (may : Image → Type 0) (r : Reservoir) (sound : IsSound now may r) (going : (base r).ended ≡ false) where
  right : IsRight sound.0 may (base r) (opened r) (next_of r) (time_of r) (cache_of r)
  right = sound.2.right going

  -- all events are of the schema's columns
  pub all_fit : All (IsEventOf (base r).shape.fields) (all_events now (base r) (opened r))
  all_fit =
      let of : All (IsEventOf (base r).shape.fields) (joined right.chunks) = events_of_schema (base r).shape (joined right.chunks) (sound.0 (base r).file) right.legal in
      let is : stored now (base r) ≡ joined right.chunks = ap (λ (o : Option Image). stored o (base r)) sound.1 ∙ stored_is sound.0 may (base r) (opened r) (next_of r) (time_of r) (cache_of r) right in
      All-append (IsEventOf (base r).shape.fields) (stored now (base r)) (opened r) (subst (λ (l : List Event). All (IsEventOf (base r).shape.fields) l) (sym is) of) (All-from_recursion (IsEventOf (base r).shape.fields) (opened r) right.fits)

  pub next_is : next_of r ≡ next_offset (all_events now (base r) (opened r))
  next_is = subst (λ (o : Option Image). next_of r ≡ next_offset (all_events o (base r) (opened r))) (sym sound.1) right.next_is

-- how many events there are
pub long : (now : Option Image) (r : Reservoir) → length (all_events now (base r) (opened r)) ≡ count_in r
long now r = all_long now (base r) (opened r)

-- an engine that has begun is placed at the start
pub placed_at_start : {T : Type 0} (r : Reservoir) (plan : Tasks) (is_told : Type 0) (cells : Cells) (engine : Seen T) → (base r).ended ≡ false → HasBegun plan (start_of (base r)) is_told cells engine → IsPlaced r engine (start_of (base r))
placed_at_start r plan is_told cells engine runs begun = record {
  number = omega arith;
  within = subst (λ spots. AreWithin spots 0) (sym begun.spots) (All-replicate (λ (s : Spot). s.number ≤ 0) (length plan.offsets) (start_of (base r)) (omega arith));
  going = begun.going;
  runs = runs;
}

-- and stands for no events yet
pub playing_at_start : {T : Type 0} (queries : List Asked) (events : List Event) (plan : Tasks) (now : Option Image) (may : Image → Type 0) (r : Reservoir) (is_told : Type 0) (cells : Cells) (engine : Seen T) → IsReadFor queries events plan now may r → Spells now (base r) (opened r) (start_of (base r))
    → HasBegun plan (start_of (base r)) is_told cells engine → IsPlaying queries events now may is_told cells r engine (start_of (base r))
playing_at_start queries events plan now may r is_told cells engine for spelled begun = record {
  list = for.read.list;
  on = record {
    plan_is = begun.plan_is ∙ for.made;
    sound = for.read.sound;
    at = spelled;
    told = begun.told;
    small = omega (arith, ap length for.read.list, long now r, r.few);
    fed = subst (λ p. IsFed p events) (sym begun.plan_is) (record { fields = (base r).shape.fields; serves = for.serves; are = subst (All (IsEventOf (base r).shape.fields)) for.read.list (all_fit now may r for.read.sound for.read.runs) });
    many = ap length begun.spots ∙ length-replicate (length plan.offsets) (start_of (base r)) ∙ ap (λ (p : Tasks). length p.offsets) (sym begun.plan_is);
    spelled = subst (All (λ s. Spells now (base r) (opened r) s)) (sym begun.spots) (All-replicate (λ s. Spells now (base r) (opened r) s) (length plan.offsets) (start_of (base r)) spelled);
    stands = λ n. subst (λ p. NodeStands p n [] cells (numbers_of engine.spots)) (sym begun.plan_is) (subst (λ spots. NodeStands plan n [] cells (numbers_of spots)) (sym begun.spots) (nothing_stands plan n (length plan.offsets) cells (start_of (base r)) begun.none refl));
  };
}

-- a host that nothing was written on: what is sound is so still
pub sound_still : (now then : Option Image) (may after : Image → Type 0) (r : Reservoir) → then ≡ now → SameOutcomes may after → IsSound now may r → IsSound then after r
sound_still now then may after r same outcomes sound = sound_stays now then may after r r same outcomes (record { base = refl; opened = refl; room = refl; next = refl; time = refl; log = refl; cap = refl }) (λ v told cached. cached) (λ inside. inside) sound

pub spelled_still : (now then : Option Image) (r : Reservoir) (spot : Spot) → then ≡ now → Spells now (base r) (opened r) spot → Spells then (base r) (opened r) spot
spelled_still now then r spot same spells = subst (λ (o : Option Image). Spells o (base r) (opened r) spot) (sym same) spells

-- and the replay goes on as before
pub playing_still : {T : Type 0} (queries : List Asked) (events : List Event) (now then : Option Image) (may after : Image → Type 0) (is_told : Type 0) (cells : Cells) (r : Reservoir) (engine : Seen T) (spot : Spot) → then ≡ now → SameOutcomes may after
    → IsPlaying queries events now may is_told cells r engine spot → IsPlaying queries events then after is_told cells r engine spot
playing_still queries events now then may after is_told cells r engine spot same outcomes is = record {
  list = ap (λ (o : Option Image). all_events o (base r) (opened r)) same ∙ is.list;
  on = record {
    plan_is = is.on.plan_is;
    sound = sound_still now then may after r same outcomes is.on.sound;
    at = spelled_still now then r spot same is.on.at;
    told = is.on.told;
    small = is.on.small;
    fed = is.on.fed;
    many = is.on.many;
    spelled = λ k d below. spelled_still now then r (get_or engine.spots k d) same (is.on.spelled k d below);
    stands = is.on.stands;
  };
}
