-- How far a walk over a log has come, and the events that it has passed.
use Rattle.std.proofs.Common.{◌≡◌, ◌∙◌, ℕ, Bool, true, false, List, [], ◌∷◌, ◌++◌, Some, None, refl, sym, ap}
use Rattle.std.proofs.lemmas.List.{append-nil}
use Rattle.rg_event.specs.declared.event.Event.{Event}
use Rattle.rg_chunk.specs.Extended.{all_extended}
use Rattle.rg_frame.specs.Looks.{IsClosed}
use Rattle.rg_log.specs.Entries.{nothing}
use Rattle.rg_log.proofs.Laws.{extended-none}
use Rattle.rg_reservoir.specs.Walked.{place_of, schema_of as known_of, tally_of, IsNext, IsRefusedWalk}
use Rattle.rg_reservoir.specs.declared.walk.Stage.{Stage}
use Rattle.rg_reservoir.specs.declared.walk.Stage.TheVariants as stage
use Rattle.rg_reservoir.specs.declared.walk.Walk.{Walk}
use Rattle.rg_dump.specs.Behind.{stage_events, stage_values, events_in}
use Rattle.rg_dump.specs.Dump.{damage_of}
use Rattle.rg_dump.proofs.Laws.{events_push, IsAt, at_start, at_next, at_end, at_damage}
use Rattle.rg_verify.specs.Payments.{events_after, has_frames, IsReadAll}

-- a frame more, by cases
after_is : (events : List Event) (s : Stage) → all_extended (stage_values s) events ++ stage_events s ≡ events_after events s
after_is events (stage.Schema shape) = append-nil (all_extended [] events) ∙ extended-none events
after_is events (stage.Chunk chunk) = ap (λ (l : List Event). l ++ chunk) (extended-none events)
after_is events (stage.Growth shape values) = append-nil (all_extended values events)

has_frames-push : (stages : List Stage) (s : Stage) → has_frames (stages ++ s ∷ []) ≡ true
has_frames-push [] s = refl
has_frames-push (first ∷ stages) s = refl

-- the walk has passed these frames, which have these events
pub record IsRead (bytes : List ℕ) (walk : Walk) (events : List Event) (framed : Bool) : Type 0 where
  pub stages : List Stage
  pub at : IsAt bytes walk stages
  pub events_are : events ≡ events_in stages
  pub framed_is : framed ≡ has_frames stages

pub read_start : (bytes : List ℕ) (walk : Walk) (events : List Event) → place_of walk ≡ 0 → known_of walk ≡ None → tally_of walk ≡ nothing → events ≡ [] → IsRead bytes walk events false
read_start bytes walk events place schema tally none = record { stages = []; at = at_start bytes walk place schema tally; events_are = none; framed_is = refl }

pub read_next : (bytes : List ℕ) (old new : Walk) (events more : List Event) (framed : Bool) (s : Stage) → IsRead bytes old events framed → IsNext bytes old s new → more ≡ events_after events s → IsRead bytes new more true
read_next bytes old new events more framed s so_far next is = record {
  stages = so_far.stages ++ s ∷ [];
  at = at_next bytes s old new so_far.stages so_far.at next;
  events_are = is ∙ ap (λ (l : List Event). events_after l s) so_far.events_are ∙ sym (events_push so_far.stages s ∙ after_is (events_in so_far.stages) s);
  framed_is = sym (has_frames-push so_far.stages s);
}

-- all of the log
pub read_end : (bytes : List ℕ) (walk : Walk) (events : List Event) (framed : Bool) → IsRead bytes walk events framed → IsClosed (place_of walk) bytes → IsReadAll bytes events framed
read_end bytes walk events framed so_far closed =
    let e = at_end bytes walk so_far.stages so_far.at closed in
    record {
      events_are = so_far.events_are ∙ ap events_in (sym e.0);
      framed_is = so_far.framed_is ∙ ap has_frames (sym e.0);
      undamaged = e.1;
    }

pub read_damage : (bytes : List ℕ) (walk : Walk) (events : List Event) (framed : Bool) → IsRead bytes walk events framed → IsRefusedWalk bytes walk → damage_of bytes ≡ Some (place_of walk)
read_damage bytes walk events framed so_far refused = (at_damage bytes walk so_far.stages so_far.at refused).1
