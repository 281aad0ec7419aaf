-- How far a summary has come.
use Rattle.std.proofs.Common.{◌≡◌, ◌∙◌, ℕ, ◌+◌, ◌^◌, ◌≤◌, ◌<◌, nat_le, nat_lt, ◌&&◌, Bool, true, false, List, [], ◌∷◌, ◌++◌, length, Some, None, if◌then◌else◌, refl, sym, ap, arith, length-append}
use Rattle.std.proofs.lemmas.List.{append-nil}
use Rattle.std.proofs.lemmas.Bool.{and_parts, leb-true, ltb-true}
use Rattle.rg_event.specs.declared.event.Event.{Event}
use Rattle.rg_event.specs.declared.value.Value.{Value}
use Rattle.rg_frame.specs.Looks.{IsClosed}
use Rattle.rg_chunk.specs.Extended.{all_extended}
use Rattle.rg_chunk.specs.Heads.{head_for, last_stamp}
use Rattle.rg_chunk.specs.declared.head.ChunkHead.{ChunkHead}
use Rattle.rg_chunk.proofs.Laws.{chunk_head}
use Rattle.rg_log.specs.Entries.{nothing, may_follow, added, told_by}
use Rattle.rg_reservoir.specs.Walked.{place_of, so_far_of, schema_of as known_of, tally_of, IsNext, IsRefusedWalk}
use Rattle.rg_log.specs.declared.summary.LogSummary.{LogSummary}
use Rattle.rg_reservoir.specs.declared.walk.Stage.{Stage}
use Rattle.rg_reservoir.specs.declared.walk.Stage.TheVariants as stage
use Rattle.rg_reservoir.specs.declared.walk.Walk.{Walk}
use Rattle.rg_reservoir.specs.declared.fault.ReservoirFault.{ReservoirFault}
use Rattle.rg_reservoir.specs.declared.fault.ReservoirFault.TheVariants as walk
use Rattle.rg_log.proofs.Laws.{chunk_size, extended-none, length-extended, next-extended, time-extended}
use Rattle.rg_reservoir.proofs.Laws.{took_none, took_chunk}
use Rattle.rg_dump.specs.Behind.{stage_values, stage_events, events_in}
use Rattle.rg_dump.specs.Dump.{damage_of}
use Rattle.rg_dump.proofs.Laws.{events_push, IsAt, at_start, at_next, at_end, at_damage}
use Rattle.rg_info.specs.Faults.{of_walk}
use Rattle.rg_info.specs.declared.fault.InfoFault.TheVariants as info
use Rattle.rg_info.specs.Summary.{summary_with, summary_of, summary_in, with_stage}
use Rattle.rg_info.specs.declared.summary.Summary.{Summary}
use Rattle.rg_info.proofs.Lasts.{next_more, time_more}

-- what is so of a chunk that continues those before it
record Follows (t m : LogSummary) (h : ChunkHead) : Type 0 where
  is : m ≡ added t h
  offset : h.last_offset < 2 ^ 62
  few : t.count + h.count ≤ 2 ^ 40

follows_in : (t : LogSummary) (h : ChunkHead) → may_follow t h ≡ true → (h.last_offset < 2 ^ 62) × (t.count + h.count ≤ 2 ^ 40)
follows_in t h s =
    let a = and_parts (nat_le t.next h.first_offset && nat_le h.first_offset h.last_offset && nat_lt h.last_offset 4611686018427387904 && nat_le t.time h.first_time && nat_le h.first_time h.last_time) (nat_le (t.count + h.count) 1099511627776) s in
    let b = and_parts (nat_le t.next h.first_offset && nat_le h.first_offset h.last_offset && nat_lt h.last_offset 4611686018427387904 && nat_le t.time h.first_time) (nat_le h.first_time h.last_time) a.0 in
    let c = and_parts (nat_le t.next h.first_offset && nat_le h.first_offset h.last_offset && nat_lt h.last_offset 4611686018427387904) (nat_le t.time h.first_time) b.0 in
    let d = and_parts (nat_le t.next h.first_offset && nat_le h.first_offset h.last_offset) (nat_lt h.last_offset 4611686018427387904) c.0 in
    (omega (arith, ltb-true h.last_offset 4611686018427387904 d.1), omega (arith, leb-true (t.count + h.count) 1099511627776 a.1))

follows_told : (t m : LogSummary) (h : ChunkHead) → told_by t (Some h) ≡ Some m → Follows t m h
follows_told t m h e = by (may_follow t h) refl
  where
    by : (b : Bool) → may_follow t h ≡ b → Follows t m h
    by true s =
        let f : Some (added t h) ≡ Some m = sym (ap (λ (b : Bool). if b then Some (added t h) else None) s) ∙ e in
        record { is = cc; offset = (follows_in t h s).0; few = (follows_in t h s).1 }
    by false s = let f : None ≡ Some m = sym (ap (λ (b : Bool). if b then Some (added t h) else None) s) ∙ e in absurd cc

-- the walk has passed these frames, and this is their summary
pub record IsSummed (bytes : List ℕ) (walk : Walk) (summary : Summary) : Type 0 where
  pub stages : List Stage
  pub at : IsAt bytes walk stages
  pub is : summary ≡ summary_of stages
  pub count : (tally_of walk).count ≡ length (events_in stages)

pub summed_start : (bytes : List ℕ) (walk : Walk) (summary : Summary) → place_of walk ≡ 0 → known_of walk ≡ None → tally_of walk ≡ nothing → summary ≡ summary_of [] → IsSummed bytes walk summary
summed_start bytes walk summary place schema tally is = record { stages = []; at = at_start bytes walk place schema tally; is = is; count = ap (λ (t : LogSummary). t.count) tally }

same_summary : (a b : Summary) → a.frames ≡ b.frames → a.events ≡ b.events → a.next ≡ b.next → a.time ≡ b.time → a ≡ b
same_summary a b frames events next time =
    ap (λ (n : ℕ). record { frames = n; events = a.events; next = a.next; time = a.time }) frames
    ∙ ap (λ (n : ℕ). record { frames = b.frames; events = n; next = a.next; time = a.time }) events
    ∙ ap (λ (n : ℕ). record { frames = b.frames; events = b.events; next = n; time = a.time }) next
    ∙ ap (λ (n : ℕ). record { frames = b.frames; events = b.events; next = b.next; time = n }) time

-- a chunk behind events
chunk_summary : (frames : ℕ) (front c : List Event) → 1 ≤ length c → length front + length c ≤ 2 ^ 40 → (last_stamp c).0 < 2 ^ 62 → with_stage (summary_with frames front) (stage.Chunk c) ≡ summary_with (frames + 1) (front ++ c)
chunk_summary frames front c some few offset =
    same_summary _ _ refl (omega (arith, few, length-append front c)) (omega (arith, offset, next_more front c some)) (sym (time_more front c some))

-- further values change no summary
extended_summary : (frames : ℕ) (values : List Value) (events : List Event) → summary_with frames (all_extended values events) ≡ summary_with frames events
extended_summary frames values events = same_summary _ _ refl (length-extended values events) (next-extended values events) (time-extended values events)

module _ (bytes : List ℕ) (old new : Walk) (summary : Summary) (so_far : IsSummed bytes old summary) where
  abbrev front : List Event
  front = events_in so_far.stages

  -- it is the summary of one frame more
  summed_by : (s : Stage) → IsNext bytes old s new → with_stage (summary_of so_far.stages) s ≡ summary_with (length so_far.stages + 1) (events_in (so_far.stages ++ s ∷ [])) → (tally_of new).count ≡ length (events_in (so_far.stages ++ s ∷ []))
      → IsSummed bytes new (with_stage summary s)
  summed_by s next more count = record {
    stages = so_far.stages ++ s ∷ [];
    at = at_next bytes s old new so_far.stages so_far.at next;
    is = ap (λ (a : Summary). with_stage a s) so_far.is ∙ more ∙ ap (λ (n : ℕ). summary_with n (events_in (so_far.stages ++ s ∷ []))) (sym (length-append so_far.stages (s ∷ [])));
    count = count;
  }

  -- of one that has no events
  summed_none : (s : Stage) → IsNext bytes old s new → stage_events s ≡ [] → ((events : List Event) → s ≡ stage.Chunk events → ⊥) → with_stage (summary_of so_far.stages) s ≡ summary_with (length so_far.stages + 1) front → IsSummed bytes new (with_stage summary s)
  summed_none s next empty none with =
      summed_by s next (with ∙ sym (extended_summary (length so_far.stages + 1) (stage_values s) front) ∙ ap (summary_with (length so_far.stages + 1)) (sym events))
      (ap (λ (t : LogSummary). t.count) (took_none next.0 (so_far_of old) (so_far_of new) s none next.2.0) ∙ so_far.count ∙ sym (length-extended (stage_values s) front) ∙ ap length (sym events))
    where
      events : events_in (so_far.stages ++ s ∷ []) ≡ all_extended (stage_values s) front
      events = events_push so_far.stages s ∙ ap (λ (l : List Event). all_extended (stage_values s) front ++ l) empty ∙ append-nil (all_extended (stage_values s) front)

  pub summed_next : (s : Stage) → IsNext bytes old s new → IsSummed bytes new (with_stage summary s)
  summed_next (stage.Schema shape) next = summed_none (stage.Schema shape) next refl (λ events e. (let f : stage.Schema shape ≡ stage.Chunk events = e in cc)) refl
  summed_next (stage.Growth shape values) next = summed_none (stage.Growth shape values) next refl (λ events e. (let f : stage.Growth shape values ≡ stage.Chunk events = e in cc)) refl
  summed_next (stage.Chunk events) next =
      let taken = took_chunk next.0 (so_far_of old) (so_far_of new) events next.2.0 in
      let head = chunk_head taken.shape.fields next.0 events taken.said in
      let f = follows_told (tally_of old) (tally_of new) (head_for events) (sym (ap (told_by (tally_of old)) head) ∙ taken.follows) in
      let some = (chunk_size taken.shape.fields next.0 events taken.said).0 in
      let few : length front + length events ≤ 2 ^ 40 = omega (arith, f.few, so_far.count) in
      let more : events_in (so_far.stages ++ stage.Chunk events ∷ []) ≡ front ++ events = events_push so_far.stages (stage.Chunk events) ∙ ap (λ (l : List Event). l ++ events) (extended-none front) in
      summed_by (stage.Chunk events) next (chunk_summary (length so_far.stages) front events some few f.offset ∙ ap (summary_with (length so_far.stages + 1)) (sym more))
      (ap (λ (t : LogSummary). t.count) f.is ∙ omega (arith, so_far.count, length-append front events) ∙ ap length (sym more))

-- at the end of the log it is that of the file
pub summed_end : (bytes : List ℕ) (walk : Walk) (summary : Summary) → IsSummed bytes walk summary → IsClosed (place_of walk) bytes → (summary ≡ summary_in bytes) × (damage_of bytes ≡ None)
summed_end bytes walk summary so_far closed =
    let e = at_end bytes walk so_far.stages so_far.at closed in
    (so_far.is ∙ ap summary_of (sym e.0), e.1)

-- and at a damaged place it tells nothing
pub summed_damage : (bytes : List ℕ) (walk : Walk) (summary : Summary) → IsSummed bytes walk summary → IsRefusedWalk bytes walk → damage_of bytes ≡ Some (place_of walk)
summed_damage bytes walk summary so_far refused = (at_damage bytes walk so_far.stages so_far.at refused).1

-- each frame counts once
pub one_frame : (summary : Summary) (s : Stage) → (with_stage summary s).frames ≡ summary.frames + 1
one_frame summary (stage.Schema shape) = refl
one_frame summary (stage.Chunk events) = refl
one_frame summary (stage.Growth shape values) = refl

-- a walk's damaged place
pub walk_damaged : (fault : ReservoirFault) (place : ℕ) → of_walk fault ≡ info.Damaged place → fault ≡ walk.Damaged place
walk_damaged walk.Disk place is = absurd cc
walk_damaged (walk.Damaged p) place is = let same : p ≡ place = cc in ap (λ (n : ℕ). walk.Damaged n) same
walk_damaged walk.Memory place is = absurd cc
walk_damaged walk.SchemaDiffers place is = absurd cc
walk_damaged walk.Full place is = absurd cc
walk_damaged walk.Ended place is = absurd cc
