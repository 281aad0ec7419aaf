-- A walk over the frames of a log.
use Rattle.std.proofs.Common.{◌≡◌, ◌∙◌, ℕ, ◌+◌, ◌^◌, ◌<◌, List, ◌∷◌, ◌++◌, length, drop, Option, Some, None, option_map, option_and_then, refl, sym, ap, subst, arith, length-append, length-drop}
use Rattle.rg_event.specs.Shapes.{Shape, IsSchema}
use Rattle.rg_event.specs.declared.event.Event.{Event}
use Rattle.rg_growth.specs.Payloads.{growth_of}
use Rattle.rg_growth.specs.declared.growth.Growth.{Growth}
use Rattle.rg_chunk.specs.Chunks.{chunk_of}
use Rattle.rg_chunk.specs.Heads.{head_of, head_for}
use Rattle.rg_chunk.specs.declared.head.ChunkHead.{ChunkHead}
use Rattle.rg_log.specs.Entries.{nothing, told_by, unread, behind, head_or, entry_of, further_entry, with_entry, entry_after, events_by}
use Rattle.rg_log.specs.Log.{schema_payload}
use Rattle.rg_log.specs.Stages.{Stage as Said, chunk, growth, shape_after, IsStage}
use Rattle.rg_log.specs.declared.entry.Entry.{Entry}
use Rattle.rg_log.specs.declared.entry.Entry.TheVariants as entry
use Rattle.rg_log.specs.declared.entry.LogSoFar.{LogSoFar}
use Rattle.rg_log.specs.declared.summary.LogSummary.{LogSummary}
use Rattle.rg_log.proofs.Laws.{schema_said, entry_for, entry_said}
use Rattle.rg_frame.specs.Frames.{body}
use Rattle.rg_frame.specs.Looks.{HoldsFrame, IsTorn}
use Rattle.rg_frame.proofs.Laws.{holds_payload, torn_payload}
use Rattle.rg_reservoir.specs.Heads.{IsOpenGate}
use Rattle.rg_reservoir.specs.Walked.{place_of, stage_by, with_both, stage_after, IsTaken, IsNext, IsUntaken, IsRefusedWalk}
use Rattle.rg_reservoir.specs.declared.walk.Stage.{Stage}
use Rattle.rg_reservoir.specs.declared.walk.Stage.TheVariants as stage
use Rattle.rg_reservoir.specs.declared.walk.Walk.{Walk}
use Rattle.rg_reservoir.proofs.Chains.{some_none}
use Rattle.rg_reservoir.proofs.Firsts.{one_payload}

gate_of : (place : ℕ) (payload bytes : List ℕ) → HoldsFrame place payload bytes → IsOpenGate place bytes
gate_of place payload bytes holds = record { rest = body payload ++ holds.rest; is = holds.is; longer = omega (arith, length-drop place bytes, length-append (body payload) holds.rest, holds.more, long) }
  where
    long : length (drop place bytes) ≡ length (1 ∷ (body payload ++ holds.rest))
    long = ap length holds.is

pub walk_next : (bytes payload : List ℕ) (next : ℕ) (old new : Walk) (stage : Stage) → HoldsFrame (place_of old) payload bytes → next < 2 ^ 62 → next ≡ place_of old + 9 + length payload → IsTaken payload next old stage new → IsNext bytes old stage new
walk_next bytes payload next old new stage holds small is taken =
    (payload, holds_payload (place_of old) payload bytes holds (omega (arith, small, is)), subst (λ (n : ℕ). IsTaken payload n old stage new) is taken)

pub walk_torn : (bytes : List ℕ) (walk : Walk) → IsTorn (place_of walk) bytes → IsRefusedWalk bytes walk
walk_torn bytes walk torn = record {
  gate = record { rest = torn.rest; is = torn.is; longer = torn.longer };
  untaken = λ payload here. absurd (some_none _ _ here (torn_payload (place_of walk) bytes torn));
}

pub walk_bad : (bytes payload : List ℕ) (next : ℕ) (walk : Walk) → HoldsFrame (place_of walk) payload bytes → next < 2 ^ 62 → next ≡ place_of walk + 9 + length payload → IsUntaken payload walk → IsRefusedWalk bytes walk
walk_bad bytes payload next walk holds small is untaken = record {
  gate = gate_of (place_of walk) payload bytes holds;
  untaken = λ p here. subst (λ (l : List ℕ). IsUntaken l walk) (one_payload (place_of walk) payload p bytes (holds_payload (place_of walk) payload bytes holds (omega (arith, small, is))) here) untaken;
}

-- one step of a walk

abbrev step_of : LogSoFar → List ℕ → Option Entry → Option (Stage × LogSoFar)
step_of so_far payload found = option_and_then (λ (e : Entry). with_both (stage_by so_far.schema payload e) (with_entry so_far e)) found

-- the frame of a schema
pub schema_step : (shape : Shape) → IsSchema shape → stage_after unread (schema_payload shape) ≡ Some (stage.Schema shape, behind shape nothing)
schema_step shape legal = ap (λ (o : Option Shape). step_of unread (schema_payload shape) (option_map (λ (s : Shape). entry.Schema s) o)) (schema_said shape legal)

-- what a walk gives of a stage
abbrev pub walked : Said → Stage
walked (chunk events) = stage.Chunk events
walked (growth grown) = stage.Growth grown.to grown.values

-- what the step makes of its frame
passed_by : (shape : Shape) (summary : LogSummary) (payload : List ℕ) (said : Said) (next : LogSoFar) → IsStage shape payload said → entry_after (behind shape summary) payload ≡ Some next → with_entry (behind shape summary) (entry_for said) ≡ Some next
passed_by shape summary payload said next is passed = sym (ap (option_and_then (with_entry (behind shape summary))) (entry_said shape payload said is)) ∙ passed

-- the frame of a stage, where it may follow those before it
pub stage_step : (shape : Shape) (summary : LogSummary) (payload : List ℕ) (said : Said) (next : LogSoFar) → IsStage shape payload said → entry_after (behind shape summary) payload ≡ Some next → stage_after (behind shape summary) payload ≡ Some (walked said, next)
stage_step shape summary payload said next is passed = ap (step_of (behind shape summary) payload) (entry_said shape payload said is) ∙ by said is (passed_by shape summary payload said next is passed)
  where
    by : (one : Said) → IsStage shape payload one → with_entry (behind shape summary) (entry_for one) ≡ Some next → with_both (stage_by (Some shape) payload (entry_for one)) (with_entry (behind shape summary) (entry_for one)) ≡ Some (walked one, next)
    by (chunk events) here e =
        ap (λ (o : Option (List Event)). with_both (option_map (λ (l : List Event). stage.Chunk l) o) (with_entry (behind shape summary) (entry.Chunk (head_for events)))) here.said ∙ ap (with_both (Some (stage.Chunk events))) e
    by (growth grown) here e = ap (with_both (Some (stage.Growth grown.to grown.values))) e

known_next : (shape : Shape) (o : Option LogSummary) (next : LogSoFar) → option_map (behind shape) o ≡ Some next → next ≡ behind shape next.summary
known_next shape None next e = absurd (let f : None ≡ Some next = e in cc)
known_next shape (Some summary) next e =
    let f : Some (behind shape summary) ≡ Some next = e in
    let same : behind shape summary ≡ next = cc in
    sym same ∙ ap (λ (l : LogSoFar). behind shape l.summary) same

-- and the schema that is in force behind it
pub step_known : (shape : Shape) (summary : LogSummary) (payload : List ℕ) (said : Said) (next : LogSoFar) → IsStage shape payload said → entry_after (behind shape summary) payload ≡ Some next → next ≡ behind (shape_after shape said) next.summary
step_known shape summary payload (chunk events) next is passed =
    known_next shape (told_by summary (Some (head_for events))) next (passed_by shape summary payload (chunk events) next is passed)
step_known shape summary payload (growth grown) next is passed = known_next grown.to (Some summary) next (passed_by shape summary payload (growth grown) next is passed)

-- what a step says

abbrev stage_in : Stage → Option (Stage × LogSoFar) → Stage
stage_in other None = other
stage_in other (Some both) = both.0

abbrev next_in : LogSoFar → Option (Stage × LogSoFar) → LogSoFar
next_in other None = other
next_in other (Some both) = both.1

both_parts : (a : Option Stage) (b : Option LogSoFar) (s : Stage) (new : LogSoFar) → with_both a b ≡ Some (s, new) → (a ≡ Some s) × (b ≡ Some new)
both_parts None b s new e = absurd (let f : None ≡ Some (s, new) = e in cc)
both_parts (Some t) None s new e = absurd (let f : None ≡ Some (s, new) = e in cc)
both_parts (Some t) (Some next) s new e = (ap (λ (o : Option (Stage × LogSoFar)). Some (stage_in t o)) e, ap (λ (o : Option (Stage × LogSoFar)). Some (next_in next o)) e)

pub record IsRead (payload : List ℕ) (old : LogSoFar) (s : Stage) (new : LogSoFar) : Type 0 where
  pub entry : Entry
  pub is : entry_of old.schema payload ≡ Some entry
  pub whole : stage_by old.schema payload entry ≡ Some s
  pub passed : with_entry old entry ≡ Some new

pub read_parts : (payload : List ℕ) (old : LogSoFar) (s : Stage) (new : LogSoFar) → stage_after old payload ≡ Some (s, new) → IsRead payload old s new
read_parts payload old s new is = by (entry_of old.schema payload) refl is
  where
    by : (o : Option Entry) → entry_of old.schema payload ≡ o → step_of old payload o ≡ Some (s, new) → IsRead payload old s new
    by None said e = absurd (let f : None ≡ Some (s, new) = e in cc)
    by (Some x) said e = let b = both_parts (stage_by old.schema payload x) (with_entry old x) s new e in record { entry = x; is = said; whole = b.0; passed = b.1 }

chunk_whole : (o : Option (List Event)) (s : Stage) → option_map (λ (events : List Event). stage.Chunk events) o ≡ Some s → (events : List Event) × (o ≡ Some events) × (s ≡ stage.Chunk events)
chunk_whole None s e = absurd (let f : None ≡ Some s = e in cc)
chunk_whole (Some events) s e = let f : Some (stage.Chunk events) ≡ Some s = e in (events, refl, (let same : stage.Chunk events ≡ s = cc in sym same))

-- with a frame that is no chunk the chunks come to the same
pub took_none : (payload : List ℕ) (old new : LogSoFar) (s : Stage) → ((events : List Event) → s ≡ stage.Chunk events → ⊥) → stage_after old payload ≡ Some (s, new) → new.summary ≡ old.summary
took_none payload old new s none step = by read.entry read.whole read.passed
  where
    read : IsRead payload old s new
    read = read_parts payload old s new step

    kept : (shape : Shape) → Some (record { schema = Some shape; summary = old.summary }) ≡ Some new → new.summary ≡ old.summary
    kept shape e = let same : record { schema = Some shape; summary = old.summary } ≡ new = cc in ap (λ (l : LogSoFar). l.summary) (sym same)

    by : (e : Entry) → stage_by old.schema payload e ≡ Some s → with_entry old e ≡ Some new → new.summary ≡ old.summary
    by (entry.Schema other) whole passed = kept other passed
    by (entry.Chunk head) whole passed = let w = chunk_whole (events_by old.schema payload) s whole in absurd (none w.0 w.2)
    by (entry.Growth grown) whole passed = kept grown.to passed

-- a chunk is one of the schema in force, and may follow those before it
pub record IsChunkStep (payload : List ℕ) (old new : LogSoFar) (events : List Event) : Type 0 where
  pub shape : Shape
  pub known : old.schema ≡ Some shape
  pub said : chunk_of shape.fields payload ≡ Some events
  pub follows : told_by old.summary (head_of payload) ≡ Some new.summary

known_events : (schema : Option Shape) (payload : List ℕ) (events : List Event) → events_by schema payload ≡ Some events → (shape : Shape) × (schema ≡ Some shape) × (chunk_of shape.fields payload ≡ Some events)
known_events None payload events is = absurd (let f : None ≡ Some events = is in cc)
known_events (Some shape) payload events is = (shape, refl, is)

head_found : (head : ChunkHead) (o : Option ChunkHead) (grown : Option Growth) → head_or o grown ≡ Some (entry.Chunk head) → o ≡ Some head
head_found head None None e = absurd (let f : None ≡ Some (entry.Chunk head) = e in cc)
head_found head None (Some g) e = absurd (let f : Some (entry.Growth g) ≡ Some (entry.Chunk head) = e in cc)
head_found head (Some h) grown e = let f : Some (entry.Chunk h) ≡ Some (entry.Chunk head) = e in cc

told_next : (schema : Option Shape) (o : Option LogSummary) (new : LogSoFar) → option_map (λ (summary : LogSummary). record { schema = schema; summary = summary }) o ≡ Some new → o ≡ Some new.summary
told_next schema None new e = absurd (let f : None ≡ Some new = e in cc)
told_next schema (Some summary) new e =
    let f : Some (record { schema = schema; summary = summary }) ≡ Some new = e in
    let same : record { schema = schema; summary = summary } ≡ new = cc in
    ap (λ (l : LogSoFar). Some l.summary) same

pub took_chunk : (payload : List ℕ) (old new : LogSoFar) (events : List Event) → stage_after old payload ≡ Some (stage.Chunk events, new) → IsChunkStep payload old new events
took_chunk payload old new events step = by read.entry read.is read.whole read.passed
  where
    read : IsRead payload old (stage.Chunk events) new
    read = read_parts payload old (stage.Chunk events) new step

    by : (e : Entry) → entry_of old.schema payload ≡ Some e → stage_by old.schema payload e ≡ Some (stage.Chunk events) → with_entry old e ≡ Some new → IsChunkStep payload old new events
    by (entry.Schema other) is whole passed = absurd (let f : Some (stage.Schema other) ≡ Some (stage.Chunk events) = whole in cc)
    by (entry.Growth grown) is whole passed = absurd (let f : Some (stage.Growth grown.to grown.values) ≡ Some (stage.Chunk events) = whole in cc)
    by (entry.Chunk head) is whole passed =
        let w = chunk_whole (events_by old.schema payload) (stage.Chunk events) whole in
        let f : stage.Chunk events ≡ stage.Chunk w.0 = w.2 in
        let same : w.0 ≡ events = cc in
        let k = known_events old.schema payload w.0 w.1 in
        let front : further_entry k.0 payload ≡ Some (entry.Chunk head) = sym (ap (λ (o : Option Shape). entry_of o payload) k.1) ∙ is in
        let says : head_of payload ≡ Some head = head_found head (head_of payload) (growth_of k.0 payload) front in
        record { shape = k.0; known = k.1; said = k.2 ∙ ap (λ (l : List Event). Some l) same; follows = ap (told_by old.summary) says ∙ told_next old.schema (told_by old.summary (Some head)) new passed }
