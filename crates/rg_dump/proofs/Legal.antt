-- The frames of a legal log, and its dump.
use Rattle.std.proofs.Common.{◌≡◌, ◌∙◌, ℕ, zero, suc, ◌+◌, ◌≤◌, ◌^◌, List, [], ◌∷◌, ◌++◌, length, map, Option, Some, None, option_and_then, refl, sym, ap, subst, arith, append_assoc}
use Rattle.std.proofs.lemmas.List.{append-nil}
use Rattle.rg_event.specs.Rising.{IsRising}
use Rattle.rg_event.specs.Shapes.{Shape, IsSchema, schema_text}
use Rattle.rg_event.specs.declared.event.Event.{Event}
use Rattle.rg_event.specs.declared.value.Value.{Value}
use Rattle.rg_frame.specs.Frames.{frames, HasPayloads, payload_at}
use Rattle.rg_frame.specs.Looks.{IsClosed}
use Rattle.rg_frame.proofs.Laws.{length-frames, length-frames-push, payload_between, payload_none}
use Rattle.rg_chunk.specs.Extended.{all_extended}
use Rattle.rg_log.specs.Entries.{nothing, unread, behind, entry_after, entries_after}
use Rattle.rg_log.specs.Log.{schema_payload, HasEvents, IsInForce, IsLegalLog}
use Rattle.rg_log.specs.Stages.{Stage as Said, chunk, growth, shape_after, in_force, AreStages, values_of as said_values, logged, HasStages}
use Rattle.rg_log.specs.declared.entry.LogSoFar.{LogSoFar}
use Rattle.rg_log.specs.declared.summary.LogSummary.{LogSummary}
use Rattle.rg_log.proofs.Laws.{first, two_steps, legal}
use Rattle.rg_reservoir.specs.Walked.{stage_after}
use Rattle.rg_reservoir.specs.declared.walk.Stage.{Stage}
use Rattle.rg_reservoir.specs.declared.walk.Stage.TheVariants as stage
use Rattle.rg_reservoir.proofs.Laws.{log_at, schema_step, walked, stage_step, step_known, log_of}
use Rattle.rg_dump.specs.Behind.{known_behind, values_of, events_in}
use Rattle.rg_dump.specs.Rows.{row_line}
use Rattle.rg_dump.specs.Stages.{Stages, before, with_frame, stages_from, stages_of}
use Rattle.rg_dump.specs.Dump.{head_lines, dump_text, damage_of}
use Rattle.rg_dump.proofs.Reading.{some_none, payload_open, reads_end}

-- where a log has frames, its list ends at a closed gate
closed_behind : (payloads : List (List ℕ)) (place : ℕ) (bytes : List ℕ) → HasPayloads payloads bytes → place ≡ length (frames payloads) → IsClosed place bytes
closed_behind payloads place bytes has is = (log_at payloads place bytes (log_of payloads place bytes has is)).closed

-- a frame whose payload is that part, and then what stands behind it
frame_read : (most place : ℕ) (so_far next : LogSoFar) (bytes payload : List ℕ) (s : Stage) → payload_at place bytes ≡ Some payload → stage_after so_far payload ≡ Some (s, next)
    → stages_from (suc most) place so_far bytes ≡ before s (stages_from most (place + 9 + length payload) next bytes)
unfolding stages_from
frame_read most place so_far next bytes payload s here is =
    rw ((payload_open place bytes payload here).0, here)
    (ap (λ (o : Option (Stage × LogSoFar)). with_frame place o (λ (said : LogSoFar). stages_from most (place + 9 + length payload) said bytes)) is)

-- these frames, and no damage
abbrev pub all_stages : List Said → Stages
all_stages said = record { stages = map walked said; damage = None }

module _ (bytes : List ℕ) where
  here : (front rest : List (List ℕ)) (p : List ℕ) (place : ℕ) → HasPayloads (front ++ p ∷ rest) bytes → place ≡ length (frames front) → payload_at place bytes ≡ Some p
  here front rest p place has is = subst (λ (n : ℕ). payload_at n bytes ≡ Some p) (sym is) (payload_between front rest p bytes has)

  -- frames of stages that may follow those before them
  stages_read : (most : ℕ) (front rest : List (List ℕ)) (shape : Shape) (summary : LogSummary) (said : List Said) (place : ℕ) (last : LogSoFar) → HasPayloads (front ++ rest) bytes → place ≡ length (frames front) → length bytes ≤ place + most
      → AreStages shape rest said → entries_after (behind shape summary) rest ≡ Some last → stages_from most place (behind shape summary) bytes ≡ all_stages said
  stages_read most front [] shape summary [] place last has is enough are say =
      let whole : HasPayloads front bytes = subst (λ (l : List (List ℕ)). HasPayloads l bytes) (append-nil front) has in
      reads_end most place (behind shape summary) bytes (closed_behind front place bytes whole is)
  stages_read most front [] shape summary (s ∷ said) place last has is enough are say = absurd are
  stages_read most front (p ∷ rest) shape summary [] place last has is enough are say = absurd are
  stages_read zero front (p ∷ rest) shape summary (s ∷ said) place last has is enough are say = absurd (omega (arith, enough, (payload_open place bytes p (here front rest p place has is)).1))
  stages_read (suc most) front (p ∷ rest) shape summary (s ∷ said) place last has is enough are say =
      let n = two_steps (entry_after (behind shape summary) p) (λ (next : LogSoFar). entries_after next rest) last say in
      let known = step_known shape summary p s n.next are.0 n.is in
      frame_read most place (behind shape summary) n.next bytes p (walked s) (here front rest p place has is) (stage_step shape summary p s n.next are.0 n.is)
      ∙ ap (λ (l : LogSoFar). before (walked s) (stages_from most (place + 9 + length p) l bytes)) known
      ∙ ap (before (walked s))
      (stages_read most (front ++ p ∷ []) rest (shape_after shape s) n.next.summary said (place + 9 + length p) last (subst (λ (l : List (List ℕ)). HasPayloads l bytes) (sym (append_assoc front (p ∷ []) rest)) has)
      (omega (arith, is, length-frames-push front p)) (omega (arith, enough)) are.1 (subst (λ (l : LogSoFar). entries_after l rest ≡ Some last) known n.more))

  -- the log of a file is that of these stages, at whose end this schema is in force
  pub record ReadsAs (shape : Shape) (said : List Said) : Type 0 where
    pub begun : Shape
    pub stages : stages_of bytes ≡ before (stage.Schema begun) (all_stages said)
    pub ends : in_force begun said ≡ shape

  pub framed_stages : (shape : Shape) (said : List Said) (p : List ℕ) (rest : List (List ℕ)) → HasPayloads (p ∷ rest) bytes → HasStages shape (p ∷ rest) said → IsRising (logged said) → length (logged said) ≤ 2 ^ 40 → ReadsAs shape said
  framed_stages shape said p rest has log rising few = record { begun = log.0; stages = start (length bytes) refl; ends = log.4 }
    where
      at : payload_at 0 bytes ≡ Some p
      at = payload_between [] rest p bytes has

      begins : stage_after unread p ≡ Some (stage.Schema log.0, behind log.0 nothing)
      begins = ap (stage_after unread) log.2 ∙ schema_step log.0 log.1

      more : (last : LogSoFar) × (entries_after (behind log.0 nothing) rest ≡ Some last)
      more = (_, sym (ap (option_and_then (λ (next : LogSoFar). entries_after next rest)) (ap (entry_after unread) log.2 ∙ first log.0 log.1)) ∙ legal shape (p ∷ rest) said log (omega arith) rising few)

      start : (n : ℕ) → length bytes ≡ n → stages_from n 0 unread bytes ≡ before (stage.Schema log.0) (all_stages said)
      start zero long = absurd (omega (arith, long, (payload_open 0 bytes p at).1))
      start (suc most) long =
          frame_read most 0 unread (behind log.0 nothing) bytes p (stage.Schema log.0) at begins
          ∙ ap (before (stage.Schema log.0)) (stages_read most (p ∷ []) rest log.0 nothing said (0 + 9 + length p) more.0 has (omega (arith, length-frames p [])) (omega (arith, long)) log.3 more.1)

  -- a log without frames has none
  pub empty_stages : HasPayloads [] bytes → stages_of bytes ≡ record { stages = []; damage = None }
  empty_stages has = reads_end (length bytes) 0 unread bytes (closed_behind [] 0 bytes has refl)

  -- a legal log with frames
  pub legal_stages : (shape : Shape) (said : List Said) → IsInForce shape bytes → IsLegalLog shape said bytes → ReadsAs shape said
  legal_stages shape said framed log = by log.payloads log.has log.log
    where
      by : (payloads : List (List ℕ)) → HasPayloads payloads bytes → HasStages shape payloads said → ReadsAs shape said
      by [] has are = absurd (some_none _ _ (payload_between [] framed.1 framed.0 bytes framed.3) (payload_none [] bytes has))
      by (p ∷ rest) has are = framed_stages shape said p rest has are log.rising log.few

-- what the stages of a log come to as frames of a walk

walked_values : (said : List Said) → values_of (map walked said) ≡ said_values said
walked_values [] = refl
walked_values (chunk events ∷ said) = walked_values said
walked_values (growth grown ∷ said) = ap (λ (l : List Value). grown.values ++ l) (walked_values said)

pub walked_events : (said : List Said) → events_in (map walked said) ≡ logged said
walked_events [] = refl
walked_events (chunk events ∷ said) = ap (λ (v : List Value). all_extended v events ++ events_in (map walked said)) (walked_values said) ∙ ap (λ (l : List Event). all_extended (said_values said) events ++ l) (walked_events said)
walked_events (growth grown ∷ said) = walked_events said

walked_known : (shape : Shape) (said : List Said) → known_behind (Some shape) (map walked said) ≡ Some (in_force shape said)
walked_known shape [] = refl
walked_known shape (chunk events ∷ said) = walked_known shape said
walked_known shape (growth grown ∷ said) = walked_known grown.to said

module _ (shape : Shape) (bytes : List ℕ) where
  pub read_events : (said : List Said) → ReadsAs bytes shape said → events_in (stages_of bytes).stages ≡ logged said
  read_events said reads = ap (λ (s : Stages). events_in s.stages) reads.stages ∙ walked_events said

  pub read_undamaged : (said : List Said) → ReadsAs bytes shape said → damage_of bytes ≡ None
  read_undamaged said reads = ap (λ (s : Stages). s.damage) reads.stages

  -- the events of a legal log, and that nothing of it is damaged
  pub legal_read : (events : List Event) → HasEvents shape events bytes → (events_in (stages_of bytes).stages ≡ events) × (damage_of bytes ≡ None)
  legal_read events x = by x.1.payloads x.1.has x.1.log
    where
      by : (payloads : List (List ℕ)) → HasPayloads payloads bytes → HasStages shape payloads x.0 → (events_in (stages_of bytes).stages ≡ events) × (damage_of bytes ≡ None)
      by [] has are = let e = empty_stages bytes has in (ap (λ (s : Stages). events_in s.stages) e ∙ sym (ap logged are) ∙ x.2, ap (λ (s : Stages). s.damage) e)
      by (p ∷ rest) has are = let r = framed_stages bytes shape x.0 p rest has are x.1.rising x.1.few in (read_events x.0 r ∙ x.2, read_undamaged x.0 r)

  -- the dump has the text of its schema and a row for each of its events
  pub legal_dump : (events : List Event) → IsInForce shape bytes → HasEvents shape events bytes → dump_text bytes ≡ schema_text shape ∷ map row_line events
  legal_dump events framed x =
      let reads = legal_stages bytes shape x.0 framed x.1 in
      let known : known_behind None (stages_of bytes).stages ≡ Some shape = ap (λ (s : Stages). known_behind None s.stages) reads.stages ∙ walked_known reads.begun x.0 ∙ ap (λ (s : Shape). Some s) reads.ends in
      ap (λ (o : Option Shape). head_lines o ++ map row_line (events_in (stages_of bytes).stages)) known ∙ ap (λ (l : List Event). schema_text shape ∷ map row_line l) (read_events x.0 reads ∙ x.2)

-- that of a log without frames is empty
pub empty_dump : (bytes : List ℕ) → HasPayloads [] bytes → (dump_text bytes ≡ []) × (damage_of bytes ≡ None)
empty_dump bytes has =
    let e = empty_stages bytes has in
    (ap (λ (s : Stages). head_lines (known_behind None s.stages) ++ map row_line (events_in s.stages)) e, ap (λ (s : Stages). s.damage) e)
