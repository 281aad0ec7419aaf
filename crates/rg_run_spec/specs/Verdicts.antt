-- What a line is read as, what is decided on it, and so the events accepted among some lines and the reply to each: a
-- line is answered from those before it alone.
use Rattle.std.specs.Prelude.{◌≡◌, ℕ, zero, suc, ◌+◌, ◌==◌, ◌&&◌, nat_lt, nat_le, bytes_eq, codes, Bool, List, [], ◌∷◌, ◌++◌, length, get_or, Option, Some, None, Result, Ok, Err, if◌then◌else◌}
use Rattle.rg_event.specs.Rising.{last_time}
use Rattle.rg_event.specs.declared.event.Event.{Event}
use Rattle.rg_event.specs.declared.schema.Field.{Field}
use Rattle.rg_metric.specs.Queries.{Asked}
use Rattle.rg_metric.specs.Replies.{answers_to}
use Rattle.rg_reply.specs.declared.reply.Reply.{Reply}
use Rattle.rg_reply.specs.declared.reply.Reply.TheVariants.{Head, Done, Long, Row, Fields, Time, Value, Late, Full, Answered, Moved}
use Rattle.rg_row.specs.Fields.{cleaned}
use Rattle.rg_row.specs.Rows.{row_of}
use Rattle.rg_row.specs.declared.fault.RowFault.{RowFault}
use Rattle.rg_row.specs.declared.fault.RowFault.TheVariants as fault
use Rattle.rg_run_spec.specs.declared.control.Control.{Control}
use Rattle.rg_run_spec.specs.declared.control.Control.TheVariants.{Commit, Save, Ahead}

-- all that the answers to an input rest on, beside its bytes
pub record Basis : Type 0 where
  -- the columns of a row behind its time
  pub fields : List Field
  -- the queries that are answered
  pub queries : List Asked
  -- how many events are accepted
  pub most : ℕ
  -- the first line is a header
  pub header : Bool
  -- by how much an event may be earlier than the last one before it
  pub grace : ℕ

-- the reply to a fault of a row; the definition of a row never runs out of memory
abbrev pub fault_reply : RowFault → Reply
fault_reply fault.Row = Row
fault_reply fault.Fields = Fields
fault_reply fault.Time = Time
fault_reply (fault.Value column) = Value column
fault_reply fault.Memory = Row

abbrev pub or_reply : Result Event RowFault → Result Event Reply
or_reply (Ok e) = Ok e
or_reply (Err f) = Err (fault_reply f)

-- the event of a line of any length, or the reply that refuses it
abbrev pub event_at : List Field → ℕ → Option (List ℕ) → Result Event Reply
event_at fields offset None = Err Long
event_at fields offset (Some text) = or_reply (row_of fields offset (cleaned offset text))

-- the event of a line of any length, or the reply that refuses it; the first line may be a header
abbrev pub read_as : Basis → ℕ → Option (List ℕ) → Result Event Reply
read_as basis offset line = if basis.header && (offset == 0) then Err Head else event_at basis.fields offset line

-- what a cleaned line asks for
abbrev pub control_of : List ℕ → Option Control
control_of line =
    if bytes_eq line (codes "!commit") then Some Commit
    else if bytes_eq line (codes "!save") then Some Save
    else if bytes_eq line (codes "!ahead") then Some Ahead
    else None

-- what a line of any length asks for; the first one doesn't where it is a header
abbrev pub control_at : Basis → ℕ → Option (List ℕ) → Option Control
control_at basis offset None = None
control_at basis offset (Some text) = if basis.header && (offset == 0) then None else control_of (cleaned offset text)

-- The line at this offset asks for nothing, and is read as the row of this cleaned text.
pub record IsRow (basis : Basis) (offset : ℕ) (item : Option (List ℕ)) (line : List ℕ) : Type 0 where
  pub asks_nothing : control_at basis offset item ≡ None
  pub reads : read_as basis offset item ≡ or_reply (row_of basis.fields offset line)

-- what is decided on a line: it is refused, does what it asks for, or its event is accepted, with its own time or with the last one's
pub data Verdict : Type 0 where
  refused : Reply → Verdict
  obeyed : Control → Verdict
  accepted : Event → Verdict
  moved : Event → Verdict

-- the verdict on an event or a refusal, where these events were accepted before it, so many may be, and it may be so much earlier
abbrev pub verdict_of : ℕ → ℕ → List Event → Result Event Reply → Verdict
verdict_of most grace events (Err reply) = refused reply
verdict_of most grace events (Ok e) =
    if nat_lt (e.time + grace) (last_time events) then refused Late
    else if nat_le most (length events) then refused Full
    else if nat_lt e.time (last_time events) then moved (record e { time = last_time events })
    else accepted e

-- that on a line that asks for something, or else this one
abbrev pub obeyed_or : Option Control → Verdict → Verdict
obeyed_or (Some control) verdict = obeyed control
obeyed_or None verdict = verdict

-- the events accepted up to and with it
abbrev pub accepted_after : List Event → Verdict → List Event
accepted_after events (refused reply) = events
accepted_after events (obeyed control) = events
accepted_after events (accepted e) = events ++ e ∷ []
accepted_after events (moved e) = events ++ e ∷ []

-- the reply, which answers these queries
abbrev pub reply_of : List Asked → List Event → Verdict → Reply
reply_of queries events (refused reply) = reply
reply_of queries events (obeyed control) = Done
reply_of queries events (accepted e) = Answered (answers_to queries (events ++ e ∷ []) e)
reply_of queries events (moved e) = Moved (answers_to queries (events ++ e ∷ []) e)

-- the verdict on a cleaned line that is no header and asks for nothing, where these events were accepted before it
abbrev pub row_verdict : Basis → List Event → ℕ → List ℕ → Verdict
row_verdict basis events offset line = verdict_of basis.most basis.grace events (or_reply (row_of basis.fields offset line))

-- the verdict on a line with this offset, where these events were accepted before it
abbrev pub line_verdict : Basis → List Event → ℕ → Option (List ℕ) → Verdict
line_verdict basis events offset line = obeyed_or (control_at basis offset line) (verdict_of basis.most basis.grace events (read_as basis offset line))

-- the events accepted among the first i lines
abbrev pub accepted_before : Basis → List (Option (List ℕ)) → ℕ → List Event
accepted_before basis lines zero = []
accepted_before basis lines (suc i) = accepted_after (accepted_before basis lines i) (line_verdict basis (accepted_before basis lines i) i (get_or lines i None))

-- the reply to line i
abbrev pub reply_to : Basis → List (Option (List ℕ)) → ℕ → Reply
reply_to basis lines i = reply_of basis.queries (accepted_before basis lines i) (line_verdict basis (accepted_before basis lines i) i (get_or lines i None))
