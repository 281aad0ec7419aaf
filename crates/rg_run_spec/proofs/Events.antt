-- What the event of a line is to the events before it.
use Rattle.std.proofs.Common.{◌≡◌, ℕ, ◌≤◌, ◌<◌, ◌+◌, ◌^◌, nat_le, nat_lt, ◌==◌, ◌&&◌, Bool, true, false, cond, List, [], ◌∷◌, length, All, Option, Some, None, Result, Ok, Err, refl, arith}
use Rattle.std.proofs.lemmas.List.Elements.{All-push, All-head, All-tail}
use Rattle.rg_event.specs.Codec.{IsEventOf}
use Rattle.rg_event.specs.declared.schema.Field.{Field}
use Rattle.rg_event.specs.declared.event.Event.{Event}
use Rattle.rg_event.specs.Rising.{next_offset, last_time}
use Rattle.rg_reply.specs.declared.reply.Reply.{Reply}
use Rattle.rg_reply.specs.declared.reply.Reply.TheVariants.{Late, Full, Head}
use Rattle.rg_row.specs.Fields.{fields_of, cleaned}
use Rattle.rg_row.specs.Rows.{row_of}
use Rattle.rg_row.specs.declared.fault.RowFault.{RowFault}
use Rattle.rg_row.proofs.Laws.{Fits, row_fits, event_is}
use Rattle.rg_run_spec.specs.Verdicts.{Basis, control_at, event_at, read_as, or_reply, verdict_of, obeyed_or, accepted_after, line_verdict}
use Rattle.rg_run_spec.specs.Verdicts.Verdict.{refused, accepted, moved}
use Rattle.rg_run_spec.specs.declared.control.Control.{Control}
use Rattle.rg_run_spec.proofs.Verdicts.{next_offset-push}

reply_back : (given : Result Event RowFault) (e : Event) → or_reply given ≡ Ok e → given ≡ Ok e
reply_back (Ok x) e is = cc
reply_back (Err fault) e is = absurd (cc)

item_fits : (fields : List Field) (offset : ℕ) (item : Option (List ℕ)) (e : Event) → event_at fields offset item ≡ Ok e → Fits fields offset e
item_fits fields offset (Some text) e is = row_fits fields offset (fields_of (cleaned offset text)) e (reply_back (row_of fields offset (cleaned offset text)) e is)
item_fits fields offset None e is = absurd (cc)

head_fits : (fields : List Field) (offset : ℕ) (item : Option (List ℕ)) (e : Event) (b : Bool) → cond b (Err Head) (event_at fields offset item) ≡ Ok e → Fits fields offset e
head_fits fields offset item e true is = absurd (cc)
head_fits fields offset item e false is = item_fits fields offset item e is

-- the event that a line is read as is one of the columns
pub read_fits : (basis : Basis) (offset : ℕ) (item : Option (List ℕ)) (e : Event) → read_as basis offset item ≡ Ok e → Fits basis.fields offset e
read_fits basis offset item e is = head_fits basis.fields offset item e (basis.header && (offset == 0)) is

-- the last time is one of a row
times_small : (fields : List Field) (events : List Event) → All (IsEventOf fields) events → last_time events ≤ 1000000000000000
times_small fields [] all = omega arith
times_small fields (x ∷ []) all = (All-head (IsEventOf fields) x [] all).time
times_small fields (x ∷ (y ∷ events)) all = times_small fields (y ∷ events) (All-tail (IsEventOf fields) x (y ∷ events) all)

-- the event of a row with the last time
moved_is : (fields : List Field) (e : Event) (time : ℕ) → time ≤ 1000000000000000 → IsEventOf fields e → IsEventOf fields (record e { time = time })
moved_is fields e time small is = record { offset = is.offset; time = small; values = is.values }

accepted_by : (fields : List Field) (events : List Event) (e : Event) (a b c : Bool) → All (IsEventOf fields) events → IsEventOf fields e →
    All (IsEventOf fields) (accepted_after events (cond a (refused Late) (cond b (refused Full) (cond c (moved (record e { time = last_time events })) (accepted e)))))
accepted_by fields events e true b c all is = all
accepted_by fields events e false true c all is = all
accepted_by fields events e false false true all is = All-push (IsEventOf fields) events (record e { time = last_time events }) all (moved_is fields e (last_time events) (times_small fields events all) is)
accepted_by fields events e false false false all is = All-push (IsEventOf fields) events e all is

-- the events up to a row are of the columns
pub accepted_are : (fields : List Field) (most grace : ℕ) (events : List Event) (offset : ℕ) (reading : Result Event Reply) → offset < 2 ^ 62 → ((e : Event) → reading ≡ Ok e → Fits fields offset e) → All (IsEventOf fields) events →
    All (IsEventOf fields) (accepted_after events (verdict_of most grace events reading))
accepted_are fields most grace events offset (Err reply) small fits all = all
accepted_are fields most grace events offset (Ok e) small fits all =
    accepted_by fields events e (nat_lt (e.time + grace) (last_time events)) (nat_le most (length events)) (nat_lt e.time (last_time events)) all (event_is fields offset e small (fits e refl))

next_by : (events : List Event) (e : Event) (offset : ℕ) (a b c : Bool) → e.offset ≡ offset → next_offset events ≤ offset →
    next_offset (accepted_after events (cond a (refused Late) (cond b (refused Full) (cond c (moved (record e { time = last_time events })) (accepted e))))) ≤ offset + 1
next_by events e offset true b c at next = omega (arith, next)
next_by events e offset false true c at next = omega (arith, next)
next_by events e offset false false true at next = omega (arith, next_offset-push events (record e { time = last_time events }), at)
next_by events e offset false false false at next = omega (arith, next_offset-push events e, at)

next_read : (fields : List Field) (most grace : ℕ) (events : List Event) (offset : ℕ) (reading : Result Event Reply) → ((e : Event) → reading ≡ Ok e → Fits fields offset e) → next_offset events ≤ offset →
    next_offset (accepted_after events (verdict_of most grace events reading)) ≤ offset + 1
next_read fields most grace events offset (Err reply) fits next = omega (arith, next)
next_read fields most grace events offset (Ok e) fits next =
    next_by events e offset (nat_lt (e.time + grace) (last_time events)) (nat_le most (length events)) (nat_lt e.time (last_time events)) (fits e refl).at next

next_asked : (basis : Basis) (events : List Event) (offset : ℕ) (item : Option (List ℕ)) (control : Option Control) → next_offset events ≤ offset →
    next_offset (accepted_after events (obeyed_or control (verdict_of basis.most basis.grace events (read_as basis offset item)))) ≤ offset + 1
next_asked basis events offset item (Some control) next = omega (arith, next)
next_asked basis events offset item None next = next_read basis.fields basis.most basis.grace events offset (read_as basis offset item) (λ e h. read_fits basis offset item e h) next

-- the next line's offset is above those of the events up to this line
pub next_after : (events : List Event) (basis : Basis) (offset : ℕ) (item : Option (List ℕ)) → next_offset events ≤ offset → next_offset (accepted_after events (line_verdict basis events offset item)) ≤ offset + 1
next_after events basis offset item next = next_asked basis events offset item (control_at basis offset item) next
