-- The payload of a chunk, as it is read and written.
use Rattle.std.proofs.Common.{◌≡◌, ◌⊎◌, inl, inr, ℕ, ◌+◌, ◌-◌, ◌<◌, ◌≤◌, ◌^◌, Bool, true, false, List, [], ◌∷◌, ◌++◌, length, Option, Some, None, option_map, ◌&&◌, Result, Ok, Err, refl, ap, sym, ◌∙◌, arith, append_assoc, append-nil, add-one, drop-cons, get_or, drop, suc}
use Rattle.std.proofs.lemmas.Bool.Decides.{nat_tests}
use Rattle.std.proofs.lemmas.List.{drop_all}
use Rattle.std.specs.List.{All}
use Rattle.std.proofs.lemmas.List.Elements.{All-cons, All-nil, All-head, All-tail}
use Rattle.rg_bytes.specs.Reading.{Reading as ReadingWith, and_then, tested, more_at, whole}
use Rattle.rg_bytes.proofs.Laws.{StepsBack, more_back, step_stops}
use Rattle.rg_event.specs.Codec.{Reading, IsEventOf, event_at, event_bytes}
use Rattle.rg_event.specs.Rising.{IsRising, next_offset, last_time}
use Rattle.rg_event.specs.declared.codec.EventFault.{EventFault}
use Rattle.rg_event.specs.declared.codec.EventFault.TheVariants.{Short, BadValue, Memory}
use Rattle.rg_event.specs.declared.event.Event.{Event}
use Rattle.rg_event.specs.declared.schema.Field.{Field}
use Rattle.rg_event.proofs.Laws.{event_reads_back, next_offset-push, last_time-push, IsRising-push}
use Rattle.rg_column.specs.Columns.{AreColumnsOf, columns_at, columns_bytes}
use Rattle.rg_column.specs.declared.fault.ColumnFault.{ColumnFault}
use Rattle.rg_column.specs.declared.fault.ColumnFault.TheVariants.{Memory as RanOut}
use Rattle.rg_column.proofs.Laws.{columns_back}
use Rattle.rg_chunk.specs.declared.head.ChunkHead.{ChunkHead}
use Rattle.rg_chunk.specs.declared.head.Layout.{Layout}
use Rattle.rg_chunk.specs.declared.head.Layout.TheVariants.{Rows, Columns}
use Rattle.rg_chunk.specs.Heads.{head_at, head_of, head_bytes, head_for, is_head_of, first_stamp, last_stamp, begun}
use Rattle.rg_chunk.specs.Faults.{event_fault, chunk_fault}
use Rattle.rg_chunk.specs.declared.fault.ChunkFault.{ChunkFault}
use Rattle.rg_chunk.specs.declared.fault.ChunkFault.TheVariants.{BadChunk, Memory as NoMemory}
use Rattle.rg_chunk.specs.Chunks.{HasOffset, IsChunk, chunk_at, chunk_of, event_from_at, events_at, follows, laid_bytes, next_event_at, payload_bytes, rises_from, rising_columns_at, Agrees}
use Rattle.rg_chunk.proofs.Heads.{head_back, head_is, own_head}

-- a reading that gives something gave something at each step

and_then_parts : {F A B : Type 0} (reading : ReadingWith F A) (next : A → List ℕ → ReadingWith F B) (read : B × List ℕ) → and_then reading next ≡ Ok read
    → (value : A) × (left : List ℕ) × (reading ≡ Ok (value, left)) × (next value left ≡ Ok read)
and_then_parts (Ok (value, left)) next read is = (value, left, refl, is)
and_then_parts (Err fault) next read is = absurd cc

tested_parts : {F A : Type 0} (fault : F) (test : Bool) (value : A) (left : List ℕ) (read : A × List ℕ) → tested fault test value left ≡ Ok read → (test ≡ true) × ((value, left) ≡ read)
tested_parts fault true value left read is = (refl, cc)
tested_parts fault false value left read is = absurd cc

pub whole_is : {F A : Type 0} (reading : ReadingWith F A) (value : A) → whole reading ≡ Some value → reading ≡ Ok (value, [])
whole_is (Ok (other, [])) value is = let same : other ≡ value = cc in ap (λ v. Ok (v, [])) same
whole_is (Ok (other, byte ∷ bytes)) value is = absurd cc
whole_is (Err fault) value is = absurd cc

-- the head of a chunk is the one that its events have
pub chunk_head : (fields : List Field) (payload : List ℕ) (events : List Event) → chunk_of fields payload ≡ Some events → head_of payload ≡ Some (head_for events)
unfolding chunk_at
chunk_head fields payload events is =
    let read : chunk_at fields payload ≡ Ok (events, []) = whole_is (chunk_at fields payload) events is in
    let one = and_then_parts (head_at payload) _ (events, []) read in
    let two = and_then_parts (events_at one.0.0 fields one.0.1.count one.1) _ (events, []) one.3 in
    let three = tested_parts _ (is_head_of one.0.1 two.0) two.0 two.1 (events, []) two.3 in
    let same : two.0 ≡ events = ap (λ (read : List Event × List ℕ). read.0) three.1 in
    let head : one.0.1 ≡ head_for two.0 = head_is one.0.1 two.0 three.0 in
    ap (λ (reading : Reading (Layout × ChunkHead)). option_map (λ (said : Layout × ChunkHead). said.1) (begun reading)) one.2 ∙ ap (λ (h : ChunkHead). Some h) (head ∙ ap head_for same)

-- reading, by where it stops

pub event_stops : (fields : List Field) (next time : ℕ) (old : List ℕ) (fault : EventFault) → event_at fields old ≡ Err fault → event_from_at fields next time old ≡ Err fault
unfolding event_from_at
event_stops fields next time old fault is = rw is refl

pub event_tested : (fields : List Field) (next time : ℕ) (old : List ℕ) (event : Event) (left : List ℕ) (may : Bool) → event_at fields old ≡ Ok (event, left) → follows event next time ≡ may
    → event_from_at fields next time old ≡ tested (BadValue 0) may event left
unfolding event_from_at
event_tested fields next time old event left may read is = rw (read, is) refl

pub follows_parts : (event : Event) (next time : ℕ) → follows event next time ≡ true → (next ≤ event.offset) × (time ≤ event.time)
follows_parts event next time is = (grind (arith, nat_tests), grind (arith, nat_tests))

event_follows : (fields : List Field) (next time : ℕ) (old : List ℕ) (event : Event) (left : List ℕ) → event_at fields old ≡ Ok (event, left) → next ≤ event.offset → time ≤ event.time → event_from_at fields next time old ≡ Ok (event, left)
event_follows fields next time old event left read above late = event_tested fields next time old event left true read (grind (arith, nat_tests))

-- one turn of reading

pub next_is : (fields : List Field) (so_far : List Event) (next time : ℕ) (from : List ℕ) (reading : Reading Event) → next ≡ next_offset so_far → time ≡ last_time so_far → event_from_at fields next time from ≡ reading → next_event_at fields so_far from ≡ reading
next_is fields so_far next time from reading above late is = ap (λ n. event_from_at fields n (last_time so_far) from) (sym above) ∙ ap (λ t. event_from_at fields next t from) (sym late) ∙ is

pub next_stops :
    (fields : List Field) (so_far : List Event) (next time count done : ℕ) (start from : List ℕ) (fault : EventFault) → next ≡ next_offset so_far → time ≡ last_time so_far → done < count
    → more_at (next_event_at fields) [] count start ≡ more_at (next_event_at fields) so_far (count - done) from → (event_from_at fields next time from ≡ Err fault) ⊎ (fault ≡ Memory)
    → (more_at (next_event_at fields) [] count start ≡ Err fault) ⊎ (fault ≡ Memory)
next_stops fields so_far next time count done start from fault above late below to_come (inl is) =
    step_stops Memory (next_event_at fields) so_far count done start from fault below to_come (inl (next_is fields so_far next time from (Err fault) above late is))
next_stops fields so_far next time count done start from fault above late below to_come (inr memory) = inr memory

pub next_pushed : (old new : List Event) (event : Event) → new ≡ old ++ event ∷ [] → event.offset + 1 ≡ next_offset new
next_pushed old new event pushed = rw pushed (sym (next_offset-push old event))

pub time_pushed : (old new : List Event) (event : Event) → new ≡ old ++ event ∷ [] → event.time ≡ last_time new
time_pushed old new event pushed = rw pushed (sym (last_time-push old event))

pub rising_pushed : (old new : List Event) (event : Event) (next time : ℕ) → new ≡ old ++ event ∷ [] → IsRising old → next ≡ next_offset old → time ≡ last_time old → next ≤ event.offset → time ≤ event.time → IsRising new
rising_pushed old new event next time pushed rising above late higher later =
    rw pushed (IsRising-push old event rising (record { offset = omega (arith, above, higher); time = omega (arith, late, later) }))

-- whole chunks

pub chunk_no_head : (fields : List Field) (old : List ℕ) (fault : EventFault) → head_at old ≡ Err fault → chunk_at fields old ≡ Err fault
unfolding chunk_at
chunk_no_head fields old fault stops = rw stops refl

pub chunk_no_events :
    (fields : List Field) (old : List ℕ) (layout : Layout) (head : ChunkHead) (left : List ℕ) (fault : EventFault) → head_at old ≡ Ok ((layout, head), left) → events_at layout fields head.count left ≡ Err fault → chunk_at fields old ≡ Err fault
unfolding chunk_at
chunk_no_events fields old layout head left fault read stops = rw (read, stops) refl

pub chunk_tested :
    (fields : List Field) (old : List ℕ) (layout : Layout) (head : ChunkHead) (left : List ℕ) (events : List Event) (rest : List ℕ) (same : Bool) → head_at old ≡ Ok ((layout, head), left) → events_at layout fields head.count left ≡ Ok (events, rest)
    → is_head_of head events ≡ same → chunk_at fields old ≡ tested (BadValue 0) same events rest
unfolding chunk_at
chunk_tested fields old layout head left events rest same read more is = rw (read, more, is) refl

-- columns in a chunk

pub columns_stop : (fields : List Field) (count : ℕ) (old : List ℕ) (fault : ColumnFault) → (columns_at fields count old ≡ Err fault) ⊎ (fault ≡ RanOut) → (rising_columns_at fields count old ≡ Err (event_fault fault)) ⊎ (event_fault fault ≡ Memory)
unfolding rising_columns_at
columns_stop fields count old fault (inl stops) = inl (rw stops refl)
columns_stop fields count old fault (inr memory) = inr (ap event_fault memory)

pub columns_tested : (fields : List Field) (count : ℕ) (old : List ℕ) (events : List Event) (left : List ℕ) (rising : Bool) → columns_at fields count old ≡ Ok (events, left) → rises_from 0 0 events ≡ rising
    → rising_columns_at fields count old ≡ tested (BadValue 0) rising events left
unfolding rising_columns_at
columns_tested fields count old events left rising read is = rw (read, is) refl

-- what is written is read back

-- offsets rise from this one on, and times never fall below this one
abbrev RisesFrom : ℕ → ℕ → List Event → Type 0
RisesFrom next time [] = Unit {0}
RisesFrom next time (event ∷ events) = (next ≤ event.offset) × (time ≤ event.time) × RisesFrom (event.offset + 1) event.time events

rises_behind : (next time : ℕ) (event : Event) (events : List Event) → next ≤ event.offset → time ≤ event.time → IsRising (event ∷ events) → RisesFrom next time (event ∷ events)
rises_behind next time event [] above late rising = (above, late, tt)
rises_behind next time event (other ∷ events) above late rising =
    (above, late, rises_behind (event.offset + 1) event.time other events (omega (arith, rising.0)) rising.1 rising.2)

rising_all : (events : List Event) → IsRising events → RisesFrom 0 0 events
rising_all [] rising = tt
rising_all (event ∷ events) rising = rises_behind 0 0 event events (omega arith) (omega arith) rising

rises_is : (next time : ℕ) (events : List Event) → RisesFrom next time events → rises_from next time events ≡ true
rises_is next time [] rises = refl
rises_is next time (event ∷ events) rises =
    let here : follows event next time ≡ true = grind (arith, nat_tests, rises.0, rises.1) in
    rw here (rises_is (event.offset + 1) event.time events rises.2)

rises_parts : (next time : ℕ) (event : Event) (events : List Event) → rises_from next time (event ∷ events) ≡ true → (follows event next time ≡ true) × (rises_from (event.offset + 1) event.time events ≡ true)
rises_parts next time event events is = both (follows event next time) (rises_from (event.offset + 1) event.time events) is
  where
    both : (a b : Bool) → (a && b) ≡ true → (a ≡ true) × (b ≡ true)
    both true b is = (refl, is)
    both false b is = absurd cc

pub rising_is : (next time : ℕ) (events : List Event) → rises_from next time events ≡ true → IsRising events
rising_is next time [] is = tt
rising_is next time (event ∷ []) is = tt
rising_is next time (event ∷ (other ∷ events)) is =
    let behind = rises_parts next time event (other ∷ events) is in
    let here = follows_parts other (event.offset + 1) event.time (rises_parts (event.offset + 1) event.time other events behind.1).0 in
    (omega (arith, here.0), here.1, rising_is (event.offset + 1) event.time (other ∷ events) behind.1)

-- one event more rises

pub rises_more : (events : List Event) (i next time : ℕ) (event : Event) → i < length events → event ≡ get_or events i event → follows event next time ≡ true → rises_from next time (drop i events) ≡ rises_from (event.offset + 1) event.time (drop (i + 1) events)
rises_more events i next time event within is may =
    let parted : drop i events ≡ event ∷ drop (i + 1) events = rw add-one (drop-cons events i event within ∙ ap (λ (e : Event). e ∷ drop (suc i) events) (sym is)) in
    ap (rises_from next time) parted ∙ ap (λ (test : Bool). test && rises_from (event.offset + 1) event.time (drop (i + 1) events)) may

pub rises_not : (events : List Event) (i next time : ℕ) (event : Event) → i < length events → event ≡ get_or events i event → follows event next time ≡ false → rises_from next time (drop i events) ≡ false
rises_not events i next time event within is may =
    let parted : drop i events ≡ event ∷ drop (i + 1) events = rw add-one (drop-cons events i event within ∙ ap (λ (e : Event). e ∷ drop (suc i) events) (sym is)) in
    ap (rises_from next time) parted ∙ ap (λ (test : Bool). test && rises_from (event.offset + 1) event.time (drop (i + 1) events)) may

pub rises_end : (events : List Event) (i next time : ℕ) → length events ≤ i → rises_from next time (drop i events) ≡ true
rises_end events i next time past = ap (rises_from next time) (drop_all i events past)

pub has_offset : (events : List Event) (i : ℕ) (event : Event) → i < length events → event ≡ get_or events i event → All HasOffset events → HasOffset event
has_offset events i event within is all = rw is (all i event within)

pub have_offsets : (fields : List Field) (events : List Event) → All (IsEventOf fields) events → All HasOffset events
have_offsets fields [] all = All-nil HasOffset
have_offsets fields (event ∷ events) all =
    All-cons HasOffset event events (All-head (IsEventOf fields) event events all).offset (have_offsets fields events (All-tail (IsEventOf fields) event events all))

steps : (fields : List Field) (so_far events : List Event) → All (IsEventOf fields) events → RisesFrom (next_offset so_far) (last_time so_far) events → StepsBack (next_event_at fields) event_bytes so_far events
steps fields so_far [] all rising = tt
steps fields so_far (event ∷ events) all rising =
    let on : RisesFrom (next_offset (so_far ++ event ∷ [])) (last_time (so_far ++ event ∷ [])) events = rw (next_offset-push so_far event, last_time-push so_far event) rising.2 in
    let is : IsEventOf fields event = All-head (IsEventOf fields) event events all in (
      λ rest. event_follows fields (next_offset so_far) (last_time so_far) (event_bytes event ++ rest) event rest (event_reads_back fields event (event_bytes event ++ rest) rest is refl) rising.0 rising.1,
      steps fields (so_far ++ event ∷ []) events (All-tail (IsEventOf fields) event events all) on,
    )

first_fits : (fields : List Field) (events : List Event) → All (IsEventOf fields) events → ((first_stamp events).0 < 2 ^ 64) × ((first_stamp events).1 < 2 ^ 64)
first_fits fields [] all = (omega arith, omega arith)
first_fits fields (event ∷ events) all =
    let is : IsEventOf fields event = All-head (IsEventOf fields) event events all in
    (omega (arith, is.offset), omega (arith, is.time))

last_fits : (fields : List Field) (events : List Event) → All (IsEventOf fields) events → ((last_stamp events).0 < 2 ^ 64) × ((last_stamp events).1 < 2 ^ 64)
last_fits fields [] all = (omega arith, omega arith)
last_fits fields (event ∷ []) all =
    let is : IsEventOf fields event = All-head (IsEventOf fields) event [] all in
    (omega (arith, is.offset), omega (arith, is.time))
last_fits fields (event ∷ (other ∷ events)) all = last_fits fields (other ∷ events) (All-tail (IsEventOf fields) event (other ∷ events) all)

laid_back : (layout : Layout) (fields : List Field) (events : List Event) → IsChunk fields events → events_at layout fields (length events) (laid_bytes layout fields events ++ []) ≡ Ok (events, [])
laid_back Rows fields events is = more_back (next_event_at fields) event_bytes [] events [] (steps fields [] events is.legal (rising_all events is.rising))
laid_back Columns fields events is =
    let are : AreColumnsOf fields (length events) events = record { legal = is.legal; counted = refl; some = is.some } in
    columns_tested fields (length events) (columns_bytes fields events ++ []) events [] true (columns_back fields (length events) events (columns_bytes fields events ++ []) [] are refl) (rises_is 0 0 events (rising_all events is.rising))

pub chunk_back : (layout : Layout) (fields : List Field) (events : List Event) → IsChunk fields events → chunk_of fields (payload_bytes layout fields events) ≡ Some events
chunk_back layout fields events is =
    let first = first_fits fields events is.legal in
    let last = last_fits fields events is.legal in
    let head : head_at (payload_bytes layout fields events) ≡ Ok ((layout, head_for events), laid_bytes layout fields events) =
    head_back layout (head_for events) (laid_bytes layout fields events) (record { some = is.some; few = is.few }) first.0 first.1 last.0 last.1 in
    let all : events_at layout fields (length events) (laid_bytes layout fields events) ≡ Ok (events, []) =
    ap (events_at layout fields (length events)) (sym (append-nil (laid_bytes layout fields events))) ∙ laid_back layout fields events is in
    ap (λ (reading : Reading (List Event)). whole reading) (chunk_tested fields (payload_bytes layout fields events) layout (head_for events) (laid_bytes layout fields events) events [] true head all (own_head events))

-- what is answered

pub whole_more : (reading : Reading (List Event)) (events : List Event) (left : List ℕ) → reading ≡ Ok (events, left) → 0 < length left → whole reading ≡ None
whole_more reading events [] is more = absurd (omega arith)
whole_more reading events (byte ∷ left) is more = rw is refl

pub whole_all : (reading : Reading (List Event)) (events : List Event) (left : List ℕ) → reading ≡ Ok (events, left) → length left ≡ 0 → whole reading ≡ Some events
whole_all reading events [] is none = rw is refl
whole_all reading events (byte ∷ left) is none = absurd (omega arith)

pub refused : (reading : Reading (List Event)) (fault : EventFault) (why : ChunkFault) → (reading ≡ Err fault) ⊎ (fault ≡ Memory) → why ≡ chunk_fault fault → Agrees (whole reading) (Err why)
refused reading Short why (inl is) why-is = rw (why-is, is) refl
refused reading Short why (inr memory) why-is = absurd cc
refused reading (BadValue field) why (inl is) why-is = rw (why-is, is) refl
refused reading (BadValue field) why (inr memory) why-is = absurd cc
refused reading Memory why agrees why-is = rw why-is tt

pub nothing_left : (old bytes left : List ℕ) → old ≡ bytes ++ left → length left ≡ 0 → old ≡ bytes
nothing_left old bytes [] stood none = stood ∙ append-nil bytes
nothing_left old bytes (byte ∷ left) stood none = absurd (omega arith)

pub taken :
    (fields : List Field) (old : List ℕ) (layout : Layout) (head : ChunkHead) (left : List ℕ) (events : List Event) (rest : List ℕ) → old ≡ head_bytes layout head ++ left → left ≡ laid_bytes layout fields events ++ rest → is_head_of head events ≡ true
    → old ≡ payload_bytes layout fields events ++ rest
taken fields old layout head left events rest stood behind is =
    rw (stood, behind, head_is head events is) (sym (append_assoc (head_bytes layout (head_for events)) (laid_bytes layout fields events) rest))

-- what agrees with a payload that says something is that
pub returns_chunk : (said : Option (List Event)) (result : Result (List Event) ChunkFault) (events : List Event) → Agrees said result → said ≡ Some events → (result ≡ Ok events) ⊎ (result ≡ Err NoMemory)
returns_chunk said (Ok read) events agrees is = let same : read ≡ events = cc in inl (ap (λ (es : List Event). Ok es) same)
returns_chunk said (Err BadChunk) events agrees is = absurd cc
returns_chunk said (Err NoMemory) events agrees is = inr refl

pub chunk_reads_back :
    (layout : Layout) (fields : List Field) (payload : List ℕ) (result : Result (List Event) ChunkFault) (events : List Event) → Agrees (chunk_of fields payload) result → IsChunk fields events → payload ≡ payload_bytes layout fields events
    → (result ≡ Ok events) ⊎ (result ≡ Err NoMemory)
chunk_reads_back layout fields payload result events agrees is stood = returns_chunk (chunk_of fields payload) result events agrees (ap (chunk_of fields) stood ∙ chunk_back layout fields events is)

-- two texts put one after another
pub two_more : (old a b one : List ℕ) → one ≡ old ++ a → one ++ b ≡ old ++ (a ++ b)
two_more old a b one first = rw (first, append_assoc old a b) refl
