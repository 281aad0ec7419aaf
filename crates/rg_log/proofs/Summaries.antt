-- What the heads of the chunks of a legal log come to.
use Rattle.std.proofs.Common.{◌≡◌, ℕ, ◌+◌, ◌^◌, ◌≤◌, ◌<◌, Bool, true, false, List, [], ◌∷◌, ◌++◌, length, Some, None, refl, sym, ap, ◌∙◌, arith, length-append, nat_le, nat_lt, if◌then◌else◌}
use Rattle.std.proofs.lemmas.Bool.Decides.{nat_tests}
use Rattle.std.proofs.lemmas.List.Elements.{All-head, All-tail}
use Rattle.std.specs.Prelude.{All}
use Rattle.rg_event.specs.Codec.{IsEventOf}
use Rattle.rg_event.specs.declared.event.Event.{Event}
use Rattle.rg_event.specs.declared.schema.Field.{Field}
use Rattle.rg_event.specs.Rising.{IsRising, next_offset, last_time}
use Rattle.rg_chunk.specs.declared.head.ChunkHead.{ChunkHead}
use Rattle.rg_chunk.specs.Heads.{head_for}
use Rattle.rg_log.specs.Entries.{may_follow, added, told_by, summary_of}
use Rattle.rg_log.specs.declared.summary.LogSummary.{LogSummary}
use Rattle.rg_log.proofs.ChunkHeads.{first_offset, first_time, last_offset, chunk_time, RisesFrom}

-- events that rise, from these on
pub rises_behind : (front : List Event) (es : List Event) → IsRising (front ++ es) → RisesFrom (next_offset front) (last_time front) es
rises_behind [] [] rising = tt
rises_behind [] (e ∷ es) rising = (omega arith, omega arith, rises_one e es rising)
  where
    rises_one : (e : Event) (es : List Event) → IsRising (e ∷ es) → RisesFrom (e.offset + 1) e.time es
    rises_one e [] rising = tt
    rises_one e (f ∷ es) rising = (omega (arith, rising.0), rising.1, rises_one f es rising.2)
rises_behind (x ∷ []) es rising = one x es rising
  where
    one : (e : Event) (es : List Event) → IsRising (e ∷ es) → RisesFrom (e.offset + 1) e.time es
    one e [] rising = tt
    one e (f ∷ es) rising = (omega (arith, rising.0), rising.1, one f es rising.2)
rises_behind (x ∷ (y ∷ front)) es rising = rises_behind (y ∷ front) es rising.2

last_next : (c : List Event) → 1 ≤ length c → next_offset c ≡ last_offset c + 1
last_next [] some = absurd (omega arith)
last_next (x ∷ []) some = refl
last_next (x ∷ (y ∷ c)) some = last_next (y ∷ c) (omega arith)

next_more : (front c : List Event) → 1 ≤ length c → next_offset (front ++ c) ≡ last_offset c + 1
next_more [] c some = last_next c some
next_more (x ∷ []) [] some = absurd (omega arith)
next_more (x ∷ []) (y ∷ c) some = last_next (y ∷ c) some
next_more (x ∷ (y ∷ front)) c some = next_more (y ∷ front) c some

last_same : (c : List Event) → last_time c ≡ chunk_time c
last_same [] = refl
last_same (x ∷ []) = refl
last_same (x ∷ (y ∷ c)) = last_same (y ∷ c)

time_more : (front c : List Event) → 1 ≤ length c → last_time (front ++ c) ≡ chunk_time c
time_more [] c some = last_same c
time_more (x ∷ []) [] some = absurd (omega arith)
time_more (x ∷ []) (y ∷ c) some = last_same (y ∷ c)
time_more (x ∷ (y ∷ front)) c some = time_more (y ∷ front) c some

pub added_is : (front c : List Event) → 1 ≤ length c → added (summary_of front) (head_for c) ≡ summary_of (front ++ c)
added_is front c some =
    let a : length front + length c ≡ length (front ++ c) = sym (length-append front c) in
    let b : last_offset c + 1 ≡ next_offset (front ++ c) = sym (next_more front c some) in
    let d : chunk_time c ≡ last_time (front ++ c) = sym (time_more front c some) in
    cc

pub told_added : (t m : LogSummary) (h : ChunkHead) → told_by t (Some h) ≡ Some m → m ≡ added t h
told_added t m h e = by (may_follow t h) refl
  where
    by : (b : Bool) → may_follow t h ≡ b → m ≡ added t h
    by true s = let f : Some (added t h) ≡ Some m = sym (ap (λ (b : Bool). if b then Some (added t h) else None) s) ∙ e in cc
    by false s = let f : None ≡ Some m = sym (ap (λ (b : Bool). if b then Some (added t h) else None) s) ∙ e in absurd cc

-- the first and last of a chunk of events that rise
rises_ends : (n t : ℕ) (c more : List Event) → 1 ≤ length c → RisesFrom n t (c ++ more) → (n ≤ first_offset c) × (first_offset c ≤ last_offset c) × (t ≤ first_time c) × (first_time c ≤ chunk_time c)
rises_ends n t [] more some rising = absurd (omega arith)
rises_ends n t (x ∷ []) more some rising = (rising.0, omega arith, rising.1, omega arith)
rises_ends n t (x ∷ (y ∷ c)) more some rising =
    let rest = rises_ends (x.offset + 1) x.time (y ∷ c) more (omega arith) rising.2 in
    (rising.0, omega (arith, rest.0, rest.1), rising.1, omega (arith, rest.2, rest.3))

may_follow_is : (t : LogSummary) (h : ChunkHead) → t.next ≤ h.first_offset → h.first_offset ≤ h.last_offset → h.last_offset < 4611686018427387904 → t.time ≤ h.first_time → h.first_time ≤ h.last_time → t.count + h.count ≤ 1099511627776 → may_follow t h ≡ true
may_follow_is t h a b c d e f =
    let a1 : nat_le t.next h.first_offset ≡ true = grind (arith, nat_tests) in
    let b1 : nat_le h.first_offset h.last_offset ≡ true = grind (arith, nat_tests) in
    let c1 : nat_lt h.last_offset 4611686018427387904 ≡ true = grind (arith, nat_tests) in
    let d1 : nat_le t.time h.first_time ≡ true = grind (arith, nat_tests) in
    let e1 : nat_le h.first_time h.last_time ≡ true = grind (arith, nat_tests) in
    let f1 : nat_le (t.count + h.count) 1099511627776 ≡ true = grind (arith, nat_tests) in
    rw (a1, b1, c1, d1, e1, f1) refl

-- the last offset of a chunk of legal events
last_within : (fields : List Field) (c more : List Event) → 1 ≤ length c → All (IsEventOf fields) (c ++ more) → last_offset c < 2 ^ 62
last_within fields [] more some all = absurd (omega arith)
last_within fields (x ∷ []) more some all = (All-head (IsEventOf fields) x more all).offset
last_within fields (x ∷ (y ∷ c)) more some all = last_within fields (y ∷ c) more (omega arith) (All-tail (IsEventOf fields) x ((y ∷ c) ++ more) all)

pub all_behind : (P : Event → Type 0) (a b : List Event) → All P (a ++ b) → All P b
all_behind P [] b all = all
all_behind P (x ∷ a) b all = all_behind P a b (All-tail P x (a ++ b) all)

-- a chunk of a legal log may follow the events before it, and what the heads then come to is that of all of them
pub legal_told : (fields : List Field) (front c more : List Event) → 1 ≤ length c → IsRising (front ++ (c ++ more)) → length (front ++ (c ++ more)) ≤ 2 ^ 40 → All (IsEventOf fields) (c ++ more) → told_by (summary_of front) (Some (head_for c)) ≡ Some (summary_of (front ++ c))
legal_told fields front c more some rising few of =
    let e = rises_ends (next_offset front) (last_time front) c more some (rises_behind front (c ++ more) rising) in
    let count : length front + length c ≤ 1099511627776 = omega (arith, few, length-append front (c ++ more), length-append c more) in
    let may : may_follow (summary_of front) (head_for c) ≡ true = may_follow_is (summary_of front) (head_for c) e.0 e.1 (omega (arith, last_within fields c more some of)) e.2 e.3 count in
    ap (λ (b : Bool). if b then Some (added (summary_of front) (head_for c)) else None) may ∙ ap (λ (s : LogSummary). Some s) (added_is front c some)
