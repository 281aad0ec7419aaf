-- The head of a payload, as it is read and written.
use Rattle.std.proofs.Common.{◌≡◌, ℕ, ◌<◌, ◌≤◌, ◌^◌, Bool, true, List, ◌∷◌, ◌++◌, length, Option, Some, None, Result, Ok, Err, refl, ap, sym, ◌∙◌, arith, append_assoc}
use Rattle.std.proofs.lemmas.Bool.Decides.{nat_tests}
use Rattle.std.proofs.lemmas.Grind.{common_steps}
use Rattle.std.specs.Int.{w32, w64, to_be_bytes}
use Rattle.rg_bytes.specs.Reading.{tested}
use Rattle.rg_bytes.proofs.Laws.{u8_read, u8_short, u32_read, u32_short, u64_read, u64_short}
use Rattle.rg_event.specs.declared.codec.EventFault.{EventFault}
use Rattle.rg_event.specs.declared.codec.EventFault.TheVariants.{Short, BadValue}
use Rattle.rg_event.specs.declared.event.Event.{Event}
use Rattle.rg_chunk.specs.declared.head.ChunkHead.{ChunkHead}
use Rattle.rg_chunk.specs.declared.head.Layout.{Layout}
use Rattle.rg_chunk.specs.declared.head.Layout.TheVariants.{Rows, Columns}
use Rattle.rg_event.specs.Codec.{Reading}
use Rattle.std.proofs.lemmas.Result.{err_from_is_err_and}
use Rattle.std.specs.Result.{IsErrAnd}
use Rattle.rg_chunk.specs.Heads.{Reads, tag_of, layout_said, is_count, headed_at, stamp_at, stamp_bytes, head_at, head_bytes, head_for, is_head_of, first_stamp, last_stamp, IsHead}

-- a call that hands on that bytes are too few
pub reads_short : {A : Type 0} (reading : Reading A) (result : Result A EventFault) (left : List ℕ) → IsErrAnd result (λ fault. fault ≡ Short) → reading ≡ Err Short → Reads reading result left
reads_short reading result left short is = let stops = err_from_is_err_and result short in rw (stops.1, stops.2) is

-- an offset and a time

pub stamp_short : (old : List ℕ) → length old < 8 → stamp_at old ≡ Err Short
unfolding stamp_at
stamp_short old few = rw (u64_short Short old few) refl

pub stamp_no_time : (old : List ℕ) (offset : ℕ) (left : List ℕ) → old ≡ to_be_bytes w64 offset ++ left → offset < 2 ^ 64 → length left < 8 → stamp_at old ≡ Err Short
unfolding stamp_at
stamp_no_time old offset left stood fits few = rw (u64_read Short old offset left stood fits, u64_short Short left few) refl

pub stamp_read :
    (old : List ℕ) (offset : ℕ) (left : List ℕ) (time : ℕ) (rest : List ℕ) → old ≡ to_be_bytes w64 offset ++ left → offset < 2 ^ 64 → left ≡ to_be_bytes w64 time ++ rest → time < 2 ^ 64
    → stamp_at old ≡ Ok ((offset, time), rest)
unfolding stamp_at
stamp_read old offset left time rest stood fits behind small = rw (u64_read Short old offset left stood fits, u64_read Short left time rest behind small) refl

-- a head, by where its reading stops

pub head_short : (old : List ℕ) → length old < 1 → head_at old ≡ Err Short
unfolding head_at
head_short old few = rw (u8_short Short old few) refl

pub head_no_count : (old : List ℕ) (tag : ℕ) (one : List ℕ) → old ≡ tag ∷ one → length one < 4 → head_at old ≡ Err Short
unfolding head_at
head_no_count old tag one stood few = rw (u8_read Short old tag one stood, u32_short Short one few) refl

pub head_no_first : (old : List ℕ) (tag : ℕ) (one : List ℕ) (count : ℕ) (two : List ℕ) (fault : EventFault) → old ≡ tag ∷ one → one ≡ to_be_bytes w32 count ++ two → count < 2 ^ 32 → stamp_at two ≡ Err fault → head_at old ≡ Err fault
unfolding head_at
head_no_first old tag one count two fault stood behind fits stops = rw (u8_read Short old tag one stood, u32_read Short one count two behind fits, stops) refl

pub head_no_last :
    (old : List ℕ) (tag : ℕ) (one : List ℕ) (count : ℕ) (two : List ℕ) (first : ℕ × ℕ) (three : List ℕ) (fault : EventFault) → old ≡ tag ∷ one → one ≡ to_be_bytes w32 count ++ two → count < 2 ^ 32
    → stamp_at two ≡ Ok (first, three) → stamp_at three ≡ Err fault → head_at old ≡ Err fault
unfolding head_at
head_no_last old tag one count two first three fault stood behind fits read stops = rw (u8_read Short old tag one stood, u32_read Short one count two behind fits, read, stops) refl

pub head_said :
    (old : List ℕ) (tag : ℕ) (one : List ℕ) (count : ℕ) (two : List ℕ) (first : ℕ × ℕ) (three : List ℕ) (last : ℕ × ℕ) (rest : List ℕ) (layout : Option Layout) → old ≡ tag ∷ one → one ≡ to_be_bytes w32 count ++ two → count < 2 ^ 32
    → stamp_at two ≡ Ok (first, three) → stamp_at three ≡ Ok (last, rest) → layout_said tag ≡ layout
    → head_at old ≡ headed_at layout (record { count = count; first_offset = first.0; first_time = first.1; last_offset = last.0; last_time = last.1 }) rest
unfolding head_at
head_said old tag one count two first three last rest layout stood behind fits read more is = rw (u8_read Short old tag one stood, u32_read Short one count two behind fits, read, more, is) refl

pub head_unknown :
    (old : List ℕ) (tag : ℕ) (one : List ℕ) (count : ℕ) (two : List ℕ) (first : ℕ × ℕ) (three : List ℕ) (last : ℕ × ℕ) (rest : List ℕ) → old ≡ tag ∷ one → one ≡ to_be_bytes w32 count ++ two → count < 2 ^ 32
    → stamp_at two ≡ Ok (first, three) → stamp_at three ≡ Ok (last, rest) → layout_said tag ≡ None → head_at old ≡ Err (BadValue 0)
head_unknown old tag one count two first three last rest stood behind fits read more none = head_said old tag one count two first three last rest None stood behind fits read more none

pub head_tested :
    (old : List ℕ) (tag : ℕ) (one : List ℕ) (count : ℕ) (two : List ℕ) (first : ℕ × ℕ) (three : List ℕ) (last : ℕ × ℕ) (rest : List ℕ) (layout : Layout) (counts : Bool) → old ≡ tag ∷ one → one ≡ to_be_bytes w32 count ++ two → count < 2 ^ 32
    → stamp_at two ≡ Ok (first, three) → stamp_at three ≡ Ok (last, rest) → layout_said tag ≡ Some layout → is_count count ≡ counts
    → head_at old ≡ tested (BadValue 0) counts (layout, record { count = count; first_offset = first.0; first_time = first.1; last_offset = last.0; last_time = last.1 }) rest
head_tested old tag one count two first three last rest layout counts stood behind fits read more said is =
    head_said old tag one count two first three last rest (Some layout) stood behind fits read more said
    ∙ ap (λ (test : Bool). tested (BadValue 0) test (layout, record { count = count; first_offset = first.0; first_time = first.1; last_offset = last.0; last_time = last.1 }) rest) is

pub count_is : (count : ℕ) → 1 ≤ count → count ≤ 4096 → is_count count ≡ true
count_is count some few = grind (arith, nat_tests)

pub count_parts : (count : ℕ) → is_count count ≡ true → (1 ≤ count) × (count ≤ 4096)
count_parts count is = (grind (arith, nat_tests), grind (arith, nat_tests))

pub tag_back : (layout : Layout) → layout_said (tag_of layout) ≡ Some layout
tag_back Rows = refl
tag_back Columns = refl

pub tag_is : (tag : ℕ) (layout : Layout) → layout_said tag ≡ Some layout → tag ≡ tag_of layout
tag_is tag Rows said = grind (arith, nat_tests, common_steps)
tag_is tag Columns said = grind (arith, nat_tests, common_steps)

pub head_taken :
    (old : List ℕ) (tag : ℕ) (one : List ℕ) (count : ℕ) (two : List ℕ) (first : ℕ × ℕ) (three : List ℕ) (last : ℕ × ℕ) (rest : List ℕ) (layout : Layout) → old ≡ tag ∷ one → one ≡ to_be_bytes w32 count ++ two → two ≡ stamp_bytes first ++ three
    → three ≡ stamp_bytes last ++ rest → layout_said tag ≡ Some layout
    → old ≡ head_bytes layout (record { count = count; first_offset = first.0; first_time = first.1; last_offset = last.0; last_time = last.1 }) ++ rest
head_taken old tag one count two first three last rest layout stood behind then end said =
    let a : List ℕ = to_be_bytes w32 count in
    let b : List ℕ = stamp_bytes first in
    let c : List ℕ = stamp_bytes last in
    stood ∙ (λ i. tag_is tag layout said i ∷ (behind ∙ ap (λ (l : List ℕ). a ++ l) (then ∙ ap (λ (l : List ℕ). b ++ l) end ∙ sym (append_assoc b c rest)) ∙ sym (append_assoc a (b ++ c) rest)) i)

-- a head that is written is read back

pub head_back :
    (layout : Layout) (head : ChunkHead) (rest : List ℕ) → IsHead head → head.first_offset < 2 ^ 64 → head.first_time < 2 ^ 64 → head.last_offset < 2 ^ 64 → head.last_time < 2 ^ 64
    → head_at (head_bytes layout head ++ rest) ≡ Ok ((layout, head), rest)
head_back layout head rest is a b c d =
    let four : List ℕ = to_be_bytes w64 head.last_time ++ rest in
    let three : List ℕ = to_be_bytes w64 head.last_offset ++ four in
    let two : List ℕ = to_be_bytes w64 head.first_offset ++ (to_be_bytes w64 head.first_time ++ three) in
    let one : List ℕ = to_be_bytes w32 head.count ++ two in
    head_tested (head_bytes layout head ++ rest) (tag_of layout) one head.count two (head.first_offset, head.first_time) three (head.last_offset, head.last_time) rest layout true refl refl (omega (arith, is.few))
    (stamp_read two head.first_offset (to_be_bytes w64 head.first_time ++ three) head.first_time three refl a refl b)
    (stamp_read three head.last_offset four head.last_time rest refl c refl d)
    (tag_back layout) (count_is head.count is.some is.few)

-- a head that agrees with events is theirs

pub own_head : (events : List Event) → is_head_of (head_for events) events ≡ true
own_head events = grind (arith, nat_tests)

pub head_is : (head : ChunkHead) (events : List Event) → is_head_of head events ≡ true → head ≡ head_for events
head_is head events is =
    let count : head.count ≡ length events = grind (arith, nat_tests) in
    let first_offset : head.first_offset ≡ (first_stamp events).0 = grind (arith, nat_tests) in
    let first_time : head.first_time ≡ (first_stamp events).1 = grind (arith, nat_tests) in
    let last_offset : head.last_offset ≡ (last_stamp events).0 = grind (arith, nat_tests) in
    let last_time : head.last_time ≡ (last_stamp events).1 = grind (arith, nat_tests) in
    λ i. record { count = count i; first_offset = first_offset i; first_time = first_time i; last_offset = last_offset i; last_time = last_time i }

-- four texts put one after another
pub four_more : (old a b c d one two three : List ℕ) → one ≡ old ++ a → two ≡ one ++ b → three ≡ two ++ c → three ++ d ≡ old ++ (a ++ (b ++ (c ++ d)))
four_more old a b c d one two three first second third =
    rw (third, second, first, append_assoc ((old ++ a) ++ b) c d, append_assoc (old ++ a) b (c ++ d), append_assoc old a (b ++ (c ++ d))) refl
