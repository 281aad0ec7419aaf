-- What is read as columns of events in bytes is events of the columns.
use Rattle.std.proofs.Common.{◌≡◌, ◌∙◌, ℕ, zero, suc, ◌+◌, ◌<◌, ◌≤◌, ◌==◌, nat_le, true, List, [], ◌∷◌, ◌++◌, map, length, get_or, take, drop, Option, Some, None, Ok, refl, sym, ap, subst, arith, add-one, drop-cons, length-append, length-drop}
use Rattle.std.proofs.lemmas.Bool.{le-leb}
use Rattle.std.proofs.lemmas.List.{length-take-le, take_all}
use Rattle.std.proofs.lemmas.List.Elements.{All-nil, All-head, All-tail, All-push, All-take, All-drop}
use Rattle.std.specs.Prelude.{All}
use Rattle.std.specs.Str.{is_utf8}
use Rattle.rg_bytes.specs.Reading.{Reading, and_then, tested, bytes_at, u8_at, u64_at, more_at}
use Rattle.rg_event.specs.Codec.{IsValueOf, IsEventOf}
use Rattle.rg_event.specs.Words.{is_word}
use Rattle.rg_event.specs.declared.event.Event.{Event}
use Rattle.rg_event.specs.declared.schema.Field.{Field}
use Rattle.rg_event.specs.declared.value.Kind.{Kind}
use Rattle.rg_event.specs.declared.value.Kind.TheVariants.{Int, Id, Text, Flag}
use Rattle.rg_event.specs.declared.value.Value.{Value}
use Rattle.rg_event.specs.declared.value.Value.TheVariants.{Id as IdValue, Text as TextValue, Flag as FlagValue}
use Rattle.rg_frame.specs.Bytes.{IsByte}
use Rattle.rg_column.specs.Widths.{bits, width_said, difference_at}
use Rattle.rg_column.specs.Numbers.{base_bits, field_of, is_packed, raised, differences_at, packed_at, numbers_at, AreOf}
use Rattle.rg_column.specs.Values.{int_value, ints_at, ids_at, text_at, next_text_at, following_at, texts_at, flag_at, column_at}
use Rattle.rg_column.specs.Columns.{started, widened, fields_at, columns_at}
use Rattle.rg_column.specs.declared.fault.ColumnFault.TheVariants.{Short, BadColumn}
use Rattle.rg_column.specs.declared.series.Series.{Series}
use Rattle.rg_column.specs.declared.series.Series.TheVariants.{Offset, Time, Int as Ints, Id as Ids}
use Rattle.rg_column.specs.declared.width.Width.{Width}
use Rattle.rg_column.proofs.Laws.{raised_are, length_map, ints_legal, ids_legal, started_many, started_legal, widened_many, column_legal}
use Rattle.rg_log.proofs.Decoded.{both_read, same_pair, passed, taken, number_small, number_left, byte_left}

-- so many items of what each reading gives

more_many : {F A : Type 0} (item_at : List A → List ℕ → Reading F A) (so_far : List A) (count : ℕ) (bytes : List ℕ) (items : List A) (left : List ℕ) → more_at item_at so_far count bytes ≡ Ok (items, left) → length items ≡ length so_far + count
more_many item_at so_far zero bytes items left e =
    let same : so_far ≡ items = (same_pair (Ok (so_far, bytes)) so_far items bytes left refl e).0 in
    omega (arith, ap (λ l. length l) same)
more_many item_at so_far (suc count) bytes items left e =
    let b = both_read (item_at so_far bytes) (λ item rest. more_at item_at (so_far ++ item ∷ []) count rest) items left e in
    let rest : length items ≡ length (so_far ++ b.value ∷ []) + count = more_many item_at (so_far ++ b.value ∷ []) count b.left items left b.more in
    omega (arith, rest, length-append so_far (b.value ∷ []))

more_within :
    {F A : Type 0} (P : A → Type 0) (item_at : List A → List ℕ → Reading F A) → ((so_far : List A) (bytes : List ℕ) (item : A) (left : List ℕ) → All IsByte bytes → item_at so_far bytes ≡ Ok (item, left) → P item × All IsByte left)
    → (so_far : List A) (count : ℕ) (bytes : List ℕ) (items : List A) (left : List ℕ) → All IsByte bytes → All P so_far → more_at item_at so_far count bytes ≡ Ok (items, left) → All P items × All IsByte left
more_within P item_at each so_far zero bytes items left small of e =
    let f = same_pair (Ok (so_far, bytes)) so_far items bytes left refl e in
    (subst (λ l. All P l) f.0 of, subst (λ (l : List ℕ). All IsByte l) f.1 small)
more_within P item_at each so_far (suc count) bytes items left small of e =
    let b = both_read (item_at so_far bytes) (λ item rest. more_at item_at (so_far ++ item ∷ []) count rest) items left e in
    let one = each so_far bytes b.value b.left small b.is in
    more_within P item_at each (so_far ++ b.value ∷ []) count b.left items left one.1 (All-push P so_far b.value of one.0) b.more

-- numbers

difference_within : (width : Width) (so_far : List ℕ) (bytes : List ℕ) (difference : ℕ) (left : List ℕ) → All IsByte bytes → difference_at width bytes ≡ Ok (difference, left) → Unit {0} × All IsByte left
unfolding difference_at
difference_within width so_far bytes difference left small e = (tt, number_left (bits width) Short bytes difference left small e)

packed_within :
    (series : Series) (base : ℕ) (said : Option Width) (count : ℕ) (bytes numbers left : List ℕ) → All IsByte bytes → packed_at series base said count bytes ≡ Ok (numbers, left) → AreOf series numbers × (length numbers ≡ count) × All IsByte left
unfolding packed_at
packed_within series base None count bytes numbers left small e = absurd cc
packed_within series base (Some width) count bytes numbers left small e =
    let b = both_read (differences_at width count bytes) (λ differences left. tested (BadColumn (field_of series)) (is_packed series base width differences) (raised base differences) left) numbers left e in
    let p = passed (BadColumn (field_of series)) (is_packed series base width b.value) (raised base b.value) numbers b.left left b.more in
    let many : length b.value ≡ count = omega (arith, more_many (λ _. difference_at width) [] count bytes b.value b.left b.is) in
    let all = more_within (λ _. Unit {0}) (λ _. difference_at width) (difference_within width) [] count bytes b.value b.left small (All-nil (λ _. Unit {0})) b.is in (
      raised_are series base width b.value numbers p.0 (sym p.1),
      ap (λ (l : List ℕ). length l) (sym p.1) ∙ length_map (λ difference. difference + base) b.value ∙ many,
      subst (λ (l : List ℕ). All IsByte l) p.2 all.1,
    )

numbers_within : (series : Series) (count : ℕ) (bytes numbers left : List ℕ) → All IsByte bytes → numbers_at series count bytes ≡ Ok (numbers, left) → AreOf series numbers × (length numbers ≡ count) × All IsByte left
unfolding numbers_at
numbers_within series count bytes numbers left small e =
    let a = both_read (u64_at Short bytes) (λ base one. and_then (u8_at Short one) (λ byte two. packed_at series (base_bits series base) (width_said byte) count two)) numbers left e in
    let b = both_read (u8_at Short a.left) (λ byte two. packed_at series (base_bits series a.value) (width_said byte) count two) numbers left a.more in
    packed_within series (base_bits series a.value) (width_said b.value) count b.left numbers left (byte_left Short a.left b.value b.left (number_small Short bytes a.value a.left small a.is).1 b.is) b.more

-- values

abbrev AreValuesWithin : Kind → ℕ → List Value → List ℕ → Type 0
AreValuesWithin kind count values left = All (IsValueOf kind) values × (length values ≡ count) × All IsByte left

ints_within : (index count : ℕ) (bytes : List ℕ) (values : List Value) (left : List ℕ) → All IsByte bytes → ints_at index count bytes ≡ Ok (values, left) → AreValuesWithin Int count values left
unfolding ints_at
ints_within index count bytes values left small e =
    let b = both_read (numbers_at (Ints index) count bytes) (λ places left. Ok (map int_value places, left)) values left e in
    let n = numbers_within (Ints index) count bytes b.value b.left small b.is in
    let f = same_pair (Ok (map int_value b.value, b.left)) (map int_value b.value) values b.left left refl b.more in (
      subst (λ (vs : List Value). All (IsValueOf Int) vs) f.0 (ints_legal index b.value n.0),
      ap (λ (vs : List Value). length vs) (sym f.0) ∙ length_map int_value b.value ∙ n.1,
      subst (λ (l : List ℕ). All IsByte l) f.1 n.2,
    )

ids_within : (index count : ℕ) (bytes : List ℕ) (values : List Value) (left : List ℕ) → All IsByte bytes → ids_at index count bytes ≡ Ok (values, left) → AreValuesWithin Id count values left
unfolding ids_at
ids_within index count bytes values left small e =
    let b = both_read (numbers_at (Ids index) count bytes) (λ numbers left. Ok (map IdValue numbers, left)) values left e in
    let n = numbers_within (Ids index) count bytes b.value b.left small b.is in
    let f = same_pair (Ok (map IdValue b.value, b.left)) (map IdValue b.value) values b.left left refl b.more in (
      subst (λ (vs : List Value). All (IsValueOf Id) vs) f.0 (ids_legal index b.value n.0),
      ap (λ (vs : List Value). length vs) (sym f.0) ∙ length_map IdValue b.value ∙ n.1,
      subst (λ (l : List ℕ). All IsByte l) f.1 n.2,
    )

byte_at : (lengths : List ℕ) (i : ℕ) → All IsByte lengths → get_or lengths i 0 < 256
byte_at [] i small = omega arith
byte_at (n ∷ lengths) zero small = All-head IsByte n lengths small
byte_at (n ∷ lengths) (suc i) small = byte_at lengths i (All-tail IsByte n lengths small)

text_within : (index : ℕ) (lengths : List ℕ) → All IsByte lengths → (so_far : List Value) (bytes : List ℕ) (value : Value) (left : List ℕ) → All IsByte bytes → next_text_at index lengths so_far bytes ≡ Ok (value, left) → IsValueOf Text value × All IsByte left
unfolding text_at
text_within index lengths lengths-small so_far bytes value left small e =
    let count : ℕ = get_or lengths (length so_far) 0 in
    let b = both_read (bytes_at Short count bytes) (λ text left. tested (BadColumn (index + 1)) (is_utf8 text) (TextValue text) left) value left e in
    let t = taken Short count bytes b.value b.left b.is in
    let p = passed (BadColumn (index + 1)) (is_utf8 b.value) (TextValue b.value) value b.left left b.more in
    let few : count < 256 = byte_at lengths (length so_far) lengths-small in
    let size : length b.value ≡ count = sym (ap (λ (l : List ℕ). length l) t.0) ∙ length-take-le count bytes t.2 in
    let word : is_word b.value ≡ true = rw (p.0, le-leb (length b.value) 255 (omega (arith, size, few))) refl in (
      subst (λ (v : Value). IsValueOf Text v) p.1 word,
      subst (λ (l : List ℕ). All IsByte l) (t.1 ∙ p.2) (All-drop IsByte count bytes small),
    )

texts_within : (index count : ℕ) (bytes : List ℕ) (values : List Value) (left : List ℕ) → All IsByte bytes → texts_at index count bytes ≡ Ok (values, left) → AreValuesWithin Text count values left
unfolding texts_at
texts_within index count bytes values left small e =
    let b = both_read (bytes_at Short count bytes) (λ lengths left. following_at index lengths left) values left e in
    let t = taken Short count bytes b.value b.left b.is in
    let lengths-small : All IsByte b.value = subst (λ (l : List ℕ). All IsByte l) t.0 (All-take IsByte count bytes small) in
    let left-small : All IsByte b.left = subst (λ (l : List ℕ). All IsByte l) t.1 (All-drop IsByte count bytes small) in
    let size : length b.value ≡ count = sym (ap (λ (l : List ℕ). length l) t.0) ∙ length-take-le count bytes t.2 in
    let all = more_within (IsValueOf Text) (next_text_at index b.value) (text_within index b.value lengths-small) [] (length b.value) b.left values left left-small (All-nil (IsValueOf Text)) b.more in
    let many : length values ≡ count = omega (arith, more_many (next_text_at index b.value) [] (length b.value) b.left values left b.more, size) in
    (all.0, many, all.1)

flag_within : (index : ℕ) (so_far : List Value) (bytes : List ℕ) (value : Value) (left : List ℕ) → All IsByte bytes → flag_at index bytes ≡ Ok (value, left) → IsValueOf Flag value × All IsByte left
unfolding flag_at
flag_within index so_far [] value left small e = absurd cc
flag_within index so_far (byte ∷ bytes) value left small e =
    let p = passed (BadColumn (index + 1)) (nat_le byte 1) (FlagValue (byte == 1)) value bytes left e in
    (subst (λ (v : Value). IsValueOf Flag v) p.1 tt, subst (λ (l : List ℕ). All IsByte l) p.2 (All-tail IsByte byte bytes small))

column_within : (kind : Kind) (index count : ℕ) (bytes : List ℕ) (values : List Value) (left : List ℕ) → All IsByte bytes → column_at kind index count bytes ≡ Ok (values, left) → AreValuesWithin kind count values left
column_within Int index count bytes values left small e = ints_within index count bytes values left small e
column_within Id index count bytes values left small e = ids_within index count bytes values left small e
column_within Text index count bytes values left small e = texts_within index count bytes values left small e
column_within Flag index count bytes values left small e =
    let all = more_within (IsValueOf Flag) (λ _. flag_at index) (flag_within index) [] count bytes values left small (All-nil (IsValueOf Flag)) e in
    let many : length values ≡ count = omega (arith, more_many (λ _. flag_at index) [] count bytes values left e) in
    (all.0, many, all.1)

-- events

fields_within :
    (fields rest : List Field) (i count : ℕ) (events : List Event) (bytes : List ℕ) (out : List Event) (left : List ℕ) → rest ≡ drop i fields → All IsByte bytes → All (IsEventOf (take i fields)) events → length events ≡ count
    → fields_at rest i count events bytes ≡ Ok (out, left) → All (IsEventOf fields) out
fields_within fields [] i count events bytes out left is small legal many e =
    let f = same_pair (Ok (events, bytes)) events out bytes left refl e in
    let long : length fields ≤ i = omega (arith, ap (λ (l : List Field). length l) is, length-drop i fields) in
    subst (λ (es : List Event). All (IsEventOf fields) es) f.0 (subst (λ (fs : List Field). All (IsEventOf fs) events) (take_all i fields long) legal)
fields_within fields (field ∷ rest) i count events bytes out left is small legal many e =
    let b = both_read (column_at field.kind i count bytes) (λ values left. fields_at rest (i + 1) count (widened events values) left) out left e in
    let column = column_within field.kind i count bytes b.value b.left small b.is in
    let within : i < length fields = omega (arith, ap (λ (l : List Field). length l) is, length-drop i fields) in
    let parted : drop i fields ≡ get_or fields i field ∷ drop (i + 1) fields = rw add-one (drop-cons fields i field within) in
    let same : field ∷ rest ≡ get_or fields i field ∷ drop (i + 1) fields = is ∙ parted in
    let here : field ≡ get_or fields i field = ap (λ (l : List Field). get_or l 0 field) same in
    let behind : rest ≡ drop (i + 1) fields = ap (λ (l : List Field). drop 1 l) same in
    fields_within fields rest (i + 1) count (widened events b.value) b.left out left behind column.2 (column_legal fields i field events b.value within here legal column.0 (many ∙ sym column.1)) (widened_many events b.value ∙ many) b.more

pub columns_within : (fields : List Field) (count : ℕ) (bytes : List ℕ) (events : List Event) (left : List ℕ) → All IsByte bytes → columns_at fields count bytes ≡ Ok (events, left) → All (IsEventOf fields) events
unfolding columns_at
columns_within fields count bytes events left small e =
    let a = both_read (numbers_at Offset count bytes) (λ offsets left. and_then (numbers_at Time count left) (λ times rest. fields_at fields 0 count (started offsets times) rest)) events left e in
    let b = both_read (numbers_at Time count a.left) (λ times rest. fields_at fields 0 count (started a.value times) rest) events left a.more in
    let offsets = numbers_within Offset count bytes a.value a.left small a.is in
    let times = numbers_within Time count a.left b.value b.left offsets.2 b.is in
    fields_within fields fields 0 count (started a.value b.value) b.left events left refl times.2 (started_legal a.value b.value offsets.0 times.0) (started_many a.value b.value (offsets.1 ∙ sym times.1) ∙ offsets.1) b.more
