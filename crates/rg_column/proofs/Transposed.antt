-- Events and their columns: what is written is read back, and what is read was written so.
use Rattle.std.proofs.Common.{◌≡◌, ◌⊎◌, inl, inr, ℕ, zero, suc, ◌+◌, ◌-◌, ◌<◌, ◌≤◌, ◌^◌, true, false, List, [], ◌∷◌, ◌++◌, map, length, get_or, take, drop, set, Result, Ok, Err, subst, refl, ap, sym, ◌∙◌, arith, append_assoc, append-nil, length-append, add-one, drop-cons}
use Rattle.std.proofs.lemmas.List.{take_more, take_all, drop_all, get_or_append_left, length-take, length-drop}
use Rattle.std.proofs.lemmas.List.Elements.{All-append, All-cons, All-nil, All-head, All-tail}
use Rattle.std.proofs.lemmas.Slice.Zip.{AllZip-long}
use Rattle.std.proofs.Math.Seq.{get_or-append_seam}
use Rattle.std.specs.Global.{Vec}
use Rattle.std.specs.List.{All}
use Rattle.std.specs.Result.{IfOk}
use Rattle.rg_bytes.specs.Reading.{and_then, more_at, list_bytes}
use Rattle.rg_bytes.proofs.Laws.{StepsBack, more_back, both_answers, memory_only}
use Rattle.rg_event.specs.Codec.{IsValueOf, AreValuesOf, IsEventOf}
use Rattle.rg_event.proofs.Laws.{one_value_more, text_of_word}
use Rattle.rg_event.specs.declared.event.Event.{Event}
use Rattle.rg_event.specs.declared.schema.Field.{Field}
use Rattle.rg_event.specs.declared.value.Kind.{Kind}
use Rattle.rg_event.specs.declared.value.Kind.TheVariants.{Int, Id, Text, Flag}
use Rattle.rg_event.specs.declared.value.Value.{Value}
use Rattle.rg_event.specs.declared.value.Value.TheVariants.{Int as IntValue, Id as IdValue, Text as TextValue, Flag as FlagValue}
use Rattle.rg_column.specs.Widths.{Reading, Agrees, AgreesList}
use Rattle.rg_column.specs.Numbers.{value_number, value_of, number_of, lowest, highest, numbers_bytes, numbers_at, AreOf}
use Rattle.rg_column.specs.Values.{text_in, text_length, flag_byte, column_bytes, int_value, ints_at, ids_at, text_at, next_text_at, following_at, texts_at, flag_at, flags_at, column_at}
use Rattle.rg_column.specs.Columns.{fields_bytes, columns_bytes, started, with_value, widened, fields_at, columns_at, AreColumnsOf}
use Rattle.rg_column.specs.declared.fault.ColumnFault.{ColumnFault}
use Rattle.rg_column.specs.declared.fault.ColumnFault.TheVariants.{Short, BadColumn, Memory}
use Rattle.rg_column.specs.declared.series.Series.TheVariants.{Offset, Time, Int as Ints, Id as Ids}
use Rattle.rg_column.proofs.Packing.{numbers_back, length_map}
use Rattle.rg_column.proofs.Typed.{int_back, place_between, next_is, text_read, texts_on, flag_false, flag_true, map_append}

-- events that are begun

started_suc :
    (i : ℕ) (offsets times : List ℕ) → i < length offsets → i < length times
    → started (take (suc i) offsets) (take (suc i) times) ≡ started (take i offsets) (take i times) ++ record { offset = get_or offsets i 0; time = get_or times i 0; values = [] } ∷ []
started_suc i [] times within beside = absurd (omega arith)
started_suc i (offset ∷ offsets) [] within beside = absurd (omega arith)
started_suc zero (offset ∷ offsets) (time ∷ times) within beside = refl
started_suc (suc i) (offset ∷ offsets) (time ∷ times) within beside = ap (λ (events : List Event). record { offset = offset; time = time; values = [] } ∷ events) (started_suc i offsets times (omega arith) (omega arith))

pub started_more :
    (i : ℕ) (offsets times : List ℕ) → i < length offsets → i < length times
    → started (take (i + 1) offsets) (take (i + 1) times) ≡ started (take i offsets) (take i times) ++ record { offset = get_or offsets i 0; time = get_or times i 0; values = [] } ∷ []
started_more i offsets times within beside = rw add-one (started_suc i offsets times within beside)

pub started_offsets : (offsets times : List ℕ) → length offsets ≡ length times → map (number_of Offset) (started offsets times) ≡ offsets
started_offsets [] times same = refl
started_offsets (offset ∷ offsets) [] same = absurd (omega arith)
started_offsets (offset ∷ offsets) (time ∷ times) same = ap (λ (l : List ℕ). offset ∷ l) (started_offsets offsets times (omega arith))

pub started_times : (offsets times : List ℕ) → length offsets ≡ length times → map (number_of Time) (started offsets times) ≡ times
started_times [] [] same = refl
started_times [] (time ∷ times) same = absurd (omega arith)
started_times (offset ∷ offsets) [] same = absurd (omega arith)
started_times (offset ∷ offsets) (time ∷ times) same = ap (λ (l : List ℕ). time ∷ l) (started_times offsets times (omega arith))

pub started_many : (offsets times : List ℕ) → length offsets ≡ length times → length (started offsets times) ≡ length offsets
started_many [] times same = refl
started_many (offset ∷ offsets) [] same = absurd (omega arith)
started_many (offset ∷ offsets) (time ∷ times) same = ap (λ n. suc n) (started_many offsets times (omega arith))

pub started_legal : (offsets times : List ℕ) → AreOf Offset offsets → AreOf Time times → All (IsEventOf []) (started offsets times)
started_legal [] times offsets-are times-are = All-nil (IsEventOf [])
started_legal (offset ∷ offsets) [] offsets-are times-are = All-nil (IsEventOf [])
started_legal (offset ∷ offsets) (time ∷ times) offsets-are times-are =
    let here = All-head (λ number. (lowest Offset ≤ number) × (number ≤ highest Offset)) offset offsets offsets-are in
    let when = All-head (λ number. (lowest Time ≤ number) × (number ≤ highest Time)) time times times-are in
    All-cons (IsEventOf []) (record { offset = offset; time = time; values = [] }) (started offsets times) (record { offset = omega (arith, here.1); time = when.1; values = tt })
    (started_legal offsets times (All-tail (λ number. (lowest Offset ≤ number) × (number ≤ highest Offset)) offset offsets offsets-are) (All-tail (λ number. (lowest Time ≤ number) × (number ≤ highest Time)) time times times-are))

-- events with one value more

pub widened_many : (events : List Event) (values : List Value) → length (widened events values) ≡ length events
widened_many [] values = refl
widened_many (event ∷ events) [] = refl
widened_many (event ∷ events) (value ∷ values) = ap (λ n. suc n) (widened_many events values)

pub widened_none : (events : List Event) → widened events [] ≡ events
widened_none [] = refl
widened_none (event ∷ events) = refl

widened_push :
    (events : List Event) (done : List Value) (value : Value) (d : Event) → length done < length events
    → set (widened events done) (length done) (with_value (get_or (widened events done) (length done) d) value) ≡ widened events (done ++ value ∷ [])
widened_push [] done value d within = absurd (omega arith)
widened_push (event ∷ events) [] value d within = ap (λ (es : List Event). with_value event value ∷ es) (sym (widened_none events))
widened_push (event ∷ events) (first ∷ done) value d within = ap (λ (es : List Event). with_value event first ∷ es) (widened_push events done value d (omega arith))

pub widened_more :
    (events items : List Event) (done : List Value) (i : ℕ) (item with : Event) (value : Value) → items ≡ widened events done → i ≡ length done → i < length events → item ≡ get_or items i item → with ≡ with_value item value
    → set items i with ≡ widened events (done ++ value ∷ [])
widened_more events items done i item with value here counted within is put =
    ap (λ (w : Event). set items i w) (put ∙ ap (λ (e : Event). with_value e value) is)
    ∙ (λ j. set (here j) (counted j) (with_value (get_or (here j) (counted j) item) value))
    ∙ widened_push events done value item (omega (arith, counted, within))

pub more_values : (all done rest : List Value) (value : Value) → all ≡ done ++ (value ∷ rest) → length done < length all
more_values all done rest value is = omega (arith, ap (λ (l : List Value). length l) is, length-append done (value ∷ rest))

pub widened_offsets : (events : List Event) (values : List Value) → map (number_of Offset) (widened events values) ≡ map (number_of Offset) events
widened_offsets [] values = refl
widened_offsets (event ∷ events) [] = refl
widened_offsets (event ∷ events) (value ∷ values) = ap (λ (l : List ℕ). event.offset ∷ l) (widened_offsets events values)

pub widened_times : (events : List Event) (values : List Value) → map (number_of Time) (widened events values) ≡ map (number_of Time) events
widened_times [] values = refl
widened_times (event ∷ events) [] = refl
widened_times (event ∷ events) (value ∷ values) = ap (λ (l : List ℕ). event.time ∷ l) (widened_times events values)

-- the columns of events with one value more

abbrev pub HaveMany : ℕ → List Event → Type 0
HaveMany many events = All (λ (event : Event). length event.values ≡ many) events

pub have_many : (fields : List Field) (events : List Event) → All (IsEventOf fields) events → HaveMany (length fields) events
have_many fields [] all = All-nil (λ (event : Event). length event.values ≡ length fields)
have_many fields (event ∷ events) all =
    All-cons (λ (event : Event). length event.values ≡ length fields) event events (AllZip-long (λ (field : Field) value. IsValueOf field.kind value) fields event.values (All-head (IsEventOf fields) event events all).values)
    (have_many fields events (All-tail (IsEventOf fields) event events all))

old_column : (many : ℕ) (events : List Event) (values : List Value) (index : ℕ) → HaveMany many events → index < many → map (value_of index) (widened events values) ≡ map (value_of index) events
old_column many [] values index have below = refl
old_column many (event ∷ events) [] index have below = refl
old_column many (event ∷ events) (value ∷ values) index have below =
    let here : length event.values ≡ many = All-head (λ (event : Event). length event.values ≡ many) event events have in
    let same : value_of index (with_value event value) ≡ value_of index event = get_or_append_left event.values (value ∷ []) (IdValue 0) index (omega (arith, here, below)) in
    let rest = old_column many events values index (All-tail (λ (event : Event). length event.values ≡ many) event events have) below in
    λ i. same i ∷ rest i

new_column : (many : ℕ) (events : List Event) (values : List Value) → HaveMany many events → length events ≡ length values → map (value_of many) (widened events values) ≡ values
new_column many [] [] have same = refl
new_column many [] (value ∷ values) have same = absurd (omega arith)
new_column many (event ∷ events) [] have same = absurd (omega arith)
new_column many (event ∷ events) (value ∷ values) have same =
    let here : length event.values ≡ many = All-head (λ (event : Event). length event.values ≡ many) event events have in
    let last : value_of many (with_value event value) ≡ value = ap (λ (n : ℕ). get_or (event.values ++ value ∷ []) n (IdValue 0)) (sym here) ∙ get_or-append_seam event.values value [] (IdValue 0) in
    let rest = new_column many events values (All-tail (λ (event : Event). length event.values ≡ many) event events have) (omega arith) in
    λ i. last i ∷ rest i

old_columns : (fields : List Field) (index many : ℕ) (events : List Event) (values : List Value) → HaveMany many events → index + length fields ≤ many → fields_bytes fields index (widened events values) ≡ fields_bytes fields index events
old_columns [] index many events values have within = refl
old_columns (field ∷ fields) index many events values have within =
    let here = old_column many events values index have (omega (arith, within)) in
    let rest = old_columns fields (index + 1) many events values have (omega (arith, within)) in
    λ i. column_bytes field.kind index (here i) ++ rest i

columns_push : (fields : List Field) (field : Field) (index : ℕ) (events : List Event) → fields_bytes (fields ++ field ∷ []) index events ≡ fields_bytes fields index events ++ column_bytes field.kind (index + length fields) (map (value_of (index + length fields)) events)
columns_push [] field index events =
    append-nil (column_bytes field.kind index (map (value_of index) events)) ∙ ap (λ (n : ℕ). column_bytes field.kind n (map (value_of n) events)) (omega arith)
columns_push (first ∷ fields) field index events =
    ap (λ (bytes : List ℕ). column_bytes first.kind index (map (value_of index) events) ++ bytes)
    (columns_push fields field (index + 1) events ∙ ap (λ (n : ℕ). fields_bytes fields (index + 1) events ++ column_bytes field.kind n (map (value_of n) events)) (omega arith))
    ∙ sym (append_assoc (column_bytes first.kind index (map (value_of index) events)) (fields_bytes fields (index + 1) events) (column_bytes field.kind (index + length (first ∷ fields)) (map (value_of (index + length (first ∷ fields))) events)))

-- one column more is taken

pub column_taken :
    (fields : List Field) (i : ℕ) (field : Field) (old new : List Event) (values : List Value) (start from left : List ℕ) → i < length fields → field ≡ get_or fields i field → All (IsEventOf (take i fields)) old → length old ≡ length values
    → new ≡ widened old values → start ≡ fields_bytes (take i fields) 0 old ++ from → from ≡ column_bytes field.kind i values ++ left → start ≡ fields_bytes (take (i + 1) fields) 0 new ++ left
column_taken fields i field old new values start from left within is legal same widens so_far column =
    let counted : length (take i fields) ≡ i = omega (arith, length-take i fields, within) in
    let last_index : 0 + length (take i fields) ≡ i = omega (arith, counted) in
    let have : HaveMany i old = subst (λ n. HaveMany n old) counted (have_many (take i fields) old legal) in
    let parted : take (i + 1) fields ≡ take i fields ++ field ∷ [] = take_more fields i field within ∙ ap (λ (f : Field). take i fields ++ f ∷ []) (sym is) in
    let before : fields_bytes (take i fields) 0 (widened old values) ≡ fields_bytes (take i fields) 0 old = old_columns (take i fields) 0 i old values have (omega (arith, counted)) in
    let last : map (value_of i) (widened old values) ≡ values = new_column i old values have same in
    let all : fields_bytes (take (i + 1) fields) 0 new ≡ fields_bytes (take i fields) 0 old ++ column_bytes field.kind i values =
    (λ j. fields_bytes (parted j) 0 (widens j)) ∙ columns_push (take i fields) field 0 (widened old values)
    ∙ ap (λ (n : ℕ). fields_bytes (take i fields) 0 (widened old values) ++ column_bytes field.kind n (map (value_of n) (widened old values))) last_index
    ∙ (λ j. before j ++ column_bytes field.kind i (last j)) in
    so_far ∙ ap (λ (l : List ℕ). fields_bytes (take i fields) 0 old ++ l) column ∙ sym (append_assoc (fields_bytes (take i fields) 0 old) (column_bytes field.kind i values) left)
    ∙ ap (λ (l : List ℕ). l ++ left) (sym all)

pub column_legal :
    (fields : List Field) (i : ℕ) (field : Field) (old : List Event) (values : List Value) → i < length fields → field ≡ get_or fields i field → All (IsEventOf (take i fields)) old → All (IsValueOf field.kind) values → length old ≡ length values
    → All (IsEventOf (take (i + 1) fields)) (widened old values)
column_legal fields i field [] values within is legal are same = All-nil (IsEventOf (take (i + 1) fields))
column_legal fields i field (event ∷ old) [] within is legal are same = absurd (omega arith)
column_legal fields i field (event ∷ old) (value ∷ values) within is legal are same =
    let here : IsEventOf (take i fields) event = All-head (IsEventOf (take i fields)) event old legal in
    All-cons (IsEventOf (take (i + 1) fields)) (with_value event value) (widened old values)
    (record { offset = here.offset; time = here.time; values = one_value_more fields event.values i field value within is here.values (All-head (IsValueOf field.kind) value values are) })
    (column_legal fields i field old values within is (All-tail (IsEventOf (take i fields)) event old legal) (All-tail (IsValueOf field.kind) value values are) (omega arith))

pub column_read :
    (fields : List Field) (i count : ℕ) (field : Field) (old new : List Event) (values : List Value) (from left : List ℕ) (reading : Reading (List Event)) → i < length fields → field ≡ get_or fields i field
    → column_at field.kind i count from ≡ Ok (values, left) → new ≡ widened old values → reading ≡ fields_at (drop i fields) i count old from → reading ≡ fields_at (drop (i + 1) fields) (i + 1) count new left
column_read fields i count field old new values from left reading within is read widens so_far =
    let parted : drop i fields ≡ field ∷ drop (i + 1) fields = rw add-one (drop-cons fields i field within ∙ ap (λ (f : Field). f ∷ drop (suc i) fields) (sym is)) in
    so_far ∙ ap (λ (fs : List Field). fields_at fs i count old from) parted
    ∙ ap (λ (r : Reading (List Value)). and_then r (λ values left. fields_at (drop (i + 1) fields) (i + 1) count (widened old values) left)) read
    ∙ ap (λ (es : List Event). fields_at (drop (i + 1) fields) (i + 1) count es left) (sym widens)

pub column_stops :
    (fields : List Field) (i count : ℕ) (field : Field) (old : List Event) (from : List ℕ) (reading : Reading (List Event)) (fault : ColumnFault) → i < length fields → field ≡ get_or fields i field
    → (column_at field.kind i count from ≡ Err fault) ⊎ (fault ≡ Memory) → reading ≡ fields_at (drop i fields) i count old from → (reading ≡ Err fault) ⊎ (fault ≡ Memory)
column_stops fields i count field old from reading fault within is (inl stops) so_far =
    let parted : drop i fields ≡ field ∷ drop (i + 1) fields = rw add-one (drop-cons fields i field within ∙ ap (λ (f : Field). f ∷ drop (suc i) fields) (sym is)) in
    inl
    (so_far ∙ ap (λ (fs : List Field). fields_at fs i count old from) parted
    ∙ ap (λ (r : Reading (List Value)). and_then r (λ values left. fields_at (drop (i + 1) fields) (i + 1) count (widened old values) left)) stops)
column_stops fields i count field old from reading fault within is (inr memory) so_far = inr memory

-- one column more is written
pub column_put :
    (fields : List Field) (i : ℕ) (field : Field) (events : List Event) (out new all : List ℕ) → i < length fields → field ≡ get_or fields i field → new ≡ out ++ column_bytes field.kind i (map (value_of i) events)
    → out ++ fields_bytes (drop i fields) i events ≡ all → new ++ fields_bytes (drop (i + 1) fields) (i + 1) events ≡ all
column_put fields i field events out new all within is put so_far =
    let parted : drop i fields ≡ field ∷ drop (i + 1) fields = rw add-one (drop-cons fields i field within ∙ ap (λ (f : Field). f ∷ drop (suc i) fields) (sym is)) in
    ap (λ (l : List ℕ). l ++ fields_bytes (drop (i + 1) fields) (i + 1) events) put
    ∙ append_assoc out (column_bytes field.kind i (map (value_of i) events)) (fields_bytes (drop (i + 1) fields) (i + 1) events)
    ∙ ap (λ (fs : List Field). out ++ fields_bytes fs i events) (sym parted) ∙ so_far

-- all columns

pub columns_no_offsets : (fields : List Field) (count : ℕ) (old : List ℕ) (fault : ColumnFault) → (numbers_at Offset count old ≡ Err fault) ⊎ (fault ≡ Memory) → (columns_at fields count old ≡ Err fault) ⊎ (fault ≡ Memory)
unfolding columns_at
columns_no_offsets fields count old fault (inl stops) = inl (rw stops refl)
columns_no_offsets fields count old fault (inr memory) = inr memory

pub columns_no_times :
    (fields : List Field) (count : ℕ) (old offsets left : List ℕ) (fault : ColumnFault) → numbers_at Offset count old ≡ Ok (offsets, left) → (numbers_at Time count left ≡ Err fault) ⊎ (fault ≡ Memory)
    → (columns_at fields count old ≡ Err fault) ⊎ (fault ≡ Memory)
unfolding columns_at
columns_no_times fields count old offsets left fault read (inl stops) = inl (rw (read, stops) refl)
columns_no_times fields count old offsets left fault read (inr memory) = inr memory

columns_on :
    (fields : List Field) (count : ℕ) (old offsets left times rest : List ℕ) → numbers_at Offset count old ≡ Ok (offsets, left) → numbers_at Time count left ≡ Ok (times, rest)
    → columns_at fields count old ≡ fields_at fields 0 count (started offsets times) rest
unfolding columns_at
columns_on fields count old offsets left times rest read then = rw (read, then) refl

pub columns_agree :
    (fields : List Field) (count : ℕ) (old offsets left times rest : List ℕ) (begun : List Event) (result : Result (Vec Event) ColumnFault) (end : List ℕ) → numbers_at Offset count old ≡ Ok (offsets, left) → numbers_at Time count left ≡ Ok (times, rest)
    → begun ≡ started offsets times → AgreesList (fields_at fields 0 count begun rest) result end → AgreesList (columns_at fields count old) result end
columns_agree fields count old offsets left times rest begun result end read then is agrees =
    subst (λ (reading : Reading (List Event)). AgreesList reading result end)
    (ap (λ (es : List Event). fields_at fields 0 count es rest) is ∙ sym (columns_on fields count old offsets left times rest read then)) agrees

pub columns_taken :
    (fields : List Field) (old offsets left times rest : List ℕ) (begun events : List Event) (end : List ℕ) → length offsets ≡ length times → begun ≡ started offsets times → old ≡ numbers_bytes Offset offsets ++ left → left ≡ numbers_bytes Time times ++ rest
    → map (number_of Offset) events ≡ map (number_of Offset) begun → map (number_of Time) events ≡ map (number_of Time) begun → rest ≡ fields_bytes fields 0 events ++ end → old ≡ columns_bytes fields events ++ end
columns_taken fields old offsets left times rest begun events end same is stood behind offsets-are times-are last =
    let first : map (number_of Offset) events ≡ offsets = offsets-are ∙ ap (map (number_of Offset)) is ∙ started_offsets offsets times same in
    let second : map (number_of Time) events ≡ times = times-are ∙ ap (map (number_of Time)) is ∙ started_times offsets times same in
    let a : List ℕ = numbers_bytes Offset offsets in
    let b : List ℕ = numbers_bytes Time times in
    let c : List ℕ = fields_bytes fields 0 events in
    stood ∙ ap (λ (l : List ℕ). a ++ l) (behind ∙ ap (λ (l : List ℕ). b ++ l) last ∙ sym (append_assoc b c end)) ∙ sym (append_assoc a (b ++ c) end)
    ∙ sym (λ i. (numbers_bytes Offset (first i) ++ (numbers_bytes Time (second i) ++ c)) ++ end)

pub columns_written :
    (fields : List Field) (old offsets left times rest : List ℕ) (begun : List Event) (result : Result (Vec Event) ColumnFault) (end : List ℕ) → length offsets ≡ length times → begun ≡ started offsets times → old ≡ numbers_bytes Offset offsets ++ left
    → left ≡ numbers_bytes Time times ++ rest → IfOk result (λ events. map (number_of Offset) events.items ≡ map (number_of Offset) begun) → IfOk result (λ events. map (number_of Time) events.items ≡ map (number_of Time) begun)
    → IfOk result (λ events. rest ≡ fields_bytes fields 0 events.items ++ end) → IfOk result (λ events. old ≡ columns_bytes fields events.items ++ end)
columns_written fields old offsets left times rest begun (Ok events) end same is stood behind offsets-are times-are last = columns_taken fields old offsets left times rest begun events.items end same is stood behind offsets-are times-are last
columns_written fields old offsets left times rest begun (Err fault) end same is stood behind offsets-are times-are last = tt

-- what is written is read back: one column

places_of : (index : ℕ) (values : List Value) → All (IsValueOf Int) values → (AreOf (Ints index) (map value_number values)) × (map int_value (map value_number values) ≡ values)
places_of index [] are = (All-nil (λ number. (lowest (Ints index) ≤ number) × (number ≤ highest (Ints index))), refl)
places_of index (IntValue number ∷ values) are =
    let small = All-head (IsValueOf Int) (IntValue number) values are in
    let rest = places_of index values (All-tail (IsValueOf Int) (IntValue number) values are) in
    let here = int_back number small in (
      All-cons (λ number. (lowest (Ints index) ≤ number) × (number ≤ highest (Ints index))) (value_number (IntValue number)) (map value_number values) (place_between number small) rest.0,
      λ i. IntValue (here i) ∷ rest.1 i,
    )
places_of index (IdValue number ∷ values) are = absurd (All-head (IsValueOf Int) (IdValue number) values are)
places_of index (TextValue text ∷ values) are = absurd (All-head (IsValueOf Int) (TextValue text) values are)
places_of index (FlagValue flag ∷ values) are = absurd (All-head (IsValueOf Int) (FlagValue flag) values are)

numbers_of : (index : ℕ) (values : List Value) → All (IsValueOf Id) values → (AreOf (Ids index) (map value_number values)) × (map IdValue (map value_number values) ≡ values)
numbers_of index [] are = (All-nil (λ number. (lowest (Ids index) ≤ number) × (number ≤ highest (Ids index))), refl)
numbers_of index (IdValue number ∷ values) are =
    let fits : number < 2 ^ 64 = All-head (IsValueOf Id) (IdValue number) values are in
    let rest = numbers_of index values (All-tail (IsValueOf Id) (IdValue number) values are) in (
      All-cons (λ number. (lowest (Ids index) ≤ number) × (number ≤ highest (Ids index))) number (map value_number values) (omega arith, omega (arith, fits)) rest.0,
      λ i. IdValue number ∷ rest.1 i,
    )
numbers_of index (IntValue number ∷ values) are = absurd (All-head (IsValueOf Id) (IntValue number) values are)
numbers_of index (TextValue text ∷ values) are = absurd (All-head (IsValueOf Id) (TextValue text) values are)
numbers_of index (FlagValue flag ∷ values) are = absurd (All-head (IsValueOf Id) (FlagValue flag) values are)

texts_back : (index : ℕ) (lengths : List ℕ) (so_far values : List Value) → All (IsValueOf Text) values → lengths ≡ map text_length (so_far ++ values) → StepsBack (next_text_at index lengths) text_in so_far values
texts_back index lengths so_far [] are is = tt
texts_back index lengths so_far (TextValue text ∷ values) are is =
    let word = All-head (IsValueOf Text) (TextValue text) values are in
    let split : lengths ≡ map text_length so_far ++ length text ∷ map text_length values = is ∙ map_append text_length so_far (TextValue text ∷ values) in
    let here : get_or lengths (length so_far) 0 ≡ length text =
    ap (λ (l : List ℕ). get_or l (length so_far) 0) split ∙ ap (λ (n : ℕ). get_or (map text_length so_far ++ length text ∷ map text_length values) n 0) (sym (length_map text_length so_far))
    ∙ get_or-append_seam (map text_length so_far) (length text) (map text_length values) 0 in (
      λ rest. next_is index lengths so_far (length so_far) (text ++ rest) (Ok (TextValue text, rest)) refl (text_read index (get_or lengths (length so_far) 0) (text ++ rest) text rest refl (sym here) (text_of_word text word)),
      texts_back index lengths (so_far ++ TextValue text ∷ []) values (All-tail (IsValueOf Text) (TextValue text) values are) (is ∙ ap (map text_length) (sym (append_assoc so_far (TextValue text ∷ []) values))),
    )
texts_back index lengths so_far (IntValue number ∷ values) are is = absurd (All-head (IsValueOf Text) (IntValue number) values are)
texts_back index lengths so_far (IdValue number ∷ values) are is = absurd (All-head (IsValueOf Text) (IdValue number) values are)
texts_back index lengths so_far (FlagValue flag ∷ values) are is = absurd (All-head (IsValueOf Text) (FlagValue flag) values are)

abbrev pub flag_text : Value → List ℕ
flag_text value = flag_byte value ∷ []

flag_texts : (values : List Value) → list_bytes flag_text values ≡ map flag_byte values
flag_texts [] = refl
flag_texts (value ∷ values) = ap (λ (l : List ℕ). flag_byte value ∷ l) (flag_texts values)

flags_back : (index : ℕ) (so_far values : List Value) → All (IsValueOf Flag) values → StepsBack (λ _. flag_at index) flag_text so_far values
flags_back index so_far [] are = tt
flags_back index so_far (FlagValue false ∷ values) are =
    (λ rest. flag_false index (0 ∷ rest) 0 rest refl refl, flags_back index (so_far ++ FlagValue false ∷ []) values (All-tail (IsValueOf Flag) (FlagValue false) values are))
flags_back index so_far (FlagValue true ∷ values) are =
    (λ rest. flag_true index (1 ∷ rest) 1 rest refl refl, flags_back index (so_far ++ FlagValue true ∷ []) values (All-tail (IsValueOf Flag) (FlagValue true) values are))
flags_back index so_far (IntValue number ∷ values) are = absurd (All-head (IsValueOf Flag) (IntValue number) values are)
flags_back index so_far (IdValue number ∷ values) are = absurd (All-head (IsValueOf Flag) (IdValue number) values are)
flags_back index so_far (TextValue text ∷ values) are = absurd (All-head (IsValueOf Flag) (TextValue text) values are)

ints_column : (index : ℕ) (values : List Value) (rest : List ℕ) → All (IsValueOf Int) values → 0 < length values → ints_at index (length values) (column_bytes Int index values ++ rest) ≡ Ok (values, rest)
unfolding ints_at
ints_column index values rest are some =
    let parts = places_of index values are in
    let counted : length (map value_number values) ≡ length values = length_map value_number values in
    let read = numbers_back (Ints index) (map value_number values) rest parts.0 (omega (arith, counted, some)) in
    rw (ap (λ (n : ℕ). numbers_at (Ints index) n (column_bytes Int index values ++ rest)) (sym counted) ∙ read) (ap (λ (vs : List Value). Ok (vs, rest)) parts.1)

ids_column : (index : ℕ) (values : List Value) (rest : List ℕ) → All (IsValueOf Id) values → 0 < length values → ids_at index (length values) (column_bytes Id index values ++ rest) ≡ Ok (values, rest)
unfolding ids_at
ids_column index values rest are some =
    let parts = numbers_of index values are in
    let counted : length (map value_number values) ≡ length values = length_map value_number values in
    let read = numbers_back (Ids index) (map value_number values) rest parts.0 (omega (arith, counted, some)) in
    rw (ap (λ (n : ℕ). numbers_at (Ids index) n (column_bytes Id index values ++ rest)) (sym counted) ∙ read) (ap (λ (vs : List Value). Ok (vs, rest)) parts.1)

texts_column : (index : ℕ) (values : List Value) (rest : List ℕ) → All (IsValueOf Text) values → texts_at index (length values) (column_bytes Text index values ++ rest) ≡ Ok (values, rest)
texts_column index values rest are =
    let lengths : List ℕ = map text_length values in
    let counted : length lengths ≡ length values = length_map text_length values in
    let left : List ℕ = list_bytes text_in values ++ rest in
    let read : following_at index lengths left ≡ Ok (values, rest) =
    ap (λ (n : ℕ). more_at (next_text_at index lengths) [] n left) counted ∙ more_back (next_text_at index lengths) text_in [] values rest (texts_back index lengths [] values are refl) in
    texts_on index (length values) (column_bytes Text index values ++ rest) lengths left (append_assoc lengths (list_bytes text_in values) rest) counted ∙ read

flags_column : (index : ℕ) (values : List Value) (rest : List ℕ) → All (IsValueOf Flag) values → flags_at index (length values) (column_bytes Flag index values ++ rest) ≡ Ok (values, rest)
flags_column index values rest are =
    ap (λ (l : List ℕ). flags_at index (length values) (l ++ rest)) (sym (flag_texts values)) ∙ more_back (λ _. flag_at index) flag_text [] values rest (flags_back index [] values are)

pub column_back : (kind : Kind) (index : ℕ) (values : List Value) (rest : List ℕ) → All (IsValueOf kind) values → 0 < length values → column_at kind index (length values) (column_bytes kind index values ++ rest) ≡ Ok (values, rest)
column_back Int index values rest are some = ints_column index values rest are some
column_back Id index values rest are some = ids_column index values rest are some
column_back Text index values rest are some = texts_column index values rest are
column_back Flag index values rest are some = flags_column index values rest are

-- what is written is read back: all columns

-- events with their first values alone
abbrev pub cut : ℕ → Event → Event
cut i event = record { offset = event.offset; time = event.time; values = take i event.values }

abbrev pub GoOn : List Field → ℕ → List Event → Type 0
GoOn fields i events = All (λ (event : Event). AreValuesOf fields (drop i event.values)) events

nothing_more : (values : List Value) → AreValuesOf [] values → values ≡ []
nothing_more [] are = refl
nothing_more (value ∷ values) are = absurd are

cut_whole : (i : ℕ) (events : List Event) → GoOn [] i events → map (cut i) events ≡ events
cut_whole i [] go_on = refl
cut_whole i (event ∷ events) go_on =
    let none : drop i event.values ≡ [] = nothing_more (drop i event.values) (All-head (λ (event : Event). AreValuesOf [] (drop i event.values)) event events go_on) in
    let long : length event.values ≤ i = omega (arith, ap (λ (l : List Value). length l) none, length-drop i event.values) in
    let all : take i event.values ≡ event.values = take_all i event.values long in
    let rest = cut_whole i events (All-tail (λ (event : Event). AreValuesOf [] (drop i event.values)) event events go_on) in
    λ j. record { offset = event.offset; time = event.time; values = all j } ∷ rest j

has_more : (field : Field) (fields : List Field) (i : ℕ) (values : List Value) → AreValuesOf (field ∷ fields) (drop i values) → i < length values
has_more field fields i values are = omega (arith, AllZip-long (λ (field : Field) value. IsValueOf field.kind value) (field ∷ fields) (drop i values) are, length-drop i values)

parts_more : (field : Field) (fields : List Field) (i : ℕ) (values : List Value) → AreValuesOf (field ∷ fields) (drop i values) → (IsValueOf field.kind (get_or values i (IdValue 0))) × (AreValuesOf fields (drop (i + 1) values))
parts_more field fields i values are =
    let within : i < length values = has_more field fields i values are in
    let parted : drop i values ≡ get_or values i (IdValue 0) ∷ drop (i + 1) values = rw add-one (drop-cons values i (IdValue 0) within) in
    subst (λ (l : List Value). AreValuesOf (field ∷ fields) l) parted are

column_here : (field : Field) (fields : List Field) (i : ℕ) (events : List Event) → GoOn (field ∷ fields) i events → (All (IsValueOf field.kind) (map (value_of i) events)) × (GoOn fields (i + 1) events)
column_here field fields i [] go_on = (All-nil (IsValueOf field.kind), All-nil (λ (event : Event). AreValuesOf fields (drop (i + 1) event.values)))
column_here field fields i (event ∷ events) go_on =
    let here = parts_more field fields i event.values (All-head (λ (event : Event). AreValuesOf (field ∷ fields) (drop i event.values)) event events go_on) in
    let rest = column_here field fields i events (All-tail (λ (event : Event). AreValuesOf (field ∷ fields) (drop i event.values)) event events go_on) in (
      All-cons (IsValueOf field.kind) (value_of i event) (map (value_of i) events) here.0 rest.0,
      All-cons (λ (event : Event). AreValuesOf fields (drop (i + 1) event.values)) event events here.1 rest.1,
    )

cut_more : (field : Field) (fields : List Field) (i : ℕ) (events : List Event) → GoOn (field ∷ fields) i events → widened (map (cut i) events) (map (value_of i) events) ≡ map (cut (i + 1)) events
cut_more field fields i [] go_on = refl
cut_more field fields i (event ∷ events) go_on =
    let within : i < length event.values = has_more field fields i event.values (All-head (λ (event : Event). AreValuesOf (field ∷ fields) (drop i event.values)) event events go_on) in
    let more : take i event.values ++ value_of i event ∷ [] ≡ take (i + 1) event.values = sym (take_more event.values i (IdValue 0) within) in
    let rest = cut_more field fields i events (All-tail (λ (event : Event). AreValuesOf (field ∷ fields) (drop i event.values)) event events go_on) in
    λ j. record { offset = event.offset; time = event.time; values = more j } ∷ rest j

fields_back : (fields : List Field) (i : ℕ) (events : List Event) (rest : List ℕ) → GoOn fields i events → 0 < length events → fields_at fields i (length events) (map (cut i) events) (fields_bytes fields i events ++ rest) ≡ Ok (events, rest)
fields_back [] i events rest go_on some = ap (λ (es : List Event). Ok (es, rest)) (cut_whole i events go_on)
fields_back (field ∷ fields) i events rest go_on some =
    let values : List Value = map (value_of i) events in
    let here = column_here field fields i events go_on in
    let counted : length values ≡ length events = length_map (value_of i) events in
    let left : List ℕ = fields_bytes fields (i + 1) events ++ rest in
    let read : column_at field.kind i (length events) (column_bytes field.kind i values ++ left) ≡ Ok (values, left) =
    ap (λ (n : ℕ). column_at field.kind i n (column_bytes field.kind i values ++ left)) (sym counted) ∙ column_back field.kind i values left here.0 (omega (arith, counted, some)) in
    ap (λ (l : List ℕ). fields_at (field ∷ fields) i (length events) (map (cut i) events) l) (append_assoc (column_bytes field.kind i values) (fields_bytes fields (i + 1) events) rest)
    ∙ ap (λ (r : Reading (List Value)). and_then r (λ values left. fields_at fields (i + 1) (length events) (widened (map (cut i) events) values) left)) read
    ∙ ap (λ (es : List Event). fields_at fields (i + 1) (length events) es left) (cut_more field fields i events go_on) ∙ fields_back fields (i + 1) events rest here.1 some

go_on_all : (fields : List Field) (events : List Event) → All (IsEventOf fields) events → GoOn fields 0 events
go_on_all fields [] all = All-nil (λ (event : Event). AreValuesOf fields event.values)
go_on_all fields (event ∷ events) all =
    All-cons (λ (event : Event). AreValuesOf fields event.values) event events (All-head (IsEventOf fields) event events all).values (go_on_all fields events (All-tail (IsEventOf fields) event events all))

begun_cut : (events : List Event) → started (map (number_of Offset) events) (map (number_of Time) events) ≡ map (cut 0) events
begun_cut [] = refl
begun_cut (event ∷ events) = ap (λ (es : List Event). record { offset = event.offset; time = event.time; values = [] } ∷ es) (begun_cut events)

offsets_of : (fields : List Field) (events : List Event) → All (IsEventOf fields) events → AreOf Offset (map (number_of Offset) events)
offsets_of fields [] all = All-nil (λ number. (lowest Offset ≤ number) × (number ≤ highest Offset))
offsets_of fields (event ∷ events) all =
    let here = All-head (IsEventOf fields) event events all in
    All-cons (λ number. (lowest Offset ≤ number) × (number ≤ highest Offset)) event.offset (map (number_of Offset) events) (omega arith, omega (arith, here.offset)) (offsets_of fields events (All-tail (IsEventOf fields) event events all))

times_of : (fields : List Field) (events : List Event) → All (IsEventOf fields) events → AreOf Time (map (number_of Time) events)
times_of fields [] all = All-nil (λ number. (lowest Time ≤ number) × (number ≤ highest Time))
times_of fields (event ∷ events) all =
    let here = All-head (IsEventOf fields) event events all in
    All-cons (λ number. (lowest Time ≤ number) × (number ≤ highest Time)) event.time (map (number_of Time) events) (omega arith, here.time) (times_of fields events (All-tail (IsEventOf fields) event events all))

pub columns_back : (fields : List Field) (count : ℕ) (events : List Event) (old rest : List ℕ) → AreColumnsOf fields count events → old ≡ columns_bytes fields events ++ rest → columns_at fields count old ≡ Ok (events, rest)
columns_back fields count events old rest are stood =
    let offsets : List ℕ = map (number_of Offset) events in
    let times : List ℕ = map (number_of Time) events in
    let many : length offsets ≡ count = length_map (number_of Offset) events ∙ are.counted in
    let as_many : length times ≡ count = length_map (number_of Time) events ∙ are.counted in
    let c : List ℕ = fields_bytes fields 0 events ++ rest in
    let b : List ℕ = numbers_bytes Time times ++ c in
    let split : old ≡ numbers_bytes Offset offsets ++ b =
    stood ∙ append_assoc (numbers_bytes Offset offsets) (numbers_bytes Time times ++ fields_bytes fields 0 events) rest
    ∙ ap (λ (l : List ℕ). numbers_bytes Offset offsets ++ l) (append_assoc (numbers_bytes Time times) (fields_bytes fields 0 events) rest) in
    let first : numbers_at Offset count old ≡ Ok (offsets, b) =
    ap (numbers_at Offset count) split ∙ ap (λ (n : ℕ). numbers_at Offset n (numbers_bytes Offset offsets ++ b)) (sym many) ∙ numbers_back Offset offsets b (offsets_of fields events are.legal) (omega (arith, many, are.some)) in
    let second : numbers_at Time count b ≡ Ok (times, c) =
    ap (λ (n : ℕ). numbers_at Time n b) (sym as_many) ∙ numbers_back Time times c (times_of fields events are.legal) (omega (arith, as_many, are.some)) in
    columns_on fields count old offsets b times c first second ∙ ap (λ (es : List Event). fields_at fields 0 count es c) (begun_cut events)
    ∙ ap (λ (n : ℕ). fields_at fields 0 n (map (cut 0) events) c) (sym are.counted) ∙ fields_back fields 0 events rest (go_on_all fields events are.legal) (omega (arith, are.counted, are.some))

-- what agrees with a reading that gives something is that
pub agrees_with : (reading : Reading (List Event)) (result : Result (List Event) ColumnFault) (left : List ℕ) (given : List Event) (rest : List ℕ) → Agrees reading result left → reading ≡ Ok (given, rest)
    → ((result ≡ Ok given) × (left ≡ rest)) ⊎ (result ≡ Err Memory)
agrees_with reading (Ok events) left given rest agrees is =
    let same = both_answers reading events given left rest agrees is in
    inl (ap (λ (answer : List Event). Ok answer) same.0, same.1)
agrees_with reading (Err fault) left given rest agrees is = inr (ap (λ (e : ColumnFault). Err e) (memory_only Memory reading fault (given, rest) agrees is))
