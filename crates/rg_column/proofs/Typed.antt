-- Columns of values of each kind: what is written is read back, and what is read was written so.
use Rattle.std.proofs.Common.{◌≡◌, ◌⊎◌, inl, inr, ℕ, suc, ◌+◌, ◌-◌, ◌<◌, ◌≤◌, ◌^◌, ◌==◌, nat_le, ℤ, pos, negsuc, Bool, true, false, List, [], ◌∷◌, ◌++◌, map, length, get_or, take, Result, Ok, Err, subst, refl, ap, sym, ◌∙◌, arith, append_assoc, append-nil, length-append}
use Rattle.std.proofs.lemmas.Bool.Decides.{nat_tests}
use Rattle.std.proofs.lemmas.Grind.{common_steps}
use Rattle.std.proofs.lemmas.Int.{to_z-of_z, of_z-to_z}
use Rattle.std.proofs.lemmas.List.{take_more}
use Rattle.std.proofs.lemmas.List.Elements.{All-append, All-cons, All-nil, All-head, All-tail}
use Rattle.std.specs.Global.{Vec}
use Rattle.std.specs.Int.{w64, cast_signed, cast_unsigned}
use Rattle.std.specs.Int.RustNames.{FitsSigned, unsigned_abs}
use Rattle.std.specs.List.{All}
use Rattle.std.specs.Str.{is_utf8}
use Rattle.rg_bytes.specs.Reading.{tested, more_at, list_bytes}
use Rattle.rg_bytes.proofs.Laws.{StepsBack, more_back, bytes_read, bytes_short, u8_read, u8_short}
use Rattle.rg_event.specs.Codec.{IsValueOf}
use Rattle.rg_event.specs.Words.{is_word}
use Rattle.rg_event.proofs.Laws.{text_of_word}
use Rattle.rg_event.specs.declared.value.Kind.{Kind}
use Rattle.rg_event.specs.declared.value.Kind.TheVariants.{Int, Id, Text, Flag}
use Rattle.rg_event.specs.declared.value.Value.{Value}
use Rattle.rg_event.specs.declared.value.Value.TheVariants.{Int as IntValue, Id as IdValue, Text as TextValue, Flag as FlagValue}
use Rattle.rg_column.specs.Widths.{Reading, AgreesList}
use Rattle.rg_column.specs.Numbers.{turned, int_place, int_of, value_number, numbers_bytes, numbers_at, lowest, highest, AreOf}
use Rattle.rg_column.specs.Values.{text_in, text_length, flag_in, flag_byte, column_bytes, int_value, ints_at, ids_at, text_at, next_text_at, following_at, texts_at, flag_at, flags_at, column_at}
use Rattle.rg_column.specs.declared.fault.ColumnFault.{ColumnFault}
use Rattle.rg_column.specs.declared.fault.ColumnFault.TheVariants.{Short, BadColumn, Memory}
use Rattle.rg_column.specs.declared.series.Series.TheVariants.{Int as Ints, Id as Ids}
use Rattle.rg_column.proofs.Packing.{turned_back, turned_fits, numbers_back, length_map}

-- ints and their places

pub place_back : (place : ℕ) → place < 2 ^ 64 → int_place (int_of place) ≡ place
place_back place fits = ap turned (of_z-to_z w64 (turned place) (turned_fits place fits)) ∙ turned_back place fits

unsigned_fits : (number : ℤ) → FitsSigned w64 number → cast_unsigned w64 number < 2 ^ 64
unsigned_fits (pos n) fits = omega (arith, fits.sfits)
unsigned_fits (negsuc n) fits = omega (arith, fits.sfits)

small_fits : (number : ℤ) → unsigned_abs number ≤ 1000000000000 → FitsSigned w64 number
small_fits (pos n) small = record { sfits = omega arith }
small_fits (negsuc n) small = record { sfits = omega arith }

pub int_back : (number : ℤ) → unsigned_abs number ≤ 1000000000000 → int_of (int_place number) ≡ number
int_back number small = ap (cast_signed w64) (turned_back (cast_unsigned w64 number) (unsigned_fits number (small_fits number small))) ∙ to_z-of_z w64 number (small_fits number small)

pub int_small : (place : ℕ) → 9223371036854775808 ≤ place → place ≤ 9223373036854775808 → unsigned_abs (int_of place) ≤ 1000000000000
int_small place low high = grind (arith, nat_tests)

pub place_between : (number : ℤ) → unsigned_abs number ≤ 1000000000000 → (9223371036854775808 ≤ int_place number) × (int_place number ≤ 9223373036854775808)
place_between (pos n) small = (grind (arith, nat_tests), grind (arith, nat_tests))
place_between (negsuc n) small = (grind (arith, nat_tests), grind (arith, nat_tests))

-- numbers as values

numbers_of_ints : (index : ℕ) (places : List ℕ) → AreOf (Ints index) places → map value_number (map int_value places) ≡ places
numbers_of_ints index [] all = refl
numbers_of_ints index (place ∷ places) all =
    let within = All-head (λ number. (lowest (Ints index) ≤ number) × (number ≤ highest (Ints index))) place places all in
    let here : int_place (int_of place) ≡ place = place_back place (omega (arith, within.1)) in
    let rest = numbers_of_ints index places (All-tail (λ number. (lowest (Ints index) ≤ number) × (number ≤ highest (Ints index))) place places all) in
    λ i. here i ∷ rest i

numbers_of_ids : (numbers : List ℕ) → map value_number (map IdValue numbers) ≡ numbers
numbers_of_ids [] = refl
numbers_of_ids (number ∷ numbers) = ap (λ l. number ∷ l) (numbers_of_ids numbers)

pub ints_stop : (index count : ℕ) (old : List ℕ) (fault : ColumnFault) → (numbers_at (Ints index) count old ≡ Err fault) ⊎ (fault ≡ Memory) → (ints_at index count old ≡ Err fault) ⊎ (fault ≡ Memory)
unfolding ints_at
ints_stop index count old fault (inl stops) = inl (rw stops refl)
ints_stop index count old fault (inr memory) = inr memory

pub ints_read : (index count : ℕ) (old places left : List ℕ) (values : List Value) → numbers_at (Ints index) count old ≡ Ok (places, left) → values ≡ map int_value places → ints_at index count old ≡ Ok (values, left)
unfolding ints_at
ints_read index count old places left values read is = rw (read, is) refl

pub ints_written : (index : ℕ) (old places left : List ℕ) (values : List Value) → AreOf (Ints index) places → old ≡ numbers_bytes (Ints index) places ++ left → values ≡ map int_value places → old ≡ column_bytes Int index values ++ left
ints_written index old places left values all stood is = stood ∙ ap (λ (ns : List ℕ). numbers_bytes (Ints index) ns ++ left) (sym (ap (map value_number) is ∙ numbers_of_ints index places all))

pub ints_legal : (index : ℕ) (places : List ℕ) → AreOf (Ints index) places → All (IsValueOf Int) (map int_value places)
ints_legal index [] all = All-nil (IsValueOf Int)
ints_legal index (place ∷ places) all =
    let within = All-head (λ number. (lowest (Ints index) ≤ number) × (number ≤ highest (Ints index))) place places all in
    All-cons (IsValueOf Int) (int_value place) (map int_value places) (int_small place within.0 within.1)
    (ints_legal index places (All-tail (λ number. (lowest (Ints index) ≤ number) × (number ≤ highest (Ints index))) place places all))

pub ids_stop : (index count : ℕ) (old : List ℕ) (fault : ColumnFault) → (numbers_at (Ids index) count old ≡ Err fault) ⊎ (fault ≡ Memory) → (ids_at index count old ≡ Err fault) ⊎ (fault ≡ Memory)
unfolding ids_at
ids_stop index count old fault (inl stops) = inl (rw stops refl)
ids_stop index count old fault (inr memory) = inr memory

pub ids_read : (index count : ℕ) (old numbers left : List ℕ) (values : List Value) → numbers_at (Ids index) count old ≡ Ok (numbers, left) → values ≡ map IdValue numbers → ids_at index count old ≡ Ok (values, left)
unfolding ids_at
ids_read index count old numbers left values read is = rw (read, is) refl

pub ids_written : (index : ℕ) (old numbers left : List ℕ) (values : List Value) → old ≡ numbers_bytes (Ids index) numbers ++ left → values ≡ map IdValue numbers → old ≡ column_bytes Id index values ++ left
ids_written index old numbers left values stood is = stood ∙ ap (λ (ns : List ℕ). numbers_bytes (Ids index) ns ++ left) (sym (ap (map value_number) is ∙ numbers_of_ids numbers))

pub ids_legal : (index : ℕ) (numbers : List ℕ) → AreOf (Ids index) numbers → All (IsValueOf Id) (map IdValue numbers)
ids_legal index [] all = All-nil (IsValueOf Id)
ids_legal index (number ∷ numbers) all =
    let within = All-head (λ number. (lowest (Ids index) ≤ number) × (number ≤ highest (Ids index))) number numbers all in
    All-cons (IsValueOf Id) (IdValue number) (map IdValue numbers) (omega (arith, within.1))
    (ids_legal index numbers (All-tail (λ number. (lowest (Ids index) ≤ number) × (number ≤ highest (Ids index))) number numbers all))

pub map_twice : {A B C : Type 0} (g : B → C) (f : A → B) (items : List A) → map g (map f items) ≡ map (λ item. g (f item)) items
map_twice g f [] = refl
map_twice g f (item ∷ items) = ap (λ l. g (f item) ∷ l) (map_twice g f items)

pub map_push : {A B : Type 0} (f : A → B) (items : List A) (item : A) → map f (items ++ item ∷ []) ≡ map f items ++ f item ∷ []
map_push f [] item = refl
map_push f (first ∷ items) item = ap (λ l. f first ∷ l) (map_push f items item)

pub map_append : {A B : Type 0} (f : A → B) (front back : List A) → map f (front ++ back) ≡ map f front ++ map f back
map_append f [] back = refl
map_append f (item ∷ front) back = ap (λ l. f item ∷ l) (map_append f front back)

-- texts

pub text_short : (index count : ℕ) (old : List ℕ) → length old < count → text_at index count old ≡ Err Short
unfolding text_at
text_short index count old few = rw (bytes_short Short count old few) refl

text_tested : (index count : ℕ) (old text rest : List ℕ) → old ≡ text ++ rest → length text ≡ count → text_at index count old ≡ tested (BadColumn (index + 1)) (is_utf8 text) (TextValue text) rest
unfolding text_at
text_tested index count old text rest stood counted = rw (bytes_read Short count old text rest stood counted) refl

pub text_read : (index count : ℕ) (old text rest : List ℕ) → old ≡ text ++ rest → length text ≡ count → is_utf8 text ≡ true → text_at index count old ≡ Ok (TextValue text, rest)
text_read index count old text rest stood counted valid = text_tested index count old text rest stood counted ∙ ap (λ test. tested (BadColumn (index + 1)) test (TextValue text) rest) valid

pub text_bad : (index count : ℕ) (old text rest : List ℕ) → old ≡ text ++ rest → length text ≡ count → is_utf8 text ≡ false → text_at index count old ≡ Err (BadColumn (index + 1))
text_bad index count old text rest stood counted invalid = text_tested index count old text rest stood counted ∙ ap (λ test. tested (BadColumn (index + 1)) test (TextValue text) rest) invalid

pub next_is : (index : ℕ) (lengths : List ℕ) (values : List Value) (i : ℕ) (from : List ℕ) (reading : Reading Value) → length values ≡ i → text_at index (get_or lengths i 0) from ≡ reading → next_text_at index lengths values from ≡ reading
next_is index lengths values i from reading counted is = ap (λ (n : ℕ). text_at index (get_or lengths n 0) from) counted ∙ is

pub next_stops :
    (index : ℕ) (lengths : List ℕ) (values : List Value) (i : ℕ) (from : List ℕ) (fault : ColumnFault) → length values ≡ i → (text_at index (get_or lengths i 0) from ≡ Err fault) ⊎ (fault ≡ Memory)
    → (next_text_at index lengths values from ≡ Err fault) ⊎ (fault ≡ Memory)
next_stops index lengths values i from fault counted (inl stops) = inl (next_is index lengths values i from (Err fault) counted stops)
next_stops index lengths values i from fault counted (inr memory) = inr memory

pub lengths_more :
    (lengths : List ℕ) (i : ℕ) (old new : List Value) (text : Value) → i < length lengths → new ≡ old ++ text ∷ [] → map text_length old ≡ take i lengths → text_length text ≡ get_or lengths i 0 → map text_length new ≡ take (i + 1) lengths
lengths_more lengths i old new text within pushed so_far here =
    ap (map text_length) pushed ∙ map_push text_length old text ∙ (λ j. so_far j ++ here j ∷ []) ∙ sym (take_more lengths i 0 within)

pub texts_short : (index count : ℕ) (old : List ℕ) → length old < count → texts_at index count old ≡ Err Short
unfolding texts_at
texts_short index count old few = rw (bytes_short Short count old few) refl

pub texts_on : (index count : ℕ) (old lengths left : List ℕ) → old ≡ lengths ++ left → length lengths ≡ count → texts_at index count old ≡ following_at index lengths left
unfolding texts_at
texts_on index count old lengths left stood counted = rw (bytes_read Short count old lengths left stood counted) refl

pub texts_agree :
    (index count : ℕ) (old lengths left rest : List ℕ) (result : Result (Vec Value) ColumnFault) → old ≡ lengths ++ left → length lengths ≡ count → AgreesList (following_at index lengths left) result rest
    → AgreesList (texts_at index count old) result rest
texts_agree index count old lengths left rest result stood counted agrees =
    subst (λ (reading : Reading (List Value)). AgreesList reading result rest) (sym (texts_on index count old lengths left stood counted)) agrees

pub texts_written : (index : ℕ) (old lengths left rest : List ℕ) (values : List Value) → old ≡ lengths ++ left → left ≡ list_bytes text_in values ++ rest → map text_length values ≡ lengths → old ≡ column_bytes Text index values ++ rest
texts_written index old lengths left rest values stood behind are =
    stood ∙ ap (λ (l : List ℕ). l ++ left) (sym are) ∙ ap (λ (l : List ℕ). map text_length values ++ l) behind ∙ sym (append_assoc (map text_length values) (list_bytes text_in values) rest)

-- flags

pub flag_short : (index : ℕ) (old : List ℕ) → length old < 1 → flag_at index old ≡ Err Short
unfolding flag_at
flag_short index [] few = refl
flag_short index (byte ∷ old) few = absurd (omega arith)

flag_tested : (index : ℕ) (old : List ℕ) (byte : ℕ) (rest : List ℕ) → old ≡ byte ∷ rest → flag_at index old ≡ tested (BadColumn (index + 1)) (nat_le byte 1) (FlagValue (byte == 1)) rest
unfolding flag_at
flag_tested index old byte rest stood = rw stood refl

pub flag_false : (index : ℕ) (old : List ℕ) (byte : ℕ) (rest : List ℕ) → old ≡ byte ∷ rest → byte ≡ 0 → flag_at index old ≡ Ok (FlagValue false, rest)
flag_false index old byte rest stood off = flag_tested index old byte rest stood ∙ rw off refl

pub flag_true : (index : ℕ) (old : List ℕ) (byte : ℕ) (rest : List ℕ) → old ≡ byte ∷ rest → byte ≡ 1 → flag_at index old ≡ Ok (FlagValue true, rest)
flag_true index old byte rest stood on = flag_tested index old byte rest stood ∙ rw on refl

pub flag_bad : (index : ℕ) (old : List ℕ) (byte : ℕ) (rest : List ℕ) → old ≡ byte ∷ rest → ¬ (byte ≡ 0) → ¬ (byte ≡ 1) → flag_at index old ≡ Err (BadColumn (index + 1))
flag_bad index old byte rest stood not_zero not_one = flag_tested index old byte rest stood ∙ grind (arith, common_steps)

pub flags_taken : (old new : List Value) (flag : Value) (start from left : List ℕ) → new ≡ old ++ flag ∷ [] → start ≡ map flag_byte old ++ from → from ≡ flag_byte flag ∷ left → start ≡ map flag_byte new ++ left
flags_taken old new flag start from left pushed so_far stood =
    so_far ∙ ap (λ (l : List ℕ). map flag_byte old ++ l) stood ∙ sym (append_assoc (map flag_byte old) (flag_byte flag ∷ []) left) ∙ ap (λ (l : List ℕ). l ++ left) (sym (ap (map flag_byte) pushed ∙ map_push flag_byte old flag))
