-- The reading of a line without a quote in one pass.
use Rattle.std.proofs.Common.{◌≡◌, ◌==◌, ◌||◌, ◌&&◌, ◌++◌, ◌∷◌, ◌<◌, ◌≤◌, ◌+◌, [], ℕ, suc, List, Bool, Option, Some, None, Ok, refl, ap, sym, ◌∙◌, true, false, inl, inr, get_or, take, drop, length, arith, append_assoc, cond, eq-eqb, nat_le}
use Rattle.std.specs.List.{list_any}
use Rattle.std.specs.Str.{all_ascii_digits}
use Rattle.std.proofs.lemmas.Bool.{cases_Bool, eqb-true, false_from_ne_true, or_from, or_parts}
use Rattle.std.proofs.lemmas.List.{append-nil, drop_more, drop_all}
use Rattle.rg_bytes.specs.Numbers.{whole_of, value_of as number_value}
use Rattle.rg_event.specs.declared.event.Event.{Event}
use Rattle.rg_event.specs.declared.schema.Field.{Field}
use Rattle.rg_event.specs.declared.value.Value.{Value}
use Rattle.rg_event.specs.Parsing.{value_of}
use Rattle.rg_row.specs.Fields.{is_marked}
use Rattle.rg_row.specs.Plain.{is_odd, is_end, plain_len, push_if, onto_if, plain_values, event_if, plain_event, IsNext}
use Rattle.rg_row.specs.Rows.{row_of, values_of, time_most}
use Rattle.rg_row.specs.Texts.{between_commas}
use Rattle.rg_row.proofs.Bare.{fields_between}

-- one more byte of a plain text
pub len_more : (xs : List ℕ) (i : ℕ) → i < length xs → is_end (get_or xs i 0) ≡ false → plain_len (drop i xs) ≡ suc (plain_len (drop (i + 1) xs))
unfolding plain_len
len_more xs i h e = rw (drop_more xs i 0 h, e) refl

-- its end
pub len_stop : (xs : List ℕ) (i : ℕ) → i < length xs → is_end (get_or xs i 0) ≡ true → plain_len (drop i xs) ≡ 0
unfolding plain_len
len_stop xs i h e = rw (drop_more xs i 0 h, e) refl

pub len_end : (xs : List ℕ) (i : ℕ) → length xs ≤ i → plain_len (drop i xs) ≡ 0
unfolding plain_len
len_end xs i h = rw (drop_all i xs h) refl

-- the values that were read, in front of those to come
abbrev pub in_front : List Value → Option (List Value) → Option (List Value)
in_front front None = None
in_front front (Some values) = Some (front ++ values)

front_push : (front : List Value) (value : Value) (more : Option (List Value)) → in_front front (onto_if (Some value) more) ≡ in_front (front ++ value ∷ []) more
front_push front value None = refl
front_push front value (Some values) = ap (λ all. Some all) (sym (append_assoc front (value ∷ []) values))

pushed_front : (front pushed : List Value) (value : Option Value) (more : Option (List Value)) → push_if front value ≡ Some pushed → in_front front (onto_if value more) ≡ in_front pushed more
pushed_front front pushed None more e = absurd (cc e)
pushed_front front pushed (Some value) more e = let same : front ++ value ∷ [] ≡ pushed = cc e in front_push front value more ∙ ap (λ all. in_front all more) same

-- one more value
pub values_more : (fields : List Field) (field : Field) (more : List Field) (rest text behind : List ℕ) (front pushed : List Value)
    → fields ≡ field ∷ more → IsNext rest text behind → push_if front (value_of field.kind text) ≡ Some pushed
    → in_front front (plain_values fields rest) ≡ in_front pushed (plain_values more behind)
unfolding plain_values
values_more fields field more rest text behind front pushed is next e =
    rw (is, next.comma, sym next.front, sym next.back) (pushed_front front pushed (value_of field.kind text) (plain_values more behind) e)

-- the last one
pub values_end : (fields : List Field) (i : ℕ) (rest : List ℕ) (values : List Value) → length fields ≤ i → (length rest == 0) ≡ true → in_front values (plain_values (drop i fields) rest) ≡ Some values
unfolding plain_values
values_end fields i [] values over none = rw (drop_all i fields over) (ap (λ all. Some all) (append-nil values))
values_end fields i (byte ∷ rest) values over none = absurd (omega (arith, eqb-true (length (byte ∷ rest)) 0 none))

-- no byte of a plain line is a quote or a CR
no_quote : (xs : List ℕ) → list_any is_odd xs ≡ false → list_any (λ byte. byte == 34) xs ≡ false
no_quote [] plain = refl
no_quote (x ∷ xs) plain = or_from _ _ (or_parts (x == 34) (x == 13) (or_parts (is_odd x) _ plain).0).0 (no_quote xs (or_parts (is_odd x) _ plain).1)

no_cr : (xs : List ℕ) → list_any is_odd xs ≡ false → list_any (λ byte. byte == 13) xs ≡ false
no_cr [] plain = refl
no_cr (x ∷ xs) plain = or_from _ _ (or_parts (x == 34) (x == 13) (or_parts (is_odd x) _ plain).0).1 (no_cr xs (or_parts (is_odd x) _ plain).1)

-- the texts behind the byte that comes first
abbrev texts_behind : List ℕ → List (List ℕ)
texts_behind [] = []
texts_behind (byte ∷ rest) = between_commas rest

-- a plain text is the first between the commas, where only plain ones stand behind it
record IsCut (xs : List ℕ) : Type 0 where
  texts : between_commas xs ≡ take (plain_len xs) xs ∷ texts_behind (drop (plain_len xs) xs)
  plain : list_any is_odd xs ≡ false

is_comma : (comma odd : Bool) → comma || odd ≡ true → odd ≡ false → comma ≡ true
is_comma true odd ends plain = refl
is_comma false odd ends plain = absurd (cc (ends, plain))

cut_plain : (xs : List ℕ) → list_any is_odd (drop (plain_len xs) xs) ≡ false → IsCut xs
unfolding plain_len
cut_plain [] plain = record { texts = refl; plain = refl }
cut_plain (x ∷ xs) plain = elim (cases_Bool (is_end x)) [
  | inl ends ↦
      let all : list_any is_odd (x ∷ xs) ≡ false = rw ends at plain in
      let comma : (x == 44) ≡ true = is_comma (x == 44) (is_odd x) ends (or_parts (is_odd x) _ all).0 in
      record { texts = rw (ends, comma) refl; plain = all }
  | inr more ↦
      let later : IsCut xs = cut_plain xs (rw more at plain) in
      let other : (x == 44) ≡ false = (or_parts (x == 44) (is_odd x) more).0 in
      record {
        texts = rw (more, other, later.texts) refl;
        plain = or_from _ _ (or_parts (x == 44) (is_odd x) more).1 later.plain;
      }
]

-- values that were read in one pass are those of the texts
record IsRead (column : ℕ) (fields : List Field) (rest : List ℕ) (values : List Value) : Type 0 where
  are : values_of column fields (texts_behind rest) ≡ Ok values
  count : length (texts_behind rest) ≡ length fields
  plain : list_any is_odd rest ≡ false

one_read : (column : ℕ) (field : Field) (fields : List Field) (byte : ℕ) (rest : List ℕ) (values : List Value) (value : Option Value) (more : Option (List Value))
    → (byte == 44) ≡ true → value_of field.kind (take (plain_len rest) rest) ≡ value → onto_if value more ≡ Some values
    → ((later : List Value) → more ≡ Some later → IsRead (column + 1) fields (drop (plain_len rest) rest) later) → IsRead column (field ∷ fields) (byte ∷ rest) values
one_read column field fields byte rest values None more comma is e all = absurd (cc e)
one_read column field fields byte rest values (Some value) None comma is e all = absurd (cc e)
one_read column field fields byte rest values (Some value) (Some later) comma is e all =
    let read : IsRead (column + 1) fields (drop (plain_len rest) rest) later = all later refl in
    let cut : IsCut rest = cut_plain rest read.plain in
    let same : value ∷ later ≡ values = cc e in
    record {
      are = rw (cut.texts, is, read.are) (ap (λ them. Ok them) same);
      count = rw cut.texts (ap suc read.count);
      plain = or_from _ _ (rw (eqb-true byte 44 comma) refl) cut.plain;
    }

plain_read : (column : ℕ) (fields : List Field) (rest : List ℕ) (values : List Value) → plain_values fields rest ≡ Some values → IsRead column fields rest values
unfolding plain_values
plain_read column [] [] values e = let same : [] ≡ values = cc e in record { are = ap (λ them. Ok them) same; count = refl; plain = refl }
plain_read column [] (byte ∷ rest) values e = absurd (cc e)
plain_read column (field ∷ fields) [] values e = absurd (cc e)
plain_read column (field ∷ fields) (byte ∷ rest) values e = elim (cases_Bool (byte == 44)) [
  | inl comma ↦
      one_read column field fields byte rest values (value_of field.kind (take (plain_len rest) rest)) (plain_values fields (drop (plain_len rest) rest)) comma refl (rw comma at e)
      (λ later is. plain_read (column + 1) fields (drop (plain_len rest) rest) later is)
  | inr other ↦ absurd (cc (rw other at e))
]

-- a line that begins with a time isn't empty, and has no mark
no_number : (a digits b : Bool) (n : ℕ) → digits ≡ false → time_most (cond ((a && digits) && b) (Some n) None) ≡ None
no_number true true b n other = absurd (cc other)
no_number true false b n other = refl
no_number false digits b n other = refl

no_mark : (byte : ℕ) (rest : List ℕ) → (byte == 239) ≡ false → is_marked (byte ∷ rest) ≡ false
no_mark byte [] other = refl
no_mark byte (b ∷ []) other = refl
no_mark byte (b ∷ (c ∷ rest)) other = rw other refl

no_time : (rest : List ℕ) → time_most (whole_of (take (plain_len (239 ∷ rest)) (239 ∷ rest))) ≡ None
unfolding plain_len
no_time rest =
    let text : List ℕ = 239 ∷ take (plain_len rest) rest in
    no_number (nat_le 1 (length text) && nat_le (length text) 20) (all_ascii_digits text) (nat_le (number_value text) 18446744073709551615) (number_value text) refl

no_text : time_most (whole_of (take (plain_len []) [])) ≡ None
unfolding plain_len
no_text = refl

some_byte : (byte : ℕ) (rest : List ℕ) → (length (byte ∷ rest) == 0) ≡ false
some_byte byte rest = false_from_ne_true _ (λ none. omega (arith, eqb-true (length (byte ∷ rest)) 0 none))

abbrev Begins : List ℕ → Type 0
Begins line = ((length line == 0) ≡ false) × (is_marked line ≡ false)

begins : (line : List ℕ) (time : ℕ) → time_most (whole_of (take (plain_len line) line)) ≡ Some time → Begins line
begins [] time is = absurd (cc (is, no_text))
begins (byte ∷ rest) time is = elim (cases_Bool (byte == 239)) [
  | inl mark ↦ let none = no_time rest in absurd (cc (rw (eqb-true byte 239 mark) at is, none))
  | inr other ↦ (some_byte byte rest, no_mark byte rest other)
]

event_is : (fields : List Field) (offset : ℕ) (line : List ℕ) (time : Option ℕ) (values : Option (List Value)) (event : Event)
    → time_most (whole_of (take (plain_len line) line)) ≡ time → plain_values fields (drop (plain_len line) line) ≡ values → event_if offset time values ≡ Some event
    → row_of fields offset line ≡ Ok event
event_is fields offset line None values event timed read e = absurd (cc e)
event_is fields offset line (Some time) None event timed read e = absurd (cc e)
event_is fields offset line (Some time) (Some values) event timed read e =
    let are : IsRead 1 fields (drop (plain_len line) line) values = plain_read 1 fields (drop (plain_len line) line) values read in
    let cut : IsCut line = cut_plain line are.plain in
    let start : Begins line = begins line time timed in
    let parts = fields_between line start.0 start.1 (no_quote line cut.plain) (no_cr line cut.plain) in
    let it : Event = record { offset = offset; time = time; values = values } in
    let same : it ≡ event = cc e in
    rw (parts, cut.texts, eq-eqb _ _ are.count, timed, are.are) (ap (λ one. Ok one) same)

-- so is the event of a line that was read in one pass that of the line
pub plain_is : (fields : List Field) (offset : ℕ) (line : List ℕ) (event : Event) → plain_event fields offset line ≡ Some event → row_of fields offset line ≡ Ok event
plain_is fields offset line event e =
    event_is fields offset line (time_most (whole_of (take (plain_len line) line))) (plain_values fields (drop (plain_len line) line)) event refl refl e
