-- The defaults of a stream's columns.
use Rattle.std.proofs.Common.{◌≡◌, ◌∙◌, ◌⊎◌, inl, inr, ◌+◌, ◌<◌, ◌≤◌, ◌&&◌, ℕ, zero, suc, Bool, true, false, List, [], ◌∷◌, ◌++◌, length, slice_index_or, drop, Option, Some, None, option_map, nat_le, Result, Ok, Err, All, IsTrue, refl, sym, ap, subst, append_assoc, append-nil, arith}
use Rattle.std.specs.Prelude.{option_and_then, if◌then◌else◌, not}
use Rattle.std.specs.Option.{ok_or}
use Rattle.std.specs.List.{list_all}
use Rattle.std.specs.Str.{IsUtf8}
use Rattle.std.proofs.lemmas.Bool.{and_parts}
use Rattle.std.proofs.lemmas.List.{drop_all}
use Rattle.std.proofs.lemmas.List.Elements.{All-nil, All-cons}
use Rattle.std.proofs.lemmas.Str.{IsUtf8-from_ascii}
use Rattle.std.proofs.lemmas.Str.Ascii.{IsAscii-from_all}
use Rattle.toml.specs.Data.{Data, Members, get_member, as_str, as_table}
use Rattle.rg_event.specs.Names.{is_letter, is_word_byte, is_word, is_reserved, is_name}
use Rattle.rg_event.specs.Parsing.{value_of}
use Rattle.rg_event.specs.declared.schema.Field.{Field}
use Rattle.rg_event.specs.declared.value.Kind.{Kind}
use Rattle.rg_event.specs.declared.value.Value.{Value}
use Rattle.rg_event.proofs.Laws.{value_fits}
use Rattle.rg_growth.specs.Growing.{IsDefaultOf, AreDefaultsOf, no_defaults}
use Rattle.rg_growth.proofs.Laws.{none_are}
use Rattle.rg_config.specs.Documents.{all_keys, and_then, names, default_of, defaults_from, defaults_in, defaults_or}
use Rattle.rg_config.specs.Reading.{ReadsDefaults}
use Rattle.rg_config.specs.declared.fault.ConfigFault.{ConfigFault}
use Rattle.rg_config.specs.declared.fault.ConfigFault.TheVariants.{Defaults as BadDefaults, Memory}
use Rattle.rg_config.specs.declared.fault.DefaultsFault.{DefaultsFault}
use Rattle.rg_config.specs.declared.fault.DefaultsFault.TheVariants.{Table, Key, Column}

-- A name is text

byte_low : (byte : ℕ) → is_word_byte byte ≡ true → byte < 128
byte_low byte is = grind (arith, is)

letter_low : (byte : ℕ) → is_letter byte ≡ true → byte < 128
letter_low byte is = grind (arith, is)

bytes_low : (bytes : List ℕ) → list_all is_word_byte bytes ≡ true → All (λ b. b < 128) bytes
bytes_low [] is = All-nil (λ b. b < 128)
bytes_low (byte ∷ bytes) is =
    let parts = and_parts (is_word_byte byte) (list_all is_word_byte bytes) is in
    All-cons (λ b. b < 128) byte bytes (byte_low byte parts.0) (bytes_low bytes parts.1)

word_low : (word : List ℕ) → is_word word ≡ true → All (λ b. b < 128) word
word_low [] is = All-nil (λ b. b < 128)
word_low (byte ∷ bytes) is =
    let short = and_parts (is_letter byte && list_all is_word_byte bytes) (nat_le (length bytes) 63) is in
    let parts = and_parts (is_letter byte) (list_all is_word_byte bytes) short.0 in
    All-cons (λ b. b < 128) byte bytes (letter_low byte parts.0) (bytes_low bytes parts.1)

pub name_is_text : (name : List ℕ) → IsTrue (is_name name) → IsUtf8 name
name_is_text name is = IsUtf8-from_ascii name (IsAscii-from_all name (word_low name (and_parts (is_word name) (not (is_reserved name)) is).0))

-- A default that is read is of its column's kind

said_fits : (kind : Kind) (text : List ℕ) (value : Option Value) (default : Option Value) → value_of kind text ≡ value → option_map Some value ≡ Some default → IsDefaultOf kind default
said_fits kind text None default reads is = absurd (cc)
said_fits kind text (Some value) default reads is = let same : Some value ≡ default = cc in subst (IsDefaultOf kind) same (value_fits kind text value reads)

text_fits : (kind : Kind) (text : Option (List ℕ)) (default : Option Value) → option_map Some (option_and_then (value_of kind) text) ≡ Some default → IsDefaultOf kind default
text_fits kind None default is = absurd (cc)
text_fits kind (Some text) default is = said_fits kind text (value_of kind text) default refl is

default_fits : (kind : Kind) (found : Option Data) (default : Option Value) → default_of kind found ≡ Some default → IsDefaultOf kind default
default_fits kind None default is = let none : None ≡ default = cc in subst (IsDefaultOf kind) none tt
default_fits kind (Some found) default is = text_fits kind (as_str found) default is

first_fits :
    (field : Field) (fields : List Field) (number : ℕ) (default : Option (Option Value)) (more : Result (List (Option Value)) DefaultsFault) (defaults : List (Option Value))
    → ((d : Option Value) → default ≡ Some d → IsDefaultOf field.kind d) → ((ds : List (Option Value)) → more ≡ Ok ds → AreDefaultsOf fields ds)
    → and_then (λ d. and_then (λ ds. Ok (d ∷ ds)) more) (ok_or default (Column number)) ≡ Ok defaults → AreDefaultsOf (field ∷ fields) defaults
first_fits field fields number None more defaults one rest is = absurd (cc)
first_fits field fields number (Some d) (Err fault) defaults one rest is = absurd (cc)
first_fits field fields number (Some d) (Ok ds) defaults one rest is = let same : d ∷ ds ≡ defaults = cc in subst (AreDefaultsOf (field ∷ fields)) same (one d refl, rest ds refl)

each_fits : (number : ℕ) (fields : List Field) (table : Members) (defaults : List (Option Value)) → defaults_from number fields table ≡ Ok defaults → AreDefaultsOf fields defaults
each_fits number [] table defaults is = let none : [] ≡ defaults = cc in subst (AreDefaultsOf []) none tt
each_fits number (field ∷ fields) table defaults is =
    first_fits field fields number (default_of field.kind (get_member field.name table)) (defaults_from (suc number) fields table) defaults
    (default_fits field.kind (get_member field.name table)) (each_fits (suc number) fields table) is

tested_fits : (fields : List Field) (table : Members) (known : Bool) (defaults : List (Option Value)) → (if known then defaults_from 1 fields table else Err Key) ≡ Ok defaults → AreDefaultsOf fields defaults
tested_fits fields table true defaults is = each_fits 1 fields table defaults is
tested_fits fields table false defaults is = absurd (cc)

table_fits : (fields : List Field) (table : Option Members) (defaults : List (Option Value)) → and_then (defaults_in fields) (ok_or table Table) ≡ Ok defaults → AreDefaultsOf fields defaults
table_fits fields None defaults is = absurd (cc)
table_fits fields (Some table) defaults is = tested_fits fields table (all_keys (names fields) table) defaults is

pub are_defaults : (fields : List Field) (said : Option Data) (defaults : List (Option Value)) → defaults_or fields said ≡ Ok defaults → AreDefaultsOf fields defaults
are_defaults fields None defaults is = let none : defaults ≡ no_defaults fields = cc in none_are fields defaults none
are_defaults fields (Some found) defaults is = table_fits fields (as_table found) defaults is

-- Those of the columns, one after another

-- what is read is put behind these
abbrev pub behind : List (Option Value) → Result (List (Option Value)) DefaultsFault → Result (List (Option Value)) DefaultsFault
behind defaults reading = and_then (λ more. Ok (defaults ++ more)) reading

behind_first : (defaults : List (Option Value)) (default : Option Value) (reading : Result (List (Option Value)) DefaultsFault) → behind defaults (and_then (λ more. Ok (default ∷ more)) reading) ≡ behind (defaults ++ default ∷ []) reading
behind_first defaults default (Ok more) = ap (λ (all : List (Option Value)). Ok all) (sym (append_assoc defaults (default ∷ []) more))
behind_first defaults default (Err fault) = refl

pub behind_none : (reading : Result (List (Option Value)) DefaultsFault) → reading ≡ behind [] reading
behind_none (Ok more) = refl
behind_none (Err fault) = refl

parted_at : (fields : List Field) (i : ℕ) (d : Field) → i < length fields → drop i fields ≡ slice_index_or fields i d ∷ drop (suc i) fields
parted_at [] i d within = absurd (omega arith)
parted_at (field ∷ fields) zero d within = refl
parted_at (field ∷ fields) (suc i) d within = parted_at fields i d (omega arith)

parted : (fields : List Field) (i : ℕ) (d : Field) → i < length fields → drop i fields ≡ slice_index_or fields i d ∷ drop (i + 1) fields
parted fields i d within =
    let next : suc i ≡ i + 1 = omega arith in
    subst (λ (n : ℕ). drop i fields ≡ slice_index_or fields i d ∷ drop n fields) next (parted_at fields i d within)

-- nothing is read yet
pub default_start : (fields : List Field) (table : Members) (defaults : List (Option Value)) → defaults ≡ [] → defaults_from 1 fields table ≡ behind defaults (defaults_from (suc 0) (drop 0 fields) table)
default_start fields table defaults none = rw none (behind_none (defaults_from 1 fields table))

module _ (fields : List Field) (table : Members) (i : ℕ) (d : Field) (within : i < length fields) where
  -- the default of one more column is read
  pub default_more :
      (old new : List (Option Value)) (default : Option Value)
      → new ≡ old ++ default ∷ [] → default_of (slice_index_or fields i d).kind (get_member (slice_index_or fields i d).name table) ≡ Some default
      → defaults_from 1 fields table ≡ behind old (defaults_from (suc i) (drop i fields) table)
      → defaults_from 1 fields table ≡ behind new (defaults_from (suc (i + 1)) (drop (i + 1) fields) table)
  default_more old new default pushed read so_far =
      let next : suc (suc i) ≡ suc (i + 1) = omega arith in
      let step : defaults_from (suc i) (drop i fields) table ≡ and_then (λ more. Ok (default ∷ more)) (defaults_from (suc (i + 1)) (drop (i + 1) fields) table) =
      rw (parted fields i d within, read, next) refl in
      so_far ∙ (ap (behind old) step ∙ (behind_first old default (defaults_from (suc (i + 1)) (drop (i + 1) fields) table) ∙ ap (λ (all : List (Option Value)). behind all (defaults_from (suc (i + 1)) (drop (i + 1) fields) table)) (sym pushed)))

  -- that of the next column is bad
  default_stops :
      (defaults : List (Option Value)) → default_of (slice_index_or fields i d).kind (get_member (slice_index_or fields i d).name table) ≡ None
      → defaults_from 1 fields table ≡ behind defaults (defaults_from (suc i) (drop i fields) table)
      → defaults_from 1 fields table ≡ Err (Column (i + 1))
  default_stops defaults bad so_far =
      let place : suc i ≡ i + 1 = omega arith in
      let step : defaults_from (suc i) (drop i fields) table ≡ Err (Column (i + 1)) = rw (parted fields i d within, bad, place) refl in
      so_far ∙ ap (behind defaults) step

  pub default_refused :
      (defaults : List (Option Value)) (fault : ConfigFault) → defaults_from 1 fields table ≡ behind defaults (defaults_from (suc i) (drop i fields) table)
      → ((fault ≡ BadDefaults (Column (i + 1))) × (default_of (slice_index_or fields i d).kind (get_member (slice_index_or fields i d).name table) ≡ None)) ⊎ (fault ≡ Memory)
      → ReadsDefaults (defaults_from 1 fields table) (Err fault)
  default_refused defaults fault so_far (inl (is, bad)) = inl (Column (i + 1), is, default_stops defaults bad so_far)
  default_refused defaults fault so_far (inr memory) = inr memory

-- no column is left
pub default_end :
    (fields : List Field) (table : Members) (i : ℕ) (defaults : List (Option Value)) → length fields ≤ i
    → defaults_from 1 fields table ≡ behind defaults (defaults_from (suc i) (drop i fields) table) → defaults_from 1 fields table ≡ Ok defaults
default_end fields table i defaults end so_far =
    let step : defaults_from (suc i) (drop i fields) table ≡ Ok [] = rw (drop_all i fields end) refl in
    so_far ∙ (ap (behind defaults) step ∙ ap (λ (all : List (Option Value)). Ok all) (append-nil defaults))
