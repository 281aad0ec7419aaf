-- The event of a line is one of its columns.
use Rattle.std.proofs.Common.{◌≡◌, ℕ, ◌+◌, ◌≤◌, ◌<◌, ◌^◌, nat_le, ◌==◌, Bool, true, false, cond, List, [], ◌∷◌, length, Option, Some, None, Result, Ok, Err, refl, ap, sym, subst, arith}
use Rattle.std.proofs.lemmas.Bool.{leb-true}
use Rattle.rg_bytes.specs.Numbers.{whole_of}
use Rattle.rg_event.specs.Codec.{IsValueOf, AreValuesOf, IsEventOf}
use Rattle.rg_event.specs.Parsing.{value_of}
use Rattle.rg_event.specs.declared.schema.Field.{Field}
use Rattle.rg_event.specs.declared.value.Value.{Value}
use Rattle.rg_event.specs.declared.event.Event.{Event}
use Rattle.rg_event.proofs.Laws.{value_fits}
use Rattle.rg_row.specs.Fields.{fields_of}
use Rattle.std.specs.Prelude.{IfOk}
use Rattle.rg_row.specs.Rows.{Agrees, time_most, value_or, onto, values_of, event_with, event_of, event_of_row, row_of}
use Rattle.rg_row.specs.declared.fault.RowFault.{RowFault}

most_time : (time : Option ℕ) (m : ℕ) → time_most time ≡ Some m → m ≤ 1000000000000000
most_time (Some time) m is = by_test (nat_le time 1000000000000000) refl is
  where
    by_test : (b : Bool) → nat_le time 1000000000000000 ≡ b → cond b (Some time) None ≡ Some m → m ≤ 1000000000000000
    by_test true t e = let same : time ≡ m = cc in omega (arith, leb-true _ _ t, same)
    by_test false t e = absurd (cc)
most_time None m is = absurd (cc)

-- the values of some texts, one for each column
abbrev AreFor : List Field → Result (List Value) RowFault → Type 0
AreFor fields result = (values : List Value) → result ≡ Ok values → AreValuesOf fields values

onto_fits : (field : Field) (fields : List Field) (value : Value) (given : Result (List Value) RowFault) → IsValueOf field.kind value → AreFor fields given → AreFor (field ∷ fields) (onto value given)
onto_fits field fields value (Ok more) fits all values e = let is : value ∷ more ≡ values = cc in subst (AreValuesOf (field ∷ fields)) is (fits, all more refl)
onto_fits field fields value (Err fault) fits all values e = absurd (cc)

next_fits : (column : ℕ) (field : Field) (fields : List Field) (text : List ℕ) (o : Option Value) (given : Result (List Value) RowFault) → value_of field.kind text ≡ o → AreFor fields given → AreFor (field ∷ fields) (value_or column o given)
next_fits column field fields text None given e all values is = absurd (cc)
next_fits column field fields text (Some value) given e all values is = onto_fits field fields value given (value_fits field.kind text value e) all values is

values_fit : (column : ℕ) (fields : List Field) (texts : List (List ℕ)) → length texts ≡ length fields → AreFor fields (values_of column fields texts)
values_fit column [] texts same values e = let is : [] ≡ values = cc in subst (AreValuesOf []) is tt
values_fit column (field ∷ fields) [] same values e = absurd (omega (arith, same))
values_fit column (field ∷ fields) (text ∷ texts) same values e =
    next_fits column field fields text (value_of field.kind text) (values_of (column + 1) fields texts) refl (λ more f. values_fit (column + 1) fields texts (omega (arith, same)) more f) values e

-- the event of a line has its offset, a time within its range, and a value for each column
pub record Fits (fields : List Field) (offset : ℕ) (e : Event) : Type 0 where
  pub at : e.offset ≡ offset
  pub time : e.time ≤ 1000000000000000
  pub values : AreValuesOf fields e.values

with_fits : (fields : List Field) (offset time : ℕ) (given : Result (List Value) RowFault) (e : Event) → time ≤ 1000000000000000 → AreFor fields given → event_with offset time given ≡ Ok e → Fits fields offset e
with_fits fields offset time (Ok values) e h all is =
    let x : Event = record { offset = offset; time = time; values = values } in
    let same : x ≡ e = cc in
    record {
      at = ap (λ (v : Event). v.offset) (sym same);
      time = omega (arith, h, ap (λ (v : Event). v.time) same);
      values = subst (λ (v : Event). AreValuesOf fields v.values) same (all values refl);
    }
with_fits fields offset time (Err fault) e h all is = absurd (cc)

event_fits : (fields : List Field) (offset : ℕ) (time : Option ℕ) (texts : List (List ℕ)) (e : Event) → length texts ≡ length fields → ((m : ℕ) → time ≡ Some m → m ≤ 1000000000000000) → event_of fields offset time texts ≡ Ok e → Fits fields offset e
event_fits fields offset (Some time) texts e same h is = with_fits fields offset time (values_of 1 fields texts) e (h time refl) (values_fit 1 fields texts same) is
event_fits fields offset None texts e same h is = absurd (cc)

counted_fits : (fields : List Field) (offset : ℕ) (time : List ℕ) (texts : List (List ℕ)) (e : Event) (b : Bool) → (length texts == length fields) ≡ b → cond b (event_of fields offset (time_most (whole_of time)) texts) (Err RowFault.Fields) ≡ Ok e → Fits fields offset e
counted_fits fields offset time texts e true same is = event_fits fields offset (time_most (whole_of time)) texts e (grind (arith, same)) (λ m h. most_time (whole_of time) m h) is
counted_fits fields offset time texts e false same is = absurd (cc)

pub row_fits : (fields : List Field) (offset : ℕ) (texts : Option (List (List ℕ))) (e : Event) → event_of_row fields offset texts ≡ Ok e → Fits fields offset e
row_fits fields offset (Some []) e is = absurd (cc)
row_fits fields offset (Some (time ∷ texts)) e is = counted_fits fields offset time texts e (length texts == length fields) refl is
row_fits fields offset None e is = absurd (cc)

-- so it is an event of the columns
pub event_is : (fields : List Field) (offset : ℕ) (e : Event) → offset < 2 ^ 62 → Fits fields offset e → IsEventOf fields e
event_is fields offset e small fits = record { offset = omega (arith, fits.at, small); time = fits.time; values = fits.values }

-- what was answered agrees with the definition

pub answered_is : (fields : List Field) (offset : ℕ) (line : List ℕ) (result : Result Event RowFault) → Agrees (row_of fields offset line) result → IfOk result (λ e. offset < 2 ^ 62 → IsEventOf fields e)
answered_is fields offset line (Ok e) is = λ small. event_is fields offset e small (row_fits fields offset (fields_of line) e is)
answered_is fields offset line (Err fault) is = tt

pub answered_at : (fields : List Field) (offset : ℕ) (line : List ℕ) (result : Result Event RowFault) → Agrees (row_of fields offset line) result → IfOk result (λ e. e.offset ≡ offset)
answered_at fields offset line (Ok e) is = (row_fits fields offset (fields_of line) e is).at
answered_at fields offset line (Err fault) is = tt
