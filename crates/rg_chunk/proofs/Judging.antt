-- Events that a chunk may have, judged one after another.
use Rattle.std.proofs.Common.{◌≡◌, ◌<◌, ◌≤◌, ◌+◌, ℕ, true, List, ◌∷◌, length, get_or, drop, suc, sym, subst, ◌∙◌, ap, add-one, drop-cons, arith}
use Rattle.std.proofs.ResultArms.{subst_both}
use Rattle.std.proofs.lemmas.List.{drop_all}
use Rattle.std.specs.List.{All}
use Rattle.std.proofs.lemmas.List.Elements.{All-cons, All-nil}
use Rattle.rg_event.specs.Codec.{AreValuesOf, IsEventOf, IsValueOf}
use Rattle.rg_event.specs.declared.event.Event.{Event}
use Rattle.rg_event.specs.declared.schema.Field.{Field}
use Rattle.rg_event.specs.declared.value.Value.{Value}
use Rattle.rg_chunk.specs.Chunks.{IsChunk, rises_from}
use Rattle.rg_chunk.proofs.Chunks.{rising_is}

-- one event more in front of those that are legal
pub legal_more : (fields : List Field) (events : List Event) (i : ℕ) (event : Event) → i < length events → event ≡ get_or events i event → IsEventOf fields event → All (IsEventOf fields) (drop (i + 1) events) → All (IsEventOf fields) (drop i events)
legal_more fields events i event within is one more =
    let parted : drop i events ≡ event ∷ drop (i + 1) events = rw add-one (drop-cons events i event within ∙ ap (λ (e : Event). e ∷ drop (suc i) events) (sym is)) in
    subst (All (IsEventOf fields)) (sym parted) (All-cons (IsEventOf fields) event (drop (i + 1) events) one more)

pub legal_end : (fields : List Field) (events : List Event) (i : ℕ) → length events ≤ i → All (IsEventOf fields) (drop i events)
legal_end fields events i past = subst (All (IsEventOf fields)) (sym (drop_all i events past)) (All-nil (IsEventOf fields))

-- one value more in front of those of some columns
pub values_more : (fields : List Field) (values : List Value) (i : ℕ) (field : Field) (value : Value) → i < length fields → i < length values → field ≡ get_or fields i field → value ≡ get_or values i value → IsValueOf field.kind value
    → AreValuesOf (drop (i + 1) fields) (drop (i + 1) values) → AreValuesOf (drop i fields) (drop i values)
values_more fields values i field value among within field-is is one more =
    let first : drop i fields ≡ field ∷ drop (i + 1) fields = rw add-one (drop-cons fields i field among ∙ ap (λ (f : Field). f ∷ drop (suc i) fields) (sym field-is)) in
    let second : drop i values ≡ value ∷ drop (i + 1) values = rw add-one (drop-cons values i value within ∙ ap (λ (v : Value). v ∷ drop (suc i) values) (sym is)) in
    subst_both AreValuesOf (sym first) (sym second) (one, more)

pub values_end : (fields : List Field) (values : List Value) (i : ℕ) → length fields ≡ length values → length values ≤ i → AreValuesOf (drop i fields) (drop i values)
values_end fields values i same past = subst_both AreValuesOf (sym (drop_all i fields (omega (arith, same, past)))) (sym (drop_all i values past)) tt

pub chunk_is : (fields : List Field) (events : List Event) → 1 ≤ length events → length events ≤ 4096 → All (IsEventOf fields) events → rises_from 0 0 events ≡ true → IsChunk fields events
chunk_is fields events some few legal rises = record { legal = legal; rising = rising_is 0 0 events rises; some = some; few = few }
