-- Events with more values behind their own.
use Rattle.std.proofs.Common.{◌≡◌, ℕ, suc, List, [], ◌∷◌, ◌++◌, length, refl, ◌∙◌, ap, append_assoc}
use Rattle.std.proofs.lemmas.List.{append-nil}
use Rattle.rg_event.specs.Codec.{AreValuesOf, IsEventOf}
use Rattle.rg_event.specs.Rising.{IsRising, next_offset, last_time}
use Rattle.rg_event.specs.declared.event.Event.{Event}
use Rattle.rg_event.specs.declared.schema.Field.{Field}
use Rattle.rg_event.specs.declared.value.Value.{Value}
use Rattle.rg_chunk.specs.Extended.{extended, all_extended}

abbrev with_values : Event → List Value → Event
with_values event values = record { offset = event.offset; time = event.time; values = values }

-- no values more
pub extended-none : (events : List Event) → all_extended [] events ≡ events
extended-none [] = refl
extended-none (event ∷ events) = ap (λ (v : List Value). with_values event v ∷ all_extended [] events) (append-nil event.values) ∙ ap (λ (l : List Event). event ∷ l) (extended-none events)

-- some, and then others
pub extended-twice : (first second : List Value) (events : List Event) → all_extended second (all_extended first events) ≡ all_extended (first ++ second) events
extended-twice first second [] = refl
extended-twice first second (event ∷ events) =
    ap (λ (v : List Value). with_values event v ∷ all_extended second (all_extended first events)) (append_assoc event.values first second)
    ∙ ap (λ (l : List Event). extended (first ++ second) event ∷ l) (extended-twice first second events)

pub extended-append : (values : List Value) (a b : List Event) → all_extended values (a ++ b) ≡ all_extended values a ++ all_extended values b
extended-append values [] b = refl
extended-append values (event ∷ a) b = ap (λ (l : List Event). extended values event ∷ l) (extended-append values a b)

pub length-extended : (values : List Value) (events : List Event) → length (all_extended values events) ≡ length events
length-extended values [] = refl
length-extended values (event ∷ events) = ap (λ (n : ℕ). suc n) (length-extended values events)

pub rising-extended : (values : List Value) (events : List Event) → IsRising events → IsRising (all_extended values events)
rising-extended values [] rising = tt
rising-extended values (x ∷ []) rising = tt
rising-extended values (x ∷ (y ∷ events)) rising = (rising.0, rising.1, rising-extended values (y ∷ events) rising.2)

pub next-extended : (values : List Value) (events : List Event) → next_offset (all_extended values events) ≡ next_offset events
next-extended values [] = refl
next-extended values (x ∷ []) = refl
next-extended values (x ∷ (y ∷ events)) = next-extended values (y ∷ events)

pub time-extended : (values : List Value) (events : List Event) → last_time (all_extended values events) ≡ last_time events
time-extended values [] = refl
time-extended values (x ∷ []) = refl
time-extended values (x ∷ (y ∷ events)) = time-extended values (y ∷ events)

-- values of some columns, and then of further ones
pub values-append : (a b : List Field) (x y : List Value) → AreValuesOf a x → AreValuesOf b y → AreValuesOf (a ++ b) (x ++ y)
values-append [] b [] y p q = q
values-append [] b (v ∷ x) y p q = absurd p
values-append (f ∷ a) b [] y p q = absurd p
values-append (f ∷ a) b (v ∷ x) y p q = (p.0, values-append a b x y p.1 q)

pub event-extended : (fields added : List Field) (values : List Value) (event : Event) → IsEventOf fields event → AreValuesOf added values → IsEventOf (fields ++ added) (extended values event)
event-extended fields added values event is of = record { offset = is.offset; time = is.time; values = values-append fields added event.values values is.values of }
