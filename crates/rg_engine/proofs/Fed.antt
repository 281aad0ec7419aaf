-- What the events of a schema hand the nodes of a plan that it feeds.
use Rattle.std.proofs.Common.{◌≡◌, true, ℕ, zero, suc, List, [], ◌∷◌, Some, All, refl, ap, sym, ◌∙◌, subst, inl, inr}
use Rattle.std.specs.Prelude.{slice_get}
use Rattle.std.proofs.lemmas.List.Elements.{All-weaker}
use Rattle.rg_event.specs.Codec.{IsValueOf, AreValuesOf, IsEventOf}
use Rattle.rg_event.specs.Tagged.{value_kind}
use Rattle.rg_event.specs.declared.event.Event.{Event}
use Rattle.rg_event.specs.declared.schema.Field.{Field}
use Rattle.rg_event.specs.declared.value.Kind.{Kind}
use Rattle.rg_event.specs.declared.value.Kind.TheVariants.{Int, Id, Text, Flag}
use Rattle.rg_event.specs.declared.value.Value.{Value}
use Rattle.rg_event.specs.declared.value.Value.TheVariants.{Int as IntValue, Id as IdValue, Text as TextValue, Flag as FlagValue}
use Rattle.rg_metric.specs.declared.query.Agg.{Agg}
use Rattle.rg_metric.specs.Conditions.{value_in}
use Rattle.rg_metric.specs.Admitted.{IsAdmitted}
use Rattle.rg_engine.specs.Deeds.{handed}
use Rattle.rg_engine.specs.Edges.{HandsOf}
use Rattle.rg_engine.specs.Feeding.{IsServed, ColumnServes}
use Rattle.rg_engine.proofs.Plain.{none_some, same_some}

kind_is : (kind : Kind) (value : Value) → IsValueOf kind value → value_kind value ≡ kind
kind_is Int (IntValue n) h = refl
kind_is Int (IdValue n) h = absurd h
kind_is Int (TextValue t) h = absurd h
kind_is Int (FlagValue b) h = absurd h
kind_is Id (IntValue n) h = absurd h
kind_is Id (IdValue n) h = refl
kind_is Id (TextValue t) h = absurd h
kind_is Id (FlagValue b) h = absurd h
kind_is Text (IntValue n) h = absurd h
kind_is Text (IdValue n) h = absurd h
kind_is Text (TextValue t) h = refl
kind_is Text (FlagValue b) h = absurd h
kind_is Flag (IntValue n) h = absurd h
kind_is Flag (IdValue n) h = absurd h
kind_is Flag (TextValue t) h = absurd h
kind_is Flag (FlagValue b) h = refl

-- a column that there is has a value of its kind
value_there : (fields : List Field) (values : List Value) (n : ℕ) (field : Field) → AreValuesOf fields values → slice_get fields n ≡ Some field → (value : Value) × (value_in (suc n) values ≡ Some value) × IsValueOf field.kind value
value_there [] values n field are found = absurd (none_some found)
value_there (f ∷ fields) [] n field are found = absurd are
value_there (f ∷ fields) (v ∷ values) zero field are found = (v, refl, subst (λ g. IsValueOf g.kind v) (same_some found) are.0)
value_there (f ∷ fields) (v ∷ values) (suc n) field are found = value_there fields values n field are.1 found

-- an event hands an aggregator a value that it takes
pub record Hands (kind : Kind) (agg : Agg) (x : Event) : Type 0 where
  pub value : Value
  pub is : handed agg.field x ≡ Some value
  pub takes : IsAdmitted agg.func value
  pub kind_of : value_kind value ≡ kind

column_hands : (fields : List Field) (agg : Agg) (serves : ColumnServes fields agg) (x : Event) → IsEventOf fields x → Hands serves.field.kind agg x
column_hands fields agg serves x is =
    let k = value_there fields x.values serves.column serves.field is.values serves.found in
    record {
      value = k.0;
      is = ap (λ n. handed n x) serves.is ∙ k.1;
      takes = serves.takes k.0 k.2;
      kind_of = kind_is serves.field.kind k.0 k.2;
    }

-- there is one kind of which all that it is handed is
pub served_kind : (fields : List Field) (agg : Agg) → IsServed fields agg → (kind : Kind) × ((x : Event) → IsEventOf fields x → Hands kind agg x)
served_kind fields agg (inl counts) = (
  Flag,
  λ x is. record {
    value = FlagValue true;
    is = ap (λ n. handed n x) counts.0;
    takes = subst (λ func. IsAdmitted func (FlagValue true)) (sym counts.1) tt;
    kind_of = refl;
  },
)
served_kind fields agg (inr serves) = (serves.field.kind, λ x is. column_hands fields agg serves x is)

-- so all that is handed is of that kind
pub hands_of : (kind : Kind) (agg : Agg) (x : Event) → Hands kind agg x → HandsOf kind agg.field x
hands_of kind agg x hands = λ value is. subst (λ v. value_kind v ≡ kind) (same_some (sym hands.is ∙ is)) hands.kind_of

pub all_hand : (fields : List Field) (kind : Kind) (agg : Agg) (events : List Event) → ((x : Event) → IsEventOf fields x → Hands kind agg x) → All (IsEventOf fields) events → All (HandsOf kind agg.field) events
all_hand fields kind agg events hands are = All-weaker (IsEventOf fields) (HandsOf kind agg.field) (λ x is. hands_of kind agg x (hands x is)) events are
