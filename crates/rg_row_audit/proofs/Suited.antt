-- One state of a node's function can stand for its values, where the events serve the plan.
use Rattle.std.proofs.Common.{◌≡◌, ◌∙◌, ℕ, zero, suc, true, List, [], ◌∷◌, filter, Option, Some, None, refl, sym, subst, arith}
use Rattle.std.specs.Prelude.{All}
use Rattle.std.proofs.lemmas.List.Elements.{All-nil, All-cons, All-head, All-tail, All-filter, All-weaker}
use Rattle.rg_event.specs.Codec.{IsEventOf}
use Rattle.rg_event.specs.Tagged.{value_kind}
use Rattle.rg_event.specs.declared.event.Event.{Event}
use Rattle.rg_event.specs.declared.value.Value.{Value}
use Rattle.rg_event.specs.declared.value.Value.TheVariants.{Flag}
use Rattle.rg_metric.specs.Conditions.{value_in}
use Rattle.rg_metric.specs.Replies.{and_value, values_in}
use Rattle.rg_plan.specs.Named.{Node, node_at}
use Rattle.rg_plan.specs.Plans.{Tasks}
use Rattle.rg_metric.specs.Admitted.{IsAdmitted}
use Rattle.rg_engine.specs.Deeds.{handed}
use Rattle.rg_engine.specs.Windows.{counts_at}
use Rattle.rg_engine.proofs.Laws.{served_kind, hands_of, same_some, vals-few}
use Rattle.rg_row_audit.specs.Keeping.{AreSuited}
use Rattle.rg_row_audit.specs.Rows.{AreServed}

-- the value that the event hands is so
abbrev Gives : (Value → Type 0) → ℕ → Event → Type 0
Gives P field x = (value : Value) → handed field x ≡ Some value → P value

all_in : (P : Value → Type 0) (field : ℕ) (xs : List Event) → All (Gives P field) xs → All P (values_in field xs)
all_in P zero [] h = All-nil P
all_in P zero (x ∷ xs) h = All-cons P (Flag true) (values_in zero xs) (All-head (Gives P zero) x xs h (Flag true) refl) (all_in P zero xs (All-tail (Gives P zero) x xs h))
all_in P (suc n) [] h = All-nil P
all_in P (suc n) (x ∷ xs) h = by (value_in (suc n) x.values) refl (all_in P (suc n) xs (All-tail (Gives P (suc n)) x xs h))
  where
    by : (o : Option Value) → value_in (suc n) x.values ≡ o → All P (values_in (suc n) xs) → All P (and_value o (values_in (suc n) xs))
    by None is rest = rest
    by (Some value) is rest = All-cons P value (values_in (suc n) xs) (All-head (Gives P (suc n)) x xs h value is) rest

pub suited : (plan : Tasks) (events : List Event) (n : ℕ) (node : Node) (t : ℕ) → AreServed plan events → node_at plan n ≡ Some node → AreSuited node t events
suited plan events n node t served there key =
    let k = served_kind served.fed.fields node.agg (served.fed.serves.served n node there) in
    record {
      kind = k.0;
      alike = all_in (λ v. value_kind v ≡ k.0) node.agg.field (filter (counts_at node key t) events)
          (All-filter (counts_at node key t) (Gives (λ v. value_kind v ≡ k.0) node.agg.field) events
          (All-weaker (IsEventOf served.fed.fields) (Gives (λ v. value_kind v ≡ k.0) node.agg.field) (λ x is. hands_of k.0 node.agg x (k.1 x is)) events served.fed.are));
      taken = all_in (IsAdmitted node.agg.func) node.agg.field (filter (counts_at node key t) events)
          (All-filter (counts_at node key t) (Gives (IsAdmitted node.agg.func) node.agg.field) events
          (All-weaker (IsEventOf served.fed.fields) (Gives (IsAdmitted node.agg.func) node.agg.field) (λ x is value handed. subst (IsAdmitted node.agg.func) (same_some (sym (k.1 x is).is ∙ handed)) (k.1 x is).takes) events served.fed.are));
      few = omega (arith, vals-few node.agg.field (counts_at node key t) events, served.few);
    }
