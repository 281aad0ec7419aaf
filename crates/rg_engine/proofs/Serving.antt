-- When columns serve a plan.
use Rattle.std.proofs.Common.{◌≡◌, ℕ, List, Option, Some, None, All, refl, ap, sym, ◌∙◌, subst}
use Rattle.std.specs.Prelude.{slice_get, option_map, option_and_then}
use Rattle.std.proofs.lemmas.Option.{slice_get_within, get_or_from_slice_get}
use Rattle.rg_event.specs.declared.schema.Field.{Field}
use Rattle.rg_metric.specs.declared.query.Agg.{Agg}
use Rattle.rg_metric.specs.declared.query.Window.{Window}
use Rattle.rg_plan.specs.declared.node.GroupNode.{GroupNode}
use Rattle.rg_plan.specs.declared.node.AggNode.{AggNode}
use Rattle.rg_plan.specs.Named.{Node, under_agg, under_group, under_filter}
use Rattle.rg_plan.specs.Nodes.{Filtered}
use Rattle.rg_plan.specs.Plans.{Tasks}
use Rattle.rg_engine.specs.Feeding.{Serves, IsServed, IsLasting}
use Rattle.rg_engine.proofs.Plain.{none_some, same_some}

-- where the window and the aggregator of a node stand
record Seen (plan : Tasks) (agg : Agg) (node : Node) : Type 0 where
  place : ℕ
  window : slice_get plan.windows place ≡ Some node.window
  asked : node.agg ≡ agg

module _ (plan : Tasks) (node : Node) where
  by_window : (group : GroupNode) (agg : Agg) (filter : Filtered) (found : Option Window) → slice_get plan.windows filter.window ≡ found →
      option_map (λ window. let n : Node = record { window = window; condition = filter.condition; columns = group.columns; agg = agg } in n) found ≡ Some node → Seen plan agg node
  by_window group agg filter None e is = absurd (none_some is)
  by_window group agg filter (Some window) e is =
      let k = same_some is in
      record {
        place = filter.window;
        window = e ∙ ap (λ (n : Node). Some n.window) k;
        asked = sym (ap (λ (n : Node). n.agg) k);
      }

  by_filter : (group : GroupNode) (agg : Agg) (found : Option Filtered) → option_and_then (under_filter plan group agg) found ≡ Some node → Seen plan agg node
  by_filter group agg None is = absurd (none_some is)
  by_filter group agg (Some filter) is = by_window group agg filter (slice_get plan.windows filter.window) refl is

  by_group : (agg : Agg) (found : Option GroupNode) → option_and_then (under_group plan agg) found ≡ Some node → Seen plan agg node
  by_group agg None is = absurd (none_some is)
  by_group agg (Some group) is = by_filter group agg (slice_get plan.filters group.filter) is

  by_agg : (found : Option AggNode) → option_and_then (under_agg plan) found ≡ Some node → (agg : AggNode) × (found ≡ Some agg) × Seen plan agg.agg node
  by_agg None is = absurd (none_some is)
  by_agg (Some agg) is = (agg, refl, by_group agg.agg (slice_get plan.groups agg.group) is)

at_place : {A : Type 0} (P : A → Type 0) (xs : List A) (n : ℕ) (x : A) → All P xs → slice_get xs n ≡ Some x → P x
at_place P xs n x all found = subst P (get_or_from_slice_get xs n x x found) (all n x (slice_get_within xs n x found))

pub serves_from : (fields : List Field) (plan : Tasks) → All (λ (node : AggNode). IsServed fields node.agg) plan.aggs → All IsLasting plan.windows → Serves fields plan
serves_from fields plan served lasting = record {
  served = λ n node there.
      let k = by_agg plan node (slice_get plan.aggs n) there in
      subst (IsServed fields) (sym k.2.asked) (at_place (λ (a : AggNode). IsServed fields a.agg) plan.aggs n k.0 served k.1);
  lasting = λ n node there.
      let k = by_agg plan node (slice_get plan.aggs n) there in
      at_place IsLasting plan.windows k.2.place node.window lasting k.2.window;
}
