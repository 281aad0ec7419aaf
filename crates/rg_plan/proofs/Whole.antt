-- What holds of every plan that is made.
use Rattle.std.proofs.Common.{ℕ, zero, suc, ◌<◌, ◌≡◌, Bool, true, Option, Some, None, List, [], ◌∷◌, length, map, option_map, option_and_then, slice_get, refl, sym, ap, ◌∙◌, subst, arith}
use Rattle.std.specs.Prelude.{flat_map, All}
use Rattle.std.proofs.lemmas.List.{length-map}
use Rattle.std.proofs.lemmas.List.Elements.{All-nil, All-cons, All-append, All-map}
use Rattle.std.proofs.lemmas.Option.{slice_get_within, get_or_from_slice_get, option_and_then_some}
use Rattle.rg_metric.specs.declared.query.Window.{Window}
use Rattle.rg_metric.specs.declared.query.Agg.{Agg}
use Rattle.rg_metric.specs.Conditions.{Test}
use Rattle.rg_metric.specs.Queries.{Asked}
use Rattle.rg_plan.specs.declared.node.GroupNode.{GroupNode}
use Rattle.rg_plan.specs.declared.node.AggNode.{AggNode}
use Rattle.rg_plan.specs.Nodes.{Filtered, same_window, same_filter, same_group, same_agg, number_in}
use Rattle.rg_plan.specs.Plans.{Tasks, plan_for, excess, windows_of, filters_of, groups_of, aggs_of, filter_under, group_under, agg_under, path_in}
use Rattle.rg_plan.specs.Offsets.{IsMeasured, offsets_of}
use Rattle.rg_plan.specs.Named.{Node, under_filter, under_group, under_agg, node_at, IsMade}
use Rattle.rg_plan.specs.SameLaws.{group_equiv, same_filter-true, same_group-true}
use Rattle.rg_plan.specs.Whole.{IsWhole}
use Rattle.rg_plan.proofs.Members.{All-distinct}
use Rattle.rg_plan.proofs.Numbered.{Each, IsAmong}
use Rattle.rg_plan.proofs.Once.{once}
use Rattle.rg_plan.proofs.Told.{same_window-true, same_agg-true, window_equiv, filtered_equiv, agg_equiv, within}
use Rattle.rg_plan.proofs.Placing.{rising_rises}
use Rattle.rg_plan.proofs.Offsetting.{enters_at, leaves_at, only_of, rising_length}
use Rattle.rg_plan.proofs.Sizes.{few_queries, windows_measured, windows_few, filters_few, groups_few, all_aggs_few}
use Rattle.rg_plan.proofs.Naming.{each-front, each-back, number_of, aggs_by, windows_there, filters_there, groups_there, aggs_there}

all_under : {A K : Type 0} (same : K → K → Bool) (is : (a b : K) → same a b ≡ true → a ≡ b) (members : List K) (f : A → K) (xs : List A)
    → Each (IsAmong same members) (map f xs) → All (λ x. number_in same members (f x) < length members) xs
all_under same is members f [] h = All-nil (λ x. number_in same members (f x) < length members)
all_under same is members f (x ∷ xs) h =
    All-cons (λ x. number_in same members (f x) < length members) x xs (within same is members (f x) h.0) (all_under same is members f xs h.1)

all_within : {K : Type 0} (same : K → K → Bool) (is : (a b : K) → same a b ≡ true → a ≡ b) (members xs : List K)
    → Each (IsAmong same members) xs → All (λ x. number_in same members x < length members) xs
all_within same is members [] h = All-nil (λ x. number_in same members x < length members)
all_within same is members (x ∷ xs) h =
    All-cons (λ x. number_in same members x < length members) x xs (within same is members x h.0) (all_within same is members xs h.1)

stands : {A : Type 0} (xs : List A) (i : ℕ) → i < length xs → (x : A) × (slice_get xs i ≡ Some x)
stands [] i h = absurd (omega arith)
stands (x ∷ xs) zero h = (x, refl)
stands (x ∷ xs) (suc i) h = stands xs i (omega arith)

of_it : {A : Type 0} (P : A → Type 0) (xs : List A) (i : ℕ) (x : A) → All P xs → slice_get xs i ≡ Some x → P x
of_it P xs i x h e = subst P (get_or_from_slice_get xs i x x e) (h i x (slice_get_within xs i x e))

module _ (qs : List Asked) where
  windows_in : All (λ (filter : Filtered). filter.window < length (windows_of qs)) (filters_of qs)
  windows_in =
      let P : Filtered → Type 0 = λ filter. filter.window < length (windows_of qs) in
      let f = filter_under (windows_of qs) in
      All-distinct same_filter P (map f qs) (All-map P f qs (all_under same_window same_window-true (windows_of qs) (λ (q : Asked). q.window) qs (windows_there qs)))

  filters_in : All (λ (group : GroupNode). group.filter < length (filters_of qs)) (groups_of qs)
  filters_in =
      let P : GroupNode → Type 0 = λ group. group.filter < length (filters_of qs) in
      let f = group_under (windows_of qs) (filters_of qs) in
      All-distinct same_group P (map f qs) (All-map P f qs (all_under same_filter same_filter-true (filters_of qs) (filter_under (windows_of qs)) qs (filters_there qs)))

  abbrev InGroup : AggNode → Type 0
  InGroup agg = agg.group < length (groups_of qs)

  uses_in : (xs : List Asked) → All (λ q. number_of qs q < length (groups_of qs)) xs → All InGroup (flat_map (aggs_by qs) xs)
  uses_in [] h = All-nil InGroup
  uses_in (x ∷ xs) h =
      All-append InGroup (aggs_by qs x) (flat_map (aggs_by qs) xs)
      (All-map InGroup (agg_under (number_of qs x)) x.aggs (λ k d lt. h zero x (omega arith)))
      (uses_in xs (λ k d lt. h (suc k) d (omega arith)))

  groups_in : All InGroup (aggs_of qs)
  groups_in =
      All-distinct same_agg InGroup (flat_map (aggs_by qs) qs)
      (uses_in qs (all_under same_group same_group-true (groups_of qs) (group_under (windows_of qs) (filters_of qs)) qs (groups_there qs)))

  abbrev InAggs : ℕ → Type 0
  InAggs number = number < length (aggs_of qs)

  abbrev path_by : Asked → List ℕ
  path_by = path_in (windows_of qs) (filters_of qs) (groups_of qs) (aggs_of qs)

  aggs_in_paths : (xs : List Asked) → Each (IsAmong same_agg (aggs_of qs)) (flat_map (aggs_by qs) xs) → All (All InAggs) (map path_by xs)
  aggs_in_paths [] h = All-nil (All InAggs)
  aggs_in_paths (x ∷ xs) h =
      let P : AggNode → Type 0 = IsAmong same_agg (aggs_of qs) in
      All-cons (All InAggs) (path_by x) (map path_by xs)
      (All-map InAggs (number_in same_agg (aggs_of qs)) (aggs_by qs x) (all_within same_agg same_agg-true (aggs_of qs) (aggs_by qs x) (each-front P (aggs_by qs x) (flat_map (aggs_by qs) xs) h)))
      (aggs_in_paths xs (each-back P (aggs_by qs x) (flat_map (aggs_by qs) xs) h))

  node_there : (number : ℕ) → number < length (aggs_of qs) → (node : Node) × (node_at (plan_for qs) number ≡ Some node)
  node_there number lt =
      let plan : Tasks = plan_for qs in
      let (agg, a) = stands (aggs_of qs) number lt in
      let (group, g) = stands (groups_of qs) agg.group (of_it InGroup (aggs_of qs) number agg groups_in a) in
      let (filter, f) = stands (filters_of qs) group.filter (of_it (λ (n : GroupNode). n.filter < length (filters_of qs)) (groups_of qs) agg.group group filters_in g) in
      let (window, w) = stands (windows_of qs) filter.window (of_it (λ (n : Filtered). n.window < length (windows_of qs)) (filters_of qs) group.filter filter windows_in f) in (
        record { window = window; condition = filter.condition; columns = group.columns; agg = agg.agg },
        ap (option_and_then (under_agg plan)) a
            ∙ ap (option_and_then (under_group plan agg.agg)) g
            ∙ ap (option_and_then (under_filter plan group agg.agg)) f
            ∙ ap (option_map (λ (v : Window). record { window = v; condition = filter.condition; columns = group.columns; agg = agg.agg })) w,
      )

window_of : (condition : Option Test) (columns : List ℕ) (agg : Agg) (o : Option Window) (node : Node)
    → option_map (λ (window : Window). record { window = window; condition = condition; columns = columns; agg = agg }) o ≡ Some node → o ≡ Some node.window
window_of condition columns agg None node e = absurd cc
window_of condition columns agg (Some window) node e = ap (option_map (λ (n : Node). n.window)) e

-- the window of a node is one of the plan's
window_there : (plan : Tasks) (number : ℕ) (node : Node) → node_at plan number ≡ Some node → (place : ℕ) × (slice_get plan.windows place ≡ Some node.window)
window_there plan number node e =
    option_and_then_some (under_agg plan) (slice_get plan.aggs number) node e
    (λ agg a e1. option_and_then_some (under_group plan agg.agg) (slice_get plan.groups agg.group) node e1
    (λ group g e2. option_and_then_some (under_filter plan group agg.agg) (slice_get plan.filters group.filter) node e2
    (λ filter f e3. (filter.window, window_of filter.condition group.columns agg.agg (slice_get plan.windows filter.window) node e3))))

pub whole_for : (qs : List Asked) → All (λ (q : Asked). IsMeasured q.window) qs → excess qs ≡ None → IsWhole (plan_for qs)
whole_for qs measured e =
    let few = few_queries zero qs (omega arith) e in
    record {
      windows_once = once same_window window_equiv (map (λ (q : Asked). q.window) qs);
      filters_once = once same_filter filtered_equiv (map (filter_under (windows_of qs)) qs);
      groups_once = once same_group group_equiv (map (group_under (windows_of qs) (filters_of qs)) qs);
      aggs_once = once same_agg agg_equiv (flat_map (aggs_by qs) qs);
      rising = rising_rises (flat_map offsets_of (windows_of qs));
      windows_in = λ number window e. (enters_at (windows_of qs) number window e, leaves_at (windows_of qs) number window e);
      only = only_of (windows_of qs);
      enters = λ number node n. (let w = window_there (plan_for qs) number node n in enters_at (windows_of qs) w.0 node.window w.1);
      leaves = λ number node stay n long. (let w = window_there (plan_for qs) number node n in leaves_at (windows_of qs) w.0 node.window w.1 stay long);
      few_offsets = omega (arith, rising_length (windows_of qs), windows_few qs, few);
      few_windows = omega (arith, windows_few qs, few);
      few_filters = omega (arith, filters_few qs, few);
      few_groups = omega (arith, groups_few qs, few);
      few_aggs = omega (arith, all_aggs_few qs e, few);
      few_queries = omega (arith, few, length-map qs (path_by qs));
      measured = windows_measured qs measured;
      filters = windows_in qs;
      groups = filters_in qs;
      aggs = groups_in qs;
      paths = aggs_in_paths qs qs (aggs_there qs);
      nodes = node_there qs;
    }

pub whole : (plan : Tasks) → IsMade plan → IsWhole plan
whole plan made = subst IsWhole (sym made.is) (whole_for made.queries made.measured made.within)
