-- The nodes of a query's path are its aggregators, each with what is above it.
use Rattle.std.proofs.Common.{ℕ, ◌≡◌, Option, Some, List, [], ◌∷◌, ◌++◌, map, option_map, option_and_then, refl, ap, ◌∙◌, arith}
use Rattle.std.specs.Prelude.{flat_map, All}
use Rattle.std.proofs.lemmas.List.Elements.{All-head, All-tail}
use Rattle.rg_metric.specs.declared.query.Window.{Window}
use Rattle.rg_metric.specs.declared.query.Agg.{Agg}
use Rattle.rg_metric.specs.Conditions.{Test}
use Rattle.rg_metric.specs.Queries.{Asked}
use Rattle.rg_plan.specs.declared.node.AggNode.{AggNode}
use Rattle.rg_plan.specs.SameLaws.{group_equiv, same_filter-true, same_group-true}
use Rattle.rg_plan.specs.Nodes.{same_window, same_filter, same_group, same_agg, number_in}
use Rattle.rg_plan.specs.Plans.{Tasks, plan_for, windows_of, filters_of, groups_of, aggs_of, paths_of, filter_under, group_under, group_number, agg_under, aggs_under, aggs_in, path_among, path_in}
use Rattle.rg_plan.specs.Named.{under_filter, under_group, under_agg, node_at, node_of, nodes_of, aggs_named, asked_from, asked_by, HasAgg}
use Rattle.rg_plan.proofs.Numbered.{Each, IsAmong, all_there}
use Rattle.rg_plan.proofs.Told.{window_equiv, filtered_equiv, agg_equiv, same_window-true, same_agg-true, found}

pub each-front : {A : Type 0} (P : A → Type 0) (xs ys : List A) → Each P (xs ++ ys) → Each P xs
each-front P [] ys h = tt
each-front P (x ∷ xs) ys h = (h.0, each-front P xs ys h.1)

pub each-back : {A : Type 0} (P : A → Type 0) (xs ys : List A) → Each P (xs ++ ys) → Each P ys
each-back P [] ys h = h
each-back P (x ∷ xs) ys h = each-back P xs ys h.1

module _ (qs : List Asked) where
  -- the window of a query is one of the plan's, and so on down to its aggregators
  abbrev pub HasWindow : Asked → Type 0
  HasWindow q = IsAmong same_window (windows_of qs) q.window

  abbrev pub HasFilter : Asked → Type 0
  HasFilter q = IsAmong same_filter (filters_of qs) (filter_under (windows_of qs) q)

  abbrev pub HasGroup : Asked → Type 0
  HasGroup q = IsAmong same_group (groups_of qs) (group_under (windows_of qs) (filters_of qs) q)

  abbrev pub IsNode : AggNode → Type 0
  IsNode = IsAmong same_agg (aggs_of qs)

  abbrev pub number_of : Asked → ℕ
  number_of = group_number (windows_of qs) (filters_of qs) (groups_of qs)

  abbrev pub aggs_by : Asked → List AggNode
  aggs_by = aggs_in (windows_of qs) (filters_of qs) (groups_of qs)

  pub windows_there : Each (IsAmong same_window (windows_of qs)) (map (λ (q : Asked). q.window) qs)
  windows_there = all_there same_window window_equiv (map (λ (q : Asked). q.window) qs)

  pub filters_there : Each (IsAmong same_filter (filters_of qs)) (map (filter_under (windows_of qs)) qs)
  filters_there = all_there same_filter filtered_equiv (map (filter_under (windows_of qs)) qs)

  pub groups_there : Each (IsAmong same_group (groups_of qs)) (map (group_under (windows_of qs) (filters_of qs)) qs)
  groups_there = all_there same_group group_equiv (map (group_under (windows_of qs) (filters_of qs)) qs)

  pub aggs_there : Each IsNode (flat_map aggs_by qs)
  aggs_there = all_there same_agg agg_equiv (flat_map aggs_by qs)

  node_named : (q : Asked) (agg : Agg) → HasWindow q → HasFilter q → HasGroup q → IsNode (agg_under (number_of q) agg)
      → node_at (plan_for qs) (number_in same_agg (aggs_of qs) (agg_under (number_of q) agg)) ≡ Some (node_of q agg)
  node_named q agg w f g a =
      let plan : Tasks = plan_for qs in
      let group = group_under (windows_of qs) (filters_of qs) q in
      ap (option_and_then (under_agg plan)) (found same_agg same_agg-true (aggs_of qs) (agg_under (number_of q) agg) a)
      ∙ ap (option_and_then (under_group plan agg)) (found same_group same_group-true (groups_of qs) group g)
      ∙ ap (option_and_then (under_filter plan group agg)) (found same_filter same_filter-true (filters_of qs) (filter_under (windows_of qs) q) f)
      ∙ ap (option_map (λ (window : Window). node_of (record q { window = window }) agg)) (found same_window same_window-true (windows_of qs) q.window w)

  path_named : (q : Asked) → HasWindow q → HasFilter q → HasGroup q → (aggs : List Agg) → Each IsNode (aggs_under (number_of q) aggs)
      → map (node_at (plan_for qs)) (path_among (aggs_of qs) (aggs_under (number_of q) aggs)) ≡ map (λ agg. Some (node_of q agg)) aggs
  path_named q w f g [] h = refl
  path_named q w f g (a ∷ aggs) h = λ i. node_named q a w f g h.0 i ∷ path_named q w f g aggs h.1 i

  paths_named : (xs : List Asked) → Each (IsAmong same_window (windows_of qs)) (map (λ (q : Asked). q.window) xs)
      → Each (IsAmong same_filter (filters_of qs)) (map (filter_under (windows_of qs)) xs)
      → Each (IsAmong same_group (groups_of qs)) (map (group_under (windows_of qs) (filters_of qs)) xs)
      → Each IsNode (flat_map aggs_by xs)
      → map (λ path. map (node_at (plan_for qs)) path) (map (path_in (windows_of qs) (filters_of qs) (groups_of qs) (aggs_of qs)) xs) ≡ map nodes_of xs
  paths_named [] w f g a = refl
  paths_named (x ∷ xs) w f g a =
      let front = each-front IsNode (aggs_by x) (flat_map aggs_by xs) a in
      let back = each-back IsNode (aggs_by x) (flat_map aggs_by xs) a in
      λ i. path_named x w.0 f.0 g.0 x.aggs front i ∷ paths_named xs w.1 f.1 g.1 back i

-- the node at each number of a path is an aggregator of its query
pub all_named : (qs : List Asked) → map (λ path. map (node_at (plan_for qs)) path) (paths_of qs) ≡ map nodes_of qs
all_named qs = paths_named qs qs (windows_there qs) (filters_there qs) (groups_there qs) (aggs_there qs)

in_two : {A B C : Type 0} (g : A → B) (f : B → C) (xs : List A) → map (λ x. f (g x)) xs ≡ map f (map g xs)
in_two g f [] = refl
in_two g f (x ∷ xs) = ap (λ ys. f (g x) ∷ ys) (in_two g f xs)

module _ (filter : Option Test) (group : List ℕ) (window : Window) where
  abbrev asking : List Agg → Asked
  asking aggs = record { aggs = aggs; filter = filter; group = group; window = window }

  aggs_back : (aggs named : List Agg) → aggs_named (map (λ agg. Some (node_of (asking named) agg)) aggs) ≡ aggs
  aggs_back [] named = refl
  aggs_back (a ∷ aggs) named = ap (λ rest. a ∷ rest) (aggs_back aggs named)

  asked_one : (aggs : List Agg) → HasAgg (asking aggs) → asked_from (nodes_of (asking aggs)) ≡ asking aggs
  asked_one [] h = absurd (omega arith)
  asked_one (a ∷ aggs) h = ap (λ rest. asking (a ∷ rest)) (aggs_back aggs (a ∷ aggs))

asked_each : (qs : List Asked) → All HasAgg qs → map asked_from (map nodes_of qs) ≡ qs
asked_each [] h = refl
asked_each (q ∷ qs) h =
    λ i. asked_one q.filter q.group q.window q.aggs (All-head HasAgg q qs h) i ∷ asked_each qs (All-tail HasAgg q qs h) i

-- queries that each have an aggregator are read back from their plan
pub asked_back : (qs : List Asked) → All HasAgg qs → asked_by (plan_for qs) ≡ qs
asked_back qs h =
    in_two (λ path. map (node_at (plan_for qs)) path) asked_from (paths_of qs) ∙ ap (map asked_from) (all_named qs) ∙ asked_each qs h
