-- The path of a plan leads to an aggregator exactly where its query has one, and then to that one.
use Rattle.std.proofs.Common.{◌≡◌, ◌↔◌, ℕ, zero, suc, List, [], ◌∷◌, Option, Some, None, map, option_map, option_and_then, slice_get, refl, sym, ap, ◌∙◌, subst}
use Rattle.std.proofs.lemmas.Option.{slice_get-map}
use Rattle.rg_metric.specs.Queries.{Asked}
use Rattle.rg_metric.specs.declared.query.Agg.{Agg}
use Rattle.rg_plan.specs.declared.node.AggNode.{AggNode}
use Rattle.rg_plan.specs.Named.{Node, node_at, nodes_of, asked_agg, asked_node}
use Rattle.rg_plan.specs.Nodes.{same_agg, number_in}
use Rattle.rg_plan.specs.Plans.{Tasks, plan_for, node_in, path_at, path_in, windows_of, filters_of, groups_of, aggs_of, aggs_in, agg_under, group_number}
use Rattle.rg_plan.proofs.Naming.{all_named}

-- nothing is made of nothing, and of something something
none_by : {A B : Type 0} (f : A → B) (x : Option A) → (option_map f x ≡ None) ↔ (x ≡ None)
none_by f None = (λ e. refl, λ e. refl)
none_by f (Some x) = (λ e. absurd cc, λ e. absurd cc)

none_at : {A B : Type 0} (f : A → B) (xs : List A) (i : ℕ) → (slice_get (map f xs) i ≡ None) ↔ (slice_get xs i ≡ None)
none_at f xs i = subst (λ o. (o ≡ None) ↔ (slice_get xs i ≡ None)) (sym (slice_get-map f xs i)) (none_by f (slice_get xs i))

joined : {A B C : Type 0} → (A ↔ B) → (B ↔ C) → (A ↔ C)
joined f g = (λ a. g.0 (f.0 a), λ c. f.1 (g.1 c))

module _ (qs : List Asked) where
  abbrev by : Asked → List ℕ
  by = path_in (windows_of qs) (filters_of qs) (groups_of qs) (aggs_of qs)

  none_in : (q : Asked) (agg : ℕ) → (slice_get (by q) agg ≡ None) ↔ (slice_get q.aggs agg ≡ None)
  none_in q agg =
      joined (none_at (number_in same_agg (aggs_of qs)) (aggs_in (windows_of qs) (filters_of qs) (groups_of qs) q) agg)
      (none_at (agg_under (group_number (windows_of qs) (filters_of qs) (groups_of qs) q)) q.aggs agg)

  none_found : (found : Option Asked) (agg : ℕ) → (node_in (option_map by found) agg ≡ None) ↔ (option_and_then (λ (q : Asked). slice_get q.aggs agg) found ≡ None)
  none_found None agg = (λ e. refl, λ e. refl)
  none_found (Some q) agg = none_in q agg

  none_for : (query agg : ℕ) → (path_at (plan_for qs).paths query agg ≡ None) ↔ (asked_agg qs query agg ≡ None)
  none_for query agg =
      subst (λ path. (node_in path agg ≡ None) ↔ (asked_agg qs query agg ≡ None)) (sym (slice_get-map by qs query)) (none_found (slice_get qs query) agg)

pub none_exactly : (plan : Tasks) (query agg : ℕ) (result : Option ℕ) → result ≡ path_at plan.paths query agg
    → (qs : List Asked) → plan ≡ plan_for qs → (result ≡ None) ↔ (asked_agg qs query agg ≡ None)
none_exactly plan query agg result is qs made =
    subst (λ number. (number ≡ None) ↔ (asked_agg qs query agg ≡ None)) (sym (is ∙ ap (λ (p : Tasks). path_at p.paths query agg) made)) (none_for qs query agg)

-- a member of a list in a list, where there is one
abbrev member : {A : Type 0} → Option (List A) → ℕ → Option A
member None i = None
member (Some xs) i = slice_get xs i

through : {A B : Type 0} (f : A → B) (found : Option (List A)) (i : ℕ) → option_map f (member found i) ≡ member (option_map (map f) found) i
through f None i = refl
through f (Some xs) i = sym (slice_get-map f xs i)

number_is : (found : Option (List ℕ)) (i : ℕ) → node_in found i ≡ member found i
number_is None i = refl
number_is (Some path) i = refl

asked_is : (found : Option Asked) (agg : ℕ) → member (option_map nodes_of found) agg ≡ option_and_then (λ (q : Asked). slice_get (nodes_of q) agg) found
asked_is None agg = refl
asked_is (Some q) agg = refl

node_for : (qs : List Asked) (query agg : ℕ) → option_map (node_at (plan_for qs)) (path_at (plan_for qs).paths query agg) ≡ asked_node qs query agg
node_for qs query agg =
    let plan : Tasks = plan_for qs in
    let node : ℕ → Option Node = node_at plan in
    ap (option_map node) (number_is (slice_get plan.paths query) agg)
    ∙ through node (slice_get plan.paths query) agg
    ∙ ap (λ found. member found agg) (sym (slice_get-map (map node) plan.paths query))
    ∙ ap (λ (nodes : List (List (Option Node))). member (slice_get nodes query) agg) (all_named qs)
    ∙ ap (λ found. member found agg) (slice_get-map nodes_of qs query)
    ∙ asked_is (slice_get qs query) agg

pub node_of_path : (plan : Tasks) (query agg : ℕ) (result : Option ℕ) → result ≡ path_at plan.paths query agg
    → (qs : List Asked) → plan ≡ plan_for qs → option_map (node_at plan) result ≡ asked_node qs query agg
node_of_path plan query agg result is qs made =
    ap (option_map (node_at plan)) is
    ∙ subst (λ (p : Tasks). option_map (node_at p) (path_at p.paths query agg) ≡ asked_node qs query agg) (sym made) (node_for qs query agg)
