-- Nodes are the distinct beginnings of queries, in their order.
use Rattle.std.proofs.Common.{ℕ, true, List, [], ◌∷◌, ◌++◌, map, ◌≡◌, refl, sym, ap, ◌∙◌}
use Rattle.std.specs.Prelude.{flat_map, ◌&&◌, bytes_eq}
use Rattle.std.specs.Cmp.{IsEquivalence, and_equiv, on_equiv}
use Rattle.std.specs.Cmp.Lexicographic.{nat_list_eq_equiv}
use Rattle.std.proofs.lemmas.List.{map-append}
use Rattle.rg_metric.specs.declared.query.Agg.{Agg}
use Rattle.rg_metric.specs.contracts.query.AggPartialEq.TheImpl.{ghosts as agg_ghosts}
use Rattle.rg_metric.specs.Queries.{Asked}
use Rattle.rg_plan.specs.declared.node.GroupNode.{GroupNode}
use Rattle.rg_plan.specs.Same.{same_condition}
use Rattle.rg_plan.specs.SameLaws.{same_condition_equiv}
use Rattle.rg_plan.specs.Nodes.{same_window, same_filter, same_group, same_agg, distinct, number_in}
use Rattle.rg_plan.specs.Plans.{windows_of, filters_of, groups_of, aggs_of, filter_under, group_under, group_number, agg_under, aggs_under, aggs_in}
use Rattle.rg_plan.specs.Beginnings.{ToFilter, ToGroup, ToAgg, same_to_filter, same_to_group, same_to_agg, to_filter, to_group, to_agg, to_aggs, filters_begun, groups_begun, aggs_begun, filter_at, group_at, agg_at}
use Rattle.rg_plan.proofs.Told.{window_equiv}
use Rattle.rg_plan.proofs.Numbered.{Each, IsAmong, exact, all_there, number-along, each-distinct, distinct-along}

abbrev group_node : List ℕ → ℕ → GroupNode
group_node columns n = record { filter = n; columns = columns }

to_filter_equiv : IsEquivalence same_to_filter
to_filter_equiv = and_equiv (on_equiv (λ (p : ToFilter). p.window) window_equiv) (on_equiv (λ (p : ToFilter). p.condition) same_condition_equiv)

to_group_equiv : IsEquivalence same_to_group
to_group_equiv = and_equiv (on_equiv (λ (p : ToGroup). p.filter) to_filter_equiv) (on_equiv (λ (p : ToGroup). p.columns) nat_list_eq_equiv)

each-map : {A B : Type 0} (f : A → B) (P : B → Type 0) (Q : A → Type 0) → ((x : A) → Q x → P (f x)) → (xs : List A) → Each Q xs → Each P (map f xs)
each-map f P Q g [] h = tt
each-map f P Q g (x ∷ xs) h = (g x h.0, each-map f P Q g xs h.1)

each-unmap : {A B : Type 0} (f : A → B) (P : B → Type 0) (xs : List A) → Each P (map f xs) → Each (λ x. P (f x)) xs
each-unmap f P [] h = tt
each-unmap f P (x ∷ xs) h = (h.0, each-unmap f P xs h.1)

module _ (qs : List Asked) where
  -- the window of a beginning is one of the windows
  abbrev HasWindow : ToFilter → Type 0
  HasWindow p = IsAmong same_window (windows_of qs) p.window

  abbrev HasFilter : ToGroup → Type 0
  HasFilter p = IsAmong same_to_filter (filters_begun qs) p.filter

  abbrev HasGroup : ToAgg → Type 0
  HasGroup p = IsAmong same_to_group (groups_begun qs) p.group

  have_windows : Each HasWindow (map to_filter qs)
  have_windows = each-map to_filter HasWindow (λ (q : Asked). IsAmong same_window (windows_of qs) q.window) (λ q h. h) qs (each-unmap (λ (q : Asked). q.window) (IsAmong same_window (windows_of qs)) qs (all_there same_window window_equiv (map (λ (q : Asked). q.window) qs)))

  have_filters : Each HasFilter (map to_group qs)
  have_filters = each-map to_group HasFilter (λ (q : Asked). IsAmong same_to_filter (filters_begun qs) (to_filter q)) (λ q h. h) qs (each-unmap to_filter (IsAmong same_to_filter (filters_begun qs)) qs (all_there same_to_filter to_filter_equiv (map to_filter qs)))

  filters_agree : (a b : ToFilter) → HasWindow a → HasWindow b → same_filter (filter_at (windows_of qs) a) (filter_at (windows_of qs) b) ≡ same_to_filter a b
  filters_agree a b p q = ap (λ t. t && same_condition a.condition b.condition) (exact same_window window_equiv (windows_of qs) a.window b.window p q)

  groups_agree : (a b : ToGroup) → HasFilter a → HasFilter b → same_group (group_at (filters_begun qs) a) (group_at (filters_begun qs) b) ≡ same_to_group a b
  groups_agree a b p q = ap (λ t. t && bytes_eq a.columns b.columns) (exact same_to_filter to_filter_equiv (filters_begun qs) a.filter b.filter p q)

  aggs_agree : (a b : ToAgg) → HasGroup a → HasGroup b → same_agg (agg_at (groups_begun qs) a) (agg_at (groups_begun qs) b) ≡ same_to_agg a b
  aggs_agree a b p q = ap (λ t. t && agg_ghosts.eq a.agg b.agg) (exact same_to_group to_group_equiv (groups_begun qs) a.group b.group p q)

  seen_filters : (xs : List Asked) → map (filter_under (windows_of qs)) xs ≡ map (filter_at (windows_of qs)) (map to_filter xs)
  seen_filters [] = refl
  seen_filters (x ∷ xs) = ap (λ ys. filter_under (windows_of qs) x ∷ ys) (seen_filters xs)

  -- the filter nodes are the distinct beginnings with a condition
  pub filters_begin : filters_of qs ≡ map (filter_at (windows_of qs)) (filters_begun qs)
  filters_begin =
      ap (distinct same_filter) (seen_filters qs)
      ∙ sym (distinct-along (filter_at (windows_of qs)) same_to_filter same_filter HasWindow filters_agree (map to_filter qs) have_windows)

  filter_number : (p : ToFilter) → HasWindow p → number_in same_filter (filters_of qs) (filter_at (windows_of qs) p) ≡ number_in same_to_filter (filters_begun qs) p
  filter_number p h =
      ap (λ fs. number_in same_filter fs (filter_at (windows_of qs) p)) filters_begin
      ∙ number-along (filter_at (windows_of qs)) same_to_filter same_filter HasWindow filters_agree (filters_begun qs) p
      (each-distinct (filter_at (windows_of qs)) same_to_filter same_filter HasWindow filters_agree (map to_filter qs) have_windows) h

  group_seen : (q : Asked) → HasWindow (to_filter q) → group_under (windows_of qs) (filters_of qs) q ≡ group_at (filters_begun qs) (to_group q)
  group_seen q h = ap (group_node q.group) (filter_number (to_filter q) h)

  seen_groups : (xs : List Asked) → Each HasWindow (map to_filter xs) → map (group_under (windows_of qs) (filters_of qs)) xs ≡ map (group_at (filters_begun qs)) (map to_group xs)
  seen_groups [] h = refl
  seen_groups (x ∷ xs) h = λ i. group_seen x h.0 i ∷ seen_groups xs h.1 i

  -- the group nodes are the distinct beginnings with columns
  pub groups_begin : groups_of qs ≡ map (group_at (filters_begun qs)) (groups_begun qs)
  groups_begin =
      ap (distinct same_group) (seen_groups qs have_windows)
      ∙ sym (distinct-along (group_at (filters_begun qs)) same_to_group same_group HasFilter groups_agree (map to_group qs) have_filters)

  group_number-at : (q : Asked) → HasWindow (to_filter q) → HasFilter (to_group q) → group_number (windows_of qs) (filters_of qs) (groups_of qs) q ≡ number_in same_to_group (groups_begun qs) (to_group q)
  group_number-at q w h =
      (λ i. number_in same_group (groups_begin i) (group_seen q w i))
      ∙ number-along (group_at (filters_begun qs)) same_to_group same_group HasFilter groups_agree (groups_begun qs) (to_group q)
      (each-distinct (group_at (filters_begun qs)) same_to_group same_group HasFilter groups_agree (map to_group qs) have_filters) h

  aggs_seen : (group : ToGroup) (n : ℕ) (aggs : List Agg) → n ≡ number_in same_to_group (groups_begun qs) group
      → aggs_under n aggs ≡ map (agg_at (groups_begun qs)) (map (to_agg group) aggs)
  aggs_seen group n [] e = refl
  aggs_seen group n (a ∷ aggs) e = λ i. agg_under (e i) a ∷ aggs_seen group n aggs e i

  seen_aggs : (xs : List Asked) → Each HasWindow (map to_filter xs) → Each HasFilter (map to_group xs)
      → flat_map (aggs_in (windows_of qs) (filters_of qs) (groups_of qs)) xs ≡ map (agg_at (groups_begun qs)) (flat_map to_aggs xs)
  seen_aggs [] w h = refl
  seen_aggs (x ∷ xs) w h =
      (λ i. aggs_seen (to_group x) _ x.aggs (group_number-at x w.0 h.0) i ++ seen_aggs xs w.1 h.1 i)
      ∙ sym (map-append (agg_at (groups_begun qs)) (to_aggs x) (flat_map to_aggs xs))

  each-append : (P : ToAgg → Type 0) (xs ys : List ToAgg) → Each P xs → Each P ys → Each P (xs ++ ys)
  each-append P [] ys h k = k
  each-append P (x ∷ xs) ys h k = (h.0, each-append P xs ys h.1 k)

  each-aggs : (group : ToGroup) → IsAmong same_to_group (groups_begun qs) group → (aggs : List Agg) → Each HasGroup (map (to_agg group) aggs)
  each-aggs group h [] = tt
  each-aggs group h (a ∷ aggs) = (h, each-aggs group h aggs)

  have_groups-of : (xs : List Asked) → Each (IsAmong same_to_group (groups_begun qs)) (map to_group xs) → Each HasGroup (flat_map to_aggs xs)
  have_groups-of [] h = tt
  have_groups-of (x ∷ xs) h = each-append HasGroup (to_aggs x) (flat_map to_aggs xs) (each-aggs (to_group x) h.0 x.aggs) (have_groups-of xs h.1)

  -- the aggregator nodes are the distinct beginnings with an aggregator
  pub aggs_begin : aggs_of qs ≡ map (agg_at (groups_begun qs)) (aggs_begun qs)
  aggs_begin =
      ap (distinct same_agg) (seen_aggs qs have_windows have_filters)
      ∙ sym (distinct-along (agg_at (groups_begun qs)) same_to_agg same_agg HasGroup aggs_agree (flat_map to_aggs qs) (have_groups-of qs (all_there same_to_group to_group_equiv (map to_group qs))))
