-- How large queries are that aren't too many.
use Rattle.std.proofs.Common.{ℕ, zero, suc, ◌+◌, ◌*◌, ◌<◌, ◌≤◌, ◌^◌, false, List, [], ◌∷◌, ◌++◌, length, map, take, get_or, None, ◌≡◌, refl, ap, subst, arith, inl, inr, length-append, leb-false, ltb-false}
use Rattle.std.specs.Prelude.{All, flat_map}
use Rattle.std.proofs.lemmas.Bool.{cases_Bool, or_parts}
use Rattle.std.proofs.lemmas.List.{length-map}
use Rattle.std.proofs.lemmas.Grind.{flat_map-append}
use Rattle.rg_metric.specs.declared.query.Window.{Window}
use Rattle.rg_metric.specs.declared.query.Query.{Query}
use Rattle.rg_metric.specs.Queries.{Asked, asked}
use Rattle.rg_plan.specs.declared.node.FilterNode.{FilterNode}
use Rattle.rg_plan.specs.declared.node.GroupNode.{GroupNode}
use Rattle.rg_plan.specs.declared.node.AggNode.{AggNode}
use Rattle.rg_plan.specs.Nodes.{Filtered, filtered, same_window, same_filter, same_group, same_agg}
use Rattle.rg_plan.proofs.Steps.{once_more}
use Rattle.rg_plan.proofs.Members.{distinct-length, All-distinct}
use Rattle.std.proofs.lemmas.List.Elements.{All-map}
use Rattle.rg_plan.specs.Offsets.{IsMeasured}
use Rattle.rg_plan.specs.Plans.{Tasks, windows_of, filters_of, groups_of, aggs_of, filter_under, group_under, is_too_many, excess_from, excess, aggs_in, agg_under, group_number, path_in}
use Rattle.rg_plan.specs.Named.{IsMade}

pub index_small : (n : ℕ) (q : Asked) → is_too_many n q ≡ false → n < 64
index_small n q e = leb-false 64 n (or_parts _ _ e).0

aggs_small : (n : ℕ) (q : Asked) → is_too_many n q ≡ false → length q.aggs ≤ 16
aggs_small n q e = ltb-false 16 (length q.aggs) (or_parts _ _ (or_parts _ _ e).1).0

pub few_queries : (n : ℕ) (qs : List Asked) → n ≤ 64 → excess_from n qs ≡ None → n + length qs ≤ 64
few_queries n [] h e = omega (arith, h)
few_queries n (q ∷ qs) h e = elim (cases_Bool (is_too_many n q)) [
  | inl large ↦ (let e' = rw large at e in absurd cc)
  | inr small ↦ (let below = index_small n q small in omega (arith, few_queries (n + 1) qs (omega (arith, below)) (rw small at e)))
]

module _ (ws : List Window) (fs : List Filtered) (gs : List GroupNode) where
  pub few_aggs : (n : ℕ) (qs : List Asked) → excess_from n qs ≡ None → length (flat_map (aggs_in ws fs gs) qs) ≤ 16 * length qs
  few_aggs n [] e = omega arith
  few_aggs n (q ∷ qs) e = elim (cases_Bool (is_too_many n q)) [
    | inl large ↦ (let e' = rw large at e in absurd cc)
    | inr small ↦ omega (arith, length-append (aggs_in ws fs gs q) (flat_map (aggs_in ws fs gs) qs), length-map q.aggs (agg_under (group_number ws fs gs q)), aggs_small n q small, few_aggs (n + 1) qs (rw small at e))
  ]

-- there are at most as many nodes as uses
pub windows_few : (qs : List Asked) → length (windows_of qs) ≤ length qs
windows_few qs = omega (arith, distinct-length same_window (map (λ (q : Asked). q.window) qs), length-map qs (λ (q : Asked). q.window))

pub filters_few : (qs : List Asked) → length (filters_of qs) ≤ length qs
filters_few qs = omega (arith, distinct-length same_filter (map (filter_under (windows_of qs)) qs), length-map qs (filter_under (windows_of qs)))

pub groups_few : (qs : List Asked) → length (groups_of qs) ≤ length qs
groups_few qs =
    omega (arith, distinct-length same_group (map (group_under (windows_of qs) (filters_of qs)) qs), length-map qs (group_under (windows_of qs) (filters_of qs)))

pub all_aggs_few : (qs : List Asked) → excess qs ≡ None → length (aggs_of qs) ≤ 16 * length qs
all_aggs_few qs e =
    omega (arith, distinct-length same_agg (flat_map (aggs_in (windows_of qs) (filters_of qs) (groups_of qs)) qs), few_aggs (windows_of qs) (filters_of qs) (groups_of qs) 0 qs e)

-- there is room for the nodes of one more query
module _ (qs : List Asked) (q : Asked) (e : excess (qs ++ q ∷ []) ≡ None) where
  few_before : length qs + 1 ≤ 64
  few_before = omega (arith, few_queries 0 (qs ++ q ∷ []) (omega arith) e, length-append qs (q ∷ []))

  pub windows_room : (ws : List Window) → ws ≡ windows_of qs → length ws + 1 < 2 ^ 32
  windows_room ws is = rw is (omega (arith, windows_few qs, few_before))

  pub filters_room : (nodes : List FilterNode) → map filtered nodes ≡ filters_of qs → length nodes + 1 < 2 ^ 32
  filters_room nodes is = omega (arith, length-map nodes filtered, ap length is, filters_few qs, few_before)

  pub groups_room : (gs : List GroupNode) → gs ≡ groups_of qs → length gs + 1 < 2 ^ 32
  groups_room gs is = rw is (omega (arith, groups_few qs, few_before))

  pub aggs_room : (nodes : List AggNode) → nodes ≡ aggs_of qs → length nodes + length q.aggs < 2 ^ 32
  aggs_room nodes is =
      let ws = windows_of qs in
      let fs = filters_of qs in
      let gs = groups_of qs in
      let uses = aggs_in ws fs gs in
      rw is
      (omega (arith, distinct-length same_agg (flat_map uses qs), few_aggs ws fs gs 0 (qs ++ q ∷ []) e, ap length (flat_map-append uses qs (q ∷ [])), length-append (flat_map uses qs) (uses q ++ []), length-append (uses q) [], length-map q.aggs (agg_under (group_number ws fs gs q)), few_before, length-append qs (q ∷ [])))

-- the first of queries that are few enough are few enough
excess_take : (n i : ℕ) (qs : List Query) → excess_from n (map asked qs) ≡ None → excess_from n (map asked (take i qs)) ≡ None
excess_take n zero qs e = refl
excess_take n (suc i) [] e = refl
excess_take n (suc i) (q ∷ qs) e = elim (cases_Bool (is_too_many n (asked q))) [
  | inl large ↦ (let e' = rw large at e in absurd cc)
  | inr small ↦ rw small (excess_take (n + 1) i qs (rw small at e))
]

pub few_so_far : (qs : List Query) (i : ℕ) (q : Query) → i < length qs → q ≡ get_or qs i q → excess (map asked qs) ≡ None → excess (map asked (take i qs) ++ asked q ∷ []) ≡ None
few_so_far qs i q l is e = subst (λ (xs : List Asked). excess xs ≡ None) (once_more asked qs i q l is) (excess_take 0 (i + 1) qs e)

-- the windows are measured where the queries' are
pub windows_measured : (qs : List Asked) → All (λ (q : Asked). IsMeasured q.window) qs → All IsMeasured (windows_of qs)
windows_measured qs h = All-distinct same_window IsMeasured (map (λ (q : Asked). q.window) qs) (All-map IsMeasured (λ (q : Asked). q.window) qs h)

pub paths_small : (plan : Tasks) → IsMade plan → length plan.paths < 2 ^ 32
paths_small plan made =
    omega (arith, ap (λ (p : Tasks). length p.paths) made.is, length-map made.queries (path_in (windows_of made.queries) (filters_of made.queries) (groups_of made.queries) (aggs_of made.queries)), few_queries 0 made.queries (omega arith) made.within)
