-- What one more query adds to a plan.
use Rattle.std.proofs.Common.{ℕ, List, [], ◌∷◌, ◌++◌, map, ◌≡◌, refl, sym, ap, ◌∙◌}
use Rattle.std.specs.Prelude.{fold, flat_map}
use Rattle.std.proofs.lemmas.List.{map-append}
use Rattle.std.proofs.lemmas.List.Sums.{fold-append}
use Rattle.std.proofs.lemmas.Grind.{flat_map-append}
use Rattle.rg_metric.specs.declared.query.Window.{Window}
use Rattle.rg_metric.specs.declared.query.Agg.{Agg}
use Rattle.rg_metric.specs.Queries.{Asked}
use Rattle.rg_plan.specs.declared.node.GroupNode.{GroupNode}
use Rattle.rg_plan.specs.declared.node.AggNode.{AggNode}
use Rattle.rg_plan.specs.Nodes.{Filtered, same_window, same_filter, same_group, same_agg, with_use, distinct, number_in}
use Rattle.rg_plan.specs.Plans.{windows_of, filters_of, groups_of, aggs_of, paths_of, filter_under, group_under, group_number, aggs_under, aggs_in, path_among, path_in}
use Rattle.rg_plan.proofs.Members.{distinct-push}
use Rattle.rg_plan.proofs.Numbered.{Each, IsAmong}
use Rattle.rg_plan.proofs.Told.{agg_equiv}
use Rattle.rg_plan.proofs.Staying.{stays_once, stays}
use Rattle.rg_plan.proofs.Naming.{each-front, each-back, HasWindow, HasFilter, HasGroup, IsNode, aggs_by, windows_there, filters_there, groups_there, aggs_there}

module _ (qs : List Asked) (q : Asked) where
  abbrev pub more : List Asked
  more = qs ++ q ∷ []

  pub windows_more : windows_of more ≡ with_use same_window (windows_of qs) q.window
  windows_more =
      ap (distinct same_window) (map-append (λ (x : Asked). x.window) qs (q ∷ []))
      ∙ distinct-push same_window (map (λ (x : Asked). x.window) qs) q.window

  abbrev filter_now : Asked → Filtered
  filter_now = filter_under (windows_of more)

  abbrev group_now : Asked → GroupNode
  group_now = group_under (windows_of more) (filters_of more)

  abbrev number_now : Asked → ℕ
  number_now = group_number (windows_of more) (filters_of more) (groups_of more)

  abbrev aggs_now : Asked → List AggNode
  aggs_now = aggs_in (windows_of more) (filters_of more) (groups_of more)

  abbrev path_now : Asked → List ℕ
  path_now = path_in (windows_of more) (filters_of more) (groups_of more) (aggs_of more)

  filter_stays : (x : Asked) → HasWindow qs x → filter_now x ≡ filter_under (windows_of qs) x
  filter_stays x w =
      let number : number_in same_window (windows_of more) x.window ≡ number_in same_window (windows_of qs) x.window =
      ap (λ ms. number_in same_window ms x.window) windows_more ∙ stays_once same_window (windows_of qs) q.window x.window w in
      λ i. record { window = number i; condition = x.filter }

  filters_stay : (xs : List Asked) → Each (IsAmong same_window (windows_of qs)) (map (λ (x : Asked). x.window) xs)
      → map filter_now xs ≡ map (filter_under (windows_of qs)) xs
  filters_stay [] w = refl
  filters_stay (x ∷ xs) w = λ i. filter_stays x w.0 i ∷ filters_stay xs w.1 i

  pub filters_more : filters_of more ≡ with_use same_filter (filters_of qs) (filter_now q)
  filters_more =
      ap (distinct same_filter) (map-append filter_now qs (q ∷ []) ∙ ap (λ fs. fs ++ filter_now q ∷ []) (filters_stay qs (windows_there qs)))
      ∙ distinct-push same_filter (map (filter_under (windows_of qs)) qs) (filter_now q)

  group_stays : (x : Asked) → HasWindow qs x → HasFilter qs x → group_now x ≡ group_under (windows_of qs) (filters_of qs) x
  group_stays x w f =
      let number : number_in same_filter (filters_of more) (filter_now x) ≡ number_in same_filter (filters_of qs) (filter_under (windows_of qs) x) =
      (λ i. number_in same_filter (filters_more i) (filter_stays x w i)) ∙ stays_once same_filter (filters_of qs) (filter_now q) (filter_under (windows_of qs) x) f in
      λ i. record { filter = number i; columns = x.group }

  groups_stay : (xs : List Asked) → Each (IsAmong same_window (windows_of qs)) (map (λ (x : Asked). x.window) xs)
      → Each (IsAmong same_filter (filters_of qs)) (map (filter_under (windows_of qs)) xs)
      → map group_now xs ≡ map (group_under (windows_of qs) (filters_of qs)) xs
  groups_stay [] w f = refl
  groups_stay (x ∷ xs) w f = λ i. group_stays x w.0 f.0 i ∷ groups_stay xs w.1 f.1 i

  pub groups_more : groups_of more ≡ with_use same_group (groups_of qs) (group_now q)
  groups_more =
      ap (distinct same_group) (map-append group_now qs (q ∷ []) ∙ ap (λ gs. gs ++ group_now q ∷ []) (groups_stay qs (windows_there qs) (filters_there qs)))
      ∙ distinct-push same_group (map (group_under (windows_of qs) (filters_of qs)) qs) (group_now q)

  number_stays : (x : Asked) → HasWindow qs x → HasFilter qs x → HasGroup qs x → number_now x ≡ group_number (windows_of qs) (filters_of qs) (groups_of qs) x
  number_stays x w f g =
      (λ i. number_in same_group (groups_more i) (group_stays x w f i))
      ∙ stays_once same_group (groups_of qs) (group_now q) (group_under (windows_of qs) (filters_of qs) x) g

  uses_stay : (xs : List Asked) → Each (IsAmong same_window (windows_of qs)) (map (λ (x : Asked). x.window) xs)
      → Each (IsAmong same_filter (filters_of qs)) (map (filter_under (windows_of qs)) xs)
      → Each (IsAmong same_group (groups_of qs)) (map (group_under (windows_of qs) (filters_of qs)) xs)
      → flat_map aggs_now xs ≡ flat_map (aggs_by qs) xs
  uses_stay [] w f g = refl
  uses_stay (x ∷ xs) w f g = λ i. aggs_under (number_stays x w.0 f.0 g.0 i) x.aggs ++ uses_stay xs w.1 f.1 g.1 i

  one_piece : (nodes : List AggNode) → nodes ++ [] ≡ nodes
  one_piece [] = refl
  one_piece (n ∷ nodes) = ap (λ ns. n ∷ ns) (one_piece nodes)

  pub aggs_more : aggs_of more ≡ fold (with_use same_agg) (aggs_of qs) (aggs_now q)
  aggs_more =
      ap (distinct same_agg)
      (flat_map-append aggs_now qs (q ∷ [])
      ∙ (λ i. uses_stay qs (windows_there qs) (filters_there qs) (groups_there qs) i ++ one_piece (aggs_now q) i))
      ∙ fold-append (with_use same_agg) [] (flat_map (aggs_by qs) qs) (aggs_now q)

  path_stays : (nodes : List AggNode) → Each (IsNode qs) nodes → path_among (aggs_of more) nodes ≡ path_among (aggs_of qs) nodes
  path_stays [] h = refl
  path_stays (n ∷ nodes) h =
      λ i. (ap (λ ms. number_in same_agg ms n) aggs_more ∙ stays same_agg agg_equiv (aggs_of qs) (aggs_now q) n h.0) i ∷ path_stays nodes h.1 i

  paths_stay : (xs : List Asked) → Each (IsAmong same_window (windows_of qs)) (map (λ (x : Asked). x.window) xs)
      → Each (IsAmong same_filter (filters_of qs)) (map (filter_under (windows_of qs)) xs)
      → Each (IsAmong same_group (groups_of qs)) (map (group_under (windows_of qs) (filters_of qs)) xs)
      → Each (IsNode qs) (flat_map (aggs_by qs) xs)
      → map path_now xs ≡ map (path_in (windows_of qs) (filters_of qs) (groups_of qs) (aggs_of qs)) xs
  paths_stay [] w f g a = refl
  paths_stay (x ∷ xs) w f g a =
      let front = each-front (IsNode qs) (aggs_by qs x) (flat_map (aggs_by qs) xs) a in
      let back = each-back (IsNode qs) (aggs_by qs x) (flat_map (aggs_by qs) xs) a in
      λ i. (ap (λ n. path_among (aggs_of more) (aggs_under n x.aggs)) (number_stays x w.0 f.0 g.0) ∙ path_stays (aggs_by qs x) front) i ∷ paths_stay xs w.1 f.1 g.1 back i

  pub paths_more : paths_of more ≡ paths_of qs ++ path_now q ∷ []
  paths_more =
      map-append path_now qs (q ∷ []) ∙ ap (λ ps. ps ++ path_now q ∷ []) (paths_stay qs (windows_there qs) (filters_there qs) (groups_there qs) (aggs_there qs))

-- the nodes of one more query, as they are added one level after the other
module _ (qs : List Asked) (q : Asked)
    (ws ws' : List Window) (w : ws ≡ windows_of qs) (w' : ws' ≡ with_use same_window ws q.window)
    (fs fs' : List Filtered) (filter : Filtered) (f : fs ≡ filters_of qs) (f' : fs' ≡ with_use same_filter fs filter) (at : filter ≡ filter_under ws' q)
    (gs gs' : List GroupNode) (group : GroupNode) (g : gs ≡ groups_of qs) (g' : gs' ≡ with_use same_group gs group)
    (under : group ≡ record { filter = number_in same_filter fs' filter; columns = q.group })
    (wanted : List Agg) (as_asked : wanted ≡ q.aggs) (nodes nodes' : List AggNode) (number : ℕ) (n : number ≡ number_in same_group gs' group) (a : nodes ≡ aggs_of qs) (a' : nodes' ≡ fold (with_use same_agg) nodes (aggs_under number wanted))
    (ps ps' : List (List ℕ)) (path : List ℕ) (p : ps ≡ paths_of qs) (is : path ≡ path_among nodes' (aggs_under number wanted)) (p' : ps' ≡ ps ++ path ∷ []) where
  windows_added : ws' ≡ windows_of (more qs q)
  windows_added = w' ∙ ap (λ ms. with_use same_window ms q.window) w ∙ sym (windows_more qs q)

  filter_is : filter ≡ filter_under (windows_of (more qs q)) q
  filter_is = at ∙ ap (λ ms. filter_under ms q) windows_added

  filters_added : fs' ≡ filters_of (more qs q)
  filters_added = f' ∙ (λ i. with_use same_filter (f i) (filter_is i)) ∙ sym (filters_more qs q)

  group_is : group ≡ group_under (windows_of (more qs q)) (filters_of (more qs q)) q
  group_is = under ∙ (λ i. record { filter = number_in same_filter (filters_added i) (filter_is i); columns = q.group })

  groups_added : gs' ≡ groups_of (more qs q)
  groups_added = g' ∙ (λ i. with_use same_group (g i) (group_is i)) ∙ sym (groups_more qs q)

  number_is : number ≡ group_number (windows_of (more qs q)) (filters_of (more qs q)) (groups_of (more qs q)) q
  number_is = n ∙ (λ i. number_in same_group (groups_added i) (group_is i))

  aggs_added : nodes' ≡ aggs_of (more qs q)
  aggs_added = a' ∙ (λ i. fold (with_use same_agg) (a i) (aggs_under (number_is i) (as_asked i))) ∙ sym (aggs_more qs q)

  paths_added : ps' ≡ paths_of (more qs q)
  paths_added =
      p'
      ∙ (λ i. p i ++ (is ∙ (λ j. path_among (aggs_added j) (aggs_under (number_is j) (as_asked j)))) i ∷ [])
      ∙ sym (paths_more qs q)

  pub all_added : (ws' ≡ windows_of (more qs q)) × (fs' ≡ filters_of (more qs q)) × (gs' ≡ groups_of (more qs q)) × (nodes' ≡ aggs_of (more qs q)) × (ps' ≡ paths_of (more qs q))
  all_added = (windows_added, filters_added, groups_added, aggs_added, paths_added)
