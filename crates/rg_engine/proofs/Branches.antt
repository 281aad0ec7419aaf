-- A tree of nodes, as far as it is made.
use Rattle.std.proofs.Common.{◌≡◌, ◌<◌, ◌+◌, ℕ, zero, suc, Bool, true, false, List, [], ◌∷◌, ◌++◌, length, get_or, take, map, flat_map, Option, Some, None, refl, ap, sym, ◌∙◌, arith, add-one}
use Rattle.std.specs.Prelude.{◌==◌, slice_get, if◌then◌else◌, option_map, option_and_then}
use Rattle.std.proofs.lemmas.List.{append-nil, map-append, take_more}
use Rattle.std.proofs.lemmas.Bool.Decides.{Decides-eqb}
use Rattle.std.proofs.lemmas.Grind.{flat_map-append}
use Rattle.std.proofs.lemmas.Option.{slice_get_within, get_or_from_slice_get}
use Rattle.rg_metric.specs.declared.query.Window.{Window}
use Rattle.rg_metric.specs.declared.query.Agg.{Agg}
use Rattle.rg_metric.specs.Conditions.{Test}
use Rattle.rg_plan.specs.declared.node.GroupNode.{GroupNode}
use Rattle.rg_plan.specs.declared.node.AggNode.{AggNode}
use Rattle.rg_plan.specs.Named.{Node, node_at, under_agg, under_group, under_filter}
use Rattle.rg_plan.specs.Nodes.{Filtered}
use Rattle.rg_plan.specs.Plans.{Tasks}
use Rattle.rg_engine.specs.declared.part.FilterPart.{FilterPart}
use Rattle.rg_engine.specs.declared.part.GroupPart.{GroupPart}
use Rattle.rg_engine.specs.declared.part.AggPart.{AggPart}
use Rattle.rg_engine.specs.Parts.{node_under, node_if, agg_nodes, group_nodes, nodes_numbered, one_or_none, made_of, agg_if, group_if, node_in_filter, node_in_group, node_in_agg}
use Rattle.rg_engine.proofs.Plain.{is_false, same_tests}

not_true : true ≡ false → ⊥
not_true e = cc

pick_by : {A : Type 0} (make : A → List Node) (xs : List A) (i m : ℕ) (d : A) (b : Bool) → i < length xs → (i ≡ m → b ≡ true) → ((i ≡ m → ⊥) → b ≡ false) →
    made_of make (slice_get (take (suc i) xs) m) ≡ made_of make (slice_get (take i xs) m) ++ (if b then make (get_or xs i d) else [])
pick_by make [] i m d b l f g = absurd (omega arith)
pick_by make (x ∷ xs) zero zero d b l f g = rw (f refl) refl
pick_by make (x ∷ xs) zero (suc m) d b l f g = rw (g (λ e. absurd (omega arith))) refl
pick_by make (x ∷ xs) (suc i) zero d b l f g = rw (g (λ e. absurd (omega arith))) (sym (append-nil (make x)))
pick_by make (x ∷ xs) (suc i) (suc m) d b l f g = pick_by make xs i m d b (omega arith) (λ e. f (ap suc e)) (λ n. g (λ e. n (omega arith)))

-- what is made of the element at a place, one element more of the list
pub pick_more : {A : Type 0} (make : A → List Node) (xs : List A) (i m : ℕ) (d : A) → i < length xs →
    made_of make (slice_get (take (i + 1) xs) m) ≡ made_of make (slice_get (take i xs) m) ++ (if i == m then make (get_or xs i d) else [])
pick_more make xs i m d l =
    ap (λ k. made_of make (slice_get (take k xs) m)) (add-one i)
    ∙ pick_by make xs i m d (i == m) l (λ e. (Decides-eqb i m).1 e) (λ n. is_false (i == m) (λ e. n ((Decides-eqb i m).0 e)))

same_if : (b c : Bool) (node other : Node) → c ≡ true → node ≡ other → node_if b node ++ [] ≡ (if b then node_if c other else [])
same_if true c node other e is = rw (e, is) refl
same_if false c node other e is = refl

none_if : (b c : Bool) (node : Node) → c ≡ false → [] ≡ (if b then node_if c node else [])
none_if true c node e = rw e refl
none_if false c node e = refl

same_eq : (m n : ℕ) → (m == n) ≡ (n == m)
same_eq m n = same_tests (m == n) (n == m) (λ e. (Decides-eqb n m).1 (sym ((Decides-eqb m n).0 e))) (λ e. (Decides-eqb m n).1 (sym ((Decides-eqb n m).0 e)))

-- Aggregators under a group node

module _ (window : Window) (condition : Option Test) (columns : List ℕ) (n g : ℕ) (parts : List AggPart) (aggs : List AggNode) (i : ℕ) (d : AggNode) where
  abbrev node_there : Node
  node_there = record { window = window; condition = condition; columns = columns; agg = (get_or aggs i d).agg }

  -- one more
  pub agg_more : (part : AggPart) → i < length aggs → agg_nodes window condition columns n parts ≡ made_of (agg_if window condition columns g) (slice_get (take i aggs) n) → part.node ≡ i → part.agg ≡ (get_or aggs i d).agg → (get_or aggs i d).group ≡ g →
      agg_nodes window condition columns n (parts ++ part ∷ []) ≡ made_of (agg_if window condition columns g) (slice_get (take (i + 1) aggs) n)
  agg_more part within so_far is_node is_agg under =
      flat_map-append (λ (p : AggPart). node_if (p.node == n) (node_under window condition columns p)) parts (part ∷ [])
      ∙ ap (λ m. agg_nodes window condition columns n parts ++ (node_if (m == n) (node_under window condition columns part) ++ [])) is_node
      ∙ ap (λ ns. agg_nodes window condition columns n parts ++ ns)
      (same_if (i == n) ((get_or aggs i d).group == g) (node_under window condition columns part) node_there ((Decides-eqb (get_or aggs i d).group g).1 under)
      (ap (λ (a : Agg). let node : Node = record { window = window; condition = condition; columns = columns; agg = a } in node) is_agg))
      ∙ ap (λ ns. ns ++ (if i == n then agg_if window condition columns g (get_or aggs i d) else [])) so_far
      ∙ sym (pick_more (agg_if window condition columns g) aggs i n d within)

  -- one that isn't under it
  pub agg_skipped : i < length aggs → agg_nodes window condition columns n parts ≡ made_of (agg_if window condition columns g) (slice_get (take i aggs) n) → ((get_or aggs i d).group ≡ g → ⊥) →
      agg_nodes window condition columns n parts ≡ made_of (agg_if window condition columns g) (slice_get (take (i + 1) aggs) n)
  agg_skipped within so_far beside =
      so_far ∙ sym (append-nil (made_of (agg_if window condition columns g) (slice_get (take i aggs) n)))
      ∙ ap (λ ns. made_of (agg_if window condition columns g) (slice_get (take i aggs) n) ++ ns)
      (none_if (i == n) ((get_or aggs i d).group == g) node_there (is_false ((get_or aggs i d).group == g) (λ e. beside ((Decides-eqb (get_or aggs i d).group g).0 e))))
      ∙ sym (pick_more (agg_if window condition columns g) aggs i n d within)

-- Group nodes under a filter node

module _ (window : Window) (condition : Option Test) (n f : ℕ) (parts : List GroupPart) (groups : List GroupNode) (i : ℕ) (d : GroupNode) where
  abbrev under_front : ℕ → AggNode → List Node
  under_front k agg = made_of (group_if window condition f agg.agg) (slice_get (take k groups) agg.group)

  more_by : (part : GroupPart) (found : Option AggNode) → i < length groups → part.columns ≡ (get_or groups i d).columns → (get_or groups i d).filter ≡ f →
      made_of (under_front i) found ++ (made_of (agg_if window condition part.columns i) found ++ []) ≡ made_of (under_front (i + 1)) found
  more_by part None within are under = refl
  more_by part (Some agg) within are under =
      let node : List ℕ → Node = λ columns. record { window = window; condition = condition; columns = columns; agg = agg.agg } in
      ap (λ b. under_front i agg ++ (node_if b (node part.columns) ++ [])) (same_eq agg.group i)
      ∙ ap (λ ns. under_front i agg ++ ns) (same_if (i == agg.group) ((get_or groups i d).filter == f) (node part.columns) (node (get_or groups i d).columns) ((Decides-eqb (get_or groups i d).filter f).1 under) (ap node are))
      ∙ sym (pick_more (group_if window condition f agg.agg) groups i agg.group d within)

  -- one more
  pub group_more : (aggs : List AggNode) (part : GroupPart) → i < length groups → group_nodes window condition n parts ≡ made_of (under_front i) (slice_get aggs n) → part.columns ≡ (get_or groups i d).columns → (get_or groups i d).filter ≡ f →
      agg_nodes window condition part.columns n part.aggs.items ≡ made_of (agg_if window condition part.columns i) (slice_get aggs n) →
      group_nodes window condition n (parts ++ part ∷ []) ≡ made_of (under_front (i + 1)) (slice_get aggs n)
  group_more aggs part within so_far are under made =
      flat_map-append (λ (p : GroupPart). agg_nodes window condition p.columns n p.aggs.items) parts (part ∷ [])
      ∙ ap (λ ns. ns ++ (agg_nodes window condition part.columns n part.aggs.items ++ [])) so_far
      ∙ ap (λ ns. made_of (under_front i) (slice_get aggs n) ++ (ns ++ [])) made
      ∙ more_by part (slice_get aggs n) within are under

  skip_by : (found : Option AggNode) → i < length groups → ((get_or groups i d).filter ≡ f → ⊥) → made_of (under_front i) found ≡ made_of (under_front (i + 1)) found
  skip_by None within beside = refl
  skip_by (Some agg) within beside =
      let node : Node = record { window = window; condition = condition; columns = (get_or groups i d).columns; agg = agg.agg } in
      sym (append-nil (under_front i agg))
      ∙ ap (λ ns. under_front i agg ++ ns) (none_if (i == agg.group) ((get_or groups i d).filter == f) node (is_false ((get_or groups i d).filter == f) (λ e. beside ((Decides-eqb (get_or groups i d).filter f).0 e))))
      ∙ sym (pick_more (group_if window condition f agg.agg) groups i agg.group d within)

  -- one that isn't under it
  pub group_skipped : (aggs : List AggNode) → i < length groups → group_nodes window condition n parts ≡ made_of (under_front i) (slice_get aggs n) → ((get_or groups i d).filter ≡ f → ⊥) →
      group_nodes window condition n parts ≡ made_of (under_front (i + 1)) (slice_get aggs n)
  group_skipped aggs within so_far beside = so_far ∙ skip_by (slice_get aggs n) within beside

-- Filter nodes

module _ (windows : List Window) (n : ℕ) (parts : List FilterPart) (filters : List Filtered) (groups : List GroupNode) (i : ℕ) (d : Filtered) where
  in_window : (part : FilterPart) (columns : List ℕ) (agg : Agg) → slice_get windows (get_or filters i d).window ≡ Some part.window → part.filter ≡ (get_or filters i d).condition →
      (record { window = part.window; condition = part.filter; columns = columns; agg = agg } ∷ []) ≡ node_in_filter windows columns agg (get_or filters i d)
  in_window part columns agg seen is =
      let node : Option Test → Node = λ condition. record { window = part.window; condition = condition; columns = columns; agg = agg } in
      let make : Window → List Node = λ window. record { window = window; condition = (get_or filters i d).condition; columns = columns; agg = agg } ∷ [] in
      ap (λ condition. node condition ∷ []) is ∙ sym (ap (made_of make) seen)

  if_same : (b : Bool) (node : Node) (nodes : List Node) → (node ∷ []) ≡ nodes → node_if b node ++ [] ≡ (if b then nodes else [])
  if_same true node nodes e = e
  if_same false node nodes e = refl

  by_group : (part : FilterPart) (agg : Agg) (found : Option GroupNode) → i < length filters → slice_get windows (get_or filters i d).window ≡ Some part.window → part.filter ≡ (get_or filters i d).condition →
      made_of (node_in_group windows (take i filters) agg) found ++ (made_of (group_if part.window part.filter i agg) found ++ []) ≡ made_of (node_in_group windows (take (i + 1) filters) agg) found
  by_group part agg None within seen is = refl
  by_group part agg (Some group) within seen is =
      let node : Node = record { window = part.window; condition = part.filter; columns = group.columns; agg = agg } in
      let front = node_in_group windows (take i filters) agg group in
      ap (λ b. front ++ (node_if b node ++ [])) (same_eq group.filter i)
      ∙ ap (λ ns. front ++ ns) (if_same (i == group.filter) node (node_in_filter windows group.columns agg (get_or filters i d)) (in_window part group.columns agg seen is))
      ∙ sym (pick_more (node_in_filter windows group.columns agg) filters i group.filter d within)

  by_agg : (part : FilterPart) (found : Option AggNode) → i < length filters → slice_get windows (get_or filters i d).window ≡ Some part.window → part.filter ≡ (get_or filters i d).condition →
      made_of (node_in_agg windows (take i filters) groups) found ++ (made_of (λ (agg : AggNode). made_of (group_if part.window part.filter i agg.agg) (slice_get groups agg.group)) found ++ []) ≡ made_of (node_in_agg windows (take (i + 1) filters) groups) found
  by_agg part None within seen is = refl
  by_agg part (Some agg) within seen is = by_group part agg.agg (slice_get groups agg.group) within seen is

  -- one more
  pub filter_more : (aggs : List AggNode) (part : FilterPart) → i < length filters → nodes_numbered n parts ≡ made_of (node_in_agg windows (take i filters) groups) (slice_get aggs n) →
      slice_get windows (get_or filters i d).window ≡ Some part.window → part.filter ≡ (get_or filters i d).condition →
      group_nodes part.window part.filter n part.groups.items ≡ made_of (λ (agg : AggNode). made_of (group_if part.window part.filter i agg.agg) (slice_get groups agg.group)) (slice_get aggs n) →
      nodes_numbered n (parts ++ part ∷ []) ≡ made_of (node_in_agg windows (take (i + 1) filters) groups) (slice_get aggs n)
  filter_more aggs part within so_far seen is made =
      flat_map-append (λ (p : FilterPart). group_nodes p.window p.filter n p.groups.items) parts (part ∷ [])
      ∙ ap (λ ns. ns ++ (group_nodes part.window part.filter n part.groups.items ++ [])) so_far
      ∙ ap (λ ns. made_of (node_in_agg windows (take i filters) groups) (slice_get aggs n) ++ (ns ++ [])) made
      ∙ by_agg part (slice_get aggs n) within seen is

-- one window more
pub window_more : (windows : List Window) (parts : List FilterPart) (filters : List Filtered) (i : ℕ) (d : Filtered) (part : FilterPart) → i < length filters →
    map (λ (p : FilterPart). Some p.window) parts ≡ map (λ (filter : Filtered). slice_get windows filter.window) (take i filters) → slice_get windows (get_or filters i d).window ≡ Some part.window →
    map (λ (p : FilterPart). Some p.window) (parts ++ part ∷ []) ≡ map (λ (filter : Filtered). slice_get windows filter.window) (take (i + 1) filters)
window_more windows parts filters i d part within so_far seen =
    map-append (λ (p : FilterPart). Some p.window) parts (part ∷ [])
    ∙ ap (λ ws. ws ++ Some part.window ∷ []) so_far
    ∙ ap (λ w. map (λ (filter : Filtered). slice_get windows filter.window) (take i filters) ++ w ∷ []) (sym seen)
    ∙ sym (map-append (λ (filter : Filtered). slice_get windows filter.window) (take i filters) (get_or filters i d ∷ []))
    ∙ ap (λ fs. map (λ (filter : Filtered). slice_get windows filter.window) fs) (sym (take_more filters i d within))

-- The whole tree

module _ (plan : Tasks) where
  whole_window : (columns : List ℕ) (agg : Agg) (filter : Filtered) (found : Option Window) →
      made_of (λ (window : Window). record { window = window; condition = filter.condition; columns = columns; agg = agg } ∷ []) found ≡ one_or_none (option_map (λ window. record { window = window; condition = filter.condition; columns = columns; agg = agg }) found)
  whole_window columns agg filter None = refl
  whole_window columns agg filter (Some window) = refl

  whole_filter : (agg : Agg) (group : GroupNode) (found : Option Filtered) → made_of (node_in_filter plan.windows group.columns agg) found ≡ one_or_none (option_and_then (under_filter plan group agg) found)
  whole_filter agg group None = refl
  whole_filter agg group (Some filter) = whole_window group.columns agg filter (slice_get plan.windows filter.window)

  whole_group : (agg : Agg) (found : Option GroupNode) → made_of (node_in_group plan.windows plan.filters agg) found ≡ one_or_none (option_and_then (under_group plan agg) found)
  whole_group agg None = refl
  whole_group agg (Some group) = whole_filter agg group (slice_get plan.filters group.filter)

  whole_agg : (found : Option AggNode) → made_of (node_in_agg plan.windows plan.filters plan.groups) found ≡ one_or_none (option_and_then (under_agg plan) found)
  whole_agg None = refl
  whole_agg (Some agg) = whole_group agg.agg (slice_get plan.groups agg.group)

  -- each node of the plan once
  pub whole_tree : (n : ℕ) → made_of (node_in_agg plan.windows plan.filters plan.groups) (slice_get plan.aggs n) ≡ one_or_none (node_at plan n)
  whole_tree n = whole_agg (slice_get plan.aggs n)

-- Paths, one after another

pub path_more : (paths : List (List ℕ)) (i : ℕ) (path : List ℕ) → slice_get paths i ≡ Some path → flat_map (λ p. p) (take (i + 1) paths) ≡ flat_map (λ p. p) (take i paths) ++ path
path_more paths i path found =
    ap (flat_map (λ p. p)) (take_more paths i path (slice_get_within paths i path found))
    ∙ flat_map-append (λ p. p) (take i paths) (get_or paths i path ∷ [])
    ∙ ap (λ ns. flat_map (λ p. p) (take i paths) ++ ns) (append-nil (get_or paths i path) ∙ get_or_from_slice_get paths i path path found)
