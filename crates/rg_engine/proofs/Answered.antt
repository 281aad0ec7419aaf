-- The answers of nodes and those of queries.
use Rattle.std.proofs.Common.{◌≡◌, ◌≤◌, ◌<◌, ◌+◌, ◌&&◌, ℕ, zero, suc, Bool, cond, List, [], ◌∷◌, ◌++◌, length, get_or, take, map, filter, flat_map, Option, Some, None, All, refl, ap, sym, ◌∙◌, subst, arith, append_assoc}
use Rattle.std.specs.Prelude.{slice_get, bytes_eq, option_map, option_and_then}
use Rattle.std.proofs.lemmas.List.{take_more, map-append, length-map, get_or-map}
use Rattle.std.proofs.lemmas.List.Elements.{All-head, All-tail, All-nil, All-cons, All-weaker}
use Rattle.std.proofs.lemmas.Option.{slice_get-get_or, slice_get_within}
use Rattle.std.proofs.lemmas.Slice.Eq.{bytes_eq-Decides}
use Rattle.rg_event.specs.Codec.{IsValueOf, AreValuesOf, IsEventOf}
use Rattle.rg_event.specs.Tagged.{IsStorable}
use Rattle.rg_event.specs.declared.event.Event.{Event}
use Rattle.rg_event.specs.declared.schema.Field.{Field}
use Rattle.rg_event.specs.declared.value.Kind.{Kind}
use Rattle.rg_event.specs.declared.value.Kind.TheVariants.{Int, Id, Text, Flag}
use Rattle.rg_event.specs.declared.value.Value.{Value}
use Rattle.rg_event.specs.declared.value.Value.TheVariants.{Int as IntValue, Id as IdValue, Text as TextValue, Flag as FlagValue}
use Rattle.rg_event.proofs.Laws.{short_text}
use Rattle.std.specs.Prelude.{ℤ, pos, negsuc, unsigned_abs}
use Rattle.std.specs.Int.{w64}
use Rattle.std.specs.Int.RustNames.{FitsSigned}
use Rattle.rg_metric.specs.declared.answer.Answer.{Answer}
use Rattle.rg_metric.specs.declared.query.Agg.{Agg}
use Rattle.rg_metric.specs.Answers.{answer_of}
use Rattle.rg_metric.specs.Conditions.{value_in, passes}
use Rattle.rg_metric.specs.Queries.{Asked}
use Rattle.rg_metric.specs.Replies.{and_value, key_of, counts_for, in_window, values_in, agg_answer, answers_to}
use Rattle.rg_metric.specs.Same.{same_values}
use Rattle.rg_metric.proofs.Laws.{same_values_decides}
use Rattle.rg_group.specs.Keys.{key_bytes, AreStorable, IsStorablePart}
use Rattle.rg_group.proofs.Laws.{exact}
use Rattle.rg_plan.specs.declared.node.GroupNode.{GroupNode}
use Rattle.rg_plan.specs.declared.node.AggNode.{AggNode}
use Rattle.rg_plan.specs.Named.{Node, node_at, node_of, nodes_of, under_agg, under_group, under_filter}
use Rattle.rg_plan.specs.Nodes.{Filtered}
use Rattle.rg_plan.specs.Plans.{Tasks, plan_for, paths_of}
use Rattle.rg_plan.specs.Whole.{IsWhole}
use Rattle.rg_plan.proofs.Laws.{all_named}
use Rattle.rg_agg.specs.Held.{Held}
use Rattle.rg_state.specs.Rows.{RowStands}
use Rattle.rg_engine.specs.Windows.{counts_at, node_values}
use Rattle.rg_engine.specs.Standing.{RowIs}
use Rattle.rg_engine.specs.Answering.{keys_for, node_answer, node_answers, nodes_asked}
use Rattle.rg_engine.proofs.Plain.{none_some, same_some, same_tests}

-- What a node is, by its parts

by_window : (plan : Tasks) (group : GroupNode) (agg : Agg) (filter : Filtered) (node : Node) (found : Option _) → slice_get plan.windows filter.window ≡ found → under_filter plan group agg filter ≡ Some node → (node.agg ≡ agg) × (node.columns ≡ group.columns)
by_window plan group agg filter node None e is = absurd (none_some (ap (λ w. option_map (λ window. record { window = window; condition = filter.condition; columns = group.columns; agg = agg }) w) (sym e) ∙ is))
by_window plan group agg filter node (Some w) e is =
    let k = same_some (sym (ap (λ o. option_map (λ window. record { window = window; condition = filter.condition; columns = group.columns; agg = agg }) o) e) ∙ is) in
    (sym (ap (λ (n : Node). n.agg) k), sym (ap (λ (n : Node). n.columns) k))

by_filter : (plan : Tasks) (group : GroupNode) (agg : Agg) (node : Node) (found : Option Filtered) → slice_get plan.filters group.filter ≡ found → under_group plan agg group ≡ Some node → (node.agg ≡ agg) × (node.columns ≡ group.columns)
by_filter plan group agg node None e is = absurd (none_some (sym (ap (option_and_then (under_filter plan group agg)) e) ∙ is))
by_filter plan group agg node (Some filter) e is = by_window plan group agg filter node (slice_get plan.windows filter.window) refl (sym (ap (option_and_then (under_filter plan group agg)) e) ∙ is)

by_group : (plan : Tasks) (agg : AggNode) (group : GroupNode) (node : Node) → slice_get plan.groups agg.group ≡ Some group → under_agg plan agg ≡ Some node → (node.agg ≡ agg.agg) × (node.columns ≡ group.columns)
by_group plan agg group node e is = by_filter plan group agg.agg node (slice_get plan.filters group.filter) refl (sym (ap (option_and_then (under_group plan agg.agg)) e) ∙ is)

node_parts : (plan : Tasks) (n : ℕ) (agg : AggNode) (group : GroupNode) (node : Node) → slice_get plan.aggs n ≡ Some agg → slice_get plan.groups agg.group ≡ Some group → node_at plan n ≡ Some node → (node.agg ≡ agg.agg) × (node.columns ≡ group.columns)
node_parts plan n agg group node found e is = by_group plan agg group node e (sym (ap (option_and_then (under_agg plan)) found) ∙ is)

get_there : {A : Type 0} (xs : List A) (i : ℕ) (d : A) → i < length xs → slice_get xs i ≡ Some (get_or xs i d)
get_there xs i d l = slice_get-get_or xs i d l

-- an answer of a row that stands for the events
pub answered : (plan : Tasks) (events : List Event) (e : Event) (n : ℕ) (agg : AggNode) (group : GroupNode) (key : List ℕ) (row : Option Held) (answer : Answer) → IsWhole plan → slice_get plan.aggs n ≡ Some agg →
    slice_get plan.groups agg.group ≡ Some group → key ≡ key_bytes (key_of group.columns e) → RowIs (node_at plan n) key e.time events row → ((values : List Value) → RowStands agg.agg.func row values → answer ≡ answer_of agg.agg.func values) →
    answer ≡ node_answer events e (node_at plan n)
answered plan events e n agg group key row answer whole found grouped made stands answers =
    let k = whole.nodes n (slice_get_within plan.aggs n agg found) in
    let parts = node_parts plan n agg group k.0 found grouped k.1 in
    let same : key ≡ key_bytes (key_of k.0.columns e) = made ∙ ap (λ columns. key_bytes (key_of columns e)) (sym parts.1) in
    let func = ap (λ (a : Agg). a.func) parts.0 in
    let row_stands : RowStands k.0.agg.func row (node_values k.0 key e.time events) = subst (λ o. RowIs o key e.time events row) k.1 stands in
    answers (node_values k.0 key e.time events) (subst (λ f. RowStands f row (node_values k.0 key e.time events)) func row_stands)
    ∙ ap (λ f. answer_of f (node_values k.0 key e.time events)) (sym func)
    ∙ ap (λ q. answer_of k.0.agg.func (node_values k.0 q e.time events)) same
    ∙ ap (λ o. node_answer events e o) (sym k.1)

-- a row of a node that stands for some values
pub row_of : (plan : Tasks) (events : List Event) (e : Event) (n : ℕ) (agg : AggNode) (group : GroupNode) (key : List ℕ) (row : Option Held) → IsWhole plan → slice_get plan.aggs n ≡ Some agg →
    slice_get plan.groups agg.group ≡ Some group → RowIs (node_at plan n) key e.time events row → (values : List Value) × RowStands agg.agg.func row values
row_of plan events e n agg group key row whole found grouped stands =
    let k = whole.nodes n (slice_get_within plan.aggs n agg found) in
    let parts = node_parts plan n agg group k.0 found grouped k.1 in
    let func = ap (λ (a : Agg). a.func) parts.0 in
    (node_values k.0 key e.time events, subst (λ f. RowStands f row (node_values k.0 key e.time events)) func (subst (λ o. RowIs o key e.time events row) k.1 stands))

abbrev zero_group : GroupNode
zero_group = record { filter = 0; columns = [] }

-- the same, of a node that is looked up in the lists
pub answered_at : (plan : Tasks) (events : List Event) (e : Event) (aggs : List AggNode) (keys : List (List ℕ)) (n : ℕ) (d : AggNode) (key : List ℕ) (row : Option Held) (answer : Answer) → IsWhole plan → plan.aggs ≡ aggs → keys ≡ keys_for plan.groups e →
    n < length aggs → (get_or aggs n d).group < length keys → key ≡ get_or keys (get_or aggs n d).group key → RowIs (node_at plan n) key e.time events row →
    ((values : List Value) → RowStands (get_or aggs n d).agg.func row values → answer ≡ answer_of (get_or aggs n d).agg.func values) → answer ≡ node_answer events e (node_at plan n)
answered_at plan events e aggs keys n d key row answer whole same made within below is stands answers =
    let agg = get_or aggs n d in
    let few : agg.group < length plan.groups = omega (arith, below, ap length made, length-map plan.groups (λ (group : GroupNode). key_bytes (key_of group.columns e))) in
    let group = get_or plan.groups agg.group zero_group in
    answered plan events e n agg group key row answer whole (ap (λ xs. slice_get xs n) same ∙ get_there aggs n d within) (get_there plan.groups agg.group zero_group few)
    (is ∙ ap (λ ks. get_or ks agg.group key) made ∙ get_or-map (λ (g : GroupNode). key_bytes (key_of g.columns e)) plan.groups agg.group zero_group key few) stands answers

pub row_at : (plan : Tasks) (events : List Event) (e : Event) (aggs : List AggNode) (n : ℕ) (d : AggNode) (key : List ℕ) (row : Option Held) → IsWhole plan → plan.aggs ≡ aggs → n < length aggs →
    RowIs (node_at plan n) key e.time events row → (values : List Value) × RowStands (get_or aggs n d).agg.func row values
row_at plan events e aggs n d key row whole same within stands =
    let agg = get_or aggs n d in
    let few : agg.group < length plan.groups = ap_group (whole.aggs n d (omega (arith, within, ap length same))) in
    let group = get_or plan.groups agg.group zero_group in
    row_of plan events e n agg group key row whole (ap (λ xs. slice_get xs n) same ∙ get_there aggs n d within) (get_there plan.groups agg.group zero_group few) stands
  where
    ap_group : (get_or plan.aggs n d).group < length plan.groups → (get_or aggs n d).group < length plan.groups
    ap_group l = subst (λ xs. (get_or xs n d).group < length plan.groups) same l

-- one answer more
pub one_more : (plan : Tasks) (events : List Event) (e : Event) (nodes : List ℕ) (i : ℕ) (d : ℕ) (old now new : List Answer) (answer : Answer) → i < length nodes → now ≡ old ++ node_answers plan events e (take i nodes) → new ≡ now ++ answer ∷ [] →
    answer ≡ node_answer events e (node_at plan (get_or nodes i d)) → new ≡ old ++ node_answers plan events e (take (i + 1) nodes)
one_more plan events e nodes i d old now new answer within so_far added is =
    added ∙ ap (λ xs. xs ++ answer ∷ []) so_far ∙ append_assoc old (node_answers plan events e (take i nodes)) (answer ∷ [])
    ∙ ap (λ xs. old ++ xs) (ap (λ a. node_answers plan events e (take i nodes) ++ a ∷ []) is
    ∙ sym (map-append (λ n. node_answer events e (node_at plan n)) (take i nodes) (get_or nodes i d ∷ []))
    ∙ ap (node_answers plan events e) (sym (take_more nodes i d within)))

-- one key more
pub key_more : (groups : List GroupNode) (e : Event) (keys new : List (List ℕ)) (i : ℕ) (d : GroupNode) (key : List ℕ) → i < length groups → take i keys ≡ keys_for (take i groups) e → take (i + 1) new ≡ take i keys ++ key ∷ [] →
    key ≡ key_bytes (key_of (get_or groups i d).columns e) → take (i + 1) new ≡ keys_for (take (i + 1) groups) e
key_more groups e keys new i d key within so_far added is =
    added ∙ ap (λ xs. xs ++ key ∷ []) so_far ∙ ap (λ k. keys_for (take i groups) e ++ k ∷ []) is
    ∙ sym (map-append (λ (group : GroupNode). key_bytes (key_of group.columns e)) (take i groups) (get_or groups i d ∷ []))
    ∙ ap (λ gs. keys_for gs e) (sym (take_more groups i d within))

-- From nodes to queries

fits_int : (n : ℤ) → unsigned_abs n ≤ 1000000000000 → FitsSigned w64 n
fits_int (pos n) h = record { sfits = omega arith }
fits_int (negsuc n) h = record { sfits = omega arith }

none_storable : IsStorablePart None
none_storable = tt

storable_of : (kind : Kind) (value : Value) → IsValueOf kind value → IsStorable value
storable_of Int (IntValue n) h = fits_int n h
storable_of Int (IdValue n) h = absurd h
storable_of Int (TextValue t) h = absurd h
storable_of Int (FlagValue b) h = absurd h
storable_of Id (IntValue n) h = absurd h
storable_of Id (IdValue n) h = h
storable_of Id (TextValue t) h = absurd h
storable_of Id (FlagValue b) h = absurd h
storable_of Text (IntValue n) h = absurd h
storable_of Text (IdValue n) h = absurd h
storable_of Text (TextValue t) h = short_text t h
storable_of Text (FlagValue b) h = absurd h
storable_of Flag (IntValue n) h = absurd h
storable_of Flag (IdValue n) h = absurd h
storable_of Flag (TextValue t) h = absurd h
storable_of Flag (FlagValue b) h = tt

part_storable : (column : ℕ) (fields : List Field) (values : List Value) → AreValuesOf fields values → IsStorablePart (value_in column values)
part_storable column [] [] are = none_storable
part_storable column [] (v ∷ values) are = absurd are
part_storable column (f ∷ fields) [] are = none_storable
part_storable zero (f ∷ fields) (v ∷ values) are = none_storable
part_storable (suc zero) (f ∷ fields) (v ∷ values) are = storable_of f.kind v are.0
part_storable (suc (suc n)) (f ∷ fields) (v ∷ values) are = part_storable (suc n) fields values are.1

and_storable : (part : Option Value) (values : List Value) → IsStorablePart part → AreStorable values → AreStorable (and_value part values)
and_storable None values h k = k
and_storable (Some v) values h k = All-cons IsStorable v values h k

-- all values of an event fit the bytes of a key
abbrev pub IsKeyed : Event → Type 0
IsKeyed x = (columns : List ℕ) → AreStorable (key_of columns x)

pub keyed : (fields : List Field) (x : Event) → IsEventOf fields x → IsKeyed x
keyed fields x is [] = All-nil IsStorable
keyed fields x is (column ∷ columns) = and_storable (value_in column x.values) (key_of columns x) (part_storable column fields x.values is.values) (keyed fields x is columns)

pub all_keyed : (fields : List Field) (events : List Event) → All (IsEventOf fields) events → All IsKeyed events
all_keyed fields events are = All-weaker (IsEventOf fields) IsKeyed (λ x is. keyed fields x is) events are

filter_on : (P : Event → Type 0) (p q : Event → Bool) (xs : List Event) → ((x : Event) → P x → p x ≡ q x) → All P xs → filter p xs ≡ filter q xs
filter_on P p q [] same are = refl
filter_on P p q (x ∷ xs) same are =
    ap (λ b. cond b (x ∷ filter p xs) (filter p xs)) (same x (All-head P x xs are)) ∙ ap (λ ys. cond (q x) (x ∷ ys) ys) (filter_on P p q xs same (All-tail P x xs are))

-- keys are told by their bytes
same_key : (vs ws : List Value) → AreStorable vs → AreStorable ws → bytes_eq (key_bytes vs) (key_bytes ws) ≡ same_values vs ws
same_key vs ws one two = same_tests (bytes_eq (key_bytes vs) (key_bytes ws)) (same_values vs ws)
    (λ e. (same_values_decides vs ws).1 (exact vs ws one two ((bytes_eq-Decides (key_bytes vs) (key_bytes ws)).0 e)))
    (λ e. (bytes_eq-Decides (key_bytes vs) (key_bytes ws)).1 (ap key_bytes ((same_values_decides vs ws).0 e)))

counts_same : (q : Asked) (agg : Agg) (e x : Event) → IsKeyed e → IsKeyed x → counts_at (node_of q agg) (key_bytes (key_of q.group e)) e.time x ≡ counts_for q e x
counts_same q agg e x one two = ap (λ same. in_window q.window x e.time && (passes q.filter x && same)) (same_key (key_of q.group x) (key_of q.group e) (two q.group) (one q.group))

one_answer : (q : Asked) (agg : Agg) (events : List Event) (e : Event) → IsKeyed e → All IsKeyed events → node_answer events e (Some (node_of q agg)) ≡ agg_answer agg (filter (counts_for q e) events)
one_answer q agg events e one are =
    ap (λ counted. answer_of agg.func (values_in agg.field counted))
    (filter_on IsKeyed (counts_at (node_of q agg) (key_bytes (key_of q.group e)) e.time) (counts_for q e) events (λ x two. counts_same q agg e x one two) are)

aggs_answers : (q : Asked) (aggs : List Agg) (events : List Event) (e : Event) → IsKeyed e → All IsKeyed events →
    map (node_answer events e) (map (λ agg. Some (node_of q agg)) aggs) ≡ map (λ agg. agg_answer agg (filter (counts_for q e) events)) aggs
aggs_answers q [] events e one are = refl
aggs_answers q (agg ∷ aggs) events e one are = rw (one_answer q agg events e one are, aggs_answers q aggs events e one are) refl

query_by_query : (qs : List Asked) (events : List Event) (e : Event) → IsKeyed e → All IsKeyed events → flat_map (map (node_answer events e)) (map nodes_of qs) ≡ answers_to qs events e
query_by_query [] events e one are = refl
query_by_query (q ∷ qs) events e one are = rw (aggs_answers q q.aggs events e one are, query_by_query qs events e one are) refl

path_by_path : (plan : Tasks) (events : List Event) (e : Event) (paths : List (List ℕ)) → node_answers plan events e (flat_map (λ path. path) paths) ≡ flat_map (map (node_answer events e)) (map (λ path. map (node_at plan) path) paths)
path_by_path plan events e [] = refl
path_by_path plan events e (path ∷ paths) =
    map-append (λ n. node_answer events e (node_at plan n)) path (flat_map (λ p. p) paths)
    ∙ ap (λ rest. map (λ n. node_answer events e (node_at plan n)) path ++ rest) (path_by_path plan events e paths)
    ∙ ap (λ first. first ++ flat_map (map (node_answer events e)) (map (λ p. map (node_at plan) p) paths)) (sym (twice path))
  where
    twice : (ns : List ℕ) → map (node_answer events e) (map (node_at plan) ns) ≡ map (λ n. node_answer events e (node_at plan n)) ns
    twice [] = refl
    twice (n ∷ ns) = ap (λ rest. node_answer events e (node_at plan n) ∷ rest) (twice ns)

-- the nodes of a plan's queries answer what the queries do
pub all_answers : (qs : List Asked) (plan : Tasks) (events : List Event) (e : Event) → plan ≡ plan_for qs → IsKeyed e → All IsKeyed events → node_answers plan events e (nodes_asked plan) ≡ answers_to qs events e
all_answers qs plan events e is one are =
    subst (λ p. node_answers p events e (nodes_asked p) ≡ answers_to qs events e) (sym is)
    (path_by_path (plan_for qs) events e (paths_of qs) ∙ ap (λ nodes. flat_map (map (node_answer events e)) nodes) (all_named qs) ∙ query_by_query qs events e one are)
