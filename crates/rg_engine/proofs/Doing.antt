-- Deeds, node by node.
use Rattle.std.proofs.Common.{◌≡◌, ◌+◌, ◌<◌, ◌≤◌, ◌&&◌, ℕ, zero, suc, Bool, true, false, List, [], ◌∷◌, ◌++◌, length, get_or, take, drop, flat_map, sum_by, Option, Some, None, refl, sym, ap, subst, inl, inr, ◌∙◌, arith, take_all, drop-cons}
use Rattle.std.specs.Prelude.{◌==◌, bytes_eq, Result}
use Rattle.std.proofs.lemmas.List.{take_more, take-append-drop, append-nil}
use Rattle.std.proofs.lemmas.List.Sums.{sum_by-append, sum_by-cons}
use Rattle.std.proofs.lemmas.Grind.{flat_map-append}
use Rattle.std.proofs.lemmas.Bool.Decides.{Decides-eqb}
use Rattle.std.proofs.lemmas.Slice.Eq.{bytes_eq-Decides}
use Rattle.rg_event.specs.declared.event.Event.{Event}
use Rattle.rg_event.specs.declared.value.Value.{Value}
use Rattle.rg_metric.specs.declared.query.Window.{Window}
use Rattle.rg_metric.specs.Conditions.{Test, passes, value_in}
use Rattle.rg_metric.specs.Replies.{key_of}
use Rattle.rg_group.specs.Keys.{key_bytes}
use Rattle.rg_keywords.specs.declared.func.Func.{Func}
use Rattle.rg_agg.specs.Held.{Held}
use Rattle.rg_plan.specs.Named.{Node}
use Rattle.rg_state.specs.declared.table.Change.{Change}
use Rattle.rg_state.specs.declared.table.TableFault.{TableFault}
use Rattle.rg_state.specs.Changes.{Marks}
use Rattle.rg_state.specs.Rows.{Cells, Changed, Others, Unfit}
use Rattle.rg_engine.specs.declared.part.FilterPart.{FilterPart}
use Rattle.rg_engine.specs.declared.part.GroupPart.{GroupPart}
use Rattle.rg_engine.specs.declared.part.AggPart.{AggPart}
use Rattle.rg_engine.specs.Deeds.{Does, side_of, handed, deed_by, deed_with, node_deed}
use Rattle.rg_engine.specs.Parts.{node_under, node_if, agg_nodes, group_nodes, nodes_numbered, ticks_at}
use Rattle.rg_engine.specs.Stepping.{IsPassed, IsTaken, Done, Refuses, Stuck, Stepped}
use Rattle.rg_engine.proofs.Plain.{same_some}

none_true : true ≡ false → ⊥
none_true e = cc

-- the value of a column that is one
pub handed_there : (field : ℕ) (x : Event) (value : Option Value) → (field ≡ 0 → ⊥) → value_in field x.values ≡ value → handed field x ≡ value
handed_there zero x value some is = absurd (some refl)
handed_there (suc n) x value some is = is

module _ (key : List ℕ) (offset : ℕ) (x : Event) where
  -- deeds of some nodes, and then of more
  pub Done-append : (first more : List Node) (old between new : Option Held) → Done key offset x first old between → Done key offset x more between new → Done key offset x (first ++ more) old new
  Done-append [] more old between new h k = subst (λ row. Done key offset x more row new) h k
  Done-append (node ∷ first) more old between new h k = (h.0, h.1, Done-append first more h.0 between new h.2 k)

  Stuck-append : (first more : List Node) (old between : Option Held) → Done key offset x first old between → Stuck key offset x more between → Stuck key offset x (first ++ more) old
  Stuck-append [] more old between h k = subst (λ row. Stuck key offset x more row) h k
  Stuck-append (node ∷ first) more old between h k = inr (h.0, h.1, Stuck-append first more h.0 between h.2 k)

  Stuck-front : (first more : List Node) (row : Option Held) → Stuck key offset x first row → Stuck key offset x (first ++ more) row
  Stuck-front [] more row h = absurd h
  Stuck-front (node ∷ first) more row h = elim h [ inl b ↦ inl b | inr k ↦ inr (k.0, k.1, Stuck-front first more k.0 k.2) ]

  module _ {A : Type 0} (nodes : A → List Node) (parts : List A) (i : ℕ) (part d : A) where
    nodes_more : i < length parts → part ≡ get_or parts i d → flat_map nodes (take (i + 1) parts) ≡ flat_map nodes (take i parts) ++ nodes part
    nodes_more within is = rw (take_more parts i d within, ← is) (flat_map-append nodes (take i parts) (part ∷ []) ∙ ap (λ more. flat_map nodes (take i parts) ++ more) (append-nil (nodes part)))

    nodes_split : i < length parts → part ≡ get_or parts i d → flat_map nodes parts ≡ flat_map nodes (take i parts) ++ (nodes part ++ flat_map nodes (drop (suc i) parts))
    nodes_split within is =
        ap (flat_map nodes) (sym (take-append-drop i parts)) ∙ flat_map-append nodes (take i parts) (drop i parts)
        ∙ ap (λ rest. flat_map nodes (take i parts) ++ flat_map nodes rest) (drop-cons parts i d within ∙ ap (λ first. first ∷ drop (suc i) parts) (sym is))

    -- deeds of the nodes of one part more
    pub done_more : i < length parts → part ≡ get_or parts i d → (old between new : Option Held) → Done key offset x (flat_map nodes (take i parts)) old between → Done key offset x (nodes part) between new →
        Done key offset x (flat_map nodes (take (i + 1) parts)) old new
    done_more within is old between new h k =
        subst (λ all. Done key offset x all old new) (sym (nodes_more within is)) (Done-append (flat_map nodes (take i parts)) (nodes part) old between new h k)

    -- one of the nodes of a part balked
    pub stuck_more : i < length parts → part ≡ get_or parts i d → (old between : Option Held) → Done key offset x (flat_map nodes (take i parts)) old between → Stuck key offset x (nodes part) between →
        Stuck key offset x (flat_map nodes parts) old
    stuck_more within is old between h k =
        subst (λ all. Stuck key offset x all old) (sym (nodes_split within is))
        (Stuck-append (flat_map nodes (take i parts)) (nodes part ++ flat_map nodes (drop (suc i) parts)) old between h
        (Stuck-front (nodes part) (flat_map nodes (drop (suc i) parts)) between k))

  -- deeds of the nodes of all parts
  pub done_all : {A : Type 0} (nodes : A → List Node) (parts : List A) (i : ℕ) → length parts ≤ i → (old new : Option Held) → Done key offset x (flat_map nodes (take i parts)) old new → Done key offset x (flat_map nodes parts) old new
  done_all nodes parts i all old new h = subst (λ ps. Done key offset x (flat_map nodes ps) old new) (take_all i parts all) h

  -- nodes without a deed leave the row
  idle_if : (b : Bool) (node : Node) (row : Option Held) → node_deed node key offset x ≡ None → Done key offset x (node_if b node) row row
  idle_if true node row e = (row, subst (λ deed. Does node.agg.func deed row row) (sym e) refl, refl)
  idle_if false node row e = refl

  module _ (window : Window) (condition : Option Test) (n : ℕ) (row : Option Held) (idle : (node : Node) → node.window ≡ window → node.condition ≡ condition → node_deed node key offset x ≡ None) where
    idle_aggs : (columns : List ℕ) (aggs : List AggPart) → Done key offset x (agg_nodes window condition columns n aggs) row row
    idle_aggs columns [] = refl
    idle_aggs columns (part ∷ aggs) =
        let node = node_under window condition columns part in
        Done-append (node_if (part.node == n) node) (agg_nodes window condition columns n aggs) row row row (idle_if (part.node == n) node row (idle node refl refl)) (idle_aggs columns aggs)

    idle_groups : (groups : List GroupPart) → Done key offset x (group_nodes window condition n groups) row row
    idle_groups [] = refl
    idle_groups (part ∷ groups) =
        Done-append (agg_nodes window condition part.columns n part.aggs.items) (group_nodes window condition n groups) row row row (idle_aggs part.columns part.aggs.items) (idle_groups groups)

  idle_beside : (node : Node) (window : Window) → side_of window offset ≡ None → node.window ≡ window → node_deed node key offset x ≡ None
  idle_beside node window e is =
      let side : side_of node.window offset ≡ None = ap (λ w. side_of w offset) is ∙ e in
      rw side refl

  -- of a window without an edge there
  pub done_beside : (window : Window) (condition : Option Test) (n : ℕ) (groups : List GroupPart) (old new : Option Held) → side_of window offset ≡ None → new ≡ old → Done key offset x (group_nodes window condition n groups) old new
  done_beside window condition n groups old new e same =
      subst (λ row. Done key offset x (group_nodes window condition n groups) old row) (sym same) (idle_groups window condition n old (λ node is _. idle_beside node window e is) groups)

  by_false : (side : Option Change) (b : Bool) (value : Option Value) → b ≡ false → deed_by side b value ≡ None
  by_false None b value e = refl
  by_false (Some change) true value e = absurd (none_true e)
  by_false (Some change) false value e = refl

  and_false : (a b : Bool) → a ≡ false → (a && b) ≡ false
  and_false true b e = absurd (none_true e)
  and_false false b e = refl

  -- of a condition that isn't met
  pub done_unmet : (window : Window) (condition : Option Test) (n : ℕ) (groups : List GroupPart) (old new : Option Held) → passes condition x ≡ false → new ≡ old → Done key offset x (group_nodes window condition n groups) old new
  done_unmet window condition n groups old new e same =
      subst (λ row. Done key offset x (group_nodes window condition n groups) old row) (sym same)
      (idle_groups window condition n old (λ node _ is. by_false (side_of node.window offset) (passes node.condition x && bytes_eq (key_bytes (key_of node.columns x)) key) (handed node.agg.field x)
      (and_false (passes node.condition x) (bytes_eq (key_bytes (key_of node.columns x)) key) (ap (λ c. passes c x) is ∙ e))) groups)

module _ (window : Window) (condition : Option Test) (columns : List ℕ) (offset : ℕ) (change : Change) (x : Event) (part : AggPart) (made : List ℕ) (cells cells' : Cells) where
  deed_at : (key : List ℕ) → IsPassed window condition offset change x → node_deed (node_under window condition columns part) key offset x ≡ deed_by (Some change) (bytes_eq (key_bytes (key_of columns x)) key) (handed part.agg.field x)
  deed_at key is = rw (is.side, is.passes) refl

  does_by : (key : List ℕ) (b : Bool) → bytes_eq (key_bytes (key_of columns x)) key ≡ b → made ≡ key_bytes (key_of columns x) →
      Does part.agg.func (deed_with change (handed part.agg.field x)) (cells part.node made) (cells' part.node made) → Others part.node made cells cells' →
      Does part.agg.func (deed_by (Some change) b (handed part.agg.field x)) (cells part.node key) (cells' part.node key)
  does_by key true e of_event does others =
      let same : made ≡ key = of_event ∙ (bytes_eq-Decides (key_bytes (key_of columns x)) key).0 e in
      subst (λ k. Does part.agg.func (deed_with change (handed part.agg.field x)) (cells part.node k) (cells' part.node k)) same does
  does_by key false e of_event does others =
      others part.node key (λ s. none_true (sym ((bytes_eq-Decides (key_bytes (key_of columns x)) key).1 (sym of_event ∙ sym s.1)) ∙ e))

  done_by : (n : ℕ) (key : List ℕ) (b : Bool) → (part.node == n) ≡ b → IsPassed window condition offset change x → made ≡ key_bytes (key_of columns x) →
      Does part.agg.func (deed_with change (handed part.agg.field x)) (cells part.node made) (cells' part.node made) → Others part.node made cells cells' →
      Done key offset x (node_if b (node_under window condition columns part)) (cells n key) (cells' n key)
  done_by n key true e is of_event does others =
      let node = node_under window condition columns part in
      let same : part.node ≡ n = (Decides-eqb part.node n).0 e in
      let here : Does part.agg.func (node_deed node key offset x) (cells part.node key) (cells' part.node key) =
      subst (λ deed. Does part.agg.func deed (cells part.node key) (cells' part.node key)) (sym (deed_at key is))
      (does_by key (bytes_eq (key_bytes (key_of columns x)) key) refl of_event does others) in
      (cells' n key, subst (λ m. Does part.agg.func (node_deed node key offset x) (cells m key) (cells' m key)) same here, refl)
  done_by n key false e is of_event does others = others n key (λ s. none_true (sym ((Decides-eqb part.node n).1 (sym s.0)) ∙ e))

  -- what one aggregator makes of all rows
  pub done_one : (n : ℕ) (key : List ℕ) → IsPassed window condition offset change x → made ≡ key_bytes (key_of columns x) →
      Does part.agg.func (deed_with change (handed part.agg.field x)) (cells part.node made) (cells' part.node made) → Others part.node made cells cells' →
      Done key offset x (node_if (part.node == n) (node_under window condition columns part)) (cells n key) (cells' n key)
  done_one n key is of_event does others = done_by n key (part.node == n) refl is of_event does others

  stuck_by : (b : Bool) → (part.node == part.node) ≡ b → IsPassed window condition offset change x → made ≡ key_bytes (key_of columns x) →
      Refuses (node_under window condition columns part) change x (cells part.node made) →
      Stuck made offset x (node_if b (node_under window condition columns part)) (cells part.node made)
  stuck_by true e is of_event refuses = inl (record {
    change = change;
    side = is.side;
    passes = rw is.passes ((bytes_eq-Decides (key_bytes (key_of columns x)) made).1 (sym of_event));
    refuses = refuses;
  })
  stuck_by false e is of_event refuses = absurd (none_true (sym ((Decides-eqb part.node part.node).1 refl) ∙ e))

  -- a row that refuses
  pub stuck_one : (n : ℕ) → n ≡ part.node → IsPassed window condition offset change x → made ≡ key_bytes (key_of columns x) →
      Refuses (node_under window condition columns part) change x (cells part.node made) →
      Stuck made offset x (node_if (part.node == n) (node_under window condition columns part)) (cells n made)
  stuck_one n same is of_event refuses =
      subst (λ m. Stuck made offset x (node_if (part.node == m) (node_under window condition columns part)) (cells m made)) (sym same) (stuck_by (part.node == part.node) refl is of_event refuses)

-- what a change with the value that is handed makes of a row
pub does_handed : (func : Func) (change : Change) (value : Value) (given : Option Value) (old new : Option Held) → given ≡ Some value → Changed func change value old new → Does func (deed_with change given) old new
does_handed func change value given old new is made = subst (λ v. Does func (deed_with change v) old new) (sym is) made

-- a row that refuses the value that is handed, and one that is handed none that is taken
module _ (window : Window) (condition : Option Test) (columns : List ℕ) (change : Change) (x : Event) (part : AggPart) (row : Option Held) where
  pub refuses_unfit : (value : Value) → handed part.agg.field x ≡ Some value → Unfit part.agg.func change value row → Refuses (node_under window condition columns part) change x row
  refuses_unfit value is unfit = λ other given takes. subst (λ v. Unfit part.agg.func change v row) (same_some (sym is ∙ given)) unfit

  pub refuses_untaken : IsTaken part.agg x None → Refuses (node_under window condition columns part) change x row
  refuses_untaken none = λ value given takes. absurd (none value given takes)

module _ (window : Window) (condition : Option Test) (columns : List ℕ) (offset : ℕ) (change : Change) (x : Event) (aggs : List AggPart) (i : ℕ) (part d : AggPart) (made : List ℕ) (cells between : Cells) where
  -- behind aggregators that changed the rows, one whose row refuses the event
  pub stuck_there : (n : ℕ) → i < length aggs → part ≡ get_or aggs i d → n ≡ part.node → IsPassed window condition offset change x → made ≡ key_bytes (key_of columns x) →
      Done made offset x (agg_nodes window condition columns n (take i aggs)) (cells n made) (between n made) →
      Refuses (node_under window condition columns part) change x (between part.node made) → Stuck made offset x (agg_nodes window condition columns n aggs) (cells n made)
  stuck_there n within is same passed of_event done refuses =
      stuck_more made offset x (λ (p : AggPart). node_if (p.node == n) (node_under window condition columns p)) aggs i part d within is (cells n made) (between n made) done
      (stuck_one window condition columns offset change x part made between between n same passed of_event refuses)

-- one part's ticks more
pub ticks_more : {A : Type 0} (ticks : A → ℕ) (parts : List A) (i : ℕ) (part d : A) (start old new : ℕ) → i < length parts → part ≡ get_or parts i d → old ≡ start + sum_by ticks (take i parts) → new ≡ old + ticks part →
    new ≡ start + sum_by ticks (take (i + 1) parts)
ticks_more ticks parts i part d start old new within is h k =
    let one : sum_by ticks (take (i + 1) parts) ≡ sum_by ticks (take i parts) + sum_by ticks (part ∷ []) = rw (take_more parts i d within, ← is) (sum_by-append ticks (take i parts) (part ∷ [])) in
    let last : sum_by ticks (part ∷ []) ≡ ticks part + 0 = sum_by-cons ticks part [] in
    omega arith

-- the same step, by the tree and the offset that others are equal to
pub stepped_as : (parts parts' : List FilterPart) (offset offset' : ℕ) (x : Event) (result : Result Unit TableFault) (told told' : Type 0) (named named' there there' : Marks) (cells cells' : Cells) (faults faults' steps steps' : ℕ) → parts ≡ parts' → offset ≡ offset' →
    Stepped (λ n. nodes_numbered n parts) (ticks_at offset parts) offset x result told told' named named' there there' cells cells' faults faults' steps steps' →
    Stepped (λ n. nodes_numbered n parts') (ticks_at offset' parts') offset' x result told told' named named' there there' cells cells' faults faults' steps steps'
stepped_as parts parts' offset offset' x result told told' named named' there there' cells cells' faults faults' steps steps' e f h =
    subst (λ o. Stepped (λ n. nodes_numbered n parts') (ticks_at o parts') o x result told told' named named' there there' cells cells' faults faults' steps steps') f
    (subst (λ ps. Stepped (λ n. nodes_numbered n ps) (ticks_at offset ps) offset x result told told' named named' there there' cells cells' faults faults' steps steps') e h)
