-- What a move of edges makes of one node.
use Rattle.std.proofs.Common.{◌≡◌, ℕ, zero, suc, ◌≤◌, ◌<◌, ◌^◌, Bool, true, false, cond, List, [], ◌∷◌, ◌++◌, length, drop, Option, Some, None, All, refl, ap, sym, ◌∙◌, subst, inl, inr, arith}
use Rattle.std.specs.Prelude.{Result, Ok, slice_get, slice_index_or, ◌==◌, if◌then◌else◌}
use Rattle.std.proofs.lemmas.List.Elements.{All-head, All-tail, All-nil, All-cons}
use Rattle.std.proofs.lemmas.Option.{slice_get-get_or}
use Rattle.rg_event.specs.Codec.{IsEventOf}
use Rattle.rg_event.specs.declared.event.Event.{Event}
use Rattle.rg_metric.specs.declared.query.Window.{Window}
use Rattle.rg_event.specs.Rising.{last_time, IsRising}
use Rattle.rg_agg.specs.Held.{Held}
use Rattle.rg_plan.specs.Named.{Node, node_at}
use Rattle.rg_plan.specs.Plans.{Tasks}
use Rattle.rg_plan.specs.Whole.{IsWhole}
use Rattle.rg_state.specs.declared.table.Change.{Change}
use Rattle.rg_state.specs.declared.table.Change.TheVariants.{Add, Remove}
use Rattle.rg_state.specs.Rows.{Cells, RowStands}
use Rattle.rg_window.specs.Passing.{has_come, passing, passed, at_edge, edge_by_edge, Reaches}
use Rattle.rg_window.specs.Chain.{Visited, visited_at, passed_at}
use Rattle.rg_engine.specs.Windows.{node_values}
use Rattle.rg_engine.specs.Standing.{RowIs, HasEdge, has_edge, leaves_at, NodeStands}
use Rattle.rg_engine.specs.Feeding.{IsFed}
use Rattle.rg_engine.specs.Deeds.{Does, Blocked, side_of, node_deed, edge_deed, Leads}
use Rattle.rg_engine.specs.Edges.{Starts, VisitsBefore, VisitsInto}
use Rattle.rg_engine.specs.Parts.{one_or_none}
use Rattle.rg_engine.specs.Stepping.{Done, Balks, Stuck}
use Rattle.rg_engine.proofs.Along.{row_along, row_until, not_blocked}
use Rattle.rg_engine.proofs.Central.{node_leads, node_halfway}
use Rattle.rg_engine.proofs.Chains.{chain_same}
use Rattle.rg_engine.proofs.Fed.{Hands, served_kind, all_hand}
use Rattle.rg_engine.proofs.Places.{front_earlier, place_after}
use Rattle.rg_engine.proofs.Plain.{none_some}

-- Lists

drop_all : {A : Type 0} (P : A → Type 0) (n : ℕ) (xs : List A) → All P xs → All P (drop n xs)
drop_all P zero xs h = h
drop_all P (suc n) [] h = All-nil P
drop_all P (suc n) (x ∷ xs) h = drop_all P n xs (All-tail P x xs h)

passing_by : (P : Event → Type 0) (x : Event) (xs : List Event) (b : Bool) → P x → All P xs → All P (cond b (x ∷ xs) [])
passing_by P x xs true h k = All-cons P x xs h k
passing_by P x xs false h k = All-nil P

passing_all : (P : Event → Type 0) (offset t : ℕ) (xs : List Event) → All P xs → All P (passing offset t xs)
passing_all P offset t [] h = All-nil P
passing_all P offset t (x ∷ xs) h = passing_by P x (passing offset t xs) (has_come offset t x) (All-head P x xs h) (passing_all P offset t xs (All-tail P x xs h))

all_middle : (P : Event → Type 0) (some : List Event) (last : Event) (rest : List Event) → All P (some ++ last ∷ rest) → P last
all_middle P [] last rest h = All-head P last rest h
all_middle P (x ∷ some) last rest h = all_middle P some last rest (All-tail P x (some ++ last ∷ rest) h)

-- an event that an edge passes is one of all
passed_one : (P : Event → Type 0) (events : List Event) (t offset number : ℕ) (some : List Event) (last : Event) (rest : List Event) → All P events → passed events t offset number ≡ some ++ last ∷ rest → P last
passed_one P events t offset number some last rest h is = all_middle P some last rest (subst (All P) is (passing_all P offset t (drop number events) (drop_all P number events h)))

-- a window that does something with an event at an offset has an edge there
side_by : (window : Window) (offset : ℕ) (change : Change) (a b : Bool) → (window.delay == offset) ≡ a → leaves_at window window.length offset ≡ b →
    (if a then Some Add else (if b then Some Remove else None)) ≡ Some change → has_edge window offset ≡ true
side_by window offset change true b e f is = rw e refl
side_by window offset change false true e f is = rw (e, f) refl
side_by window offset change false false e f is = absurd (none_some is)

pub side_edge : (window : Window) (offset : ℕ) (change : Change) → side_of window offset ≡ Some change → has_edge window offset ≡ true
side_edge window offset change is = side_by window offset change (window.delay == offset) (leaves_at window window.length offset) refl refl is

-- One node

module _ (plan : Tasks) (n : ℕ) (node : Node) (there : node_at plan n ≡ Some node) where
  pub at_edge_of : (offset : ℕ) → has_edge node.window offset ≡ true → HasEdge (node_at plan n) offset
  at_edge_of offset has = subst (λ o. HasEdge o offset) (sym there) has

  -- it starts from where it stands
  pub node_starts : (front more : List Event) (cells : Cells) (numbers : List ℕ) → IsWhole plan → IsFed plan (front ++ more) → IsRising (front ++ more) → length (front ++ more) ≤ 2 ^ 40 → NodeStands plan n front cells numbers →
      Starts node front more plan.offsets numbers
  node_starts front more cells numbers whole fed ordered few stands =
      let k = served_kind fed.fields node.agg (fed.serves.served n node there) in
      record {
        rising = whole.rising;
        enters = whole.enters n node there;
        leaves = λ lasts is. whole.leaves n node lasts there is;
        lasting = fed.serves.lasting n node there;
        places = λ edge offset is has. stands.places edge offset is (at_edge_of offset has);
        ordered = ordered;
        few = few;
        alike = (k.0, all_hand fed.fields k.0 node.agg (front ++ more) k.1 fed.are);
      }

  one_done : (key : List ℕ) (offset : ℕ) (x : Event) (nodes : List Node) (old new : Option Held) → nodes ≡ one_or_none (node_at plan n) → Done key offset x nodes old new → Does node.agg.func (node_deed node key offset x) old new
  one_done key offset x nodes old new are done =
      let d = subst (λ o. Done key offset x (one_or_none o) old new) there (subst (λ ns. Done key offset x ns old new) are done) in
      subst (λ row. Does node.agg.func (node_deed node key offset x) old row) (sym d.2) d.1

  pub one_stuck : (key : List ℕ) (offset : ℕ) (x : Event) (nodes : List Node) (row : Option Held) → nodes ≡ one_or_none (node_at plan n) → Stuck key offset x nodes row → Balks node key offset x row
  one_stuck key offset x nodes row are stuck =
      let d = subst (λ o. Stuck key offset x (one_or_none o) row) there (subst (λ ns. Stuck key offset x ns row) are stuck) in
      elim d [ inl b ↦ b | inr k ↦ absurd k.2 ]

  module _ {V F : Type 0} (step : V → ℕ → Event → Result Unit F → V → Type 0) (ok : V → Type 0) (cells_of : V → Cells) (nodes : ℕ → List Node) (are : nodes n ≡ one_or_none (node_at plan n))
      (does : (v w : V) (edge : ℕ) (x : Event) → ok v → step v edge x (Ok tt) w → ok w × ((key : List ℕ) → Done key (slice_index_or plan.offsets edge 0) x (nodes n) (cells_of v n key) (cells_of w n key))) where
    does_one : (key : List ℕ) (v w : V) (edge : ℕ) (x : Event) → ok v → step v edge x (Ok tt) w → ok w × Does node.agg.func (edge_deed node key plan.offsets edge x) (cells_of v n key) (cells_of w n key)
    does_one key v w edge x is made = let d = does v w edge x is made in (d.0, one_done key (slice_index_or plan.offsets edge 0) x (nodes n) (cells_of v n key) (cells_of w n key) are (d.1 key))

    -- after a whole move it stands for all events
    pub moved_row : (v w : V) (front more : List Event) (t : ℕ) (numbers : List ℕ) (passes : List (List Event)) (key : List ℕ) → ok v → Visited step v (edge_by_edge 0 passes) w →
        Starts node front more plan.offsets numbers → last_time front ≤ t → length passes ≡ length plan.offsets → VisitsBefore node (front ++ more) t plan.offsets numbers passes (length plan.offsets) →
        RowStands node.agg.func (cells_of v n key) (node_values node key (last_time front) front) → RowStands node.agg.func (cells_of w n key) (node_values node key t (front ++ more))
    moved_row v w front more t numbers passes key is chain starts later same known stands =
        row_along step ok (λ u. cells_of u n key) node.agg.func (edge_deed node key plan.offsets) (does_one key) (edge_by_edge 0 passes) v w
        (node_values node key (last_time front) front) (node_values node key t (front ++ more)) is chain stands
        (node_leads node key front more t plan.offsets numbers passes starts later same known)

    -- where its row refuses an event that is handed to it, it can't be that it stood for the front
    pub never_stuck : (v w : V) (front more : List Event) (t : ℕ) (numbers : List ℕ) (passes : List (List Event)) (end : ℕ) (some : List Event) (last : Event) (key : List ℕ) → ok v → Visited step v (edge_by_edge 0 passes ++ at_edge end some) w →
        IsFed plan (front ++ more) → Starts node front more plan.offsets numbers → length passes ≡ end → end < length plan.offsets →
        VisitsBefore node (front ++ more) t plan.offsets numbers passes end → VisitsInto node (front ++ more) t plan.offsets numbers end some last →
        RowStands node.agg.func (cells_of v n key) (node_values node key (last_time front) front) → Balks node key (slice_index_or plan.offsets end 0) last (cells_of w n key) → ⊥
    never_stuck v w front more t numbers passes end some last key is chain fed starts same below known into stands balks =
        let offset = slice_index_or plan.offsets end 0 in
        let deed = edge_deed node key plan.offsets in
        let h = node_halfway node key front more t plan.offsets numbers passes end some last starts same below known into in
        let k = row_until step ok (λ u. cells_of u n key) node.agg.func deed (does_one key) (edge_by_edge 0 passes ++ at_edge end some) ((end, last) ∷ h.0) v w
        (node_values node key (last_time front) front) h.1 is chain stands h.2 in
        let here : slice_get plan.offsets end ≡ Some offset = slice_get-get_or plan.offsets end 0 below in
        let there_in = into offset here (side_edge node.window offset balks.change balks.side) in
        let served = served_kind fed.fields node.agg (fed.serves.served n node there) in
        let hands : Hands served.0 node.agg last = served.1 last (passed_one (IsEventOf fed.fields) (front ++ more) t offset (slice_index_or numbers end 0) some last there_in.0 fed.are there_in.1) in
        let is_deed : node_deed node key offset last ≡ Some (record { change = balks.change; value = hands.value }) =
        rw (balks.side, balks.passes, hands.is) refl in
        not_blocked node.agg.func (deed end last) (Leads deed h.0 h.1) (cells_of w n key) k.1
        (subst (λ d. Blocked node.agg.func d (cells_of w n key)) (sym is_deed) (balks.refuses hands.value hands.is hands.takes))
        k.2 k.3

-- Any number, of a node or of none

module _ (plan : Tasks) (n : ℕ) {V F : Type 0} (step : V → ℕ → Event → Result Unit F → V → Type 0) (ok : V → Type 0) (cells_of : V → Cells) (nodes : ℕ → List Node) (are : nodes n ≡ one_or_none (node_at plan n))
    (does : (v w : V) (edge : ℕ) (x : Event) → ok v → step v edge x (Ok tt) w → ok w × ((key : List ℕ) → Done key (slice_index_or plan.offsets edge 0) x (nodes n) (cells_of v n key) (cells_of w n key)))
    (told : ℕ → Type 0) (is_told : (edge offset : ℕ) → slice_get plan.offsets edge ≡ Some offset → HasEdge (node_at plan n) offset → told edge) where
  none_done : (key : List ℕ) (v w : V) (edge : ℕ) (x : Event) → node_at plan n ≡ None → ok v → step v edge x (Ok tt) w → ok w × (cells_of w n key ≡ cells_of v n key)
  none_done key v w edge x none is made =
      let d = does v w edge x is made in
      let offset = slice_index_or plan.offsets edge 0 in
      (d.0, subst (λ o. Done key offset x (one_or_none o) (cells_of v n key) (cells_of w n key)) none (subst (λ ns. Done key offset x ns (cells_of v n key) (cells_of w n key)) are (d.1 key)))

  rows_by : (v w : V) (front more : List Event) (t : ℕ) (old : List ℕ) (passes : List (List Event)) (key : List ℕ) (oa : Option Node) → node_at plan n ≡ oa → ok v → Visited step v (edge_by_edge 0 passes) w →
      IsWhole plan → IsFed plan (front ++ more) → IsRising (front ++ more) → length (front ++ more) ≤ 2 ^ 40 → last_time front ≤ t → length passes ≡ length plan.offsets →
      ((edge : ℕ) → edge < length plan.offsets → told edge → visited_at passes edge ≡ passed_at (front ++ more) t plan.offsets old edge) →
      NodeStands plan n front (cells_of v) old → RowIs oa key t (front ++ more) (cells_of w n key)
  rows_by v w front more t old passes key None there is chain whole fed ordered few later same known stands =
      chain_same step ok (λ u. cells_of u n key) (λ a b edge x. none_done key a b edge x there) (edge_by_edge 0 passes) v w is chain
      ∙ subst (λ o. RowIs o key (last_time front) front (cells_of v n key)) there (stands.rows key)
  rows_by v w front more t old passes key (Some node) there is chain whole fed ordered few later same known stands =
      moved_row plan n node there step ok cells_of nodes are does v w front more t old passes key is chain
      (node_starts plan n node there front more (cells_of v) old whole fed ordered few stands) later same
      (λ edge offset below is_offset has. known edge below (is_told edge offset is_offset (at_edge_of plan n node there offset has)))
      (subst (λ o. RowIs o key (last_time front) front (cells_of v n key)) there (stands.rows key))

  -- the rows of a number that is no node's stay none
  pub none_after : (v w : V) (events front : List Event) (old new : List ℕ) (visits : List (ℕ × Event)) → node_at plan n ≡ None → ok v → Visited step v visits w → NodeStands plan n front (cells_of v) old → NodeStands plan n events (cells_of w) new
  none_after v w events front old new visits none is chain stands = record {
    rows = λ key. subst (λ o. RowIs o key (last_time events) events (cells_of w n key)) (sym none)
        (chain_same step ok (λ u. cells_of u n key) (λ a b edge x. none_done key a b edge x none) visits v w is chain
        ∙ subst (λ o. RowIs o key (last_time front) front (cells_of v n key)) none (stands.rows key));
    places = λ edge offset is_offset has. absurd (subst (λ o. HasEdge o offset) none has);
  }

  -- after a whole move the node stands for all events
  pub stands_after : (v w : V) (events front more : List Event) (t : ℕ) (old new : List ℕ) (passes : List (List Event)) → events ≡ front ++ more → last_time events ≡ t → ok v → Visited step v (edge_by_edge 0 passes) w →
      IsWhole plan → IsFed plan events → IsRising events → length events ≤ 2 ^ 40 → length passes ≡ length plan.offsets →
      ((edge : ℕ) → edge < length plan.offsets → told edge → visited_at passes edge ≡ passed_at events t plan.offsets old edge) →
      ((edge : ℕ) → told edge → Reaches events t plan.offsets old new edge) →
      NodeStands plan n front (cells_of v) old → NodeStands plan n events (cells_of w) new
  stands_after v w events front more t old new passes e last is chain whole fed ordered few same known reached stands =
      let fed' : IsFed plan (front ++ more) = subst (IsFed plan) e fed in
      let ordered' : IsRising (front ++ more) = subst IsRising e ordered in
      let few' : length (front ++ more) ≤ 2 ^ 40 = subst (λ all. length all ≤ 2 ^ 40) e few in
      let later : last_time front ≤ t = omega (arith, front_earlier front more ordered', ap last_time e, last) in
      record {
        rows = λ key. subst (λ u. RowIs (node_at plan n) key u events (cells_of w n key)) (sym last)
            (subst (λ all. RowIs (node_at plan n) key t all (cells_of w n key)) (sym e)
            (rows_by v w front more t old passes key (node_at plan n) refl is chain whole fed' ordered' few' later same
            (λ edge below has. subst (λ all. visited_at passes edge ≡ passed_at all t plan.offsets old edge) e (known edge below has)) stands));
        places = λ edge offset is_offset has. place_after events front more t plan.offsets old new edge offset e last ordered is_offset (stands.places edge offset is_offset has) (reached edge (is_told edge offset is_offset has));
      }

  stuck_by : (v w : V) (front more : List Event) (t : ℕ) (old : List ℕ) (passes : List (List Event)) (end : ℕ) (some : List Event) (last : Event) (key : List ℕ) (oa : Option Node) → node_at plan n ≡ oa → ok v →
      Visited step v (edge_by_edge 0 passes ++ at_edge end some) w →
      IsWhole plan → IsFed plan (front ++ more) → IsRising (front ++ more) → length (front ++ more) ≤ 2 ^ 40 → length passes ≡ end → end < length plan.offsets →
      ((edge : ℕ) → edge < end → told edge → visited_at passes edge ≡ passed_at (front ++ more) t plan.offsets old edge) →
      (told end → (rest : List Event) × (passed_at (front ++ more) t plan.offsets old end ≡ some ++ last ∷ rest)) →
      NodeStands plan n front (cells_of v) old → Stuck key (slice_index_or plan.offsets end 0) last (nodes n) (cells_of w n key) → ⊥
  stuck_by v w front more t old passes end some last key None there is chain whole fed ordered few same below known into stands stuck =
      subst (λ o. Stuck key (slice_index_or plan.offsets end 0) last (one_or_none o) (cells_of w n key)) there
      (subst (λ ns. Stuck key (slice_index_or plan.offsets end 0) last ns (cells_of w n key)) are stuck)
  stuck_by v w front more t old passes end some last key (Some node) there is chain whole fed ordered few same below known into stands stuck =
      never_stuck plan n node there step ok cells_of nodes are does v w front more t old passes end some last key is chain fed
      (node_starts plan n node there front more (cells_of v) old whole fed ordered few stands) same below
      (λ edge offset under is_offset has. known edge under (is_told edge offset is_offset (at_edge_of plan n node there offset has)))
      (λ offset is_offset has. into (is_told end offset is_offset (at_edge_of plan n node there offset has)))
      (subst (λ o. RowIs o key (last_time front) front (cells_of v n key)) there (stands.rows key))
      (one_stuck plan n node there key (slice_index_or plan.offsets end 0) last (nodes n) (cells_of w n key) are stuck)

  -- a node that stands for a front of the events is never stuck
  pub never_bad : (v w : V) (events front more : List Event) (t : ℕ) (old : List ℕ) (passes : List (List Event)) (end : ℕ) (some : List Event) (last : Event) (key : List ℕ) → events ≡ front ++ more → ok v →
      Visited step v (edge_by_edge 0 passes ++ at_edge end some) w →
      IsWhole plan → IsFed plan events → IsRising events → length events ≤ 2 ^ 40 → length passes ≡ end → end < length plan.offsets →
      ((edge : ℕ) → edge < end → told edge → visited_at passes edge ≡ passed_at events t plan.offsets old edge) →
      (told end → (rest : List Event) × (passed_at events t plan.offsets old end ≡ some ++ last ∷ rest)) →
      NodeStands plan n front (cells_of v) old → Stuck key (slice_index_or plan.offsets end 0) last (nodes n) (cells_of w n key) → ⊥
  never_bad v w events front more t old passes end some last key e is chain whole fed ordered few same below known into stands stuck =
      stuck_by v w front more t old passes end some last key (node_at plan n) refl is chain whole (subst (IsFed plan) e fed) (subst IsRising e ordered) (subst (λ all. length all ≤ 2 ^ 40) e few) same below
      (λ edge under has. subst (λ all. visited_at passes edge ≡ passed_at all t plan.offsets old edge) e (known edge under has))
      (λ has. let k = into has in (k.0, ap (λ all. passed_at all t plan.offsets old end) (sym e) ∙ k.1)) stands stuck
