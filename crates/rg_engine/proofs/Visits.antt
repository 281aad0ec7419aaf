-- Visits of the rows of a table.
use Rattle.std.proofs.Common.{◌≡◌, ◌↔◌, ℕ, ◌≤◌, ◌<◌, ◌+◌, ◌^◌, List, ◌++◌, length, get_or, Option, Some, None, refl, ap, ◌∙◌, subst, arith}
use Rattle.std.specs.Prelude.{Result, Ok, slice_get, slice_index_or}
use Rattle.std.proofs.lemmas.Option.{slice_get_within}
use Rattle.rg_bytes.specs.Counts.{Rose}
use Rattle.rg_event.specs.declared.event.Event.{Event}
use Rattle.rg_event.specs.Rising.{last_time, IsRising}
use Rattle.rg_plan.specs.Named.{Node, node_at}
use Rattle.rg_plan.specs.Plans.{Tasks}
use Rattle.rg_plan.specs.Whole.{IsWhole}
use Rattle.rg_state.specs.Changes.{Marks, IsSince}
use Rattle.rg_state.specs.Rows.{Cells}
use Rattle.rg_state.specs.declared.table.TableFault.{TableFault}
use Rattle.rg_state.specs.declared.table.TableFault.TheVariants.{BadState, Disk}
use Rattle.rg_window.specs.Passing.{at_edge, edge_by_edge, Reaches}
use Rattle.rg_window.specs.Chain.{Visited, Moved}
use Rattle.rg_window.specs.Halting.{HaltsAt}
use Rattle.rg_window.specs.declared.edges.MoveFault.{MoveFault}
use Rattle.rg_window.specs.declared.edges.MoveFault.TheVariants.{Visit}
use Rattle.rg_engine.specs.declared.part.FilterPart.{FilterPart}
use Rattle.rg_engine.specs.Standing.{HasEdge, NodeStands, come}
use Rattle.rg_engine.specs.Feeding.{IsFed}
use Rattle.rg_engine.specs.Parts.{nodes_numbered, ticks_at, ArePartsOf}
use Rattle.rg_engine.specs.Stepping.{Done, Stuck, Stepped}
use Rattle.rg_engine.proofs.Chains.{chain_goes, halt_goes, chain_counts}
use Rattle.rg_engine.proofs.Nodewise.{stands_after, none_after, never_bad}
use Rattle.rg_engine.proofs.Ticks.{all_ticks}

module _ {V O N M P : Type 0} (v0 : V) (offsets_of : V → O) (list_of : O → List ℕ) (rows_name : V → N) (steps_name : V → M) (parts_of : V → P) (items_of : P → List FilterPart)
    (told_of : V → Type 0) (named_of there_of : V → Marks) (cells_of : V → Cells) (faults_of steps_of : V → ℕ) where
  abbrev pub step_of : V → ℕ → Event → Result Unit TableFault → V → Type 0
  step_of v edge x result w =
      (offsets_of w ≡ offsets_of v) × (rows_name w ≡ rows_name v) × (steps_name w ≡ steps_name v) × (parts_of w ≡ parts_of v)
      × Stepped (λ n. nodes_numbered n (items_of (parts_of v))) (ticks_at (slice_index_or (list_of (offsets_of v)) edge 0) (items_of (parts_of v)))
      (slice_index_or (list_of (offsets_of v)) edge 0) x result (told_of v) (told_of w) (named_of v) (named_of w) (there_of v) (there_of w) (cells_of v) (cells_of w) (faults_of v) (faults_of w) (steps_of v) (steps_of w)

  -- what each visit keeps
  pub record Keeps (v w : V) : Type 0 where
    pub offsets : offsets_of w ≡ offsets_of v
    pub rows : rows_name w ≡ rows_name v
    pub steps : steps_name w ≡ steps_name v
    pub parts : parts_of w ≡ parts_of v
    pub tells : told_of w ↔ told_of v
    pub since : told_of v → (base : Cells) → IsSince base (named_of v) (there_of v) (cells_of v) → IsSince base (named_of w) (there_of w) (cells_of w)
    pub later : faults_of v ≤ faults_of w

  keeps_same : (v : V) → Keeps v v
  keeps_same v = record { offsets = refl; rows = refl; steps = refl; parts = refl; tells = (λ t. t, λ t. t); since = λ told base is. is; later = omega arith }

  keeps_join : (u v w : V) → Keeps u v → Keeps v w → Keeps u w
  keeps_join u v w a b = record {
    offsets = b.offsets ∙ a.offsets;
    rows = b.rows ∙ a.rows;
    steps = b.steps ∙ a.steps;
    parts = b.parts ∙ a.parts;
    tells = (λ t. a.tells.0 (b.tells.0 t), λ t. b.tells.1 (a.tells.1 t));
    since = λ told base is. b.since (a.tells.1 told) base (a.since told base is);
    later = omega arith;
  }

  keeps_one : (v w : V) (edge : ℕ) (x : Event) (result : Result Unit TableFault) → step_of v edge x result w → Keeps v w
  keeps_one v w edge x result s = record { offsets = s.0; rows = s.1; steps = s.2; parts = s.3; tells = s.4.tells; since = s.4.since; later = s.4.later }

  pub chain_keeps : (visits : List (ℕ × Event)) (v w : V) → Visited step_of v visits w → Keeps v w
  chain_keeps visits v w chain = chain_goes step_of Keeps keeps_same keeps_join keeps_one visits v w chain

  pub halt_keeps : (v w : V) (offsets : List ℕ) (t : ℕ) (old new : List ℕ) (told : ℕ → Type 0) (events : List Event) (fault : MoveFault TableFault) → HaltsAt step_of v w offsets t old new told events fault → Keeps v w
  halt_keeps v w offsets t old new told events fault halts = halt_goes step_of Keeps keeps_same keeps_join keeps_one v w offsets t old new told events fault halts

  -- a failure of the table's disk was counted
  pub halt_rose : (v w : V) (offsets : List ℕ) (t : ℕ) (old new : List ℕ) (told : ℕ → Type 0) (events : List Event) (fault : MoveFault TableFault) → HaltsAt step_of v w offsets t old new told events fault → fault ≡ Visit Disk → Rose (faults_of v) (faults_of w)
  halt_rose v w offsets t old new told events fault halts is =
      let half = subst (HaltsAt step_of v w offsets t old new told events) is halts in
      let k = chain_keeps (edge_by_edge 0 half.2.passes ++ at_edge half.0 half.2.some) v half.2.between half.2.chain in
      let r = half.2.refused.4.disk refl in
      let l = k.later in
      omega (arith, r)

  module _ (plan : Tasks) (parts : P) (are : ArePartsOf plan (items_of parts)) where
    abbrev ok_at : V → Type 0
    ok_at v = (list_of (offsets_of v) ≡ plan.offsets) × (parts_of v ≡ parts) × told_of v

    goes_on : (v w : V) (edge : ℕ) (x : Event) → ok_at v → step_of v edge x (Ok tt) w → ok_at w
    goes_on v w edge x is s = (ap list_of s.0 ∙ is.0, s.3 ∙ is.1, s.4.tells.1 is.2)

    does_at : (n : ℕ) (v w : V) (edge : ℕ) (x : Event) → ok_at v → step_of v edge x (Ok tt) w →
        ok_at w × ((key : List ℕ) → Done key (slice_index_or plan.offsets edge 0) x (nodes_numbered n (items_of parts)) (cells_of v n key) (cells_of w n key))
    does_at n v w edge x is s = (
      goes_on v w edge x is s,
      λ key.
          subst (λ ps. Done key (slice_index_or plan.offsets edge 0) x (nodes_numbered n (items_of ps)) (cells_of v n key) (cells_of w n key)) is.1
          (subst (λ os. Done key (slice_index_or os edge 0) x (nodes_numbered n (items_of (parts_of v))) (cells_of v n key) (cells_of w n key)) is.0 (s.4.done is.2 n key)),
    )

    -- a node that stood for a front stands for all events after a whole move
    pub all_stands : (n : ℕ) (v w : V) (events front more : List Event) (t : ℕ) (old new : List ℕ) (told : ℕ → Type 0) → Moved step_of v w plan.offsets t old new told events (length plan.offsets) →
        list_of (offsets_of v) ≡ plan.offsets → parts_of v ≡ parts → told_of v → events ≡ front ++ more → last_time events ≡ t → IsWhole plan → IsFed plan events → IsRising events → length events ≤ 2 ^ 40 →
        ((edge offset : ℕ) → slice_get plan.offsets edge ≡ Some offset → HasEdge (node_at plan n) offset → told edge) →
        ((edge : ℕ) → told edge → Reaches events t plan.offsets old new edge) →
        NodeStands plan n front (cells_of v) old → NodeStands plan n events (cells_of w) new
    all_stands n v w events front more t old new told moved is same tells e last whole fed ordered few is_told reached stands =
        stands_after plan n step_of ok_at cells_of (λ m. nodes_numbered m (items_of parts)) (are.nodes n) (does_at n) told is_told v w events front more t old new moved.passes e last (is, same, tells) moved.chain
        whole fed ordered few moved.same moved.known reached stands

    none_stands : (n : ℕ) (v w : V) (events front : List Event) (old new : List ℕ) (visits : List (ℕ × Event)) → node_at plan n ≡ None → list_of (offsets_of v) ≡ plan.offsets → parts_of v ≡ parts → told_of v → Visited step_of v visits w →
        NodeStands plan n front (cells_of v) old → NodeStands plan n events (cells_of w) new
    none_stands n v w events front old new visits none is same tells chain stands =
        none_after plan n step_of ok_at cells_of (λ m. nodes_numbered m (items_of parts)) (are.nodes n) (does_at n) (λ edge. Unit) (λ edge offset is_offset has. tt) v w events front old new visits none (is, same, tells) chain stands

    stands_by : (n : ℕ) (found : Option Node) → node_at plan n ≡ found → (v w : V) (events front more : List Event) (t : ℕ) (old new : List ℕ) (told : ℕ → Type 0) → Moved step_of v w plan.offsets t old new told events (length plan.offsets) →
        list_of (offsets_of v) ≡ plan.offsets → parts_of v ≡ parts → told_of v → events ≡ front ++ more → last_time events ≡ t → IsWhole plan → IsFed plan events → (0 < length plan.offsets → IsRising events × (length events ≤ 2 ^ 40)) →
        ((edge offset : ℕ) → slice_get plan.offsets edge ≡ Some offset → HasEdge (node_at plan n) offset → told edge) →
        ((edge : ℕ) → told edge → Reaches events t plan.offsets old new edge) →
        NodeStands plan n front (cells_of v) old → NodeStands plan n events (cells_of w) new
    stands_by n None there v w events front more t old new told moved is same tells e last whole fed ordered is_told reached stands =
        none_stands n v w events front old new (edge_by_edge 0 moved.passes) there is same tells moved.chain stands
    stands_by n (Some node) there v w events front more t old new told moved is same tells e last whole fed ordered is_told reached stands =
        let enters = whole.enters n node there in
        let some : 0 < length plan.offsets = omega (arith, slice_get_within plan.offsets enters.0 node.window.delay enters.1) in
        let order = ordered some in
        all_stands n v w events front more t old new told moved is same tells e last whole fed order.0 order.1 is_told reached stands

    -- the same, where the events are known to be in order once there is an edge
    pub each_stands : (n : ℕ) (v w : V) (events front more : List Event) (t : ℕ) (old new : List ℕ) (told : ℕ → Type 0) → Moved step_of v w plan.offsets t old new told events (length plan.offsets) →
        list_of (offsets_of v) ≡ plan.offsets → parts_of v ≡ parts → told_of v → events ≡ front ++ more → last_time events ≡ t → IsWhole plan → IsFed plan events → (0 < length plan.offsets → IsRising events × (length events ≤ 2 ^ 40)) →
        ((edge offset : ℕ) → slice_get plan.offsets edge ≡ Some offset → HasEdge (node_at plan n) offset → told edge) →
        ((edge : ℕ) → told edge → Reaches events t plan.offsets old new edge) →
        NodeStands plan n front (cells_of v) old → NodeStands plan n events (cells_of w) new
    each_stands n v w events front more t old new told moved is same tells e last whole fed ordered is_told reached stands =
        stands_by n (node_at plan n) refl v w events front more t old new told moved is same tells e last whole fed ordered is_told reached stands

    -- a node that stood for a front isn't stuck
    pub none_stuck : (n : ℕ) (v w : V) (events front more : List Event) (t : ℕ) (old new : List ℕ) (told : ℕ → Type 0) (fault : MoveFault TableFault) → HaltsAt step_of v w plan.offsets t old new told events fault → fault ≡ Visit (BadState n) →
        list_of (offsets_of v) ≡ plan.offsets → parts_of v ≡ parts → told_of v → events ≡ front ++ more → IsWhole plan → IsFed plan events → (0 < length plan.offsets → IsRising events × (length events ≤ 2 ^ 40)) →
        ((edge offset : ℕ) → slice_get plan.offsets edge ≡ Some offset → HasEdge (node_at plan n) offset → told edge) →
        NodeStands plan n front (cells_of v) old → ⊥
    none_stuck n v w events front more t old new told fault halts is_bad is same tells e whole fed ordered is_told stands =
        let h = subst (HaltsAt step_of v w plan.offsets t old new told events) is_bad halts in
        let half = h.2 in
        let some : 0 < length plan.offsets = let l = h.1 in omega arith in
        let order = ordered some in
        let k = chain_keeps (edge_by_edge 0 half.passes ++ at_edge h.0 half.some) v half.between half.chain in
        let s = half.refused.4.stuck n refl (k.tells.1 tells) in
        let offsets : list_of (offsets_of half.between) ≡ plan.offsets = ap list_of k.offsets ∙ is in
        never_bad plan n step_of ok_at cells_of (λ m. nodes_numbered m (items_of parts)) (are.nodes n) (does_at n) told is_told v half.between events front more t old half.passes h.0 half.some half.last s.0 e (is, same, tells) half.chain
        whole fed order.0 order.1 half.same h.1 half.known half.front stands
        (subst (λ ps. Stuck s.0 (slice_index_or plan.offsets h.0 0) half.last (nodes_numbered n (items_of ps)) (cells_of half.between n s.0)) (k.parts ∙ same)
        (subst (λ os. Stuck s.0 (slice_index_or os h.0 0) half.last (nodes_numbered n (items_of (parts_of half.between))) (cells_of half.between n s.0)) offsets s.1))

    ticks_one : (v w : V) (edge : ℕ) (x : Event) → ((list_of (offsets_of v) ≡ plan.offsets) × (parts_of v ≡ parts)) → step_of v edge x (Ok tt) w →
        ((list_of (offsets_of w) ≡ plan.offsets) × (parts_of w ≡ parts)) × (steps_of w ≡ steps_of v + ticks_at (get_or plan.offsets edge 0) (items_of parts))
    ticks_one v w edge x is s = (
      (ap list_of s.0 ∙ is.0, s.3 ∙ is.1),
      s.4.ticked ∙ ap (λ os. steps_of v + ticks_at (get_or os edge 0) (items_of (parts_of v))) is.0 ∙ ap (λ ps. steps_of v + ticks_at (get_or plan.offsets edge 0) (items_of ps)) is.1,
    )

    -- the steps that a whole move took
    pub steps_taken : (v w : V) (t : ℕ) (old new : List ℕ) (told : ℕ → Type 0) (events : List Event) → Moved step_of v w plan.offsets t old new told events (length plan.offsets) →
        list_of (offsets_of v) ≡ plan.offsets → parts_of v ≡ parts → length old ≡ length plan.offsets → length new ≡ length plan.offsets → steps_of w + come plan old ≡ steps_of v + come plan new
    steps_taken v w t old new told events moved is same a b =
        all_ticks plan (items_of parts) old new moved.passes (steps_of v) (steps_of w) are.windows a b moved.same moved.counts
        (chain_counts step_of (λ u. (list_of (offsets_of u) ≡ plan.offsets) × (parts_of u ≡ parts)) steps_of (λ edge. ticks_at (get_or plan.offsets edge 0) (items_of parts)) ticks_one _ v w (is, same) moved.chain)
