-- Edges that come from their positions in a front to those in all events take just the steps between.
use Rattle.std.proofs.Common.{◌≡◌, ℕ, suc, ◌+◌, ◌-◌, ◌≤◌, Bool, true, false, List, [], ◌∷◌, length, get_or, sum_by, Option, Some, None, refl, ap, sym, ◌∙◌, arith}
use Rattle.std.specs.Prelude.{slice_get, if◌then◌else◌}
use Rattle.std.proofs.lemmas.List.Sums.{sum_by-cons}
use Rattle.rg_event.specs.declared.event.Event.{Event}
use Rattle.rg_metric.specs.declared.query.Window.{Window}
use Rattle.rg_plan.specs.Nodes.{Filtered}
use Rattle.rg_plan.specs.Plans.{Tasks}
use Rattle.rg_engine.specs.Standing.{has_edge, edges_come, window_come, come, IsAtPosition}
use Rattle.rg_engine.specs.Passed.{AreAtPositions, edge_passed, window_passed, passed_count}

one_passed : (b : Bool) (old new passed rest_old rest_new rest : ℕ) → old ≤ new → passed ≡ new - old → rest_new ≡ rest_old + rest →
    (if b then new else 0) + rest_new ≡ ((if b then old else 0) + rest_old) + ((if b then passed else 0) + rest)
one_passed true old new passed rest_old rest_new rest le is e = omega arith
one_passed false old new passed rest_old rest_new rest le is e = omega arith

module _ (front events : List Event) where
  edges_passed : (window : Window) (offsets old new : List ℕ) → length old ≡ length offsets → length new ≡ length offsets → ((edge : ℕ) → get_or old edge 0 ≤ get_or new edge 0) →
      ((edge offset : ℕ) → slice_get offsets edge ≡ Some offset → IsAtPosition front old edge offset) → ((edge offset : ℕ) → slice_get offsets edge ≡ Some offset → IsAtPosition events new edge offset) →
      edges_come window offsets new ≡ edges_come window offsets old + window_passed (Some window) offsets front events
  edges_passed window [] old new a b rises stood stand = refl
  edges_passed window (offset ∷ offsets) [] new a b rises stood stand = absurd (omega arith)
  edges_passed window (offset ∷ offsets) (p ∷ old) [] a b rises stood stand = absurd (omega arith)
  edges_passed window (offset ∷ offsets) (p ∷ old) (q ∷ new) a b rises stood stand =
      let rest = edges_passed window offsets old new (omega arith) (omega arith) (λ edge. rises (suc edge)) (λ edge. stood (suc edge)) (λ edge. stand (suc edge)) in
      let was = stood 0 offset refl in
      let is = stand 0 offset refl in
      one_passed (has_edge window offset) p q (edge_passed front events offset) (edges_come window offsets old) (edges_come window offsets new) (window_passed (Some window) offsets front events)
      (rises 0) (λ i. sym is i - sym was i) rest
      ∙ ap (λ n. ((if has_edge window offset then p else 0) + edges_come window offsets old) + n) (sym (sum_by-cons (λ o. if has_edge window o then edge_passed front events o else 0) offset offsets))

  module _ (plan : Tasks) (old new : List ℕ) (a : length old ≡ length plan.offsets) (b : length new ≡ length plan.offsets) (rises : (edge : ℕ) → get_or old edge 0 ≤ get_or new edge 0)
      (stood : AreAtPositions plan front old) (stand : AreAtPositions plan events new) where
    window_went : (window : Option Window) → window_come window plan.offsets new ≡ window_come window plan.offsets old + window_passed window plan.offsets front events
    window_went None = refl
    window_went (Some window) = edges_passed window plan.offsets old new a b rises stood stand

    all_passed : (filters : List Filtered) →
        sum_by (λ (filter : Filtered). window_come (slice_get plan.windows filter.window) plan.offsets new) filters
        ≡ sum_by (λ (filter : Filtered). window_come (slice_get plan.windows filter.window) plan.offsets old) filters
        + sum_by (λ (filter : Filtered). window_passed (slice_get plan.windows filter.window) plan.offsets front events) filters
    all_passed [] = refl
    all_passed (filter ∷ filters) =
        let here = window_went (slice_get plan.windows filter.window) in
        let rest = all_passed filters in
        let p = sum_by-cons (λ (filter : Filtered). window_come (slice_get plan.windows filter.window) plan.offsets new) filter filters in
        let q = sum_by-cons (λ (filter : Filtered). window_come (slice_get plan.windows filter.window) plan.offsets old) filter filters in
        let r = sum_by-cons (λ (filter : Filtered). window_passed (slice_get plan.windows filter.window) plan.offsets front events) filter filters in
        omega arith

    -- as many steps as there are between
    pub steps_passed : (before after : ℕ) → after + come plan old ≡ before + come plan new → after ≡ before + passed_count plan front events
    steps_passed before after ticks = let k = all_passed plan.filters in omega arith
