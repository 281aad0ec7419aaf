-- What the visits of several edges make of values.
use Rattle.std.proofs.Common.{◌≡◌, ◌⊎◌, ℕ, zero, suc, ◌≤◌, ◌<◌, ◌+◌, List, [], ◌∷◌, ◌++◌, length, drop, Option, None, Some, refl, inl, inr, ap, sym, subst, ◌∙◌, arith}
use Rattle.rg_event.specs.declared.event.Event.{Event}
use Rattle.rg_event.specs.declared.value.Value.{Value}
use Rattle.rg_state.specs.declared.table.Change.{Change}
use Rattle.rg_state.specs.declared.table.Change.TheVariants.{Add, Remove}
use Rattle.rg_window.specs.Passing.{at_edge, edge_by_edge}
use Rattle.rg_window.specs.Chain.{visited_at}
use Rattle.rg_engine.specs.Deeds.{Deed, lead_change, lead_by, Leads}
use Rattle.rg_engine.proofs.Values.{leads_none}

change_map : (change : Change) (value : Value) (f g : List Value → Type 0) → ((values : List Value) → f values → g values) → (values : List Value) → lead_change change value f values → lead_change change value g values
change_map Add value f g k values h = (h.0, h.1, k (values ++ value ∷ []) h.2)
change_map Remove value f g k values h = (h.0, h.1, k h.0 h.2)

lead_map : (deed : Option Deed) (f g : List Value → Type 0) → ((values : List Value) → f values → g values) → (values : List Value) → lead_by deed f values → lead_by deed g values
lead_map None f g k values h = k values h
lead_map (Some deed) f g k values h = change_map deed.change deed.value f g k values h

pub leads_append : (deed : ℕ → Event → Option Deed) (first second : List (ℕ × Event)) (before between after : List Value) → Leads deed first between before → Leads deed second after between → Leads deed (first ++ second) after before
leads_append deed [] second before between after h k = subst (λ v. Leads deed second after v) (sym h) k
leads_append deed (visit ∷ first) second before between after h k =
    lead_map (deed visit.0 visit.1) (Leads deed first between) (Leads deed (first ++ second) after) (λ values j. leads_append deed first second values between after j k) before h

-- edges that visit nothing, or whose visits do nothing
pub leads_quiet : (deed : ℕ → Event → Option Deed) (edge : ℕ) (passes : List (List Event)) (values : List Value) → ((k : ℕ) → k < length passes → (visited_at passes k ≡ []) ⊎ ((x : Event) → deed (edge + k) x ≡ None)) →
    Leads deed (edge_by_edge edge passes) values values
leads_quiet deed edge [] values h = refl
leads_quiet deed edge (xs ∷ passes) values h =
    leads_append deed (at_edge edge xs) (edge_by_edge (edge + 1) passes) values values values
    (elim (h 0 (omega arith)) [
      | inl none ↦ subst (λ v. Leads deed (at_edge edge v) values values) (sym none) refl
      | inr idle ↦ leads_none deed edge xs values (λ x. ap (λ k. deed k x) (omega arith) ∙ idle x)
    ])
    (leads_quiet deed (edge + 1) passes values (λ k l. elim (h (suc k) (omega arith)) [
      | inl none ↦ inl none
      | inr idle ↦ inr (λ x. ap (λ j. deed j x) (omega arith) ∙ idle x)
    ]))

-- one edge, after others whose visits do nothing
pub leads_at : (deed : ℕ → Event → Option Deed) (edge : ℕ) (passes : List (List Event)) (k at : ℕ) (before between after : List Value) → at ≡ edge + k → k < length passes →
    ((j : ℕ) → edge ≤ j → j < at → (x : Event) → deed j x ≡ None) →
    Leads deed (at_edge at (visited_at passes k)) between before → Leads deed (edge_by_edge (at + 1) (drop (suc k) passes)) after between →
    Leads deed (edge_by_edge edge passes) after before
leads_at deed edge [] k at before between after e l idle here rest = absurd (omega arith)
leads_at deed edge (xs ∷ passes) zero at before between after e l idle here rest =
    let s : at ≡ edge = omega arith in
    leads_append deed (at_edge edge xs) (edge_by_edge (edge + 1) passes) before between after
    (subst (λ i. Leads deed (at_edge i xs) between before) s here) (subst (λ i. Leads deed (edge_by_edge (i + 1) passes) after between) s rest)
leads_at deed edge (xs ∷ passes) (suc k) at before between after e l idle here rest =
    leads_append deed (at_edge edge xs) (edge_by_edge (edge + 1) passes) before before after
    (leads_none deed edge xs before (idle edge (omega arith) (omega arith)))
    (leads_at deed (edge + 1) passes k at before between after (omega arith) (omega arith) (λ j a. idle j (omega arith)) here rest)
