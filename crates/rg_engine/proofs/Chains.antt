-- Facts along chains of visits.
use Rattle.std.proofs.Common.{◌≡◌, ℕ, ◌+◌, List, [], ◌∷◌, Option, ap, sym, ◌∙◌, subst, sum_by, arith}
use Rattle.std.specs.Prelude.{Result, Ok, Err}
use Rattle.std.proofs.lemmas.List.Sums.{sum_by-cons}
use Rattle.rg_event.specs.declared.event.Event.{Event}
use Rattle.rg_agg.specs.Held.{Held}
use Rattle.rg_window.specs.Chain.{Visited}
use Rattle.rg_window.specs.Halting.{HaltsAt}
use Rattle.rg_window.specs.declared.edges.MoveFault.{MoveFault}
use Rattle.rg_window.specs.declared.edges.MoveFault.TheVariants.{Past, Visit}

module _ {V F : Type 0} (step : V → ℕ → Event → Result Unit F → V → Type 0) (Goes : V → V → Type 0) (same : (v : V) → Goes v v) (joins : (u v w : V) → Goes u v → Goes v w → Goes u w)
    (goes : (v w : V) (edge : ℕ) (x : Event) (result : Result Unit F) → step v edge x result w → Goes v w) where
  -- what each step keeps is kept along a chain
  pub chain_goes : (visits : List (ℕ × Event)) (v w : V) → Visited step v visits w → Goes v w
  chain_goes [] v w chain = subst (Goes v) chain (same v)
  chain_goes (visit ∷ visits) v w chain = joins v chain.0 w (goes v chain.0 visit.0 visit.1 (Ok tt) chain.1) (chain_goes visits chain.0 w chain.2)

  -- and up to a fault
  pub halt_goes : (v w : V) (offsets : List ℕ) (t : ℕ) (old new : List ℕ) (told : ℕ → Type 0) (events : List Event) (fault : MoveFault F) → HaltsAt step v w offsets t old new told events fault → Goes v w
  halt_goes v w offsets t old new told events (Past fault) halts = let half = halts.2 in chain_goes _ v w half.chain
  halt_goes v w offsets t old new told events (Visit fault) halts =
      let half = halts.2 in
      joins v half.between w (chain_goes _ v half.between half.chain) (goes half.between w halts.0 half.last (Err fault) half.refused)

-- a number that rises at each visit by what the edge says
pub chain_counts : {V F : Type 0} (step : V → ℕ → Event → Result Unit F → V → Type 0) (ok : V → Type 0) (count : V → ℕ) (each : ℕ → ℕ) →
    ((v w : V) (edge : ℕ) (x : Event) → ok v → step v edge x (Ok tt) w → ok w × (count w ≡ count v + each edge)) →
    (visits : List (ℕ × Event)) (v w : V) → ok v → Visited step v visits w → count w ≡ count v + sum_by (λ (visit : ℕ × Event). each visit.0) visits
chain_counts step ok count each does [] v w is chain = let k : count w ≡ count v = ap count (sym chain) in omega arith
chain_counts step ok count each does (visit ∷ visits) v w is chain =
    let d = does v chain.0 visit.0 visit.1 is chain.1 in
    let k = chain_counts step ok count each does visits chain.0 w d.0 chain.2 in
    let s = sum_by-cons (λ (visit : ℕ × Event). each visit.0) visit visits in
    let e = d.1 in
    omega arith

-- a row that no step changes
pub chain_same : {V F : Type 0} (step : V → ℕ → Event → Result Unit F → V → Type 0) (ok : V → Type 0) (row : V → Option Held) →
    ((v w : V) (edge : ℕ) (x : Event) → ok v → step v edge x (Ok tt) w → ok w × (row w ≡ row v)) →
    (visits : List (ℕ × Event)) (v w : V) → ok v → Visited step v visits w → row w ≡ row v
chain_same step ok row does [] v w is chain = ap row (sym chain)
chain_same step ok row does (visit ∷ visits) v w is chain =
    let d = does v chain.0 visit.0 visit.1 is chain.1 in
    chain_same step ok row does visits chain.0 w d.0 chain.2 ∙ d.1
