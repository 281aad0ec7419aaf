-- The tests of nodes say exactly whether these are equal, so the number of one finds it.
use Rattle.std.proofs.Common.{ℕ, suc, ◌+◌, ◌<◌, ◌≡◌, Bool, true, List, [], ◌∷◌, length, slice_get, Some, refl, ap, ◌∙◌, arith, inl, inr}
use Rattle.std.specs.Cmp.{IsEquivalence, and_equiv, on_equiv, nat_eq_equiv}
use Rattle.std.proofs.lemmas.Bool.{cases_Bool, and_parts}
use Rattle.std.proofs.lemmas.Bool.Decides.{Decides-eqb}
use Rattle.std.proofs.lemmas.Option.{slice_get_within}
use Rattle.std.proofs.lemmas.Grind.{common_steps}
use Rattle.std.proofs.Common.{rules}
use Rattle.rg_metric.specs.declared.query.Agg.{Agg}
use Rattle.rg_metric.specs.declared.query.Window.{Window}
use Rattle.rg_metric.specs.contracts.query.AggPartialEq.TheImpl.{ghosts as agg_ghosts}
use Rattle.rg_metric.specs.contracts.query.AggEq.TheImpl.Laws.{laws-law as agg_law}
use Rattle.rg_metric.specs.contracts.query.WindowEq.TheImpl.Laws.{laws-law as window_law}
use Rattle.rg_plan.specs.declared.node.AggNode.{AggNode}
use Rattle.rg_plan.specs.SameLaws.{same_condition_equiv}
use Rattle.rg_plan.specs.Nodes.{Filtered, same_window, same_filter, same_agg, number_in}
use Rattle.rg_plan.proofs.Numbered.{IsAmong}

pub window_equiv : IsEquivalence same_window
window_equiv = window_law

pub filtered_equiv : IsEquivalence same_filter
filtered_equiv = and_equiv (on_equiv (λ (n : Filtered). n.window) nat_eq_equiv) (on_equiv (λ (n : Filtered). n.condition) same_condition_equiv)

pub agg_equiv : IsEquivalence same_agg
agg_equiv = and_equiv (on_equiv (λ (n : AggNode). n.group) nat_eq_equiv) (on_equiv (λ (n : AggNode). n.agg) agg_law)

pub same_window-true : (v w : Window) → same_window v w ≡ true → v ≡ w
same_window-true v w e = grind (arith, common_steps)

asked_agg-true : (a b : Agg) → agg_ghosts.eq a b ≡ true → a ≡ b
asked_agg-true a b e = search rules

pub same_agg-true : (a b : AggNode) → same_agg a b ≡ true → a ≡ b
same_agg-true a b e =
    let (group, agg) = and_parts _ _ e in
    let g = (Decides-eqb a.group b.group).0 group in
    let f = asked_agg-true a.agg b.agg agg in
    λ i. record { group = g i; agg = f i }

one-more : (n : ℕ) → 1 + n ≡ suc n
one-more n = omega arith

at_next : {K : Type 0} (m : K) (ms : List K) (n : ℕ) → slice_get (m ∷ ms) (1 + n) ≡ slice_get ms n
at_next m ms n = rw (one-more n) refl

module _ {K : Type 0} (same : K → K → Bool) (is : (a b : K) → same a b ≡ true → a ≡ b) where
  -- at the number of a member stands that member
  pub found : (members : List K) (x : K) → IsAmong same members x → slice_get members (number_in same members x) ≡ Some x
  found [] x h = absurd cc
  found (m ∷ ms) x h = elim (cases_Bool (same m x)) [
    | inl hit ↦ rw hit (ap Some (is m x hit))
    | inr miss ↦ rw miss (at_next m ms (number_in same ms x) ∙ found ms x (rw miss at h))
  ]

  pub within : (members : List K) (x : K) → IsAmong same members x → number_in same members x < length members
  within members x h = slice_get_within members (number_in same members x) x (found members x h)
