-- What is gathered by key, with one event more.
use Rattle.std.proofs.Common.{◌≡◌, ◌∙◌, ℕ, ◌+◌, ◌<◌, Bool, true, false, List, [], ◌∷◌, ◌++◌, length, take, get_or, Some, None, refl, ap, sym, subst}
use Rattle.std.specs.Prelude.{bytes_eq}
use Rattle.std.specs.BTreeMap.{BTreeMap, get, is_at}
use Rattle.std.specs.Map.{lookup}
use Rattle.std.specs.Cmp.Lexicographic.{slice_cmp, bytes_decides}
use Rattle.std.specs.Ordering.{nat_cmp}
use Rattle.std.proofs.lemmas.List.{append-nil, take_more}
use Rattle.rg_event.specs.declared.event.Event.{Event}
use Rattle.rg_event.specs.declared.value.Value.{Value}
use Rattle.rg_metric.specs.Replies.{key_of}
use Rattle.rg_group.specs.Keys.{key_bytes}
use Rattle.rg_plan.specs.Named.{Node}
use Rattle.rg_engine.specs.Deeds.{handed}
use Rattle.rg_engine.specs.Windows.{node_values}
use Rattle.rg_row_audit.specs.Gathering.{is_counted, IsGathered, AreGathered}
use Rattle.rg_row_audit.specs.declared.gathered.Gathered.{Gathered}
use Rattle.rg_row_audit.proofs.Values.{none_in, values_more, uncounted, unhanded, other_key, own_key}

abbrev pub Map : Type 0
Map = BTreeMap (List ℕ) Gathered

not_same : (a b : List ℕ) → bytes_eq a b ≡ false → b ≡ a → ⊥
not_same a b e same = let f = (bytes_decides a b).1 (sym same) in cc

-- without an event nothing is gathered
pub gathers_none : (node : Node) (t : ℕ) (map : Map) → map.entries ≡ [] → AreGathered node t [] map
gathers_none node t map empty key =
    subst (λ o. IsGathered node.agg.func o (node_values node key t [])) (sym (ap (lookup (is_at (slice_cmp nat_cmp key))) empty)) (none_in node.agg.field)

-- the event at an index behind those before it
pub gathers_next : (node : Node) (t : ℕ) (events : List Event) (i : ℕ) (x : Event) (map : Map) → i < length events → x ≡ get_or events i x
    → AreGathered node t (take i events ++ x ∷ []) map → AreGathered node t (take (i + 1) events) map
gathers_next node t events i x map within is gathered =
    subst (λ (l : List Event). AreGathered node t l map) (ap (λ e. take i events ++ e ∷ []) is ∙ sym (take_more events i x within)) gathered

module _ (node : Node) (t : ℕ) (front : List Event) (x : Event) (map : Map) (so_far : AreGathered node t front map) where
  same_values : ((key : List ℕ) → node_values node key t (x ∷ []) ≡ []) → AreGathered node t (front ++ x ∷ []) map
  same_values none key =
      subst (IsGathered node.agg.func (get (slice_cmp nat_cmp) map key))
      (sym (values_more node key t front x ∙ ap (λ (l : List Value). node_values node key t front ++ l) (none key) ∙ append-nil (node_values node key t front))) (so_far key)

  pub gathers_uncounted : is_counted node t x ≡ false → AreGathered node t (front ++ x ∷ []) map
  gathers_uncounted isnt = same_values (λ key. uncounted node key t x isnt)

  pub gathers_unhanded : handed node.agg.field x ≡ None → AreGathered node t (front ++ x ∷ []) map
  gathers_unhanded none = same_values (λ key. unhanded node key t x none)

  pub gathers_value : (new : Map) (value : Value) (at : List ℕ) → is_counted node t x ≡ true → handed node.agg.field x ≡ Some value → at ≡ key_bytes (key_of node.columns x)
      → ((values : List Value) → IsGathered node.agg.func (get (slice_cmp nat_cmp) map at) values → IsGathered node.agg.func (get (slice_cmp nat_cmp) new at) (values ++ value ∷ []))
      → ((other : List ℕ) → (other ≡ at → ⊥) → get (slice_cmp nat_cmp) new other ≡ get (slice_cmp nat_cmp) map other) → AreGathered node t (front ++ x ∷ []) new
  gathers_value new value at does some is here others key = by (bytes_eq at key) refl
    where
      own : AreGathered node t (front ++ x ∷ []) new → IsGathered node.agg.func (get (slice_cmp nat_cmp) new key) (node_values node key t (front ++ x ∷ []))
      own all = all key

      at_own : IsGathered node.agg.func (get (slice_cmp nat_cmp) new at) (node_values node at t (front ++ x ∷ []))
      at_own =
          subst (IsGathered node.agg.func (get (slice_cmp nat_cmp) new at))
          (sym (values_more node at t front x ∙ ap (λ (l : List Value). node_values node at t front ++ l) (own_key node at t x value does some ((bytes_decides (key_bytes (key_of node.columns x)) at).1 (sym is)))))
          (here (node_values node at t front) (so_far at))

      by : (b : Bool) → bytes_eq at key ≡ b → IsGathered node.agg.func (get (slice_cmp nat_cmp) new key) (node_values node key t (front ++ x ∷ []))
      by true same =
          let k : at ≡ key = (bytes_decides at key).0 same in
          subst (λ (l : List ℕ). IsGathered node.agg.func (get (slice_cmp nat_cmp) new l) (node_values node l t (front ++ x ∷ []))) k at_own
      by false other =
          let none : node_values node key t (x ∷ []) ≡ [] = other_key node key t x (subst (λ (l : List ℕ). bytes_eq l key ≡ false) is other) in
          subst (λ o. IsGathered node.agg.func o (node_values node key t (front ++ x ∷ []))) (sym (others key (not_same at key other)))
          (subst (IsGathered node.agg.func (get (slice_cmp nat_cmp) map key))
          (sym (values_more node key t front x ∙ ap (λ (l : List Value). node_values node key t front ++ l) none ∙ append-nil (node_values node key t front))) (so_far key))
