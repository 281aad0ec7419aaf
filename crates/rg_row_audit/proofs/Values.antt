-- The values of a node, with one event more.
use Rattle.std.proofs.Common.{◌≡◌, ◌∙◌, ℕ, zero, suc, Bool, true, false, cond, List, [], ◌∷◌, ◌++◌, Some, None, ◌&&◌, refl, ap}
use Rattle.std.specs.Prelude.{bytes_eq}
use Rattle.rg_event.specs.declared.event.Event.{Event}
use Rattle.rg_event.specs.declared.value.Value.{Value}
use Rattle.rg_metric.specs.Conditions.{passes}
use Rattle.rg_metric.specs.Replies.{and_value, in_window, key_of, values_in}
use Rattle.rg_group.specs.Keys.{key_bytes}
use Rattle.rg_plan.specs.Named.{Node}
use Rattle.rg_engine.specs.Deeds.{handed}
use Rattle.rg_engine.specs.Windows.{counts_at, node_values}
use Rattle.rg_engine.proofs.Laws.{vals-append}
use Rattle.rg_row_audit.specs.Gathering.{is_counted}

pub values_more : (node : Node) (key : List ℕ) (t : ℕ) (front : List Event) (x : Event) → node_values node key t (front ++ x ∷ []) ≡ node_values node key t front ++ node_values node key t (x ∷ [])
values_more node key t front x = vals-append node.agg.field (counts_at node key t) front (x ∷ [])

pub none_in : (field : ℕ) → values_in field [] ≡ []
none_in zero = refl
none_in (suc n) = refl

one_in : (field : ℕ) (x : Event) → values_in field (x ∷ []) ≡ and_value (handed field x) []
one_in zero x = refl
one_in (suc n) x = refl

-- an event that doesn't count has none
not_counted : (node : Node) (key : List ℕ) (t : ℕ) (x : Event) (b : Bool) → counts_at node key t x ≡ b → b ≡ false → node_values node key t (x ∷ []) ≡ []
not_counted node key t x b is isnt =
    ap (λ c. values_in node.agg.field (cond c (x ∷ []) [])) (is ∙ isnt) ∙ none_in node.agg.field

-- one that counts has what it hands
is_in : (node : Node) (key : List ℕ) (t : ℕ) (x : Event) → counts_at node key t x ≡ true → node_values node key t (x ∷ []) ≡ and_value (handed node.agg.field x) []
is_in node key t x is = ap (λ c. values_in node.agg.field (cond c (x ∷ []) [])) is ∙ one_in node.agg.field x

and_all : (a b c : Bool) → (a && b) ≡ true → c ≡ true → (a && (b && c)) ≡ true
and_all true true true h k = refl
and_all true true false h k = k
and_all true false c h k = cc
and_all false b c h k = cc

and_not : (a b c : Bool) → (a && b) ≡ false → (a && (b && c)) ≡ false
and_not true true c h = cc
and_not true false c h = refl
and_not false b c h = refl

and_other : (a b c : Bool) → c ≡ false → (a && (b && c)) ≡ false
and_other true true c h = h
and_other true false c h = refl
and_other false b c h = refl

module _ (node : Node) (key : List ℕ) (t : ℕ) (x : Event) where
  pub uncounted : is_counted node t x ≡ false → node_values node key t (x ∷ []) ≡ []
  uncounted isnt = not_counted node key t x (counts_at node key t x) refl (and_not (in_window node.window x t) (passes node.condition x) (bytes_eq (key_bytes (key_of node.columns x)) key) isnt)

  pub other_key : bytes_eq (key_bytes (key_of node.columns x)) key ≡ false → node_values node key t (x ∷ []) ≡ []
  other_key isnt = not_counted node key t x (counts_at node key t x) refl (and_other (in_window node.window x t) (passes node.condition x) (bytes_eq (key_bytes (key_of node.columns x)) key) isnt)

  pub unhanded : handed node.agg.field x ≡ None → node_values node key t (x ∷ []) ≡ []
  unhanded none = by (counts_at node key t x) refl
    where
      by : (b : Bool) → counts_at node key t x ≡ b → node_values node key t (x ∷ []) ≡ []
      by true is = is_in node key t x is ∙ ap (λ o. and_value o []) none
      by false is = not_counted node key t x (counts_at node key t x) refl is

  pub own_key : (value : Value) → is_counted node t x ≡ true → handed node.agg.field x ≡ Some value → bytes_eq (key_bytes (key_of node.columns x)) key ≡ true → node_values node key t (x ∷ []) ≡ value ∷ []
  own_key value does some same =
      is_in node key t x (and_all (in_window node.window x t) (passes node.condition x) (bytes_eq (key_bytes (key_of node.columns x)) key) does same)
      ∙ ap (λ o. and_value o []) some
