-- The values that events hand an aggregator, and what visits make of them.
use Rattle.std.proofs.Common.{◌≡◌, ℕ, zero, suc, ◌≤◌, ◌^◌, Bool, true, false, cond, List, [], ◌∷◌, ◌++◌, length, filter, Option, Some, None, refl, ap, sym, subst, ◌∙◌, arith, append_assoc, length-append}
use Rattle.std.specs.Prelude.{All}
use Rattle.std.proofs.lemmas.List.{append-nil}
use Rattle.std.proofs.lemmas.List.Elements.{All-nil, All-cons, All-head, All-tail, All-push, All-weaker, filter-append}
use Rattle.rg_event.specs.Tagged.{value_kind}
use Rattle.rg_event.specs.declared.event.Event.{Event}
use Rattle.rg_event.specs.declared.value.Kind.{Kind}
use Rattle.rg_event.specs.declared.value.Value.{Value}
use Rattle.rg_metric.specs.Replies.{and_value, values_in}
use Rattle.rg_state.specs.declared.table.Change.TheVariants.{Add, Remove}
use Rattle.rg_state.specs.Rows.{AreLike}
use Rattle.rg_window.specs.Passing.{at_edge}
use Rattle.rg_engine.specs.Deeds.{Deed, handed, deed_by, lead_by, Leads}
use Rattle.rg_engine.specs.Edges.{HandsOf}

-- what the events that pass this test hand an aggregator of a column
abbrev pub vals : ℕ → (Event → Bool) → List Event → List Value
vals field p xs = values_in field (filter p xs)

values-cons : (field : ℕ) (x : Event) (xs : List Event) → values_in field (x ∷ xs) ≡ and_value (handed field x) (values_in field xs)
values-cons zero x xs = refl
values-cons (suc n) x xs = refl

values-nil : (field : ℕ) → values_in field [] ≡ []
values-nil zero = refl
values-nil (suc n) = refl

and_value-append : (o : Option Value) (xs ys : List Value) → and_value o (xs ++ ys) ≡ and_value o xs ++ ys
and_value-append None xs ys = refl
and_value-append (Some v) xs ys = refl

values-append : (field : ℕ) (xs ys : List Event) → values_in field (xs ++ ys) ≡ values_in field xs ++ values_in field ys
values-append field [] ys = ap (λ v. v ++ values_in field ys) (sym (values-nil field))
values-append field (x ∷ xs) ys =
    values-cons field x (xs ++ ys) ∙ ap (and_value (handed field x)) (values-append field xs ys) ∙ and_value-append (handed field x) (values_in field xs) (values_in field ys)
    ∙ ap (λ v. v ++ values_in field ys) (sym (values-cons field x xs))

pub vals-append : (field : ℕ) (p : Event → Bool) (xs ys : List Event) → vals field p (xs ++ ys) ≡ vals field p xs ++ vals field p ys
vals-append field p xs ys = ap (values_in field) (filter-append p xs ys) ∙ values-append field (filter p xs) (filter p ys)

pub vals-nil : (field : ℕ) (p : Event → Bool) → vals field p [] ≡ []
vals-nil field p = values-nil field

cons_by : (field : ℕ) (p : Event → Bool) (x : Event) (xs : List Event) (b : Bool) → values_in field (cond b (x ∷ filter p xs) (filter p xs)) ≡ cond b (and_value (handed field x) (vals field p xs)) (vals field p xs)
cons_by field p x xs true = values-cons field x (filter p xs)
cons_by field p x xs false = refl

vals-cons : (field : ℕ) (p : Event → Bool) (x : Event) (xs : List Event) (b : Bool) (o : Option Value) → p x ≡ b → handed field x ≡ o → vals field p (x ∷ xs) ≡ cond b (and_value o (vals field p xs)) (vals field p xs)
vals-cons field p x xs b o e f = cons_by field p x xs (p x) ∙ ap (λ c. cond c (and_value (handed field x) (vals field p xs)) (vals field p xs)) e ∙ ap (λ v. cond b (and_value v (vals field p xs)) (vals field p xs)) f

few_by : (o : Option Value) (vs : List Value) (n : ℕ) (b : Bool) → length vs ≤ n → length (cond b (and_value o vs) vs) ≤ suc n
few_by None vs n true h = omega arith
few_by (Some v) vs n true h = omega arith
few_by o vs n false h = omega arith

pub vals-few : (field : ℕ) (p : Event → Bool) (xs : List Event) → length (vals field p xs) ≤ length xs
vals-few field p [] = omega (arith, ap length (vals-nil field p))
vals-few field p (x ∷ xs) = omega (arith, ap length (vals-cons field p x xs (p x) (handed field x) refl refl), few_by (handed field x) (vals field p xs) (length xs) (p x) (vals-few field p xs))

-- all values are of that kind
abbrev pub AreOf : Kind → List Value → Type 0
AreOf kind values = All (λ value. value_kind value ≡ kind) values

kind_by : (kind : Kind) (field : ℕ) (x : Event) (vs : List Value) (b : Bool) (o : Option Value) → handed field x ≡ o → HandsOf kind field x → AreOf kind vs → AreOf kind (cond b (and_value o vs) vs)
kind_by kind field x vs true None e h k = k
kind_by kind field x vs true (Some v) e h k = All-cons (λ value. value_kind value ≡ kind) v vs (h v e) k
kind_by kind field x vs false o e h k = k

pub vals-kind : (kind : Kind) (field : ℕ) (p : Event → Bool) (xs : List Event) → All (HandsOf kind field) xs → AreOf kind (vals field p xs)
vals-kind kind field p [] h = subst (AreOf kind) (sym (vals-nil field p)) (All-nil (λ value. value_kind value ≡ kind))
vals-kind kind field p (x ∷ xs) h =
    subst (AreOf kind) (sym (vals-cons field p x xs (p x) (handed field x) refl refl))
    (kind_by kind field x (vals field p xs) (p x) (handed field x) refl (All-head (HandsOf kind field) x xs h) (vals-kind kind field p xs (All-tail (HandsOf kind field) x xs h)))

like : (kind : Kind) (value : Value) (values : List Value) → value_kind value ≡ kind → AreOf kind values → AreLike value values
like kind value values e h = All-weaker (λ v. value_kind v ≡ kind) (λ v. value_kind v ≡ value_kind value) (λ v k. k ∙ sym e) values h

-- One edge

pub leads_none : (deed : ℕ → Event → Option Deed) (edge : ℕ) (xs : List Event) (values : List Value) → ((x : Event) → deed edge x ≡ None) → Leads deed (at_edge edge xs) values values
leads_none deed edge [] values h = refl
leads_none deed edge (x ∷ xs) values h = rw (h x) (leads_none deed edge xs values h)

module _ (deed : ℕ → Event → Option Deed) (edge field : ℕ) (p : Event → Bool) (kind : Kind) where
  add_by : (x : Event) (xs : List Event) (values : List Value) (b : Bool) (o : Option Value) → p x ≡ b → handed field x ≡ o → length (values ++ vals field p (x ∷ xs)) ≤ 2 ^ 40 → AreOf kind values → HandsOf kind field x →
      ((vs : List Value) → length (vs ++ vals field p xs) ≤ 2 ^ 40 → AreOf kind vs → Leads deed (at_edge edge xs) (vs ++ vals field p xs) vs) →
      lead_by (deed_by (Some Add) b o) (Leads deed (at_edge edge xs) (values ++ vals field p (x ∷ xs))) values
  add_by x xs values true None e f room k h next =
      let g : values ++ vals field p xs ≡ values ++ vals field p (x ∷ xs) = ap (λ v. values ++ v) (sym (vals-cons field p x xs true None e f)) in
      subst (λ v. Leads deed (at_edge edge xs) v values) g (next values (omega (arith, room, ap length g)) k)
  add_by x xs values true (Some value) e f room k h next =
      let g : (values ++ value ∷ []) ++ vals field p xs ≡ values ++ vals field p (x ∷ xs) =
      append_assoc values (value ∷ []) (vals field p xs) ∙ ap (λ v. values ++ v) (sym (vals-cons field p x xs true (Some value) e f)) in (
        omega (arith, room, ap length g, length-append (values ++ value ∷ []) (vals field p xs), length-append values (value ∷ [])),
        like kind value values (h value f) k,
        subst (λ v. Leads deed (at_edge edge xs) v (values ++ value ∷ [])) g
            (next (values ++ value ∷ []) (omega (arith, room, ap length g)) (All-push (λ v. value_kind v ≡ kind) values value k (h value f))),
      )
  add_by x xs values false o e f room k h next =
      let g : values ++ vals field p xs ≡ values ++ vals field p (x ∷ xs) = ap (λ v. values ++ v) (sym (vals-cons field p x xs false o e f)) in
      subst (λ v. Leads deed (at_edge edge xs) v values) g (next values (omega (arith, room, ap length g)) k)

  -- events that enter add their values at the back
  pub leads_add : (xs : List Event) (values : List Value) → length (values ++ vals field p xs) ≤ 2 ^ 40 → AreOf kind values → All (HandsOf kind field) xs → ((x : Event) → deed edge x ≡ deed_by (Some Add) (p x) (handed field x)) →
      Leads deed (at_edge edge xs) (values ++ vals field p xs) values
  leads_add [] values room k h is = sym (ap (λ v. values ++ v) (vals-nil field p) ∙ append-nil values)
  leads_add (x ∷ xs) values room k h is =
      rw (is x) (add_by x xs values (p x) (handed field x) refl refl room k (All-head (HandsOf kind field) x xs h) (λ vs r j. leads_add xs vs r j (All-tail (HandsOf kind field) x xs h) is))

  remove_by : (x : Event) (xs : List Event) (values : List Value) (b : Bool) (o : Option Value) → p x ≡ b → handed field x ≡ o → Leads deed (at_edge edge xs) values (vals field p xs ++ values) →
      lead_by (deed_by (Some Remove) b o) (Leads deed (at_edge edge xs) values) (vals field p (x ∷ xs) ++ values)
  remove_by x xs values true None e f next = subst (λ v. Leads deed (at_edge edge xs) values (v ++ values)) (sym (vals-cons field p x xs true None e f)) next
  remove_by x xs values true (Some value) e f next = (vals field p xs ++ values, ap (λ v. v ++ values) (vals-cons field p x xs true (Some value) e f), next)
  remove_by x xs values false o e f next = subst (λ v. Leads deed (at_edge edge xs) values (v ++ values)) (sym (vals-cons field p x xs false o e f)) next

  -- events that leave take theirs from the front
  pub leads_remove : (xs : List Event) (values : List Value) → ((x : Event) → deed edge x ≡ deed_by (Some Remove) (p x) (handed field x)) → Leads deed (at_edge edge xs) values (vals field p xs ++ values)
  leads_remove [] values is = ap (λ v. v ++ values) (vals-nil field p)
  leads_remove (x ∷ xs) values is = rw (is x) (remove_by x xs values (p x) (handed field x) refl refl (leads_remove xs values is))
