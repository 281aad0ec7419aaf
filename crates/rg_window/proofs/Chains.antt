-- The visits of one edge, by one event more.
use Rattle.std.proofs.Common.{◌≡◌, ℕ, ◌<◌, ◌+◌, true, false, List, [], ◌∷◌, ◌++◌, length, drop, get_or, Some, None, Result, Ok, Err, refl, inl, inr, ap, sym, ◌∙◌, arith, add-one, append_assoc, length-append, drop-cons}
use Rattle.std.specs.Prelude.{slice_get, IsErrOf}
use Rattle.std.proofs.lemmas.Option.{slice_get_within, slice_get-get_or, slice_get_cases}
use Rattle.std.proofs.lemmas.List.{drop_all}
use Rattle.rg_event.specs.declared.event.Event.{Event}
use Rattle.rg_past.specs.declared.past.PastFault.{PastFault}
use Rattle.rg_window.specs.declared.edges.MoveFault.{MoveFault}
use Rattle.rg_window.specs.declared.edges.MoveFault.TheVariants.{Past}
use Rattle.rg_window.specs.Passing.{has_come, passed, at_edge}
use Rattle.rg_window.specs.Chain.{Visited, Went, Refused}

same_some : {A : Type 0} {x y : A} → Some x ≡ Some y → x ≡ y
same_some e = cc

none_some : {A : Type 0} {x : A} → None ≡ Some x → ⊥
none_some e = cc

-- an answer that is Ok is no fault
pub ok_err : {A E : Type 0} {x : A} {e : E} → Ok x ≡ Err e → ⊥
ok_err e = cc

same_past : {A F : Type 0} (f e : PastFault) → ◌≡◌ {A = Result A (MoveFault F)} (Err (Past f)) (Err (Past e)) → f ≡ e
same_past f e is = cc

-- the past's fault by that of the move
pub past_err : {A B F : Type 0} (f e : PastFault) → IsErrOf {T = A} {E = MoveFault F} (Err (Past f)) (Past e) → IsErrOf {T = B} (Err f) e
past_err f e is = ap (λ (x : PastFault). Err x) (same_past f e is)

drop-get : (events : List Event) (i : ℕ) (x : Event) → slice_get events i ≡ Some x → drop i events ≡ x ∷ drop (i + 1) events
drop-get events i x e =
    let within : i < length events = slice_get_within events i x e in
    let same : get_or events i x ≡ x = same_some (sym (slice_get-get_or events i x within) ∙ e) in
    rw (add-one i, drop-cons events i x, same) refl

-- an event that the edge has come to is the first one that it passes
pub passed-come : (events : List Event) (t offset i : ℕ) (x : Event) → slice_get events i ≡ Some x → has_come offset t x ≡ true → passed events t offset i ≡ x ∷ passed events t offset (i + 1)
passed-come events t offset i x e come = rw (drop-get events i x e) (rw come refl)

-- at an event that it hasn't come to it passes none
pub passed-stays : (events : List Event) (t offset i : ℕ) (x : Event) → slice_get events i ≡ Some x → has_come offset t x ≡ false → passed events t offset i ≡ []
passed-stays events t offset i x e stays = rw (drop-get events i x e) (rw stays refl)

-- nor at the end
pub passed-end : (events : List Event) (t offset i : ℕ) → slice_get events i ≡ None → passed events t offset i ≡ []
passed-end events t offset i e = elim (slice_get_cases events i).1 [ inl h ↦ absurd (none_some (sym e ∙ h.2)) | inr h ↦ rw (drop_all i events h.0) refl ]

pub Visited-more : {V F : Type 0} (step : V → ℕ → Event → Result Unit F → V → Type 0) (visits : List (ℕ × Event)) (v u w : V) (edge : ℕ) (x : Event) → Visited step v visits u → step u edge x (Ok tt) w → Visited step v (visits ++ (edge, x) ∷ []) w
Visited-more step [] v u w edge x h k = (w, rw h k, refl)
Visited-more step (y ∷ visits) v u w edge x h k = (h.0, h.1, Visited-more step visits h.0 u w edge x h.2 k)

pub Visited-append : {V F : Type 0} (step : V → ℕ → Event → Result Unit F → V → Type 0) (first second : List (ℕ × Event)) (v u w : V) → Visited step v first u → Visited step u second w → Visited step v (first ++ second) w
Visited-append step [] second v u w h k = rw h k
Visited-append step (y ∷ first) second v u w h k = (h.0, h.1, Visited-append step first second h.0 u w h.2 k)

pub at_edge-append : (edge : ℕ) (first second : List Event) → at_edge edge (first ++ second) ≡ at_edge edge first ++ at_edge edge second
at_edge-append edge [] second = refl
at_edge-append edge (x ∷ first) second = ap (λ visits. (edge, x) ∷ visits) (at_edge-append edge first second)

pub Went-more : {V F : Type 0} (step : V → ℕ → Event → Result Unit F → V → Type 0) (edge : ℕ) (v u w : V) (p q r : ℕ) (told : Type 0) (all rest rest' : List Event) (x : Event) →
    Went step edge v u p q told all rest → step u edge x (Ok tt) w → r ≡ q + 1 → (told → rest ≡ x ∷ rest') → Went step edge v w p r told all rest'
Went-more step edge v u w p q r told all rest rest' x h k n e = record {
  events = h.events ++ x ∷ [];
  chain = rw (at_edge-append edge h.events (x ∷ [])) (Visited-more step (at_edge edge h.events) v u w edge x h.chain k);
  number = omega (arith, n, h.number, length-append h.events (x ∷ []));
  known = λ s. h.known s ∙ ap (λ y. h.events ++ y) (e s) ∙ sym (append_assoc h.events (x ∷ []) rest');
}

-- the edge stands still from here on
pub Went-end : {V F : Type 0} (step : V → ℕ → Event → Result Unit F → V → Type 0) (edge : ℕ) (v u : V) (p q r : ℕ) (told : Type 0) (all rest : List Event) →
    Went step edge v u p q told all rest → r ≡ q → (told → rest ≡ []) → Went step edge v u p r told all []
Went-end step edge v u p q r told all rest h n e = record {
  events = h.events;
  chain = h.chain;
  number = n ∙ h.number;
  known = λ s. h.known s ∙ ap (λ y. h.events ++ y) (e s);
}

pub Refused-next : {V F : Type 0} (step : V → ℕ → Event → Result Unit F → V → Type 0) (edge : ℕ) (v u w : V) (p q r : ℕ) (told : Type 0) (all rest rest' : List Event) (x : Event) (fault : F) →
    Went step edge v u p q told all rest → step u edge x (Err fault) w → r ≡ q → (told → rest ≡ x ∷ rest') → Refused step edge v w p r told all fault
Refused-next step edge v u w p q r told all rest rest' x fault h k n e = record {
  events = h.events;
  last = x;
  between = u;
  chain = h.chain;
  refused = k;
  number = n ∙ h.number;
  known = λ s. (rest', h.known s ∙ ap (λ y. h.events ++ y) (e s));
}
