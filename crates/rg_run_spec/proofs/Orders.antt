-- The order of the events that are accepted, and how many there are.
use Rattle.std.proofs.Common.{◌≡◌, ℕ, ◌+◌, ◌≤◌, ◌<◌, max, nat_lt, Bool, true, false, cond, List, [], ◌∷◌, ◌++◌, length, refl, ap, sym, ◌∙◌, subst, arith, length-append}
use Rattle.std.specs.List.{filter}
use Rattle.std.proofs.lemmas.List.{append-nil}
use Rattle.std.proofs.lemmas.Bool.{lt-ltb, le-ltb, ltb-false}
use Rattle.rg_event.specs.declared.event.Event.{Event}
use Rattle.rg_event.specs.Rising.{next_offset, IsRising}
use Rattle.rg_event.proofs.Laws.{IsRising-push}
use Rattle.rg_run_spec.proofs.Offsets.{AreFrom, from_less, next_behind}
use Rattle.rg_run_spec.specs.Output.{Terms}
use Rattle.rg_run_spec.specs.Ahead.{after_line, events_from}
use Rattle.rg_run_spec.proofs.Steps.{Item, Adds, added}
use Rattle.rg_run_spec.proofs.Steps.Adds.{none_below, none, one}

rising_by : (terms : Terms) (events : List Event) (offset : ℕ) (item : Item) → IsRising events → Adds terms events offset item → IsRising (after_line terms.basis events offset item)
rising_by terms events offset item rising (none_below _ stays _) = subst IsRising (sym stays) rising
rising_by terms events offset item rising (none _ stays) = subst IsRising (sym stays) rising
rising_by terms events offset item rising (one e after a is) = subst IsRising (sym is) (IsRising-push events e rising (record { offset = omega (arith, after, a.at); time = a.in_time }))

pub rising-goes : (terms : Terms) (events : List Event) (offset : ℕ) (items : List Item) → IsRising events → IsRising (events_from terms.basis events offset items)
rising-goes terms events offset [] rising = rising
rising-goes terms events offset (item ∷ items) rising = rising-goes terms (after_line terms.basis events offset item) (offset + 1) items (rising_by terms events offset item rising (added terms events offset item))

count_by : (terms : Terms) (events : List Event) (offset : ℕ) (item : Item) → Adds terms events offset item → length (after_line terms.basis events offset item) ≤ max (length events) terms.basis.most
count_by terms events offset item (none_below _ stays _) = omega (arith, ap length stays)
count_by terms events offset item (none _ stays) = omega (arith, ap length stays)
count_by terms events offset item (one e after a is) = omega (arith, ap length is, length-append events (e ∷ []), a.room)

pub count-goes : (terms : Terms) (events : List Event) (offset : ℕ) (items : List Item) → length (events_from terms.basis events offset items) ≤ max (length events) terms.basis.most
count-goes terms events offset [] = omega arith
count-goes terms events offset (item ∷ items) = omega (arith, count_by terms events offset item (added terms events offset item), count-goes terms (after_line terms.basis events offset item) (offset + 1) items)

-- The events of a rising list that are below some offset begin it.

abbrev pub is_below : ℕ → Event → Bool
is_below n e = nat_lt e.offset n

rising_tail : (x : Event) (events : List Event) → IsRising (x ∷ events) → IsRising events
rising_tail x [] rising = tt
rising_tail x (y ∷ events) rising = rising.2

rising_from : (x : Event) (events : List Event) → IsRising (x ∷ events) → AreFrom x.offset events
rising_from x [] rising = tt
rising_from x (y ∷ events) rising = (omega (arith, rising.0), from_less x.offset y.offset events (omega (arith, rising.0)) (rising_from y events rising.2))

none_below_from : (n m : ℕ) (events : List Event) → n ≤ m → AreFrom m events → filter (is_below n) events ≡ []
none_below_from n m [] below from = refl
none_below_from n m (e ∷ events) below from = rw (le-ltb e.offset n (omega (arith, below, from.0))) (none_below_from n m events below from.1)

prefix_by : (n : ℕ) (x : Event) (events : List Event) → IsRising (x ∷ events) → (rest : List Event) → filter (is_below n) events ++ rest ≡ events → (b : Bool) → is_below n x ≡ b → (behind : List Event) × (cond b (x ∷ filter (is_below n) events) (filter (is_below n) events) ++ behind ≡ x ∷ events)
prefix_by n x events rising rest is true t = (rest, ap (λ l. x ∷ l) is)
prefix_by n x events rising rest is false t = (x ∷ events, ap (λ l. l ++ x ∷ events) (none_below_from n x.offset events (ltb-false _ _ t) (rising_from x events rising)))

pub below-prefix : (n : ℕ) (events : List Event) → IsRising events → (rest : List Event) × (filter (is_below n) events ++ rest ≡ events)
below-prefix n [] rising = ([], refl)
below-prefix n (x ∷ events) rising =
    let more = below-prefix n events (rising_tail x events rising) in
    prefix_by n x events rising more.0 more.1 (is_below n x) refl

-- Events behind some others.

rising_above : (x : Event) (events : List Event) → IsRising (x ∷ events) → AreFrom (x.offset + 1) events
rising_above x [] rising = tt
rising_above x (y ∷ events) rising = (omega (arith, rising.0), from_less (x.offset + 1) y.offset events (omega (arith, rising.0)) (rising_from y events rising.2))

from_zero : (events : List Event) → AreFrom 0 events
from_zero [] = tt
from_zero (x ∷ events) = (omega arith, from_zero events)

pub rising_back : (front back : List Event) → IsRising (front ++ back) → AreFrom (next_offset front) back
rising_back [] back rising = from_zero back
rising_back (x ∷ []) back rising = rising_above x back rising
rising_back (x ∷ (y ∷ front)) back rising = rising_back (y ∷ front) back rising.2

-- The events below the next offset of a front of a rising list are that front.

all_by : (n : ℕ) (x : Event) (events : List Event) → x.offset < n → filter (is_below n) events ≡ events → filter (is_below n) (x ∷ events) ≡ x ∷ events
all_by n x events low all = rw (lt-ltb x.offset n low) (ap (λ l. x ∷ l) all)

below_all : (n : ℕ) (events : List Event) → IsRising events → next_offset events ≤ n → filter (is_below n) events ≡ events
below_all n [] rising within = refl
below_all n (x ∷ []) rising within = all_by n x [] (omega (arith, within)) refl
below_all n (x ∷ (y ∷ events)) rising within =
    let more = below_all n (y ∷ events) rising.2 within in
    all_by n x (y ∷ events) (omega (arith, rising.0, within, next_behind y.offset [] y events (omega arith, rising_from y events rising.2))) more

below_append : (n : ℕ) (front back : List Event) → filter (is_below n) (front ++ back) ≡ filter (is_below n) front ++ filter (is_below n) back
below_append n [] back = refl
below_append n (x ∷ front) back = by_test n x (filter (is_below n) front) (filter (is_below n) back) (filter (is_below n) (front ++ back)) (below_append n front back) (is_below n x)
  where
    by_test : (n : ℕ) (x : Event) (front back both : List Event) → both ≡ front ++ back → (b : Bool) → cond b (x ∷ both) both ≡ cond b (x ∷ front) front ++ back
    by_test n x front back both is true = ap (λ l. x ∷ l) is
    by_test n x front back both is false = is

pub prefix_rising : (front back : List Event) → IsRising (front ++ back) → IsRising front
prefix_rising [] back rising = tt
prefix_rising (x ∷ []) back rising = tt
prefix_rising (x ∷ (y ∷ front)) back rising = (rising.0, rising.1, prefix_rising (y ∷ front) back rising.2)

pub below-is_prefix : (front back : List Event) → IsRising (front ++ back) → filter (is_below (next_offset front)) (front ++ back) ≡ front
below-is_prefix front back rising =
    below_append (next_offset front) front back
    ∙ ap (λ l. l ++ filter (is_below (next_offset front)) back) (below_all (next_offset front) front (prefix_rising front back rising) (omega arith))
    ∙ ap (λ l. front ++ l) (none_below_from (next_offset front) (next_offset front) back (omega arith) (rising_back front back rising))
    ∙ append-nil front
