-- What a window does with the events that pass an edge.
use Rattle.std.proofs.Common.{◌≡◌, ◌⊎◌, ℕ, zero, suc, ◌<◌, ◌+◌, nat_le, Bool, true, false, not, ◌&&◌, ◌||◌, cond, List, [], ◌∷◌, length, get_or, take, drop, filter, Option, Some, None, refl, inl, inr, ap, ◌∙◌, arith}
use Rattle.std.specs.Prelude.{◌==◌, if◌then◌else◌}
use Rattle.std.proofs.lemmas.Bool.Decides.{Decides-eqb}
use Rattle.std.proofs.lemmas.List.Elements.{filter_agree}
use Rattle.rg_event.specs.declared.event.Event.{Event}
use Rattle.rg_metric.specs.declared.query.Window.{Window}
use Rattle.rg_metric.specs.Replies.{in_window, has_left, values_in}
use Rattle.rg_plan.specs.Named.{Node}
use Rattle.rg_plan.specs.Offsets.{AreRising}
use Rattle.rg_state.specs.declared.table.Change.TheVariants.{Add, Remove}
use Rattle.rg_window.specs.Passing.{has_come, passing}
use Rattle.rg_engine.specs.Windows.{passes_at, node_values}
use Rattle.rg_engine.specs.Standing.{has_edge, leaves_at}
use Rattle.rg_engine.specs.Deeds.{side_of, deed_by, node_deed, handed}
use Rattle.rg_engine.proofs.Slices.{TimesFrom, true_false, window_front, window_slice}
use Rattle.rg_engine.proofs.Plain.{is_false}
use Rattle.rg_engine.proofs.Values.{vals}

same : (n : ℕ) → (n == n) ≡ true
same n = (Decides-eqb n n).1 refl

apart : (n m : ℕ) → (n ≡ m → ⊥) → (n == m) ≡ false
apart n m h = is_false (n == m) (λ e. h ((Decides-eqb n m).0 e))

-- Offsets that rise

pub which : (i j : ℕ) → (i < j) ⊎ (i ≡ j) ⊎ (j < i)
which i j = grind arith

rising_first : (x : ℕ) (offsets : List ℕ) (k : ℕ) → AreRising (x ∷ offsets) → k < length offsets → x < get_or offsets k 0
rising_first x [] k h l = absurd (omega arith)
rising_first x (y ∷ offsets) zero h l = h.0
rising_first x (y ∷ offsets) (suc k) h l = let m = rising_first y offsets k h.1 (omega arith) in omega (arith, h.0, m)

rising_rest : (x : ℕ) (offsets : List ℕ) → AreRising (x ∷ offsets) → AreRising offsets
rising_rest x [] h = tt
rising_rest x (y ∷ offsets) h = h.1

pub rising_at : (offsets : List ℕ) (i j : ℕ) → AreRising offsets → i < j → j < length offsets → get_or offsets i 0 < get_or offsets j 0
rising_at [] i j h l k = absurd (omega arith)
rising_at (x ∷ offsets) i zero h l k = absurd (omega arith)
rising_at (x ∷ offsets) zero (suc j) h l k = rising_first x offsets j h (omega arith)
rising_at (x ∷ offsets) (suc i) (suc j) h l k = rising_at offsets i j (rising_rest x offsets h) (omega arith) (omega arith)

-- an offset stands at one place
pub one_place : (offsets : List ℕ) (i j : ℕ) → AreRising offsets → i < length offsets → j < length offsets → get_or offsets i 0 ≡ get_or offsets j 0 → i ≡ j
one_place offsets i j h l k e = elim (which i j) [
  | inl below ↦ let r = rising_at offsets i j h below k in absurd (omega arith)
  | inr (inl here) ↦ here
  | inr (inr above) ↦ let r = rising_at offsets j i h above l in absurd (omega arith)
]

pub lower_place : (offsets : List ℕ) (i j : ℕ) → AreRising offsets → i < length offsets → get_or offsets i 0 < get_or offsets j 0 → i < j
lower_place offsets i j h l e = elim (which i j) [
  | inl below ↦ below
  | inr (inl here) ↦ let r = ap (λ k. get_or offsets k 0) here in absurd (omega (arith, r, e))
  | inr (inr above) ↦ let r = rising_at offsets j i h above l in absurd (omega arith)
]

-- Edges of a window

or_true : (b : Bool) → (b || true) ≡ true
or_true true = refl
or_true false = refl

leaves_same : (window : Window) (lasts : ℕ) (o : Option ℕ) → o ≡ Some lasts → leaves_at window o (window.delay + lasts) ≡ true
leaves_same window lasts o e = ap (λ v. leaves_at window v (window.delay + lasts)) e ∙ same (window.delay + lasts)

pub has_in : (window : Window) → has_edge window window.delay ≡ true
has_in window = ap (λ b. b || leaves_at window window.length window.delay) (same window.delay)

pub has_out : (window : Window) (lasts : ℕ) → window.length ≡ Some lasts → has_edge window (window.delay + lasts) ≡ true
has_out window lasts e = ap (λ b. (window.delay == (window.delay + lasts)) || b) (leaves_same window lasts window.length e) ∙ or_true (window.delay == (window.delay + lasts))

leaves_not : (window : Window) (o : Option ℕ) (offset : ℕ) → ((lasts : ℕ) → o ≡ Some lasts → window.delay + lasts ≡ offset → ⊥) → leaves_at window o offset ≡ false
leaves_not window None offset h = refl
leaves_not window (Some lasts) offset h = apart (window.delay + lasts) offset (h lasts refl)

pub has_not : (window : Window) (offset : ℕ) → (window.delay ≡ offset → ⊥) → ((lasts : ℕ) → window.length ≡ Some lasts → window.delay + lasts ≡ offset → ⊥) → has_edge window offset ≡ false
has_not window offset h k = ap (λ b. b || leaves_at window window.length offset) (apart window.delay offset h) ∙ leaves_not window window.length offset k

side_in : (window : Window) → side_of window window.delay ≡ Some Add
side_in window = ap (λ b. if b then Some Add else (if leaves_at window window.length window.delay then Some Remove else None)) (same window.delay)

side_out : (window : Window) (lasts : ℕ) → window.length ≡ Some lasts → 0 < lasts → side_of window (window.delay + lasts) ≡ Some Remove
side_out window lasts e l =
    ap (λ b. if b then Some Add else (if leaves_at window window.length (window.delay + lasts) then Some Remove else None)) (apart window.delay (window.delay + lasts) (λ s. absurd (omega arith)))
    ∙ ap (λ b. if b then Some Remove else None) (leaves_same window lasts window.length e)

side_by : (a b : Bool) → (a || b) ≡ false → (if a then Some Add else (if b then Some Remove else None)) ≡ None
side_by true b h = absurd (true_false h)
side_by false true h = absurd (true_false h)
side_by false false h = refl

side_none : (window : Window) (offset : ℕ) → has_edge window offset ≡ false → side_of window offset ≡ None
side_none window offset h = side_by (window.delay == offset) (leaves_at window window.length offset) h

-- the deed at the edge where events enter
pub deed_in : (node : Node) (key : List ℕ) (x : Event) → node_deed node key node.window.delay x ≡ deed_by (Some Add) (passes_at node key x) (handed node.agg.field x)
deed_in node key x = ap (λ side. deed_by side (passes_at node key x) (handed node.agg.field x)) (side_in node.window)

-- at the one where they leave
pub deed_out : (node : Node) (key : List ℕ) (x : Event) (lasts : ℕ) → node.window.length ≡ Some lasts → 0 < lasts → node_deed node key (node.window.delay + lasts) x ≡ deed_by (Some Remove) (passes_at node key x) (handed node.agg.field x)
deed_out node key x lasts e l = ap (λ side. deed_by side (passes_at node key x) (handed node.agg.field x)) (side_out node.window lasts e l)

-- and at no other
pub deed_none : (node : Node) (key : List ℕ) (x : Event) (offset : ℕ) → has_edge node.window offset ≡ false → node_deed node key offset x ≡ None
deed_none node key x offset h = ap (λ side. deed_by side (passes_at node key x) (handed node.agg.field x)) (side_none node.window offset h)

-- Values in a window

both_by : (a b : Event → Bool) (x : Event) (xs : List Event) (c : Bool) → filter (λ y. a y && b y) xs ≡ filter b (filter a xs) →
    cond (c && b x) (x ∷ filter (λ y. a y && b y) xs) (filter (λ y. a y && b y) xs) ≡ filter b (cond c (x ∷ filter a xs) (filter a xs))
both_by a b x xs true h = ap (λ v. cond (b x) (x ∷ v) v) h
both_by a b x xs false h = h

filter_both : (a b : Event → Bool) (xs : List Event) → filter (λ y. a y && b y) xs ≡ filter b (filter a xs)
filter_both a b [] = refl
filter_both a b (x ∷ xs) = both_by a b x xs (a x) (filter_both a b xs)

in_slice : (window : Window) (lasts : ℕ) (t : ℕ) (x : Event) → window.length ≡ Some lasts → in_window window x t ≡ (has_come window.delay t x && not (has_come (window.delay + lasts) t x))
in_slice window lasts t x e =
    ap (λ o. nat_le (x.time + window.delay) t && not (has_left o (x.time + window.delay) t)) e
    ∙ ap (λ n. nat_le (x.time + window.delay) t && not (nat_le n t)) (omega arith)

in_front : (window : Window) (t : ℕ) (x : Event) → window.length ≡ None → in_window window x t ≡ (has_come window.delay t x && true)
in_front window t x e = ap (λ o. nat_le (x.time + window.delay) t && not (has_left o (x.time + window.delay) t)) e

-- the values of a node are those of a slice of the events
pub values_slice : (node : Node) (key : List ℕ) (t lasts : ℕ) (xs : List Event) → node.window.length ≡ Some lasts → TimesFrom 0 xs →
    node_values node key t xs ≡ vals node.agg.field (passes_at node key) (drop (length (passing (node.window.delay + lasts) t xs)) (take (length (passing node.window.delay t xs)) xs))
values_slice node key t lasts xs e times =
    ap (values_in node.agg.field) (filter_both (λ x. in_window node.window x t) (passes_at node key) xs)
    ∙ ap (vals node.agg.field (passes_at node key))
    (filter_agree (λ x. in_window node.window x t) (λ x. has_come node.window.delay t x && not (has_come (node.window.delay + lasts) t x)) (λ x. in_slice node.window lasts t x e) xs
    ∙ window_slice node.window.delay (node.window.delay + lasts) t 0 xs (omega arith) times)

pub values_front : (node : Node) (key : List ℕ) (t : ℕ) (xs : List Event) → node.window.length ≡ None → TimesFrom 0 xs →
    node_values node key t xs ≡ vals node.agg.field (passes_at node key) (take (length (passing node.window.delay t xs)) xs)
values_front node key t xs e times =
    ap (values_in node.agg.field) (filter_both (λ x. in_window node.window x t) (passes_at node key) xs)
    ∙ ap (vals node.agg.field (passes_at node key))
    (filter_agree (λ x. in_window node.window x t) (λ x. has_come node.window.delay t x && true) (λ x. in_front node.window t x e) xs
    ∙ window_front node.window.delay t 0 xs times)
