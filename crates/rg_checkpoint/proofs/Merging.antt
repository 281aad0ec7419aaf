-- Rows that rise, merged with changes that rise, are these rows with the changes in their places.
use Rattle.std.proofs.Common.{◌≡◌, inl, inr, ℕ, ◌<◌, ◌==◌, ◌&&◌, ◌||◌, cond, Bool, true, false, List, [], ◌∷◌, ◌++◌, Option, Some, None, refl, ap, sym, ◌∙◌, subst, arith, true≢false, ltb-true}
use Rattle.std.specs.Prelude.{nat_lt, is_some, bytes_eq, if◌then◌else◌}
use Rattle.std.specs.List.{All}
use Rattle.std.specs.Cmp.{first_so, second_so}
use Rattle.std.specs.Cmp.Lexicographic.{slice_cmp, bytes_decides, nat_list_cmp_total}
use Rattle.std.specs.Ordering.{nat_cmp, is_lt, is_eq, ordering_reverse}
use Rattle.std.specs.declared.cmp.Ordering.{Ordering}
use Rattle.std.specs.declared.cmp.Ordering.TheVariants.{Less, Equal, Greater}
use Rattle.std.proofs.lemmas.Bool.{ltb-false}
use Rattle.std.proofs.lemmas.Bool.Decides.{Decides-eqb}
use Rattle.std.proofs.lemmas.Map.Text.{is_eq-slice_cmp}
use Rattle.std.proofs.lemmas.List.Elements.{All-nil, All-cons, All-append, All-head, All-tail, All-weaker}
use Rattle.rg_agg.specs.Held.{Held}
use Rattle.rg_state.specs.Cells.{and_row}
use Rattle.rg_state.specs.Changes.{RowChange, applied}
use Rattle.rg_state.specs.Rows.{At, Entry, IsBelow, AreRising, is_at, at_in}
use Rattle.rg_state.proofs.Laws.{joined, not_same, tail_rising, rises_above, place_is, is_place, passed_over, stands_first, lists_one, lists_at}
use Rattle.rg_checkpoint.specs.Merging.{is_same, before, behind, begins_with, without, now_of, merged, all_found}
use Rattle.rg_checkpoint.specs.Reading.{is_below}
use Rattle.rg_checkpoint.specs.Updates.{AreApplied}
use Rattle.rg_checkpoint.proofs.Rising.{below_is}

-- of two that differ in their place one comes first

same_is : {X Y : Type 0} (a : At X) (b : At Y) → is_same a b ≡ true → (a.node ≡ b.node) × (a.key ≡ b.key)
same_is a b is = ((Decides-eqb a.node b.node).0 (first_so _ _ is), (bytes_decides a.key b.key).0 (second_so (a.node == b.node) _ is))

reversed_less : (o : Ordering) → is_lt o ≡ false → is_eq o ≡ false → is_lt (ordering_reverse o) ≡ true
reversed_less Less one two = cc
reversed_less Equal one two = cc
reversed_less Greater one two = refl

key_after : (a b : List ℕ) → is_lt (slice_cmp nat_cmp a b) ≡ false → bytes_eq a b ≡ false → is_lt (slice_cmp nat_cmp b a) ≡ true
key_after a b less same =
    let reversed = reversed_less (slice_cmp nat_cmp a b) less (is_eq-slice_cmp a b ∙ same) in
    subst (λ (o : Ordering). is_lt o ≡ true) (sym (nat_list_cmp_total.antisymm b a)) reversed

node_after : (a b : ℕ) → nat_lt a b ≡ false → (a ≡ b → ⊥) → b < a
node_after a b more apart = by (nat_lt b a) refl
  where
    by : (c : Bool) → nat_lt b a ≡ c → b < a
    by true is = ltb-true b a is
    by false is = absurd (apart (omega (arith, ltb-false a b more, ltb-false b a is)))

after_by : {X Y : Type 0} (a : At X) (b : At Y) (less same : Bool) → nat_lt a.node b.node ≡ less → (a.node == b.node) ≡ same → (less || (same && is_lt (slice_cmp nat_cmp a.key b.key))) ≡ false → (same && bytes_eq a.key b.key) ≡ false → IsBelow b a
after_by a b true same one two off other = cc
after_by a b false true one two off other = inr (sym ((Decides-eqb a.node b.node).0 two), key_after a.key b.key off other)
after_by a b false false one two off other = inl (node_after a.node b.node one (λ e. true≢false (sym ((Decides-eqb a.node b.node).1 e) ∙ two)))

comes_after : {X Y : Type 0} (a : At X) (b : At Y) → is_below a b ≡ false → is_same a b ≡ false → IsBelow b a
comes_after a b off other = after_by a b (nat_lt a.node b.node) (a.node == b.node) refl refl off other

-- what comes before a change, and what comes behind it

same_below : {X Y Z : Type 0} (a : At X) (b : At Y) (c : At Z) → a.node ≡ b.node → a.key ≡ b.key → IsBelow a c → IsBelow b c
same_below a b c node key (inl less) = inl (omega (arith, less, node))
same_below a b c node key (inr less) = inr (sym node ∙ less.0, subst (λ (k : List ℕ). is_lt (slice_cmp nat_cmp k c.key) ≡ true) key less.1)

module _ (change : RowChange) where
  abbrev Under : Entry → Type 0
  Under row = IsBelow row change

  abbrev Over : {X : Type 0} → At X → Type 0
  Over row = IsBelow change row

  before_under : (rows : List Entry) → All Under (before rows change)
  before_under [] = All-nil Under
  before_under (row ∷ rows) = by (is_below row change) refl (before_under rows)
    where
      by : (b : Bool) → is_below row change ≡ b → All Under (before rows change) → All Under (if b then row ∷ before rows change else [])
      by true is rest = All-cons Under row (before rows change) (below_is row change is) rest
      by false is rest = All-nil Under

  parted : (rows : List Entry) → rows ≡ before rows change ++ behind rows change
  parted [] = refl
  parted (row ∷ rows) = by (is_below row change) (parted rows)
    where
      by : (b : Bool) → rows ≡ before rows change ++ behind rows change → row ∷ rows ≡ (if b then row ∷ before rows change else []) ++ (if b then behind rows change else row ∷ rows)
      by true rest = ap (λ (l : List Entry). row ∷ l) rest
      by false rest = refl

  behind_rising : (rows : List Entry) → AreRising rows → AreRising (behind rows change)
  behind_rising [] rising = tt
  behind_rising (row ∷ rows) rising = by (is_below row change) (behind_rising rows (tail_rising row rows rising))
    where
      by : (b : Bool) → AreRising (behind rows change) → AreRising (if b then behind rows change else row ∷ rows)
      by true rest = rest
      by false rest = rising

  -- the first one behind doesn't come before it
  abbrev HasCome : List Entry → Type 0
  HasCome [] = Unit {0}
  HasCome (row ∷ rows) = is_below row change ≡ false

  behind_come : (rows : List Entry) → HasCome (behind rows change)
  behind_come [] = tt
  behind_come (row ∷ rows) = by (is_below row change) refl (behind_come rows)
    where
      by : (b : Bool) → is_below row change ≡ b → HasCome (behind rows change) → HasCome (if b then behind rows change else row ∷ rows)
      by true is rest = rest
      by false is rest = is

  without_over : (rows : List Entry) → AreRising rows → HasCome rows → All Over (without rows change)
  without_over [] rising come = All-nil Over
  without_over (row ∷ rows) rising come = by (is_same row change) refl
    where
      over : IsBelow change row → All Over rows
      over less = All-weaker (IsBelow row) Over (λ other more. joined change row other less more) rows (rises_above row rows rising)

      by : (b : Bool) → is_same row change ≡ b → All Over (if b then rows else row ∷ rows)
      by true is = All-weaker (IsBelow row) Over (λ other more. same_below row change other (same_is row change is).0 (same_is row change is).1 more) rows (rises_above row rows rising)
      by false is = All-cons Over row rows (comes_after row change come is) (over (comes_after row change come is))

  without_rising : (rows : List Entry) → AreRising rows → AreRising (without rows change)
  without_rising [] rising = tt
  without_rising (row ∷ rows) rising = by (is_same row change)
    where
      by : (b : Bool) → AreRising (if b then rows else row ∷ rows)
      by true = tail_rising row rows rising
      by false = rising

  all_before : (P : Entry → Type 0) (rows : List Entry) → All P rows → All P (before rows change)
  all_before P [] all = all
  all_before P (row ∷ rows) all = by (is_below row change) (all_before P rows (All-tail P row rows all))
    where
      by : (b : Bool) → All P (before rows change) → All P (if b then row ∷ before rows change else [])
      by true rest = All-cons P row (before rows change) (All-head P row rows all) rest
      by false rest = All-nil P

  all_behind : (P : Entry → Type 0) (rows : List Entry) → All P rows → All P (behind rows change)
  all_behind P [] all = all
  all_behind P (row ∷ rows) all = by (is_below row change) (all_behind P rows (All-tail P row rows all))
    where
      by : (b : Bool) → All P (behind rows change) → All P (if b then behind rows change else row ∷ rows)
      by true rest = rest
      by false rest = all

  all_without : (P : Entry → Type 0) (rows : List Entry) → All P rows → All P (without rows change)
  all_without P [] all = all
  all_without P (row ∷ rows) all = by (is_same row change)
    where
      by : (b : Bool) → All P (if b then rows else row ∷ rows)
      by true = All-tail P row rows all
      by false = all

  -- what is behind it, where the row that changed is left out
  abbrev pub rest_of : List Entry → List Entry
  rest_of rows = without (behind rows change) change

  rest_over : (rows : List Entry) → AreRising rows → All Over (rest_of rows)
  rest_over rows rising = without_over (behind rows change) (behind_rising rows rising) (behind_come rows)

  rest_rising : (rows : List Entry) → AreRising rows → AreRising (rest_of rows)
  rest_rising rows rising = without_rising (behind rows change) (behind_rising rows rising)

  all_rest : (P : Entry → Type 0) (rows : List Entry) → All P rows → All P (rest_of rows)
  all_rest P rows all = all_without P (behind rows change) (all_behind P rows all)

  all_now : (P : Entry → Type 0) (held : Option Held) (rows : List Entry) → ((h : Held) → held ≡ Some h → P (record { node = change.node; key = change.key; held = h })) → All P rows → All P (and_row change.node change.key held [] ++ rows)
  all_now P None rows one all = all
  all_now P (Some held) rows one all = All-cons P (record { node = change.node; key = change.key; held = held }) rows (one held refl) all

  -- by node and key

  module _ (node : ℕ) (key : List ℕ) where
    abbrev either : Option Held → Option Held → Option Held
    either None other = other
    either (Some held) other = Some held

    at_joined : (front back : List Entry) → at_in (front ++ back) node key ≡ either (at_in front node key) (at_in back node key)
    at_joined [] back = refl
    at_joined (row ∷ front) back = by (is_at node key row) (at_joined front back)
      where
        by : (b : Bool) → at_in (front ++ back) node key ≡ either (at_in front node key) (at_in back node key) → cond b (Some row.held) (at_in (front ++ back) node key) ≡ either (cond b (Some row.held) (at_in front node key)) (at_in back node key)
        by true rest = refl
        by false rest = rest

    none_under : (rows : List Entry) → All Under rows → is_at node key change ≡ true → at_in rows node key ≡ None
    none_under [] all is = refl
    none_under (row ∷ rows) all is =
        let at = place_is node key change is in
        passed_over row rows node key (λ same. (let other = place_is node key row same in not_same row change (All-head Under row rows all) (other.0 ∙ sym at.0) (other.1 ∙ sym at.1)))
        ∙ none_under rows (All-tail Under row rows all) is

    none_over : {X : Type 0} (rows : List (At X)) → All Over rows → is_at node key change ≡ true → at_in rows node key ≡ None
    none_over [] all is = refl
    none_over (row ∷ rows) all is =
        let at = place_is node key change is in
        passed_over row rows node key (λ same. (let other = place_is node key row same in not_same change row (All-head Over row rows all) (at.0 ∙ sym other.0) (at.1 ∙ sym other.1)))
        ∙ none_over rows (All-tail Over row rows all) is

    -- nothing comes both before it and behind it
    found_under : (rows : List Entry) (held : Held) → All Under rows → at_in rows node key ≡ Some held → (row : Entry) × (is_at node key row ≡ true) × IsBelow row change
    found_under [] held all found = cc
    found_under (row ∷ rows) held all found = by (is_at node key row) refl found (λ later. found_under rows held (All-tail Under row rows all) later)
      where
        by : (b : Bool) → is_at node key row ≡ b → cond b (Some row.held) (at_in rows node key) ≡ Some held → (at_in rows node key ≡ Some held → (r : Entry) × (is_at node key r ≡ true) × IsBelow r change) → (r : Entry) × (is_at node key r ≡ true) × IsBelow r change
        by true is found rest = (row, is, All-head Under row rows all)
        by false is found rest = rest found

    found_over : {X : Type 0} (rows : List (At X)) (held : X) → All Over rows → at_in rows node key ≡ Some held → (row : At X) × (is_at node key row ≡ true) × IsBelow change row
    found_over {X} [] held all found = cc
    found_over {X} (row ∷ rows) held all found = by (is_at node key row) refl found (λ later. found_over rows held (All-tail Over row rows all) later)
      where
        by : (b : Bool) → is_at node key row ≡ b → cond b (Some row.held) (at_in rows node key) ≡ Some held → (at_in rows node key ≡ Some held → (r : At X) × (is_at node key r ≡ true) × IsBelow change r) → (r : At X) × (is_at node key r ≡ true) × IsBelow change r
        by true is found rest = (row, is, All-head Over row rows all)
        by false is found rest = rest found

    not_both : {X : Type 0} (low : List Entry) (high : List (At X)) (a : Held) (b : X) → All Under low → All Over high → at_in low node key ≡ Some a → at_in high node key ≡ Some b → ⊥
    not_both low high a b under over one two =
        let x = found_under low a under one in
        let y = found_over high b over two in
        let p = place_is node key x.0 x.1 in
        let q = place_is node key y.0 y.1 in
        not_same x.0 y.0 (joined x.0 change y.0 x.2 y.2) (p.0 ∙ sym q.0) (p.1 ∙ sym q.1)

    none_low : {X : Type 0} (low : List Entry) (high : List (At X)) (b : X) → All Under low → All Over high → at_in high node key ≡ Some b → at_in low node key ≡ None
    none_low low high b under over two = by (at_in low node key) refl
      where
        by : (x : Option Held) → at_in low node key ≡ x → x ≡ None
        by None is = refl
        by (Some held) is = absurd (not_both low high held b under over is two)

    at_without : (rows : List Entry) → is_at node key change ≡ false → at_in (without rows change) node key ≡ at_in rows node key
    at_without [] apart = refl
    at_without (row ∷ rows) apart = by (is_same row change) refl
      where
        by : (b : Bool) → is_same row change ≡ b → at_in (if b then rows else row ∷ rows) node key ≡ at_in (row ∷ rows) node key
        by true same =
            let s = same_is row change same in
            sym (passed_over row rows node key (λ is. (let p = place_is node key row is in true≢false (sym (is_place node key change (sym s.0 ∙ p.0) (sym s.1 ∙ p.1)) ∙ apart))))
        by false same = refl

    at_now_here : (held : Option Held) → is_at node key change ≡ true → at_in (and_row change.node change.key held []) node key ≡ held
    at_now_here None is = refl
    at_now_here (Some held) is = ap (λ b. cond b (Some held) None) is

    at_now_apart : (held : Option Held) → is_at node key change ≡ false → at_in (and_row change.node change.key held []) node key ≡ None
    at_now_apart None is = refl
    at_now_apart (Some held) is = ap (λ b. cond b (Some held) None) is

    at_rows : (rows : List Entry) → at_in rows node key ≡ either (at_in (before rows change) node key) (at_in (behind rows change) node key)
    at_rows rows = ap (λ (l : List Entry). at_in l node key) (parted rows) ∙ at_joined (before rows change) (behind rows change)

    either_none : (x : Option Held) → either x None ≡ x
    either_none None = refl
    either_none (Some held) = refl

    -- one change more
    module _ (rows : List Entry) (changes : List RowChange) (rising : AreRising rows) (over : All Over changes)
        (later : at_in (merged (rest_of rows) changes) node key ≡ applied (at_in (rest_of rows) node key) (at_in changes node key)) where
      abbrev all : List Entry
      all = before rows change ++ (now_of change ++ merged (rest_of rows) changes)

      spread : at_in all node key ≡ either (at_in (before rows change) node key) (either (at_in (now_of change) node key) (at_in (merged (rest_of rows) changes) node key))
      spread = at_joined (before rows change) (now_of change ++ merged (rest_of rows) changes)
          ∙ ap (either (at_in (before rows change) node key)) (at_joined (now_of change) (merged (rest_of rows) changes))

      apart_by : (x : Option (Option Held)) → at_in changes node key ≡ x → is_at node key change ≡ false
          → either (at_in (before rows change) node key) (applied (at_in (behind rows change) node key) x) ≡ applied (either (at_in (before rows change) node key) (at_in (behind rows change) node key)) x
      apart_by None is off = refl
      apart_by (Some now) is off =
          ap (λ (o : Option Held). either o now) (none_low (before rows change) changes now (before_under rows) over is)

      here_all : is_at node key change ≡ true → at_in all node key ≡ applied (at_in rows node key) (at_in (change ∷ changes) node key)
      here_all is =
          let low : at_in (before rows change) node key ≡ None = none_under (before rows change) (before_under rows) is in
          let rest : at_in (rest_of rows) node key ≡ None = none_over (rest_of rows) (rest_over rows rising) is in
          let more : at_in changes node key ≡ None = none_over changes over is in
          let last : at_in (merged (rest_of rows) changes) node key ≡ None = later ∙ ap (λ (o : Option Held). applied o (at_in changes node key)) rest ∙ ap (applied None) more in
          spread ∙ ap (λ (o : Option Held). either o (either (at_in (now_of change) node key) (at_in (merged (rest_of rows) changes) node key))) low
          ∙ ap (either (at_in (now_of change) node key)) last ∙ either_none (at_in (now_of change) node key) ∙ at_now_here change.held is
          ∙ sym (ap (applied (at_in rows node key)) (stands_first change changes node key is))

      apart_all : is_at node key change ≡ false → at_in all node key ≡ applied (at_in rows node key) (at_in (change ∷ changes) node key)
      apart_all off =
          spread
          ∙ ap (λ (o : Option Held). either (at_in (before rows change) node key) (either o (at_in (merged (rest_of rows) changes) node key))) (at_now_apart change.held off)
          ∙ ap (either (at_in (before rows change) node key)) (later ∙ ap (λ (o : Option Held). applied o (at_in changes node key)) (at_without (behind rows change) off))
          ∙ apart_by (at_in changes node key) refl off
          ∙ ap (λ (o : Option Held). applied o (at_in changes node key)) (sym (at_rows rows))
          ∙ sym (ap (applied (at_in rows node key)) (passed_over change changes node key (λ on. true≢false (sym on ∙ off))))

      one_more : at_in all node key ≡ applied (at_in rows node key) (at_in (change ∷ changes) node key)
      one_more = by (is_at node key change) refl
        where
          by : (b : Bool) → is_at node key change ≡ b → at_in all node key ≡ applied (at_in rows node key) (at_in (change ∷ changes) node key)
          by true is = here_all is
          by false off = apart_all off

-- all of them

abbrev IsOverBoth : {Z : Type 0} → At Z → List Entry → List RowChange → Type 0
IsOverBoth low rows changes = All (IsBelow low) rows × All (IsBelow low) changes

merged_over : {Z : Type 0} (low : At Z) (rows : List Entry) (changes : List RowChange) → All (IsBelow low) rows → All (IsBelow low) changes → All (IsBelow low) (merged rows changes)
merged_over low rows [] one two = one
merged_over low rows (change ∷ changes) one two =
    All-append (IsBelow low) (before rows change) (now_of change ++ merged (rest_of change rows) changes) (all_before change (IsBelow low) rows one)
    (all_now change (IsBelow low) change.held (merged (rest_of change rows) changes) (λ h is. All-head (IsBelow low) change changes two)
    (merged_over low (rest_of change rows) changes (all_rest change (IsBelow low) rows one) (All-tail (IsBelow low) change changes two)))

rising_first : (row : Entry) (rows : List Entry) → All (IsBelow row) rows → AreRising rows → AreRising (row ∷ rows)
rising_first row [] less rising = tt
rising_first row (next ∷ rows) less rising = (All-head (IsBelow row) next rows less, rising)

rising_joined : (change : RowChange) (front back : List Entry) → AreRising front → All (λ (row : Entry). IsBelow row change) front → ((row : Entry) → IsBelow row change → All (IsBelow row) back) → AreRising back → AreRising (front ++ back)
rising_joined change [] back one under over two = two
rising_joined change (row ∷ front) back one under over two =
    rising_first row (front ++ back)
    (All-append (IsBelow row) front back (rises_above row front one) (over row (All-head (λ (r : Entry). IsBelow r change) row front under)))
    (rising_joined change front back (tail_rising row front one) (All-tail (λ (r : Entry). IsBelow r change) row front under) over two)

before_rising : (change : RowChange) (rows : List Entry) → AreRising rows → AreRising (before rows change)
before_rising change [] rising = tt
before_rising change (row ∷ rows) rising = by (is_below row change) (before_rising change rows (tail_rising row rows rising))
  where
    by : (b : Bool) → AreRising (before rows change) → AreRising (if b then row ∷ before rows change else [])
    by true rest = rising_first row (before rows change) (all_before change (IsBelow row) rows (rises_above row rows rising)) rest
    by false rest = tt

now_rising : (change : RowChange) (held : Option Held) (rows : List Entry) → All (IsBelow change) rows → AreRising rows → AreRising (and_row change.node change.key held [] ++ rows)
now_rising change None rows over rising = rising
now_rising change (Some held) rows over rising = rising_first (record { node = change.node; key = change.key; held = held }) rows over rising

pub merged_rising : (rows : List Entry) (changes : List RowChange) → AreRising rows → AreRising changes → AreRising (merged rows changes)
merged_rising rows [] rising others = rising
merged_rising rows (change ∷ changes) rising others =
    let over = merged_over change (rest_of change rows) changes (rest_over change rows rising) (rises_above change changes others) in
    rising_joined change (before rows change) (now_of change ++ merged (rest_of change rows) changes) (before_rising change rows rising) (before_under change rows)
    (λ row less. all_now change (IsBelow row) change.held (merged (rest_of change rows) changes) (λ h is. less) (All-weaker (IsBelow change) (IsBelow row) (λ other more. joined row change other less more) (merged (rest_of change rows) changes) over))
    (now_rising change change.held (merged (rest_of change rows) changes) over (merged_rising (rest_of change rows) changes (rest_rising change rows rising) (tail_rising change changes others)))

pub merged_at : (rows : List Entry) (changes : List RowChange) (node : ℕ) (key : List ℕ) → AreRising rows → AreRising changes → at_in (merged rows changes) node key ≡ applied (at_in rows node key) (at_in changes node key)
merged_at rows [] node key rising others = refl
merged_at rows (change ∷ changes) node key rising others =
    one_more change node key rows changes rising (rises_above change changes others) (merged_at (rest_of change rows) changes node key (rest_rising change rows rising) (tail_rising change changes others))

-- whether each row that is gone was there

some_either : (change : RowChange) (node : ℕ) (key : List ℕ) (x y : Option Held) → is_some y ≡ true → is_some (either change node key x y) ≡ true
some_either change node key None y is = is
some_either change node key (Some held) y is = refl

begun_there : (change : RowChange) (rows : List Entry) (node : ℕ) (key : List ℕ) → begins_with rows change ≡ true → is_at node key change ≡ true → is_some (at_in rows node key) ≡ true
begun_there change [] node key is at = cc
begun_there change (row ∷ rows) node key is at =
    let s = same_is row change is in
    let p = place_is node key change at in
    ap is_some (stands_first row rows node key (is_place node key row (s.0 ∙ p.0) (s.1 ∙ p.1)))

or_so : (a b : Bool) → (a || b) ≡ true → a ≡ false → b ≡ true
or_so true b is off = cc
or_so false b is off = is

gone_is : (now : Option Held) → Some now ≡ Some None → is_some now ≡ false
gone_is None is = refl
gone_is (Some held) is = cc

pub found_gone : (rows : List Entry) (changes : List RowChange) (node : ℕ) (key : List ℕ) → AreRising rows → AreRising changes → all_found rows changes ≡ true → at_in changes node key ≡ Some None → is_some (at_in rows node key) ≡ true
found_gone rows [] node key rising others found gone = cc
found_gone rows (change ∷ changes) node key rising others found gone = by (is_at node key change) refl gone (λ is. found_gone (rest_of change rows) changes node key (rest_rising change rows rising) (tail_rising change changes others) (second_so (is_some change.held || begins_with (behind rows change) change) _ found) is)
  where
    back : is_some (at_in (behind rows change) node key) ≡ true → is_some (at_in rows node key) ≡ true
    back is = ap is_some (at_rows change node key rows) ∙ some_either change node key (at_in (before rows change) node key) (at_in (behind rows change) node key) is

    by : (b : Bool) → is_at node key change ≡ b → cond b (Some change.held) (at_in changes node key) ≡ Some None → (at_in changes node key ≡ Some None → is_some (at_in (rest_of change rows) node key) ≡ true) → is_some (at_in rows node key) ≡ true
    by true at is rest = back (begun_there change (behind rows change) node key (or_so _ _ (first_so _ _ found) (gone_is change.held is)) at)
    by false apart is rest = back (sym (ap is_some (at_without change node key (behind rows change) apart)) ∙ rest is)

-- a row that is gone and wasn't there
pub record IsLost (rows : List Entry) (changes : List RowChange) : Type 0 where
  pub node : ℕ
  pub key : List ℕ
  pub gone : at_in changes node key ≡ Some None
  pub none : at_in rows node key ≡ None

none_begun : (change : RowChange) (rows : List Entry) → AreRising rows → HasCome change rows → begins_with rows change ≡ false → at_in rows change.node change.key ≡ None
none_begun change [] rising come off = refl
none_begun change (row ∷ rows) rising come off =
    let less = comes_after row change come off in
    none_over change change.node change.key (row ∷ rows)
    (All-cons (IsBelow change) row rows less (All-weaker (IsBelow row) (IsBelow change) (λ other more. joined change row other less more) rows (rises_above row rows rising)))
    (is_place change.node change.key change refl refl)

held_none : (held : Option Held) → is_some held ≡ false → held ≡ None
held_none None is = refl
held_none (Some held) is = cc

apart_from : (change : RowChange) (changes : List RowChange) (node : ℕ) (key : List ℕ) → All (IsBelow change) changes → at_in changes node key ≡ Some None → (b : Bool) → is_at node key change ≡ b → b ≡ false
apart_from change changes node key over gone true is =
    let none : at_in changes node key ≡ None = none_over change node key changes over is in
    let never : None ≡ Some None = sym none ∙ gone in cc
apart_from change changes node key over gone false is = refl

pub lost_by : (rows : List Entry) (changes : List RowChange) → AreRising rows → AreRising changes → all_found rows changes ≡ false → IsLost rows changes
lost_by rows [] rising others off = cc
lost_by rows (change ∷ changes) rising others off = by (is_some change.held) (begins_with (behind rows change) change) refl refl off (λ rest. lost_by (rest_of change rows) changes (rest_rising change rows rising) (tail_rising change changes others) rest)
  where
    here : is_at change.node change.key change ≡ true
    here = is_place change.node change.key change refl refl

    first : is_some change.held ≡ false → begins_with (behind rows change) change ≡ false → IsLost rows (change ∷ changes)
    first gone absent = record {
      node = change.node;
      key = change.key;
      gone = stands_first change changes change.node change.key here ∙ ap (λ (o : Option Held). Some o) (held_none change.held gone);
      none = at_rows change change.node change.key rows
          ∙ ap (λ (o : Option Held). either change change.node change.key o (at_in (behind rows change) change.node change.key)) (none_under change change.node change.key (before rows change) (before_under change rows) here)
          ∙ none_begun change (behind rows change) (behind_rising change rows rising) (behind_come change rows) absent;
    }

    later : IsLost (rest_of change rows) changes → IsLost rows (change ∷ changes)
    later lost =
        let over = rises_above change changes others in
        let apart : is_at lost.node lost.key change ≡ false = apart_from change changes lost.node lost.key over lost.gone (is_at lost.node lost.key change) refl in
        record {
          node = lost.node;
          key = lost.key;
          gone = passed_over change changes lost.node lost.key (λ on. true≢false (sym on ∙ apart)) ∙ lost.gone;
          none = at_rows change lost.node lost.key rows
              ∙ ap (λ (o : Option Held). either change lost.node lost.key o (at_in (behind rows change) lost.node lost.key)) (none_low change lost.node lost.key (before rows change) changes None (before_under change rows) over lost.gone)
              ∙ sym (at_without change lost.node lost.key (behind rows change) apart) ∙ lost.none;
        }

    by : (a b : Bool) → is_some change.held ≡ a → begins_with (behind rows change) change ≡ b → ((a || b) && all_found (rest_of change rows) changes) ≡ false → (all_found (rest_of change rows) changes ≡ false → IsLost (rest_of change rows) changes) → IsLost rows (change ∷ changes)
    by true b one two off rest = later (rest off)
    by false true one two off rest = later (rest off)
    by false false one two off rest = first one two

-- what the merging gives is what it should, and nothing else is

pub merged_applied : (rows : List Entry) (changes : List RowChange) → AreRising rows → AreRising changes → all_found rows changes ≡ true → AreApplied rows changes (merged rows changes)
merged_applied rows changes rising others found = record {
  gone = λ node key is. found_gone rows changes node key rising others found is;
  rows = λ node key. merged_at rows changes node key rising others;
  rising = merged_rising rows changes rising others;
}

pub not_applied : (rows : List Entry) (changes : List RowChange) (new : List Entry) → AreRising rows → AreRising changes → all_found rows changes ≡ false → AreApplied rows changes new → ⊥
not_applied rows changes new rising others off is =
    let lost = lost_by rows changes rising others off in
    let some = is.gone lost.node lost.key lost.gone in
    true≢false (sym some ∙ ap is_some lost.none)

pub applied_one : (rows : List Entry) (changes : List RowChange) (a b : List Entry) → AreApplied rows changes a → AreApplied rows changes b → a ≡ b
applied_one rows changes a b one two =
    lists_one (at_in a) (at_in b) a b (λ node key. two.rows node key ∙ sym (one.rows node key)) (lists_at a one.rising) (lists_at b two.rising)

-- a property of each row before and of each change holds of each row then
pub merged_all : (P : Entry → Type 0) (Q : RowChange → Type 0) (rows : List Entry) (changes : List RowChange) → ((change : RowChange) (held : Held) → change.held ≡ Some held → Q change → P (record { node = change.node; key = change.key; held = held }))
    → All P rows → All Q changes → All P (merged rows changes)
merged_all P Q rows [] step one two = one
merged_all P Q rows (change ∷ changes) step one two =
    All-append P (before rows change) (now_of change ++ merged (rest_of change rows) changes) (all_before change P rows one)
    (all_now change P change.held (merged (rest_of change rows) changes) (λ h is. step change h is (All-head Q change changes two))
    (merged_all P Q (rest_of change rows) changes step (all_rest change P rows one) (All-tail Q change changes two)))
