-- Nodes up to the last one of a plan, and rows beyond it.
use Rattle.std.proofs.Common.{◌≡◌, ◌∙◌, ◌⊎◌, inl, inr, ℕ, ◌+◌, ◌<◌, ◌≤◌, ◌==◌, ◌&&◌, Bool, true, false, List, [], ◌∷◌, ◌++◌, length, take, get_or, Some, None, refl, ap, sym, subst, arith, if◌then◌else◌}
use Rattle.std.specs.Prelude.{bytes_eq}
use Rattle.std.proofs.lemmas.Bool.{cases_lt}
use Rattle.std.proofs.lemmas.Bool.Decides.{Decides-eqb}
use Rattle.std.proofs.lemmas.Option.{slice_get_past}
use Rattle.rg_event.specs.Rising.{last_time}
use Rattle.rg_event.specs.declared.event.Event.{Event}
use Rattle.rg_agg.specs.Held.{Held}
use Rattle.rg_plan.specs.Named.{node_at, under_agg}
use Rattle.rg_plan.specs.Plans.{Tasks}
use Rattle.std.specs.Prelude.{option_and_then}
use Rattle.rg_state.specs.Rows.{Entry, IsBelow, AreRising}
use Rattle.rg_checkpoint.specs.Entries.{entry_of, entries_of}
use Rattle.rg_checkpoint.specs.declared.base.Row.{Row}
use Rattle.rg_engine.specs.Standing.{RowIs}
use Rattle.rg_row_audit.specs.Rows.{row_in, AreRight, AreAllRight, IsLeastWrong}
use Rattle.rg_row_audit.proofs.Keeps.{parted}
use Rattle.rg_row_audit.proofs.Listed.{is_row_of, row_other, found_row}

not_node : (a b : ℕ) → b < a → (a == b) ≡ false
not_node a b less = by (a == b) refl
  where
    by : (c : Bool) → (a == b) ≡ c → (a == b) ≡ false
    by true is = absurd (omega (arith, less, (Decides-eqb a b).0 is))
    by false is = is

not_row : (row : Entry) (m : ℕ) (key : List ℕ) → m < row.node → is_row_of row m key ≡ false
not_row row m key less = by (row.node == m) (not_node row.node m less)
  where
    by : (b : Bool) → b ≡ false → (b && bytes_eq row.key key) ≡ false
    by true e = cc
    by false e = refl

at_least : (a b : Entry) → IsBelow a b → a.node ≤ b.node
at_least a b (inl less) = omega (arith, less)
at_least a b (inr same) = omega (arith, same.0)

-- rows that rise from one have none of a node below its
none_from : (row : Entry) (more : List Entry) (m : ℕ) (key : List ℕ) → AreRising (row ∷ more) → m < row.node → row_in (row ∷ more) m key ≡ None
none_from row [] m key rising less = ap (λ b. if b then Some row.held else None) (not_row row m key less)
none_from row (next ∷ more) m key rising less =
    ap (λ b. if b then Some row.held else row_in (next ∷ more) m key) (not_row row m key less)
    ∙ none_from next more m key rising.1 (let l = at_least row next rising.0 in omega (arith, l, less))

rising_back : (front rest : List Entry) → AreRising (front ++ rest) → AreRising rest
rising_back [] rest rising = rising
rising_back (e ∷ []) [] rising = tt
rising_back (e ∷ []) (r ∷ rest) rising = rising.1
rising_back (e ∷ (next ∷ front)) rest rising = rising_back (next ∷ front) rest rising.1

none_front : (front rest : List Entry) (m : ℕ) (key : List ℕ) → row_in front m key ≡ None → row_in (front ++ rest) m key ≡ row_in rest m key
none_front [] rest m key none = refl
none_front (e ∷ front) rest m key none = by (is_row_of e m key) none (λ is. none_front front rest m key is)
  where
    by : (b : Bool) → (if b then Some e.held else row_in front m key) ≡ None → (row_in front m key ≡ None → row_in (front ++ rest) m key ≡ row_in rest m key) → (if b then Some e.held else row_in (front ++ rest) m key) ≡ row_in rest m key
    by true is more = cc
    by false is more = more is

-- the row at an index, where none in front is of a node beyond the plan's
module _ (rows : List Row) (count i : ℕ) (row : Row) (within : i < length rows) (is : row ≡ get_or rows i row)
    (so_far : (m : ℕ) (key : List ℕ) → count ≤ m → row_in (entries_of (take i rows)) m key ≡ None) where
  pub goes_on : row.node < count → (m : ℕ) (key : List ℕ) → count ≤ m → row_in (entries_of (take (i + 1) rows)) m key ≡ None
  goes_on below m key past =
      let p = parted rows i row within is in
      ap (λ l. row_in l m key) p.next
      ∙ row_other (entries_of (take i rows)) (entry_of row) m key (other (row.node == m) refl)
      ∙ so_far m key past
    where
      other : (b : Bool) → (row.node == m) ≡ b → is_row_of (entry_of row) m key ≡ false
      other true same = absurd (omega (arith, below, past, (Decides-eqb row.node m).0 same))
      other false isnt = apart (row.node == m) isnt
        where
          apart : (b : Bool) → b ≡ false → (b && bytes_eq row.key key) ≡ false
          apart true e = cc
          apart false e = refl

  module _ (rising : AreRising (entries_of rows)) where
    pub is_there : row_in (entries_of rows) row.node row.key ≡ Some (entry_of row).held
    is_there =
        let p = parted rows i row within is in
        ap (λ l. row_in l row.node row.key) p.all ∙ found_row (entries_of (take i rows)) (entry_of row) p.more (subst AreRising p.all rising)

    pub is_least : (m : ℕ) (key : List ℕ) → count ≤ m → m < row.node → row_in (entries_of rows) m key ≡ None
    is_least m key past less =
        let p = parted rows i row within is in
        ap (λ l. row_in l m key) p.all
        ∙ none_front (entries_of (take i rows)) (entry_of row ∷ p.more) m key (so_far m key past)
        ∙ none_from (entry_of row) p.more m key (rising_back (entries_of (take i rows)) (entry_of row ∷ p.more) (subst AreRising p.all rising)) less

-- of a node beyond the plan's last one there is none
no_node : (plan : Tasks) (n : ℕ) → length plan.aggs ≤ n → node_at plan n ≡ None
no_node plan n past = ap (option_and_then (under_agg plan)) (slice_get_past plan.aggs n past)

module _ (rows : List Entry) (plan : Tasks) (events : List Event) where
  pub beyond_right : (n : ℕ) → length plan.aggs ≤ n → ((key : List ℕ) → row_in rows n key ≡ None) → AreRight rows plan events n
  beyond_right n past none key = subst (λ o. RowIs o key (last_time events) events (row_in rows n key)) (sym (no_node plan n past)) (none key)

  pub beyond_wrong : (n : ℕ) (key : List ℕ) (held : Held) → length plan.aggs ≤ n → row_in rows n key ≡ Some held → AreRight rows plan events n → ⊥
  beyond_wrong n key held past some right =
      let none : row_in rows n key ≡ None = subst (λ o. RowIs o key (last_time events) events (row_in rows n key)) (no_node plan n past) (right key) in
      let e : Some held ≡ None = sym some ∙ none in cc

  module _ (count : ℕ) (all : count ≡ length plan.aggs) (so_far : (m : ℕ) → m < count → AreRight rows plan events m) where
    pub all_right : ((n : ℕ) (key : List ℕ) → count ≤ n → row_in rows n key ≡ None) → AreAllRight rows plan events
    all_right none n = by (cases_lt n count)
      where
        by : (n < count) ⊎ (count ≤ n) → AreRight rows plan events n
        by (inl less) = so_far n less
        by (inr past) = beyond_right n (omega (arith, all, past)) (λ key. none n key past)

    pub least_beyond : (n : ℕ) (key : List ℕ) (held : Held) → count ≤ n → row_in rows n key ≡ Some held
        → ((m : ℕ) (key : List ℕ) → count ≤ m → m < n → row_in rows m key ≡ None) → IsLeastWrong rows plan events n
    least_beyond n key held past some none = record {
      wrong = beyond_wrong n key held (omega (arith, all, past)) some;
      below = below;
    }
      where
        below : (m : ℕ) → m < n → AreRight rows plan events m
        below m less = by (cases_lt m count)
          where
            by : (m < count) ⊎ (count ≤ m) → AreRight rows plan events m
            by (inl in_plan) = so_far m in_plan
            by (inr beyond) = beyond_right m (omega (arith, all, beyond)) (λ key. none m key beyond less)
