-- The row of a node and a key in a list of rows.
use Rattle.std.proofs.Common.{◌≡◌, ℕ, ◌==◌, ◌&&◌, Bool, true, false, List, [], ◌∷◌, ◌++◌, Some, None, refl, ap, sym, subst, append_assoc, if◌then◌else◌}
use Rattle.std.specs.Prelude.{◌↔◌, bytes_eq}
use Rattle.std.specs.Cmp.Lexicographic.{bytes_decides}
use Rattle.std.proofs.lemmas.Bool.Decides.{Decides-eqb}
use Rattle.std.proofs.lemmas.List.{append-nil}
use Rattle.rg_event.specs.Rising.{last_time}
use Rattle.rg_event.specs.declared.event.Event.{Event}
use Rattle.rg_agg.specs.Held.{Held}
use Rattle.rg_plan.specs.Named.{node_at}
use Rattle.rg_plan.specs.Plans.{Tasks}
use Rattle.rg_state.specs.Rows.{Entry, AreRising, Lists}
use Rattle.rg_engine.specs.Standing.{RowIs}
use Rattle.rg_restore.specs.Truthful.{AreRowsFor}
use Rattle.rg_restore.proofs.Laws.{rising_front, free, one_more, none_listed, one_table}
use Rattle.rg_row_audit.specs.Rows.{row_in, AreAllRight}

-- the row is of this node and key
abbrev pub is_row_of : Entry → ℕ → List ℕ → Bool
is_row_of row n key = row.node == n && bytes_eq row.key key

-- a row of another node or key behind others
pub row_other : (front : List Entry) (row : Entry) (n : ℕ) (key : List ℕ) → is_row_of row n key ≡ false → row_in (front ++ row ∷ []) n key ≡ row_in front n key
row_other [] row n key other = ap (λ b. if b then Some row.held else None) other
row_other (e ∷ front) row n key other = by (is_row_of e n key) (row_other front row n key other)
  where
    by : (b : Bool) → row_in (front ++ row ∷ []) n key ≡ row_in front n key → (if b then Some e.held else row_in (front ++ row ∷ []) n key) ≡ (if b then Some e.held else row_in front n key)
    by true rest = refl
    by false rest = rest

-- a row behind others of which none is of its node and key
pub row_own : (front : List Entry) (row : Entry) (n : ℕ) (key : List ℕ) → is_row_of row n key ≡ true → row_in front n key ≡ None → row_in (front ++ row ∷ []) n key ≡ Some row.held
row_own [] row n key own none = ap (λ b. if b then Some row.held else None) own
row_own (e ∷ front) row n key own none = by (is_row_of e n key) none (λ is. row_own front row n key own is)
  where
    by : (b : Bool) → (if b then Some e.held else row_in front n key) ≡ None → (row_in front n key ≡ None → row_in (front ++ row ∷ []) n key ≡ Some row.held) → (if b then Some e.held else row_in (front ++ row ∷ []) n key) ≡ Some row.held
    by true is rest = cc
    by false is rest = rest is

-- a row stays where others come behind
pub row_stays : (front more : List Entry) (n : ℕ) (key : List ℕ) (held : Held) → row_in front n key ≡ Some held → row_in (front ++ more) n key ≡ Some held
row_stays [] more n key held is = cc
row_stays (e ∷ front) more n key held is = by (is_row_of e n key) is (λ there. row_stays front more n key held there)
  where
    by : (b : Bool) → (if b then Some e.held else row_in front n key) ≡ Some held → (row_in front n key ≡ Some held → row_in (front ++ more) n key ≡ Some held) → (if b then Some e.held else row_in (front ++ more) n key) ≡ Some held
    by true is rest = is
    by false is rest = rest is

pub same_row : (row : Entry) → is_row_of row row.node row.key ≡ true
same_row row = both ((Decides-eqb row.node row.node).1 refl) ((bytes_decides row.key row.key).1 refl)
  where
    both : (row.node == row.node) ≡ true → bytes_eq row.key row.key ≡ true → is_row_of row row.node row.key ≡ true
    both a b = rw (a, b) refl

and_both : (a b : Bool) → (a && b) ≡ true → (a ≡ true) × (b ≡ true)
and_both true true e = (refl, refl)
and_both true false e = cc
and_both false b e = cc

apart_of : (row : Entry) (n : ℕ) (key : List ℕ) → ((n ≡ row.node) × (key ≡ row.key) → ⊥) → is_row_of row n key ≡ false
apart_of row n key apart = by (is_row_of row n key) refl
  where
    by : (b : Bool) → is_row_of row n key ≡ b → is_row_of row n key ≡ false
    by true is = let e = and_both (row.node == n) (bytes_eq row.key key) is in absurd (apart (sym ((Decides-eqb row.node n).0 e.0), sym ((bytes_decides row.key key).0 e.1)))
    by false is = is

listed_from : (front rest : List Entry) → Lists (row_in front) front → AreRising (front ++ rest) → Lists (row_in (front ++ rest)) (front ++ rest)
listed_from front [] lists rising = subst (λ (l : List Entry). Lists (row_in l) l) (sym (append-nil front)) lists
listed_from front (row ∷ rest) lists rising =
    let all : AreRising ((front ++ row ∷ []) ++ rest) = subst AreRising (sym (append_assoc front (row ∷ []) rest)) rising in
    let here : AreRising (front ++ row ∷ []) = rising_front (front ++ row ∷ []) rest all in
    let more = one_more (row_in front) front row lists here (row_in (front ++ row ∷ []))
    (row_own front row row.node row.key (same_row row) (free (row_in front) front row lists here))
    (λ n key apart. row_other front row n key (apart_of row n key apart)) in
    subst (λ (l : List Entry). Lists (row_in l) l) (append_assoc front (row ∷ []) rest) (listed_from (front ++ row ∷ []) rest more all)

-- rows that rise are those that are found in them
pub listed : (rows : List Entry) → AreRising rows → Lists (row_in rows) rows
listed rows rising = listed_from [] rows (none_listed (row_in []) (λ n key. refl)) rising

module _ (front : List Entry) (row : Entry) (more : List Entry) (rising : AreRising (front ++ row ∷ more)) where
  all_rise : AreRising ((front ++ row ∷ []) ++ more)
  all_rise = subst AreRising (sym (append_assoc front (row ∷ []) more)) rising

  -- no row in front is of the same node and key
  pub free_row : row_in front row.node row.key ≡ None
  free_row = free (row_in front) front row (listed front (rising_front front (row ∷ more) rising)) (rising_front (front ++ row ∷ []) more all_rise)

  -- and so it is found
  pub found_row : row_in (front ++ row ∷ more) row.node row.key ≡ Some row.held
  found_row =
      subst (λ (l : List Entry). row_in l row.node row.key ≡ Some row.held) (append_assoc front (row ∷ []) more)
      (row_stays (front ++ row ∷ []) more row.node row.key row.held (row_own front row row.node row.key (same_row row) free_row))

-- the rows of all nodes are right exactly where the list stands for the events
pub all_right : (rows : List Entry) (plan : Tasks) (events : List Event) → AreRising rows → AreAllRight rows plan events ↔ AreRowsFor rows plan events
all_right rows plan events rising = (
  (λ right. record { cells = row_in rows; lists = listed rows rising; stand = λ n key. right n key }),
  (λ rows_for n key. subst (RowIs (node_at plan n) key (last_time events) events) (one_table (row_in rows) rows_for.cells rows (listed rows rising) rows_for.lists n key) (rows_for.stand n key)),
)
