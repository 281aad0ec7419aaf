-- Rows that are compared one after another with what was gathered.
use Rattle.std.proofs.Common.{◌≡◌, ◌∙◌, ℕ, zero, suc, ◌+◌, ◌<◌, ◌==◌, ◌&&◌, Bool, true, false, List, [], ◌∷◌, ◌++◌, length, take, drop, get_or, Option, Some, None, refl, ap, sym, subst, arith, cond}
use Rattle.std.specs.Prelude.{◌↔◌, IsTrue, bytes_eq}
use Rattle.std.specs.BTreeMap.{BTreeMap, btree_map_len, get, is_at}
use Rattle.std.specs.Map.{lookup}
use Rattle.std.specs.Cmp.Lexicographic.{slice_cmp, bytes_decides}
use Rattle.std.specs.Ordering.{nat_cmp}
use Rattle.std.proofs.lemmas.Bool.Decides.{Decides-eqb}
use Rattle.std.proofs.lemmas.List.{map-append, take_more}
use Rattle.std.proofs.lemmas.Map.Text.{is_eq-slice_cmp}
use Rattle.rg_event.specs.declared.event.Event.{Event}
use Rattle.rg_event.specs.declared.value.Value.{Value}
use Rattle.rg_agg.specs.Held.{Held}
use Rattle.rg_plan.specs.Named.{Node}
use Rattle.rg_state.specs.Rows.{Entry, AreRising, RowStands}
use Rattle.rg_checkpoint.specs.Entries.{entry_of, entries_of}
use Rattle.rg_checkpoint.specs.declared.base.Row.{Row}
use Rattle.rg_engine.specs.Windows.{node_values}
use Rattle.rg_row_audit.specs.Gathering.{IsGathered, AreGathered}
use Rattle.rg_row_audit.specs.Keeping.{AreKept, IsLeft, AreLeft}
use Rattle.rg_row_audit.specs.Rows.{row_in}
use Rattle.rg_row_audit.specs.declared.gathered.Gathered.{Gathered}
use Rattle.rg_row_audit.proofs.Listed.{is_row_of, row_other, row_own, same_row, free_row, found_row}

abbrev pub Map : Type 0
Map = BTreeMap (List ℕ) Gathered

not_key : (a b : List ℕ) → bytes_eq a b ≡ false → b ≡ a → ⊥
not_key a b e same = let f = (bytes_decides a b).1 (sym same) in cc

and_false : (a b : Bool) → b ≡ false → (a && b) ≡ false
and_false true b e = e
and_false false b e = refl

-- the row at an index of a list, with those before and behind it
pub record Parted (rows : List Row) (i : ℕ) (row : Row) : Type 0 where
  pub more : List Entry
  pub all : entries_of rows ≡ entries_of (take i rows) ++ entry_of row ∷ more
  pub next : entries_of (take (i + 1) rows) ≡ entries_of (take i rows) ++ entry_of row ∷ []

split_at : (rows : List Row) (i : ℕ) (d : Row) → i < length rows → rows ≡ take i rows ++ get_or rows i d ∷ drop (suc i) rows
split_at [] i d within = absurd (omega arith)
split_at (r ∷ rows) zero d within = refl
split_at (r ∷ rows) (suc i) d within = ap (λ l. r ∷ l) (split_at rows i d (omega arith))

pub parted : (rows : List Row) (i : ℕ) (row : Row) → i < length rows → row ≡ get_or rows i row → Parted rows i row
parted rows i row within is = record {
  more = entries_of (drop (suc i) rows);
  all = ap entries_of (split_at rows i row within) ∙ map-append entry_of (take i rows) (get_or rows i row ∷ drop (suc i) rows)
      ∙ ap (λ r. entries_of (take i rows) ++ entry_of r ∷ entries_of (drop (suc i) rows)) (sym is);
  next = ap entries_of (take_more rows i row within) ∙ map-append entry_of (take i rows) (get_or rows i row ∷ []) ∙ ap (λ r. entries_of (take i rows) ++ entry_of r ∷ []) (sym is);
}

module _ (n : ℕ) (node : Node) (t : ℕ) (events : List Event) where
  abbrev vals : List ℕ → List Value
  vals key = node_values node key t events

  pub left_at_start : (map : Map) → AreGathered node t events map → AreLeft [] n node t events map
  left_at_start map gathered key = gathered key

  -- a row of another node
  pub left_other : (front : List Entry) (row : Entry) (left : Map) → (row.node ≡ n → ⊥) → AreLeft front n node t events left → AreLeft (front ++ row ∷ []) n node t events left
  left_other front row left other so_far key =
      subst (λ o. IsLeft node.agg.func o (get (slice_cmp nat_cmp) left key) (vals key)) (sym (row_other front row n key (not_node (row.node == n) refl))) (so_far key)
    where
      not_node : (b : Bool) → (row.node == n) ≡ b → (b && bytes_eq row.key key) ≡ false
      not_node true is = absurd (other ((Decides-eqb row.node n).0 is))
      not_node false is = refl

  module _ (front : List Entry) (row : Entry) (more : List Entry) (rising : AreRising (front ++ row ∷ more)) (own : row.node ≡ n) (old : Map) (so_far : AreLeft front n node t events old) where
    none_before : row_in front n row.key ≡ None
    none_before = subst (λ m. row_in front m row.key ≡ None) own (free_row front row more rising)

    pub still_there : IsGathered node.agg.func (get (slice_cmp nat_cmp) old row.key) (vals row.key)
    still_there = subst (λ o. IsLeft node.agg.func o (get (slice_cmp nat_cmp) old row.key) (vals row.key)) none_before (so_far row.key)

    -- a row of the node that stands for what was gathered for its key, which is taken out
    pub left_own : (new : Map) → RowStands node.agg.func (Some row.held) (vals row.key) → get (slice_cmp nat_cmp) new row.key ≡ None
        → ((other : List ℕ) → (other ≡ row.key → ⊥) → get (slice_cmp nat_cmp) new other ≡ get (slice_cmp nat_cmp) old other) → AreLeft (front ++ row ∷ []) n node t events new
    left_own new stands gone others key = by (bytes_eq row.key key) refl
      where
        here : IsLeft node.agg.func (row_in (front ++ row ∷ []) n row.key) (get (slice_cmp nat_cmp) new row.key) (vals row.key)
        here =
            let found : row_in (front ++ row ∷ []) n row.key ≡ Some row.held = row_own front row n row.key (subst (λ m. is_row_of row m row.key ≡ true) own (same_row row)) none_before in
            subst (λ o. IsLeft node.agg.func o (get (slice_cmp nat_cmp) new row.key) (vals row.key)) (sym found) (gone, stands)

        by : (b : Bool) → bytes_eq row.key key ≡ b → IsLeft node.agg.func (row_in (front ++ row ∷ []) n key) (get (slice_cmp nat_cmp) new key) (vals key)
        by true same = subst (λ k. IsLeft node.agg.func (row_in (front ++ row ∷ []) n k) (get (slice_cmp nat_cmp) new k) (vals k)) ((bytes_decides row.key key).0 same) here
        by false other =
            subst (λ o. IsLeft node.agg.func o (get (slice_cmp nat_cmp) new key) (vals key)) (sym (row_other front row n key (and_false (row.node == n) (bytes_eq row.key key) other)))
            (subst (λ o. IsLeft node.agg.func (row_in front n key) o (vals key)) (sym (others key (not_key row.key key other))) (so_far key))

    -- one that doesn't
    pub not_kept : (RowStands node.agg.func (Some row.held) (vals row.key) → ⊥) → AreKept (front ++ row ∷ more) n node t events → ⊥
    not_kept wrong kept =
        wrong (subst (λ o. RowStands node.agg.func o (vals row.key)) (subst (λ m. row_in (front ++ row ∷ more) m row.key ≡ Some row.held) own (found_row front row more rising)) (kept row.key))

  -- behind all rows nothing is left
  pub none_left_over : (rows : List Entry) (left : Map) → AreLeft rows n node t events left → left.entries ≡ [] → AreKept rows n node t events
  none_left_over rows left so_far empty key = by (row_in rows n key) (so_far key)
    where
      none : get (slice_cmp nat_cmp) left key ≡ None
      none = ap (lookup (is_at (slice_cmp nat_cmp key))) empty

      by : (o : Option Held) → IsLeft node.agg.func o (get (slice_cmp nat_cmp) left key) (vals key) → RowStands node.agg.func o (vals key)
      by None is = subst (λ o. IsGathered node.agg.func o (vals key)) none is
      by (Some held) is = is.1

  -- or a key has values and no row
  pub some_left_over : (rows : List Entry) (left : Map) (e : List ℕ × Gathered) (es : List (List ℕ × Gathered)) → AreLeft rows n node t events left → left.entries ≡ e ∷ es → AreKept rows n node t events → ⊥
  some_left_over rows left e es so_far is kept = by (row_in rows n e.0) (so_far e.0) (kept e.0)
    where
      there : get (slice_cmp nat_cmp) left e.0 ≡ Some e.1
      there =
          let same : is_at (slice_cmp nat_cmp e.0) e.0 ≡ true = is_eq-slice_cmp e.0 e.0 ∙ (bytes_decides e.0 e.0).1 refl in
          ap (lookup (is_at (slice_cmp nat_cmp e.0))) is ∙ ap (λ b. cond b (Some e.1) (lookup (is_at (slice_cmp nat_cmp e.0)) es)) same

      by : (o : Option Held) → IsLeft node.agg.func o (get (slice_cmp nat_cmp) left e.0) (vals e.0) → RowStands node.agg.func o (vals e.0) → ⊥
      by None found none =
          let some : IsGathered node.agg.func (Some e.1) (vals e.0) = subst (λ o. IsGathered node.agg.func o (vals e.0)) there found in
          omega (arith, some.0, ap length none)
      by (Some held) found stands = let f : Some e.1 ≡ None = sym there ∙ found.0 in cc

  -- so it is told by what is left
  pub left_over : (rows : List Entry) (left : Map) (empty : Bool) → (IsTrue empty ↔ (btree_map_len left ≡ 0)) → AreLeft rows n node t events left → IsTrue empty ↔ AreKept rows n node t events
  left_over rows left empty told so_far = (
    λ is. none_left_over rows left so_far (no_entry left.entries (told.0 is)),
    λ kept. told.1 (no_length left.entries refl kept),
  )
    where
      no_entry : (es : List (List ℕ × Gathered)) → length es ≡ 0 → es ≡ []
      no_entry [] none = refl
      no_entry (e ∷ es) none = absurd (omega (arith, none))

      no_length : (es : List (List ℕ × Gathered)) → left.entries ≡ es → AreKept rows n node t events → length left.entries ≡ 0
      no_length [] is kept = ap length is
      no_length (e ∷ es) is kept = absurd (some_left_over rows left e es so_far is kept)
