-- One row more is compared.
use Rattle.std.proofs.Common.{◌≡◌, ◌∙◌, ℕ, ◌+◌, ◌<◌, Bool, List, length, take, get_or, Some, None, ap, sym, subst, arith}
use Rattle.std.specs.Prelude.{◌↔◌, IsTrue}
use Rattle.std.specs.BTreeMap.{get}
use Rattle.std.specs.Cmp.Lexicographic.{slice_cmp}
use Rattle.std.specs.Ordering.{nat_cmp}
use Rattle.std.proofs.lemmas.List.{get_or-map, length-map}
use Rattle.rg_event.specs.declared.event.Event.{Event}
use Rattle.rg_event.specs.declared.value.Value.{Value}
use Rattle.rg_keywords.specs.declared.func.Func.{Func}
use Rattle.rg_agg.specs.Standing.{size_in}
use Rattle.rg_plan.specs.Named.{Node}
use Rattle.rg_state.specs.Rows.{Entry, AreRising, RowStands}
use Rattle.rg_state.specs.States.{held_of}
use Rattle.rg_checkpoint.specs.Entries.{entry_of, entries_of, AreFilled}
use Rattle.rg_checkpoint.specs.declared.base.Row.{Row}
use Rattle.rg_engine.specs.Windows.{node_values}
use Rattle.rg_row_audit.specs.Gathering.{Suits, IsGathered}
use Rattle.rg_row_audit.specs.Keeping.{AreSuited, AreKept, AreLeft}
use Rattle.rg_row_audit.proofs.Keeps.{Map, parted, left_other, left_own, still_there, not_kept}

-- no row is empty
pub filled_at : (rows : List Row) (i : ℕ) (row : Row) → i < length rows → row ≡ get_or rows i row → AreFilled (entries_of rows) → 0 < size_in (held_of row.state)
filled_at rows i row within is filled =
    subst (λ (e : Entry). 0 < size_in e.held) (get_or-map entry_of rows i row (entry_of row) within ∙ ap entry_of (sym is)) (filled i (entry_of row) (omega (arith, within, length-map rows entry_of)))

module _ (n : ℕ) (rows : List Row) (i : ℕ) (row : Row) (within : i < length rows) (is : row ≡ get_or rows i row) (at : Node) (time : ℕ) (events : List Event) where
  -- a row of another node
  pub pass_other : (left : Map) → (row.node ≡ n → ⊥) → AreLeft (entries_of (take i rows)) n at time events left → AreLeft (entries_of (take (i + 1) rows)) n at time events left
  pass_other left other so_far =
      let p = parted rows i row within is in
      subst (λ (l : List Entry). AreLeft l n at time events left) (sym p.next) (left_other n at time events (entries_of (take i rows)) (entry_of row) left other so_far)

  module _ (rising : AreRising (entries_of rows)) (own : row.node ≡ n) (old : Map) (so_far : AreLeft (entries_of (take i rows)) n at time events old) (suited : AreSuited at time events) (kept : Bool)
      (told : (func : Func) (values : List Value) → Suits func values → IsGathered func (get (slice_cmp nat_cmp) old row.key) values → IsTrue kept ↔ RowStands func (Some (held_of row.state)) values) where
    stands : IsTrue kept ↔ RowStands at.agg.func (Some (held_of row.state)) (node_values at row.key time events)
    stands =
        let p = parted rows i row within is in
        told at.agg.func (node_values at row.key time events) (suited row.key) (still_there n at time events (entries_of (take i rows)) (entry_of row) p.more (subst AreRising p.all rising) own old so_far)

    -- one of the node that is kept
    pub pass_own : (new : Map) → IsTrue kept → get (slice_cmp nat_cmp) new row.key ≡ None
        → ((other : List ℕ) → (other ≡ row.key → ⊥) → get (slice_cmp nat_cmp) new other ≡ get (slice_cmp nat_cmp) old other) → AreLeft (entries_of (take (i + 1) rows)) n at time events new
    pass_own new does gone others =
        let p = parted rows i row within is in
        subst (λ (l : List Entry). AreLeft l n at time events new) (sym p.next)
        (left_own n at time events (entries_of (take i rows)) (entry_of row) p.more (subst AreRising p.all rising) own old so_far new (stands.0 does) gone others)

    -- one that isn't
    pub refuse : (IsTrue kept → ⊥) → AreKept (entries_of rows) n at time events → ⊥
    refuse isnt all =
        let p = parted rows i row within is in
        not_kept n at time events (entries_of (take i rows)) (entry_of row) p.more (subst AreRising p.all rising) own old so_far (λ s. isnt (stands.1 s)) (subst (λ (l : List Entry). AreKept l n at time events) p.all all)
