-- Rows that are moved into a table, one after another.
use Rattle.std.proofs.Common.{◌≡◌, ◌<◌, List, [], ◌∷◌, ◌++◌, length, get_or, Some, None, ap, sym, subst, ◌∙◌, arith, append_assoc, length-append}
use Rattle.std.proofs.lemmas.List.{map-append, append-nil, get_or-append-add}
use Rattle.rg_agg.specs.Standing.{size_in}
use Rattle.rg_state.specs.Rows.{Cells, Entry, AreRising, Lists, Others}
use Rattle.rg_state.specs.States.{held_of}
use Rattle.rg_checkpoint.specs.Entries.{entry_of, entries_of, AreFilled}
use Rattle.rg_checkpoint.specs.declared.base.Row.{Row}
use Rattle.rg_restore.proofs.Listing.{rising_front, free, one_more}

module _ (rows so_far rest : List Row) (row : Row) (is : rows ≡ so_far ++ row ∷ rest) where
  pub parted : entries_of rows ≡ entries_of so_far ++ entry_of row ∷ entries_of rest
  parted = ap entries_of is ∙ map-append entry_of so_far (row ∷ rest)

  rising_to : AreRising (entries_of rows) → AreRising (entries_of so_far ++ entry_of row ∷ [])
  rising_to rising = rising_front (entries_of so_far ++ entry_of row ∷ []) (entries_of rest) (subst AreRising (parted ∙ sym (append_assoc (entries_of so_far) (entry_of row ∷ []) (entries_of rest))) rising)

  pub is_free : (cells : Cells) → AreRising (entries_of rows) → Lists cells (entries_of so_far) → cells row.node row.key ≡ None
  is_free cells rising lists = free cells (entries_of so_far) (entry_of row) lists (rising_to rising)

  pub is_some : AreFilled (entries_of rows) → 0 < size_in (held_of row.state)
  is_some filled =
      let all = subst AreFilled parted filled in
      let n = length (entries_of so_far) in
      subst (λ (e : Entry). 0 < size_in e.held) (ap (λ k. get_or (entries_of so_far ++ entry_of row ∷ entries_of rest) k (entry_of row)) (omega arith) ∙ get_or-append-add (entries_of so_far) (entry_of row ∷ entries_of rest) 0 (entry_of row))
      (all n (entry_of row) (omega (arith, length-append (entries_of so_far) (entry_of row ∷ entries_of rest))))

  pub more_listed : (cells cells' : Cells) → AreRising (entries_of rows) → Lists cells (entries_of so_far) → cells' row.node row.key ≡ Some (held_of row.state) → Others row.node row.key cells cells' → Lists cells' (entries_of (so_far ++ row ∷ []))
  more_listed cells cells' rising lists there others =
      subst (Lists cells') (sym (map-append entry_of so_far (row ∷ []))) (one_more cells (entries_of so_far) (entry_of row) lists (rising_to rising) cells' there others)

pub all_there : (rows so_far rest : List Row) → rows ≡ so_far ++ rest → length rest ≡ 0 → (cells : Cells) → Lists cells (entries_of so_far) → Lists cells (entries_of rows)
all_there rows so_far [] is none cells lists = subst (λ xs. Lists cells (entries_of xs)) (sym (is ∙ append-nil so_far)) lists
all_there rows so_far (r ∷ rest) is none cells lists = absurd (omega (arith, none))
