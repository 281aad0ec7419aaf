-- The rows of one key, lent as a slice: what is read there stands in the rows, and a write to it is one to the rows.
use Rattle.std.proofs.Common.{◌≡◌, ◌∙◌, ℕ, ◌<◌, true, List, length, get_or, set, ap, subst, length-set}
use Rattle.std.specs.List.{refill, swap_remove}
use Rattle.std.specs.Prelude.{Result}
use Rattle.smallvec.proofs.SmallVecLemmas.{items-with_items}
use Rattle.rg_event.specs.declared.value.Value.{Value}
use Rattle.rg_keywords.specs.declared.func.Func.{Func}
use Rattle.rg_state.specs.Kepts.{is_fair, are_sound}
use Rattle.rg_state.specs.Stepping.{KeptStep, RowsStep}
use Rattle.rg_state.specs.declared.key_rows.Kept.{Kept}
use Rattle.rg_state.specs.declared.one.Refusal.{Refusal}
use Rattle.rg_state.specs.declared.table.Change.{Change}
use Rattle.rg_state.proofs.Placed.{IsPlaced, remove_set, sound_set, fair_at}
use Rattle.rg_state.proofs.RowSteps.{rows_stepped}

module _ (ks lent : List Kept) (p : ℕ) (same : lent ≡ ks) where
  pub lent_set : (new : Kept) → refill (length ks) ks (set lent p new) ≡ set ks p new
  lent_set new =
      items-with_items (record { items = ks; capacity = length ks }) (set lent p new) (length-set lent p new ∙ ap length same)
      ∙ ap (λ l. set l p new) same

  pub lent_count : (new : Kept) → length (refill (length ks) ks (set lent p new)) ≡ length ks
  lent_count new = ap length (lent_set new) ∙ length-set ks p new

  pub lent_gone : (gone : List Kept) (new d : Kept) → gone ≡ swap_remove (refill (length ks) ks (set lent p new)) p d → gone ≡ swap_remove ks p d
  lent_gone gone new d dropped = dropped ∙ ap (λ l. swap_remove l p d) (lent_set new) ∙ remove_set ks p new d

  -- k is what was read there
  module _ (k : Kept) (is : k ≡ get_or lent p k) where
    pub lent_read : k ≡ get_or ks p k
    lent_read = is ∙ ap (λ l. get_or l p k) same

    pub lent_at : get_or lent p k ≡ get_or ks p (get_or lent p k)
    lent_at = subst (λ old. old ≡ get_or ks p old) is lent_read

    pub lent_fair : are_sound ks ≡ true → p < length ks → is_fair (get_or lent p k) ≡ true
    lent_fair sound within = fair_at ks p (get_or lent p k) sound within lent_at

    pub lent_sound : (new : Kept) → are_sound ks ≡ true → new.node ≡ (get_or lent p k).node → is_fair new ≡ true → are_sound (refill (length ks) ks (set lent p new)) ≡ true
    lent_sound new sound node fair = rw (lent_set new) (sound_set ks p (get_or lent p k) new sound lent_at node fair)

    pub lent_stepped : (func : Func) (change : Change) (value : Value) (node : ℕ) (new : Kept) → are_sound ks ≡ true → IsPlaced ks p node → (result : Result Unit Refusal) → KeptStep func change value (get_or lent p k) new result → RowsStep func change value node ks (refill (length ks) ks (set lent p new)) result
    lent_stepped func change value node new sound placed result step =
        rw (lent_set new) (rows_stepped func change value ks p node (get_or lent p k) new sound placed lent_at result step)
