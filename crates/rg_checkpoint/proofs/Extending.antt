-- What changed since a checkpoint, applied to it, gives the rows now.
use Rattle.std.proofs.Common.{◌≡◌, ◌≤◌, ℕ, List, refl, ap, sym, ◌∙◌}
use Rattle.rg_state.specs.Changes.{Marks, RowChange, changes_in, applied, IsSince}
use Rattle.rg_state.specs.Rows.{Cells, Entry, Lists, ListsOf, at_in}
use Rattle.rg_state.proofs.Laws.{at_lists, applied_since, gone_since}
use Rattle.rg_checkpoint.specs.Updates.{AreApplied, Applies, IsUpdate}
use Rattle.rg_checkpoint.specs.declared.base.Checkpoint.{Checkpoint}

pub rows_applied : (old new : List Entry) (changes : List RowChange) (named there : Marks) (cells : Cells) → IsSince (at_in old) named there cells → ListsOf (changes_in named there cells) changes → Lists cells new → AreApplied old changes new
rows_applied old new changes named there cells since changed lists = record {
  gone = λ node key is. gone_since (at_in old) named there cells since node key (at_lists (changes_in named there cells) changes node key changed ∙ is);
  rows = λ node key.
      sym (at_lists cells new node key lists) ∙ sym (applied_since (at_in old) named there cells since node key)
      ∙ ap (applied (at_in old node key)) (at_lists (changes_in named there cells) changes node key changed);
  rising = lists.rising;
}

pub payload_applies : (payload : List ℕ) (old new : Checkpoint) (changes : List RowChange) (named there : Marks) (cells : Cells) → IsSince (at_in old.rows) named there cells → ListsOf (changes_in named there cells) changes
    → IsUpdate payload (record { count = new.count; spots = new.spots; rows = changes }) → Lists cells new.rows → new.queries ≡ old.queries → old.count ≤ new.count → Applies payload old new
payload_applies payload old new changes named there cells since changed is lists queries grows = record {
  update = record { count = new.count; spots = new.spots; rows = changes };
  is = is;
  updated = record { grows = grows; queries = queries; count = refl; spots = refl; rows = rows_applied old.rows new.rows changes named there cells since changed lists };
}
