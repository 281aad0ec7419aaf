-- Marks of a table whose rows are those of a checkpoint.
use Rattle.std.proofs.Common.{List, sym, ◌∙◌, true≢false}
use Rattle.rg_state.specs.Changes.{Marks, NoMarks}
use Rattle.rg_state.specs.Rows.{Cells, Entry, Lists, Same, at_in}
use Rattle.rg_state.proofs.Laws.{at_lists}
use Rattle.rg_restore.specs.Since.{IsMarkedAt}

pub marked_at : (rows : List Entry) (named there : Marks) (cells cells' : Cells) → Lists cells rows → Same cells cells' → NoMarks named → IsMarkedAt rows named there cells'
marked_at rows named there cells cells' lists same none = record {
  lists = record {
    rising = lists.rising;
    rows = λ n key held. (λ is. (lists.rows n key held).0 (sym (same n key) ∙ is), λ among. same n key ∙ (lists.rows n key held).1 among);
  };
  since = record {
    unnamed = λ n key is. same n key ∙ at_lists cells rows n key lists;
    stood = λ n key is. absurd (true≢false (sym is ∙ none n key));
  };
}
