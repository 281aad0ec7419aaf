use Rattle.std.proofs.Common.{◌≡◌, ◌∙◌, ◌++◌, List, reverse, ap, sym, subst}
use Rattle.rg_state.specs.Rows.{Entry, AreRising}
use Rattle.rg_checkpoint.specs.Changed.{changes_of}
use Rattle.rg_checkpoint.specs.Entries.{entries_of, AreFilled}
use Rattle.rg_checkpoint.specs.declared.base.Row.{Row}
use Rattle.rg_checkpoint.specs.Merging.{merged}
use Rattle.rg_checkpoint.proofs.Merging.{merged_rising}
use Rattle.rg_checkpoint.proofs.Turned.{turned_twice, merged_filled}
use Rattle.rg_checkpoint.proofs.applying.apply_rows.Goals as goal

pub new-requires-3-clause-rising : goal.new-requires-3-clause-rising
new-requires-3-clause-rising c =
    let is : entries_of c.merge-list.result.items ≡ merged c.args.rows.now (changes_of c.args.changes.items) =
    c.merge-list.ensures.rows ∙ ap (λ (o : List Row). entries_of o ++ merged (entries_of (reverse c.reverse.new.self.items)) (changes_of c.args.changes.items)) c.in-Ok.ensures.items
    ∙ ap (λ (l : List Row). merged (entries_of (reverse l)) (changes_of c.args.changes.items)) c.reverse.ensures.items
    ∙ ap (λ (l : List Entry). merged l (changes_of c.args.changes.items)) (turned_twice c.into_vec-old.result.items ∙ c.into_vec-old.ensures.rows ∙ c.replace.ensures.value) in
    subst AreRising (sym is) (merged_rising c.args.rows.now (changes_of c.args.changes.items) c.as_slice-count.ensures.rising c.requires.rising)

pub new-requires-3-clause-filled : goal.new-requires-3-clause-filled
new-requires-3-clause-filled c =
    let is : entries_of c.merge-list.result.items ≡ merged c.args.rows.now (changes_of c.args.changes.items) =
    c.merge-list.ensures.rows ∙ ap (λ (o : List Row). entries_of o ++ merged (entries_of (reverse c.reverse.new.self.items)) (changes_of c.args.changes.items)) c.in-Ok.ensures.items
    ∙ ap (λ (l : List Row). merged (entries_of (reverse l)) (changes_of c.args.changes.items)) c.reverse.ensures.items
    ∙ ap (λ (l : List Entry). merged l (changes_of c.args.changes.items)) (turned_twice c.into_vec-old.result.items ∙ c.into_vec-old.ensures.rows ∙ c.replace.ensures.value) in
    subst AreFilled (sym is) (merged_filled c.args.rows.now (changes_of c.args.changes.items) c.as_slice-count.ensures.filled c.requires.legal)
