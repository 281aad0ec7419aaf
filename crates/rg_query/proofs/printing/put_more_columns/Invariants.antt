use Rattle.std.proofs.Common.{◌≡◌, ◌++◌, take, drop, length}
use Rattle.rg_query.specs.Printing.{name_at, more_text}
use Rattle.rg_query.proofs.printing.put_more_columns.Given as goal

abbrev pub invariant-loop-column : goal.invariant-loop-column
invariant-loop-column l = record {
  so_far : l.out.items ++ more_text (λ n. name_at n l.fields) (drop l.column-index l.columns) ≡ l.initial.out.items ++ more_text (λ n. name_at n l.fields) l.columns;
  begun : take (length l.initial.out.items) l.out.items ≡ l.initial.out.items;
}
