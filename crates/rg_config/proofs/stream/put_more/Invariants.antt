use Rattle.std.proofs.Common.{◌≡◌, ◌++◌, drop, map}
use Rattle.rg_config.specs.Documents.{more_columns}
use Rattle.rg_config.proofs.stream.put_more.Given as goal

abbrev pub invariant-columns : goal.invariant-columns
invariant-columns l =
    l.out.items ++ more_columns (map (λ column. column.now) (drop l.column-index l.columns))
    ≡ l.initial.out.items ++ more_columns (map (λ column. column.now) l.columns)
