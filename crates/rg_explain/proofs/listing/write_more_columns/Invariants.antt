use Rattle.std.proofs.Common.{◌≡◌, ◌++◌, drop}
use Rattle.rg_explain.specs.Listing.{more_columns}
use Rattle.rg_explain.proofs.listing.write_more_columns.Given as goal

-- the names that are written, and those to come
abbrev pub invariant-columns : goal.invariant-columns
invariant-columns l = l.text.items ++ more_columns l.fields (drop l.column-index l.columns) ≡ l.fn.text.items ++ more_columns l.fields l.columns
