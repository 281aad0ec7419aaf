use Rattle.std.proofs.Common.{◌≡◌, ◌++◌, drop}
use Rattle.rg_host.specs.Lines.{ended}
use Rattle.rg_explain.specs.Listing.{numbered, query_line}
use Rattle.rg_explain.proofs.listing.write_queries.Given as goal

-- the lines that are written, and those to come
abbrev pub invariant-queries : goal.invariant-queries
invariant-queries l = l.text.items ++ ended (numbered query_line l.number (drop l.number l.queries)) ≡ l.fn.text.items ++ ended (numbered query_line 0 l.queries)
