use Rattle.std.proofs.Common.{◌≡◌, ◌++◌, drop, map}
use Rattle.rg_host.specs.Lines.{ended}
use Rattle.rg_plan.specs.Nodes.{filtered}
use Rattle.rg_explain.specs.Listing.{numbered, filter_line}
use Rattle.rg_explain.proofs.listing.write_filters.Given as goal

-- the lines that are written, and those to come
abbrev pub invariant-filters : goal.invariant-filters
invariant-filters l = l.text.items ++ ended (numbered (filter_line l.schema) l.number (map filtered (drop l.number l.filters))) ≡ l.fn.text.items ++ ended (numbered (filter_line l.schema) 0 (map filtered l.filters))
