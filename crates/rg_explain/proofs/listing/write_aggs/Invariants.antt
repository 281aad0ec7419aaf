use Rattle.std.proofs.Common.{◌≡◌, ◌++◌, drop}
use Rattle.rg_host.specs.Lines.{ended}
use Rattle.rg_explain.specs.Listing.{numbered, agg_line}
use Rattle.rg_explain.proofs.listing.write_aggs.Given as goal

-- the lines that are written, and those to come
abbrev pub invariant-aggs : goal.invariant-aggs
invariant-aggs l = l.text.items ++ ended (numbered (agg_line l.schema) l.number (drop l.number l.aggs)) ≡ l.fn.text.items ++ ended (numbered (agg_line l.schema) 0 l.aggs)
