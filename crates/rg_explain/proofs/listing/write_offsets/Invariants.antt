use Rattle.std.proofs.Common.{◌≡◌, ◌++◌, drop, map}
use Rattle.rg_host.specs.Lines.{ended}
use Rattle.rg_explain.specs.Listing.{offset_line}
use Rattle.rg_explain.proofs.listing.write_offsets.Given as goal

-- the lines that are written, and those to come
abbrev pub invariant-offsets : goal.invariant-offsets
invariant-offsets l = l.text.items ++ ended (map offset_line (drop l.offset-index l.offsets)) ≡ l.fn.text.items ++ ended (map offset_line l.offsets)
