use Rattle.std.proofs.Common.{◌≡◌, ◌++◌, drop}
use Rattle.rg_host.specs.Lines.{ended}
use Rattle.rg_explain.specs.Listing.{numbered, group_line}
use Rattle.rg_explain.proofs.listing.write_groups.Given as goal

-- the lines that are written, and those to come
abbrev pub invariant-groups : goal.invariant-groups
invariant-groups l = l.text.items ++ ended (numbered (group_line l.schema) l.number (drop l.number l.groups)) ≡ l.fn.text.items ++ ended (numbered (group_line l.schema) 0 l.groups)
