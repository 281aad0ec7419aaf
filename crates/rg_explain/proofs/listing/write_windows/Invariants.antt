use Rattle.std.proofs.Common.{◌≡◌, ◌++◌, drop}
use Rattle.rg_host.specs.Lines.{ended}
use Rattle.rg_explain.specs.Listing.{numbered, window_line}
use Rattle.rg_explain.proofs.listing.write_windows.Given as goal

-- the lines that are written, and those to come
abbrev pub invariant-windows : goal.invariant-windows
invariant-windows l = l.text.items ++ ended (numbered window_line l.number (drop l.number l.windows)) ≡ l.fn.text.items ++ ended (numbered window_line 0 l.windows)
