use Rattle.std.proofs.Common.{map, take}
use Rattle.rg_host.specs.Lines.{ended}
use Rattle.rg_dump.specs.Rows.{row_line, IsBetween}
use Rattle.rg_dump.proofs.row.chunk_text.Given as goal

abbrev pub invariant-events : goal.invariant-events
invariant-events l = record {
  between : IsBetween l.writer (ended (map row_line (take l.index l.chunk)));
}
