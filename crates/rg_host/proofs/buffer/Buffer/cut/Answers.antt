use Rattle.std.proofs.Common.{arith}
use Rattle.rg_host.proofs.Ranges.{range_parts, length-slice_range}
use Rattle.rg_host.proofs.buffer.Buffer.cut.Goals as goal

pub returns-clause-line : goal.returns-clause-line
returns-clause-line c =
    let b = c.self.inside in
    let was = c.self.invariant in (
      rw (← c.self.view_is) (range_parts b.bytes.items b.start b.searched b.end (rw c.if-not-self.false at was.search)),
      length-slice_range b.bytes.items b.start b.searched (omega (arith, was.search.within, was.within, was.size)),
    )
