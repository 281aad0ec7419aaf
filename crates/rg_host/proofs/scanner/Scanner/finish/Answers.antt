use Rattle.std.proofs.Common.{◌+◌, ◌<◌, length, arith, sym}
use Rattle.rg_host.specs.Scan.{owed}
use Rattle.rg_host.proofs.Finds.{finish_cuts}
use Rattle.rg_host.proofs.scanner.Scanner.finish.Goals as goal
use Rattle.rg_host.proofs.scanner.Scanner.finish.Goals.{else-not-self-via-then-not-self+else-len-eq0, else-not-self-via-else-not-self}

pub returns-clause-line : goal.returns-clause-line
returns-clause-line c =
    let some : 0 < length c.self.inside.buffer.pending + owed c.self.inside.skipping = elim c.else-not-self.branch [
      | else-not-self-via-then-not-self+else-len-eq0 w ↦ omega (arith, w.if-len-eq0.false, w.len.ensures)
      | else-not-self-via-else-not-self w ↦ rw w.if-not-self.false (omega arith)
    ] in
    let no_lf = rw (← c.self.view_is) at c.requires.no_lf in
    rw (← c.self.view_is, c.kind-found.ensures, c.cut_rest-held.ensures.line, c.cut_rest-held.ensures.pending)
    (finish_cuts c.self.inside.skipping c.cut_rest-held.result c.self.inside.buffer.pending c.self.inside.taken c.self.inside.ended
    (sym c.cut_rest-held.ensures.length) no_lf c.self.invariant.counted some)
