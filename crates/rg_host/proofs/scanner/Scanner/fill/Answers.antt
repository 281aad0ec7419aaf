use Rattle.std.proofs.Common.{arith}
use Rattle.rg_host.proofs.Asking.{asks_more}
use Rattle.rg_host.proofs.scanner.Scanner.fill.Goals as goal

pub returns-in-Ok-clause-asks : goal.returns-in-Ok-clause-asks
returns-in-Ok-clause-asks g c =
    let no_lf = rw (← c.self.view_is) at c.requires.no_lf in
    let limit = rw (← c.self.view_is) at c.requires.limit in
    rw (← c.self.view_is)
    (asks_more c.self.inside.skipping c.drop_long-self-inside.result c.self.inside.buffer.pending _ _ c.self.inside.taken c.in-Ok.count c.self.inside.ended _ _
    c.drop_long-self-inside.ensures c.in-Ok.ensures.bytes no_lf c.self.invariant.counted (omega (arith, c.in-Ok.count-test)) (omega (arith, c.in-Ok.ensures.most, limit)))
