use Rattle.rg_host.proofs.Ranges.{range_parts}
use Rattle.rg_host.proofs.Finds.{lf_found}
use Rattle.rg_host.proofs.buffer.Buffer.has_line.Goals as goal

pub returns-clause-some : goal.returns-clause-some
returns-clause-some c = λ is none.
    let b = c.self.inside in
    lf_found _ _ _ (range_parts b.bytes.items b.start b.searched b.end (rw is at c.self.invariant.search)) (rw (← c.self.view_is) at none)
