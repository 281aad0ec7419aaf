use Rattle.rg_host.proofs.Finds.{no_lf-prefix, find_cuts, counted_after}
use Rattle.rg_host.proofs.Ranges.{no_lf-append}
use Rattle.rg_host.proofs.scanner.Scanner.find.Goals as goal

pub returns-in-None-clause-none : goal.returns-in-None-clause-none
returns-in-None-clause-none c = rw (← c.self.view_is) (no_lf-append _ _ (no_lf-prefix c.self.inside.skipping) (c.in-None.ensures.none))

pub invariant_of-self-2 : goal.invariant_of-self-2
invariant_of-self-2 c = counted_after c.self.inside.skipping c.cut.new.self.line _ _ _ _ c.in-Some.ensures.line.0 c.self.invariant

pub returns-clause-line : goal.returns-clause-line
returns-clause-line c =
    rw (← c.self.view_is, c.kind-found.ensures)
    (find_cuts c.self.inside.skipping c.in-Some.held c.cut.new.self.line c.self.inside.buffer.pending c.cut.new.self.pending c.self.inside.taken c.self.inside.ended
    c.in-Some.ensures.line.0 c.in-Some.ensures.line.1 c.in-Some.ensures.no_lf c.self.invariant.counted)
