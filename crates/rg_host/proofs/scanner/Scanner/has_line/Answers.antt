use Rattle.rg_host.proofs.Finds.{no_lf-pending, no_lf-behind}
use Rattle.rg_host.specs.Scan.{prefix}
use Rattle.rg_host.proofs.scanner.Scanner.has_line.Goals as goal

pub returns-clause-none : goal.returns-clause-none
returns-clause-none c = λ no. rw (← c.self.view_is) (no_lf-pending c.self.inside.skipping _ c.self.inside.taken c.self.inside.ended (c.has_line.ensures.none no))

pub returns-clause-some : goal.returns-clause-some
returns-clause-some c = λ yes none. c.has_line.ensures.some yes (no_lf-behind (prefix c.self.inside.skipping) _ (rw (← c.self.view_is) at none))
