use Rattle.rg_host.proofs.Asking.{counted_past}
use Rattle.rg_host.proofs.scanner.Scanner.probe.Goals as goal

pub invariant_of-self : goal.invariant_of-self
invariant_of-self g c =
    let no_lf = rw (← c.self.view_is) at c.requires.no_lf in
    let limit = rw (← c.self.view_is) at c.requires.limit in
    let going = rw (← c.self.view_is) at c.requires.not_ended in
    counted_past _ c.self.inside.skipping _ _ c.self.invariant no_lf limit going
