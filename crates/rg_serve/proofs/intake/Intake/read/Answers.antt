use Rattle.std.proofs.Common.{arith, ◌∙◌}
use Rattle.rg_serve.proofs.Ranging.{front_taken}
use Rattle.rg_serve.proofs.intake.Intake.read.Goals as goal

pub returns-in-Ok-clause-reads : goal.returns-in-Ok-clause-reads
returns-in-Ok-clause-reads g c =
    let was = c.self.invariant in
    let low = rw (← c.self.view_is) at c.requires.within in
    rw (← c.self.view_is)
    (front_taken c.read_front.new.bytes.items _ c.in-Ok.count c.self.inside.taken _ _ _ (c.read_front.ensures.first.size ∙ was.size) (omega (arith, c.min-room.ensures)) (omega (arith, low, c.min-room.ensures)) (omega (arith, c.in-Ok.count-test.1)) c.in-Ok.ensures.read)
