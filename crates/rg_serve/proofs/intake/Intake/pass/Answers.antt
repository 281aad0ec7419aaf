use Rattle.std.proofs.Common.{refl, arith}
use Rattle.rg_serve.proofs.Ranging.{drop_range}
use Rattle.rg_serve.proofs.intake.Intake.pass.Goals as goal

pub returns : goal.returns
returns c =
    let b = c.self.inside in
    let was = c.self.invariant in
    rw (← c.self.view_is, drop_range b.bytes.items b.start b.end c.args.count (omega (arith, was.within, was.size)) (rw (← c.self.view_is) at c.requires)) refl
