use Rattle.std.proofs.Common.{◌≡◌, [], rules, refl, ap, ◌∙◌}
use Rattle.rg_pipe.specs.State.{Assembled}
use Rattle.rg_pipe.specs.Assembling.{in_hand}
use Rattle.rg_pipe.proofs.Handings.{loads}
use Rattle.rg_pipe.proofs.assembly.Assembly.load_from.Goals as goal

pub returns : goal.returns
returns c =
    let e = c.in_ok-kind.ensures in
    let idle = c.if-not-is_idle.ensures.idle (search rules) in
    let pending : in_hand c.self.inside.spent c.self.inside.buffer ≡ [] = ap (λ (a : Assembled). a.pipe.pending) c.self.view_is ∙ idle.0 in
    (e.0, loads c.args.self.now.pipe c.args.piece.now c.in_ok-kind.bytes.now c.in_ok-kind.kind idle.0 idle.1 e.0 e.1 e.2 _ c.pass.result (rw (← c.self.view_is, c.pass.ensures.passed, pending) refl) (rw (← c.self.view_is) c.pass.ensures.found))
