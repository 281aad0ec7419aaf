use Rattle.std.proofs.Common.{◌≡◌, ap, sym, subst}
use Rattle.std.proofs.Props.{props}
use Rattle.rg_recover.specs.Sessions.{Sitting}
use Rattle.rg_recover.specs.Living.{IsReaching}
use Rattle.rg_recover.proofs.live.LiveTask.reuse.Goals as goal

pub returns : goal.returns
returns g c =
    let p = c.args.self.now in
    let now = g.H.Host.now p.host.now in
    let one : (r q : IsReaching p.session.now now) → r ≡ q = Prim.hlevel props in
    subst (λ (s : Sitting g.row.T.Denot). (r : IsReaching s now) → record p { session = record p.session { now = s }; reaches = r } ≡ p) (sym c.reuse.ensures) (λ r. ap (λ (q : IsReaching p.session.now now). record p { reaches = q }) (one r p.reaches)) _
