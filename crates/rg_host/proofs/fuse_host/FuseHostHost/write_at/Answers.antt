use Rattle.std.proofs.Common.{ap, subst, length}
use Rattle.rg_host.specs.Fused.{Fused}
use Rattle.rg_host.specs.EffectLaws.{torn_in-same}
use Rattle.rg_host.proofs.fuse_host.FuseHostHost.write_at.Goals as goal

pub returns-then-self-eq0-clause-may : goal.returns-then-self-eq0-clause-may
returns-then-self-eq0-clause-may g c = λ v left. (
  v,
  subst (λ host. g.H.Host.may host v) (ap (λ (fuse : Fused _). fuse.inner) c.self.view_is) left,
  torn_in-same c.args.file c.args.at (length c.args.bytes.now) v,
)
