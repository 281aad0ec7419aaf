use base.Logic.{mono_l}
use borrow.Fn.Refines.{facts}
use Rattle.rg_reservoir.proofs.Resting.{such_weaker, gives_more}
use Rattle.rg_reservoir.proofs.stored.StoredPast.TheImpl.Goals as goal

-- what stands in the trait's clause comes first in the impl's
pub peek-meets : goal.peek-meets
peek-meets g c = gives_more g.world.𝓤 _ _ _ _ _ (λ r e.
    mono_l g.world.𝓤 (facts g.world.𝓤 (goal.the-told-peek g c.lifetimes (c.args.self, (c.args.spot, tt)) r e)) (such_weaker g.world.𝓛 _ _ _ _ _ _ _ _ _ (λ new h. (h.0, h.1, h.2, h.3, h.4, h.5, h.6, h.7, h.8))))
