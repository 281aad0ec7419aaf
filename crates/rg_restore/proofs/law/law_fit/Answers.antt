use Rattle.std.proofs.Common.{refl}
use Rattle.rg_restore.proofs.RowKinds.{truthful_fits}
use Rattle.rg_restore.proofs.Trying.{fit_same}
use Rattle.rg_restore.proofs.law.law_fit.Goals as goal

pub returns : goal.returns
returns g c = λ past queries fields plan checkpoint sound serves are same is.
    fit_same (g.P.Past.spells past) (g.P.Names.named past) queries fields plan _ _ checkpoint (λ spot. (g.met.P.Names.sound_named past spot sound).1) refl
    (truthful_fits (g.P.Past.spells past) queries fields plan (g.P.Past.events past) checkpoint serves are same is)
