use Rattle.std.proofs.Common.{List, sym, subst}
use Rattle.rg_host.specs.Image.{Image}
use Rattle.rg_event.specs.declared.event.Event.{Event}
use Rattle.rg_log.specs.Spots.{SpotIn}
use Rattle.rg_reservoir.specs.Kept.{base, next_of, time_of, cache_of, IsRight, Spells}
use Rattle.rg_reservoir.proofs.Seeking.{one_image}
use Rattle.rg_reservoir.proofs.Spelled.{spelled_there, spelled_here}
use Rattle.rg_reservoir.proofs.law.law_spells.Goals as goal

pub returns : goal.returns
returns g c = λ host r v spot sound going none told.
    let right = subst (λ (l : List Event). IsRight sound.0 (g.H.Host.may host) (base r) l (next_of r) (time_of r) (cache_of r)) none (sound.2.right going) in
    let same = one_image (g.H.Host.now host) sound.0 v sound.1 told in (
      λ spells. subst (λ (u : Image). SpotIn (u (base r).file) spot) same (spelled_there sound.0 (g.H.Host.may host) (base r) (next_of r) (time_of r) (cache_of r) right (g.H.Host.now host) spot sound.1
          (subst (λ (l : List Event). Spells (g.H.Host.now host) (base r) l spot) none spells)),
      λ there. subst (λ (l : List Event). Spells (g.H.Host.now host) (base r) l spot) (sym none) (spelled_here sound.0 (g.H.Host.may host) (base r) (next_of r) (time_of r) (cache_of r) right (g.H.Host.now host) spot sound.1
          (subst (λ (u : Image). SpotIn (u (base r).file) spot) (sym same) there)),
    )
