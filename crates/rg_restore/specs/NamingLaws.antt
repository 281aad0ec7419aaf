-- A sound reservoir names just what it spells, and what it can't read is damaged.
use Rattle.std.proofs.Common.{◌≡◌, ◌↔◌, inl, ℕ, Bool, true, false, List, [], ◌∷◌, Option, Some, refl, sym, subst, arith}
use Rattle.std.specs.Option.{ForSome}
use Rattle.rg_host.specs.Image.{Image}
use Rattle.rg_event.specs.declared.event.Event.{Event}
use Rattle.rg_past.specs.declared.past.Spot.{Spot}
use Rattle.rg_frame.specs.Frames.{HasPayloads}
use Rattle.rg_frame.proofs.Laws.{payloads_one}
use Rattle.rg_log.specs.Log.{joined}
use Rattle.rg_log.proofs.Laws.{named_in}
use Rattle.rg_reservoir.specs.declared.reservoir.Reservoir.{Reservoir}
use Rattle.rg_reservoir.specs.Chain.{IsIllegalBy}
use Rattle.rg_reservoir.specs.Kept.{Base, base, view_of, opened, next_of, time_of, cache_of, IsRight, IsSound, Spells}
use Rattle.rg_reservoir.proofs.Laws.{one_image, spelled_there, spelled_here}
use Rattle.rg_restore.specs.Naming.{IsListed, IsDamagedIn, HeadsName, NamesIn}

pub illegal_damages : (now : Option Image) (b : Base) (place : ℕ) → ForSome now (λ v. IsIllegalBy (view_of b) place (v b.file)) → IsDamagedIn now b place
illegal_damages now b place is = inl is

pub sound_listed : (now : Option Image) (may : Image → Type 0) (r : Reservoir) → ((v : Image) → now ≡ Some v → may v) → IsSound now may r → IsListed now
sound_listed now may r reads sound =
    let legal = (sound.2.each sound.0 (reads sound.0 sound.1)).1.1 in
    (sound.0, legal.payloads, sound.1, subst (λ (f : ℕ). HasPayloads legal.payloads (sound.0 f)) r.file legal.has)

module _ (now : Option Image) (may : Image → Type 0) (r : Reservoir) (spot : Spot) (sound : IsSound now may r) (going : (base r).ended ≡ false) (none : opened r ≡ []) where
  right : IsRight sound.0 may (base r) [] (next_of r) (time_of r) (cache_of r)
  right = subst (λ (l : List Event). IsRight sound.0 may (base r) l (next_of r) (time_of r) (cache_of r)) none (sound.2.right going)

  spelled : HeadsName now (base r) spot → Spells now (base r) [] spot
  spelled is =
      let here : HasPayloads is.payloads (sound.0 2) = subst (λ (u : Image). HasPayloads is.payloads (u 2)) (one_image now is.image sound.0 is.told sound.1) is.has in
      let has : HasPayloads is.payloads (sound.0 (base r).file) = subst (λ (f : ℕ). HasPayloads is.payloads (sound.0 f)) (sym r.file) here in
      let both = named_in payloads_one (base r).shape (joined right.chunks) is.payloads (sound.0 (base r).file) spot right.legal has in
      spelled_here sound.0 may (base r) (next_of r) (time_of r) (cache_of r) right now spot sound.1 (both.0 is.is.0)

  named : Spells now (base r) [] spot → HeadsName now (base r) spot
  named spells =
      let both = named_in payloads_one (base r).shape (joined right.chunks) right.payloads (sound.0 (base r).file) spot right.legal right.has in
      record {
        image = sound.0;
        payloads = right.payloads;
        told = sound.1;
        has = subst (λ (f : ℕ). HasPayloads right.payloads (sound.0 f)) r.file right.has;
        is = (both.1 (spelled_there sound.0 may (base r) (next_of r) (time_of r) (cache_of r) right now spot sound.1 spells), omega (arith, spells.there.number));
      }

pub sound_names : (now : Option Image) (may : Image → Type 0) (r : Reservoir) (spot : Spot) → IsSound now may r → NamesIn now (base r) (base r).ended (opened r) spot ↔ Spells now (base r) (opened r) spot
sound_names now may r spot sound = by (base r).ended refl (opened r) refl
  where
    by : (ended : Bool) → (base r).ended ≡ ended → (events : List Event) → opened r ≡ events → NamesIn now (base r) ended events spot ↔ Spells now (base r) events spot
    by true over events all = (λ is. is, λ is. is)
    by false going [] none = (spelled now may r spot sound going none, named now may r spot sound going none)
    by false going (event ∷ events) some = (λ is. is, λ is. is)
