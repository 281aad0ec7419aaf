-- What a reservoir names when it is asked.
use Rattle.std.proofs.Common.{◌≡◌, ◌∙◌, ◌↔◌, ◌⊎◌, inl, inr, ℕ, Bool, false, List, [], Option, Some, IsTrue, ap, sym, subst}
use Rattle.std.specs.Option.{ForSome}
use Rattle.std.specs.Prelude.{All}
use Rattle.std.proofs.lemmas.List.Elements.{All-weaker}
use Rattle.rg_bytes.specs.Counts.{Rose}
use Rattle.rg_host.specs.Image.{Image}
use Rattle.rg_event.specs.declared.event.Event.{Event}
use Rattle.rg_past.specs.Keeping.{HasCause}
use Rattle.rg_past.specs.declared.past.Spot.{Spot}
use Rattle.rg_past.specs.declared.past.PastFault.TheVariants as past
use Rattle.rg_frame.specs.Frames.{HasPayloads}
use Rattle.rg_frame.proofs.Laws.{payloads_one}
use Rattle.rg_reservoir.specs.declared.fault.ReservoirFault.{ReservoirFault}
use Rattle.rg_reservoir.specs.declared.fault.ReservoirFault.TheVariants.{Disk, Damaged, Memory, Ended}
use Rattle.rg_reservoir.specs.Attached.{IsBadFrame}
use Rattle.rg_reservoir.specs.Faults.{to_past}
use Rattle.rg_reservoir.specs.Kept.{Base}
use Rattle.rg_reservoir.specs.Naming.{IsNamed}
use Rattle.rg_reservoir.proofs.Laws.{one_image}
use Rattle.rg_restore.specs.Naming.{IsListed, IsDamagedIn, HeadsName, NamesIn}

-- the answer of a reservoir whose open chunk is empty and that hasn't ended
pub names_by : (now : Option Image) (b : Base) (opened : List Event) (spots : List Spot) (is : Bool) → opened ≡ [] → b.ended ≡ false → IsListed now
    → ((v : Image) (payloads : List (List ℕ)) → now ≡ Some v → HasPayloads payloads (v 2) → IsTrue is ↔ All (IsNamed payloads b.committed) spots) → IsTrue is ↔ All (NamesIn now b b.ended opened) spots
names_by now b opened spots is none going (v, payloads, told, has) named =
    subst (λ (l : List Event). IsTrue is ↔ All (NamesIn now b b.ended l) spots) (sym none)
    (subst (λ (e : Bool). IsTrue is ↔ All (NamesIn now b e []) spots) (sym going) (λ yes. heads (both.0 yes), λ all. both.1 (listed all)))
  where
    both : IsTrue is ↔ All (IsNamed payloads b.committed) spots
    both = named v payloads told has

    heads : All (IsNamed payloads b.committed) spots → All (HeadsName now b) spots
    heads = All-weaker (IsNamed payloads b.committed) (HeadsName now b) (λ s here. record { image = v; payloads = payloads; told = told; has = has; is = here }) spots

    listed : All (HeadsName now b) spots → All (IsNamed payloads b.committed) spots
    listed = All-weaker (HeadsName now b) (IsNamed payloads b.committed) (λ s here.
        let also : HasPayloads here.payloads (v 2) = subst (λ (u : Image). HasPayloads here.payloads (u 2)) (one_image now here.image v here.told told) here.has in
        subst (λ (l : List (List ℕ)). IsNamed l b.committed s) (payloads_one here.payloads payloads (v 2) also has) here.is) spots

-- why a past refused to be asked, from why its reservoir did
pub names_cause : (f : ReservoirFault) (now then : Option Image) (b : Base) (had_ended : Type 0) (before after : ℕ) → (f ≡ Disk) ⊎ (f ≡ Memory) ⊎ ((p : ℕ) × (f ≡ Damaged p)) ⊎ (f ≡ Ended) → then ≡ now → (f ≡ Disk → Rose before after)
    → ((p : ℕ) → f ≡ Damaged p → ForSome now (λ v. IsBadFrame p (v 2))) → (f ≡ Ended → had_ended) → HasCause (λ place. IsDamagedIn then b place) ⊥ had_ended before after (to_past f)
names_cause f now then b had_ended before after (inl is) same disk bad ended = subst (λ (x : ReservoirFault). HasCause (λ place. IsDamagedIn then b place) ⊥ had_ended before after (to_past x)) (sym is) (disk is)
names_cause f now then b had_ended before after (inr (inl is)) same disk bad ended = subst (λ (x : ReservoirFault). HasCause (λ place. IsDamagedIn then b place) ⊥ had_ended before after (to_past x)) (sym is) tt
names_cause f now then b had_ended before after (inr (inr (inl (p, is)))) same disk bad ended =
    subst (λ (x : ReservoirFault). HasCause (λ place. IsDamagedIn then b place) ⊥ had_ended before after (to_past x)) (sym is) (inr (subst (λ (i : Option Image). ForSome i (λ v. IsBadFrame p (v 2))) (sym same) (bad p is)))
names_cause f now then b had_ended before after (inr (inr (inr is))) same disk bad ended = subst (λ (x : ReservoirFault). HasCause (λ place. IsDamagedIn then b place) ⊥ had_ended before after (to_past x)) (sym is) (ended is)

-- a damaged place that a past tells is one that its reservoir tells
pub damaged_names : (f : ReservoirFault) (place : ℕ) → (f ≡ Disk) ⊎ (f ≡ Memory) ⊎ ((p : ℕ) × (f ≡ Damaged p)) ⊎ (f ≡ Ended) → to_past f ≡ past.Damaged place → (p : ℕ) × (f ≡ Damaged p)
damaged_names f place (inl is) e = absurd (let g : past.Disk ≡ past.Damaged place = sym (ap to_past is) ∙ e in cc)
damaged_names f place (inr (inl is)) e = absurd (let g : past.Memory ≡ past.Damaged place = sym (ap to_past is) ∙ e in cc)
damaged_names f place (inr (inr (inl found))) e = found
damaged_names f place (inr (inr (inr is))) e = absurd (let g : past.Ended ≡ past.Damaged place = sym (ap to_past is) ∙ e in cc)
