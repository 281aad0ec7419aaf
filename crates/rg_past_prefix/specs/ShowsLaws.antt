-- How the first events of a past go on.
use Rattle.std.specs.Prelude.{◌≡◌, ◌≤◌, ◌^◌, ℕ, zero, suc, List, [], ◌∷◌, ◌++◌, length, take, refl}
use Rattle.std.proofs.Common.{sym, ◌∙◌, ap, arith}
use Rattle.std.proofs.lemmas.List.{append-nil, length-take}
use Rattle.rg_event.specs.declared.event.Event.{Event}
use Rattle.rg_event.specs.Rising.{IsRising}
use Rattle.rg_past_prefix.specs.Shows.{IsSoundFront, SpellsFront, GoesFront}

pub front_same : {Goes : Type 0} {events : List Event} {shown : ℕ} → Goes → GoesFront Goes events events shown shown
front_same goes = record { goes = goes; events = refl; shown = refl }

pub front_join : {One Two Both : Type 0} {old middle new : List Event} {shown shown' shown'' : ℕ} → (One → Two → Both) → GoesFront One old middle shown shown' → GoesFront Two middle new shown' shown'' → GoesFront Both old new shown shown''
front_join join first second = record { goes = join first.goes second.goes; events = second.events ∙ first.events; shown = second.shown ∙ first.shown }

pub front_list : {Goes : Type 0} {old new : List Event} {shown shown' : ℕ} → GoesFront Goes old new shown shown' → take shown' new ≡ take shown old
front_list {Goes} {old} {new} {shown} {shown'} goes = ap (λ n. take n new) goes.shown ∙ ap (λ events. take shown events) goes.events

pub front_limit : {Goes : Type 0} {old new : List Event} {shown shown' : ℕ} → GoesFront Goes old new shown shown' → length (take shown' new) ≡ length (take shown old)
front_limit goes = ap length (front_list goes)

pub front_small : {Sound : Type 0} {events : List Event} (shown : ℕ) → IsSoundFront Sound events → length (take shown events) ≤ 2 ^ 40
front_small {Sound} {events} shown sound = omega (arith, length-take shown events, sound.small)

pub front_begins : {Goes : Type 0} {old new : List Event} {shown shown' : ℕ} → GoesFront Goes old new shown shown' → (added : List Event) × (take shown' new ≡ take shown old ++ added)
front_begins {Goes} {old} {new} {shown} {shown'} goes = ([], front_list goes ∙ sym (append-nil (take shown old)))

pub front_grows : {Goes : Type 0} {old new : List Event} {shown shown' : ℕ} → GoesFront Goes old new shown shown' → length (take shown old) ≤ length (take shown' new)
front_grows goes = omega (arith, front_limit goes)

pub front_spells : {Goes Old New : Type 0} {old new : List Event} {shown shown' number : ℕ} → GoesFront Goes old new shown shown' → (Old → New) → SpellsFront Old number shown old → SpellsFront New number shown' new
front_spells goes stays spells = record { spelled = stays spells.spelled; within = omega (arith, front_limit goes, spells.within) }

pub front_later : {Old New : Type 0} {events : List Event} {shown number : ℕ} → (Old → New) → SpellsFront Old number shown events → SpellsFront New number shown events
front_later stays spells = record { spelled = stays spells.spelled; within = spells.within }

-- the first ones of events in order are in order
pub take_rising : (n : ℕ) (events : List Event) → IsRising events → IsRising (take n events)
take_rising zero events rising = tt
take_rising (suc n) [] rising = tt
take_rising (suc zero) (x ∷ []) rising = tt
take_rising (suc zero) (x ∷ (y ∷ events)) rising = tt
take_rising (suc (suc n)) (x ∷ []) rising = tt
take_rising (suc (suc n)) (x ∷ (y ∷ events)) rising = (rising.0, rising.1, take_rising (suc n) (y ∷ events) rising.2)

pub front_order : (events : List Event) (shown : ℕ) → IsRising events × (length events ≤ 2 ^ 40) → IsRising (take shown events) × (length (take shown events) ≤ 2 ^ 40)
front_order events shown ordered = (take_rising shown events ordered.0, omega (arith, length-take shown events, ordered.1))
