-- How what a past keeps that was asked twice joins, and what a fault of an engine says of its cause.
use Rattle.std.proofs.Common.{◌≡◌, ◌≤◌, ◌∙◌, ℕ, List, Result, Ok, Err, refl, subst, arith}
use Rattle.std.specs.Prelude.{IfErr}
use Rattle.rg_event.specs.declared.event.Event.{Event}
use Rattle.rg_past.specs.Keeping.{HasCause}
use Rattle.rg_past.specs.declared.past.PastFault.{PastFault}
use Rattle.rg_past.specs.declared.past.PastFault.TheVariants.{Disk, Damaged, Full, Memory, Ended}
use Rattle.rg_past.specs.declared.past.Spot.{Spot}
use Rattle.rg_past.proofs.Laws.{kept-then}
use Rattle.rg_engine.specs.declared.fault.EngineFault.{EngineFault}
use Rattle.rg_engine.specs.declared.fault.EngineFault.TheVariants as engine
use Rattle.rg_restore.specs.Asked.{KeepsEvents, StaysNamed, IsRefused, IsUnmade}

pub events-then : {P : Type 0} (events_of : P → List Event) (HasRoom : P → Type 0) (Goes : P → P → Type 0) (IsSound HasEnded : P → Type 0) (faults : P → ℕ) (old middle new : P) → ((p q r : P) → Goes p q → Goes q r → Goes p r) →
    KeepsEvents events_of HasRoom Goes IsSound HasEnded faults old middle → KeepsEvents events_of HasRoom Goes IsSound HasEnded faults middle new → KeepsEvents events_of HasRoom Goes IsSound HasEnded faults old new
events-then events_of HasRoom Goes IsSound HasEnded faults old middle new transitive first second = record {
  events = second.events ∙ first.events;
  room = λ room. second.room (first.room room);
  past = kept-then Goes IsSound HasEnded faults old middle new transitive first.past second.past;
}

pub named-then : {P : Type 0} (IsTold IsReady : P → Type 0) (Names Spells : P → Spot → Type 0) (old middle new : P) →
    StaysNamed IsTold IsReady Names Spells old middle → StaysNamed IsTold IsReady Names Spells middle new → StaysNamed IsTold IsReady Names Spells old new
named-then IsTold IsReady Names Spells old middle new first second = record {
  named = λ spot. (λ is. (first.named spot).0 ((second.named spot).0 is), λ is. (second.named spot).1 ((first.named spot).1 is));
  spells = λ spot. (λ is. (first.spells spot).0 ((second.spells spot).0 is), λ is. (second.spells spot).1 ((first.spells spot).1 is));
  ready = second.ready;
  told = λ told. second.told (first.told told);
}

-- a refusal of a later part of a call is one of the call
pub refused-within : (IsIllegal : ℕ → Type 0) (is_sound is_sound' had_ended had_ended' : Type 0) (before before' after : ℕ) (fault : PastFault) → before ≤ before' → (is_sound → is_sound') → (had_ended' → had_ended) →
    IsRefused IsIllegal is_sound' had_ended' before' after fault → IsRefused IsIllegal is_sound had_ended before after fault
refused-within IsIllegal is_sound is_sound' had_ended had_ended' before before' after Disk later sound ended cause = omega (arith, later, cause)
refused-within IsIllegal is_sound is_sound' had_ended had_ended' before before' after (Damaged place) later sound ended cause = (cause.0, λ is. cause.1 (sound is))
refused-within IsIllegal is_sound is_sound' had_ended had_ended' before before' after Full later sound ended cause = cause
refused-within IsIllegal is_sound is_sound' had_ended had_ended' before before' after Memory later sound ended cause = tt
refused-within IsIllegal is_sound is_sound' had_ended had_ended' before before' after Ended later sound ended cause = ended cause

pub refused-cause : (IsIllegal : ℕ → Type 0) (is_sound had_ended : Type 0) (before after : ℕ) (fault : PastFault) → IsRefused IsIllegal is_sound had_ended before after fault → HasCause IsIllegal ⊥ had_ended before after fault
refused-cause IsIllegal is_sound had_ended before after Disk cause = cause
refused-cause IsIllegal is_sound had_ended before after (Damaged place) cause = cause.0
refused-cause IsIllegal is_sound had_ended before after Full cause = cause
refused-cause IsIllegal is_sound had_ended before after Memory cause = tt
refused-cause IsIllegal is_sound had_ended before after Ended cause = cause

-- from why a past refuses to what is said of it: its cause, and that no place is damaged where it is sound
pub refused-of : (IsIllegal : ℕ → Type 0) (is_sound had_ended : Type 0) (before after : ℕ) (fault : PastFault) → HasCause IsIllegal ⊥ had_ended before after fault → ((place : ℕ) → is_sound → fault ≡ Damaged place → ⊥) → IsRefused IsIllegal is_sound had_ended before after fault
refused-of IsIllegal is_sound had_ended before after Disk cause never = cause
refused-of IsIllegal is_sound had_ended before after (Damaged place) cause never = (cause, λ is. never place is refl)
refused-of IsIllegal is_sound had_ended before after Full cause never = cause
refused-of IsIllegal is_sound had_ended before after Memory cause never = tt
refused-of IsIllegal is_sound had_ended before after Ended cause never = cause

-- a refusal for what can't be read is one for damage
pub cause-damaged : (IsIllegal IsDamaged : ℕ → Type 0) (is_full had_ended : Type 0) (before after : ℕ) (fault : PastFault) → ((place : ℕ) → IsIllegal place → IsDamaged place) → HasCause IsIllegal is_full had_ended before after fault → HasCause IsDamaged is_full had_ended before after fault
cause-damaged IsIllegal IsDamaged is_full had_ended before after Disk damages cause = cause
cause-damaged IsIllegal IsDamaged is_full had_ended before after (Damaged place) damages cause = damages place cause
cause-damaged IsIllegal IsDamaged is_full had_ended before after Full damages cause = cause
cause-damaged IsIllegal IsDamaged is_full had_ended before after Memory damages cause = tt
cause-damaged IsIllegal IsDamaged is_full had_ended before after Ended damages cause = cause

module _ (PastRefused : PastFault → Type 0) (IsBad : ℕ → Type 0) (table_failed : Type 0) (fault : EngineFault) (why : IsUnmade PastRefused IsBad table_failed fault) where
  unmade-as : (other : EngineFault) → fault ≡ other → IsUnmade PastRefused IsBad table_failed other
  unmade-as other is = subst (λ f. IsUnmade PastRefused IsBad table_failed f) is why

  pub unmade-past : (cause : PastFault) → fault ≡ engine.Past cause → PastRefused cause
  unmade-past cause is = unmade-as (engine.Past cause) is

  pub unmade-bad : (n : ℕ) → fault ≡ engine.BadState n → IsBad n
  unmade-bad n is = unmade-as (engine.BadState n) is

  pub unmade-ended : fault ≡ engine.Ended → ⊥
  unmade-ended is = unmade-as engine.Ended is

  pub unmade-table : fault ≡ engine.Table → table_failed
  unmade-table is = unmade-as engine.Table is

-- why an engine wasn't made, from what is said of each fault
pub unmade-of : (PastRefused : PastFault → Type 0) (IsBad : ℕ → Type 0) (table_failed : Type 0) (fault : EngineFault) → ((cause : PastFault) → fault ≡ engine.Past cause → PastRefused cause) → ((n : ℕ) → fault ≡ engine.BadState n → IsBad n) → (fault ≡ engine.Ended → ⊥) →
    (fault ≡ engine.Table → table_failed) → IsUnmade PastRefused IsBad table_failed fault
unmade-of PastRefused IsBad table_failed (engine.Past cause) past bad ended table = past cause refl
unmade-of PastRefused IsBad table_failed (engine.BadState n) past bad ended table = bad n refl
unmade-of PastRefused IsBad table_failed engine.Memory past bad ended table = tt
unmade-of PastRefused IsBad table_failed engine.Ended past bad ended table = ended refl
unmade-of PastRefused IsBad table_failed engine.Table past bad ended table = table refl

-- what is known of the error of a result
pub if-err-of : {T E : Type 0} (result : Result T E) (P : E → Type 0) → ((fault : E) → result ≡ Err fault → P fault) → IfErr result P
if-err-of (Ok x) P each = tt
if-err-of (Err fault) P each = each fault refl

pub from-err : {T E : Type 0} (result : Result T E) (P : E → Type 0) → IfErr result P → (Q : E → Type 0) → ((fault : E) → P fault → Q fault) → IfErr result Q
from-err (Ok x) P is Q then = tt
from-err (Err fault) P is Q then = then fault is
